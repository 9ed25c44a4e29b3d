-- The flat method means the method.
use Rattle.std.proofs.Common.{◌≡◌, ℕ, Option, List}
use Rattle.py_tree.specs.Bounded.{StmtsNames}
use Rattle.py_tree.specs.ClassRules.{body_of, params_of}
use Rattle.py_tree.specs.FlowEnvironment.{PlainLocal}
use Rattle.py_tree.specs.Flow.{Context}
use Rattle.py_tree.specs.PlainStatements.{stmts_of}
use Rattle.py_tree.specs.PlainProgram.{PlainMethod}
use Rattle.call_graph.specs.SuspendingCode.{Leaving}
use Rattle.sf_value.specs.declared.value.Value.{Value}
use Rattle.program_meaning.specs.declared.vars.Var.{Var}
use Rattle.program_meaning.specs.Evaluation.{Site, entity}
use Rattle.program_meaning.specs.Execution.{act_all}
use Rattle.program_meaning.specs.Calls.{bound, run_body, calls_at, in_state}
use Rattle.program_meaning.specs.LightValues.{IsLight, CallsGiveLight}
use Rattle.program_meaning.specs.StepsLeft.{CallsTakeSteps}
use Rattle.program_meaning.proofs.LightCalls.{calls_are_light}
use Rattle.program_meaning.proofs.StepsTaken.{source_takes}
use Rattle.flat_tree.specs.FlatMeaning.{run, run_flat}
use Rattle.flat_tree.proofs.NamesBelow.{AgreeBelow, agree_with_itself, agree_on, agree_back, agree_assigned}
use Rattle.flat_tree.proofs.RelatedEnds.{Carries, result_related}
use Rattle.hoisting.specs.HoistMethods.{flat_body, FlatMethodsMean}
use Rattle.hoisting.proofs.Temporaries.{le_itself}
use Rattle.hoisting.proofs.Statements.{all_mean}

-- agreement on the names of the source is carried
agreement_carries : (count : ℕ) → Carries count count (AgreeBelow count)
agreement_carries count = record { agree = λ a. a; assign = λ x v below a. agree_assigned x v a; change = λ on a. agree_on (agree_back on) a }

-- at any site, where calls give light values and no steps back
pub body_means : {W : Type 0} (s : Site W) (leaves : Leaving) (c : Context) (locals : List PlainLocal) (count : ℕ) (method : Option PlainMethod) → CallsGiveLight s.calls → CallsTakeSteps s.calls → IsLight (entity s.me) → StmtsNames count (stmts_of (body_of method))
    → (args : List Value) (w : W) (n : ℕ) → run_flat s (params_of method) (flat_body leaves c locals count method) args w n ≡ run_body s method args w n
unfolding run_flat run_body
body_means s leaves c locals count method calls takes own_light named args w n =
    let start : List Var = bound (params_of method) args in
    result_related (run s (flat_body leaves c locals count method) start w n) (act_all s (stmts_of (body_of method)) start w n)
    (all_mean s leaves c calls takes own_light count (stmts_of (body_of method)) named (record { locals = locals; next = count }) (le_itself count) (AgreeBelow count) (agreement_carries count) start start w n (agree_with_itself count start))

pub flat_methods_mean : FlatMethodsMean
flat_methods_mean leaves c locals count src method named at most d args w n =
    body_means (in_state src (calls_at src d) at) leaves c locals count method (calls_are_light src d) (source_takes src d) (record { most = most }) named args w n
