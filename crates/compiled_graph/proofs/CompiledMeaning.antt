-- The blocks of each method mean it, the compiled graph fits its program, and so it means it.
use Rattle.std.proofs.Common.{◌≡◌, ◌≤◌, ℕ, Bool, Some, Ok, List, length, refl, sym, ap, ◌∙◌, subst}
use Rattle.std.specs.declared.result.Result.{Result}
use Rattle.py_tree.specs.declared.rule.RuleFault.{RuleFault}
use Rattle.py_tree.specs.PlainProgram.{PlainMethod, PlainProgram}
use Rattle.py_tree.specs.PlainStatements.{stmts_of}
use Rattle.py_tree.specs.Bounded.{StmtsNames}
use Rattle.py_tree.specs.ClassRules.{params_of, sig_of, tables_of}
use Rattle.py_tree.specs.FlowEnvironment.{PlainLocal}
use Rattle.py_tree.specs.Flow.{Context, method_locals}
use Rattle.call_graph.specs.SuspendingCode.{Leaving, leaving}
use Rattle.sf_value.specs.Keys.{Key}
use Rattle.sf_value.specs.Weight.{weight_of}
use Rattle.sf_value.specs.declared.value.Value.{Value}
use Rattle.program_meaning.specs.ClassTables.{Source}
use Rattle.program_meaning.specs.World.{World}
use Rattle.program_meaning.specs.Evaluation.{Site, entity}
use Rattle.program_meaning.specs.Calls.{bound, calls_at, in_state, run_body}
use Rattle.program_meaning.specs.NothingGoesWrong.{IsKnownAccepted}
use Rattle.program_meaning.proofs.MethodFacts.{method_flows, method_member}
use Rattle.program_meaning.proofs.StepsTaken.{source_takes}
use Rattle.block_code.specs.GraphFits.{MethodFits}
use Rattle.block_runs.specs.BlockRuns.{ComesTo}
use Rattle.flat_tree.specs.PlainFlat.{PlainFlat, flat_stmts_of}
use Rattle.flat_tree.specs.FlatMeaning.{run_flat}
use Rattle.hoisting.proofs.Methods.{flat_methods_mean}
use Rattle.hoisting.proofs.Flatness.{flat_by_marks}
use Rattle.method_splitter.specs.Split.{block, leave, outermost, split_all}
use Rattle.method_splitter.proofs.BlocksMean.{blocks_mean_flat}
use Rattle.flat_types.proofs.BlocksFit.{blocks_fit}
use Rattle.quiet_methods.specs.MarksKeepWithin.{source}
use Rattle.request_events.proofs.Requests.{events_mean_their_source}
use Rattle.compiled_graph.specs.CompiledGraph.{found_locals, context_of, start_locals, flat_method, method_blocks}
use Rattle.compiled_graph.specs.CodeKeepsRules.{NamesItsCallees, HasTypes}
use Rattle.compiled_graph.specs.CompiledMeaning.{CompiledMethodsMean, CompiledFits, CompiledMeans}
use Rattle.compiled_graph.proofs.NamesAreBelow.{body_below}
use Rattle.compiled_graph.proofs.Places.{ClassOf, class_of_method, sig_stands, blocks_stand}

-- what was found is what is found
found_again : (r : Result (List PlainLocal) RuleFault) (locals : List PlainLocal) → r ≡ Ok locals → r ≡ Ok (found_locals r)
found_again r locals is = is ∙ ap Ok (sym (ap found_locals is))

module _ (names : List (List ℕ)) (program : PlainProgram) (marks : List (List Bool)) (accepted : IsKnownAccepted names program) where
  abbrev src : Source
  src = source names program

  names_below : (class number : ℕ) (m : PlainMethod) → ClassOf names program class number m → StmtsNames (length names) (stmts_of m.body)
  names_below class number m c =
      let member = method_member names program accepted.rules.classes accepted.rules.flow number c.is m c.has in
      body_below names program accepted.bounded class member.0 c.is m c.at member.1

  locals_found : (class number : ℕ) (m : PlainMethod) → ClassOf names program class number m → method_locals (tables_of names program) class number m ≡ Ok (start_locals names program class number m)
  locals_found class number m c =
      let l = method_flows names program accepted.rules.classes accepted.rules.flow class number c.is m c.at c.has in
      found_again (method_locals (tables_of names program) class number m) l.0 l.1

  method_means : (at : Key) → weight_of (entity at) ≤ 65536 → (number : ℕ) (m : PlainMethod) → ClassOf names program at.0 number m → NamesItsCallees names program marks at.0 number m → (d : ℕ) (args : List Value) (w : World) (n : ℕ)
      → ComesTo (in_state src (calls_at src d) at) (method_blocks names program marks at.0 number m) (bound (params_of (Some m)) args) w n (run_body (in_state src (calls_at src d) at) (Some m) args w n)
  method_means at light number m c named d args w n =
      let s : Site World = in_state src (calls_at src d) at in
      let flat : PlainFlat = flat_method names program marks at.0 number m in
      let leaves : Leaving = leaving names program marks at.0 in
      let here : Context = context_of names program at.0 number in
      let locals : List PlainLocal = start_locals names program at.0 number m in
      let same : run_flat s (params_of (Some m)) flat.body args w n ≡ run_body s (Some m) args w n = flat_methods_mean leaves here locals (length names) src (Some m) (names_below at.0 number m c) at light d args w n in
      let is_flat = flat_by_marks names program marks at.0 here locals (length names) (Some m) in
      subst (ComesTo s (method_blocks names program marks at.0 number m) (bound (params_of (Some m)) args) w n) same
      (blocks_mean_flat leaves s (source_takes src d) flat is_flat named (params_of (Some m)) args w n)

  method_fits : (class number : ℕ) (m : PlainMethod) → ClassOf names program class number m → HasTypes names program marks class number m → MethodFits names program (leaving names program marks class) class number m (method_blocks names program marks class number m)
  method_fits class number m c types =
      let flat : PlainFlat = flat_method names program marks class number m in
      record {
        sig = sig_of m;
        has_sig = sig_stands names program class number m c;
        locals = start_locals names program class number m;
        locals_are = locals_found class number m c;
        temporaries = types.temporaries;
        are_temporaries = types.are_temporaries;
        one_type = types.fits.once;
        start = block outermost flat.params (split_all (flat_stmts_of flat.body) outermost leave 1).got;
        is_start = refl;
        start_params = refl;
        each = blocks_fit _ _ _ flat types.fits;
      }

pub methods_mean : CompiledMethodsMean
methods_mean names program marks accepted named at light number m is d args w n =
    let s = in_state (source names program) (calls_at (source names program) d) at in
    subst (λ bs. ComesTo s bs (bound (params_of (Some m)) args) w n (run_body s (Some m) args w n)) (sym ((blocks_stand names program marks).each at.0 number m is))
    (method_means names program marks accepted at light number m (class_of_method names program at.0 number m is) (named at.0 number m is) d args w n)

pub graph_fits : CompiledFits
graph_fits names program marks accepted exact keeps = record {
  marks = marks;
  exact = exact;
  as_many = (blocks_stand names program marks).as_many;
  methods = λ class number m is.
      subst (MethodFits names program (leaving names program marks class) class number m) (sym ((blocks_stand names program marks).each class number m is))
      (method_fits names program marks accepted class number m (class_of_method names program class number m is) (keeps.types class number m is));
}

pub graph_means : CompiledMeans
graph_means names program marks accepted exact keeps =
    events_mean_their_source names program accepted _ (graph_fits names program marks accepted exact keeps) (methods_mean names program marks accepted keeps.callees)
