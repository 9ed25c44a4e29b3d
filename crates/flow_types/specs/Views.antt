-- What is known on a way through statements, as plain forms.
use Rattle.std.specs.Prelude.{ℕ, Bool, true, false, not, ◌==◌, if◌then◌else◌, List, ◌∷◌, Some, None, map, slice_get, unwrap_or, option_and_then, option_map}
use Rattle.std.specs.declared.option.Option.{Option}
use Rattle.py_tree.specs.declared.names.Name.{Name}
use Rattle.py_tree.specs.PlainStatements.{PlainStmts}
use Rattle.py_tree.specs.PlainProgram.{PlainMethod, PlainProgram}
use Rattle.py_tree.specs.ClassRules.{PlainTable, methods_of}
use Rattle.py_tree.specs.Reachability.{assigned_in}
use Rattle.py_tree.specs.FlowEnvironment.{PlainLocal}
use Rattle.py_tree.specs.Flow.{Known, Context, Way}
use Rattle.entity_types.specs.declared.env.FlowEnv.{FlowEnv}
use Rattle.entity_tables.specs.Views.{plain_tables}
use Rattle.entity_types.specs.Views.{plain_locals}
use Rattle.flow_types.specs.declared.context.Context.{Context as Standpoint}
use Rattle.flow_types.specs.declared.known.Standing.{Standing}

abbrev pub plain_standing : Standing → Known
plain_standing s = record { assigned = s.assigned; not_none = s.not_none }

abbrev pub plain_standings : List Standing → List Known
plain_standings = map plain_standing

abbrev pub plain_breaks : Option (List Standing) → Option (List Known)
plain_breaks = option_map plain_standings

-- where the code of an environment stands
abbrev pub context_of : List PlainTable → FlowEnv → Bool → Context
context_of tables env in_loop = record { tables = tables; class = env.class; method = env.method; in_loop = in_loop }

-- and where a statement stands, in a context, before what is known of the locals there
abbrev pub seen_at : Standpoint → FlowEnv → Context
seen_at here env = context_of (plain_tables here.tables.now) env here.in_loop

abbrev pub way_of : FlowEnv → Option (List Standing) → Way
way_of env breaks = record { locals = plain_locals env.locals; breaks = plain_breaks breaks }

-- what is known of the local at a place, which is nothing where it was typed later
abbrev pub known_or_not : List Known → ℕ → Known
known_or_not known at = unwrap_or (slice_get known at) (record { assigned = false; not_none = false })

-- a value that is None or isn't is assigned to a local of this name
abbrev pub given_by : ℕ → Bool → PlainLocal → PlainLocal
given_by name may_be_none l = if l.name == name then record l { assigned = true; not_none = not may_be_none } else l

-- the names that a loop assigns: that of a `for`, and those of its body
abbrev pub loop_names : Option Name → PlainStmts → List ℕ
loop_names None body = assigned_in body
loop_names (Some name) body = name.0 ∷ assigned_in body

-- the method of this number, in the class of that number
abbrev pub method_at : List (List ℕ) → PlainProgram → ℕ → ℕ → Option PlainMethod
method_at names program class method = option_and_then (λ c. slice_get (methods_of names c.members) method) (slice_get program class)
