-- What is known where code is hoisted: the locals as the rules on statements know them there, with the temporaries of the statement
-- at hand behind them, and the number of the next temporary.
use Rattle.std.specs.Prelude.{ℕ, ◌+◌, Bool, true, false, if◌then◌else◌, List, [], ◌∷◌, ◌++◌, filter_map, Some, None, Result, Ok, Err, unwrap_or, option_and_then, ◌==◌}
use Rattle.std.specs.List.{position_from}
use Rattle.std.specs.declared.option.Option.{Option}
use Rattle.py_tree.specs.declared.rule.RuleFault.{RuleFault}
use Rattle.py_tree.specs.PlainTypes.{PlainTy, TNil}
use Rattle.py_tree.specs.PlainExpressions.{PlainExpr}
use Rattle.py_tree.specs.PlainStatements.{PlainStmt}
use Rattle.py_tree.specs.ClassRules.{PlainTable, PlainSig, PlainSigParam}
use Rattle.py_tree.specs.FlowEnvironment.{PlainLocal, shown, narrowed}
use Rattle.py_tree.specs.ExpressionTypes.{read_ty, class_of_ty, element_of, table_named, method_of}
use Rattle.py_tree.specs.Reachability.{goes_on}
use Rattle.py_tree.specs.Flow.{Context, Way, type_at, within_loop, begun, flow}
use Rattle.block_code.specs.PlainVars.{PlainVar}
use Rattle.flat_tree.specs.PlainFlat.{Point}
use Rattle.flat_tree.specs.declared.tree.Callee.{Callee}
use Rattle.flat_tree.specs.declared.tree.Created.{Created}

pub record Stage : Type 0 where
  pub locals : List PlainLocal
  pub next : ℕ

-- Points

abbrev pub var_of : PlainLocal → Option PlainVar
var_of l = if l.assigned then Some (record { name = l.name; ty = read_ty l }) else None

-- what is surely assigned, with the types that it is read with
abbrev pub surely : List PlainLocal → Point
surely locals = filter_map var_of locals

abbrev pub temporary : ℕ → PlainTy → PlainLocal
temporary number ty = record { name = number; ty = ty; assigned = true; not_none = false }

-- with a value of this type in the next temporary
abbrev pub with_temporary : PlainTy → Stage → Stage
with_temporary ty h = record { locals = h.locals ++ temporary h.next ty ∷ []; next = h.next + 1 }

-- where an expression is True, or False, and temporaries from this number on are unused
abbrev pub where_shown : Bool → PlainExpr → List PlainLocal → ℕ → Stage
where_shown truth test locals next = record { locals = narrowed (shown truth test) locals; next = next }

-- Types; in a method that keeps the rules there is one

abbrev pub found_ty : Result PlainTy RuleFault → PlainTy
found_ty (Ok ty) = ty
found_ty (Err f) = TNil

abbrev pub ty_at : Context → Option PlainTy → List PlainLocal → PlainExpr → PlainTy
ty_at c wanted locals e = found_ty (type_at c locals wanted e)

abbrev pub locals_of : List PlainLocal → Result Way RuleFault → List PlainLocal
locals_of before (Ok way) = way.locals
locals_of before (Err f) = before

-- the locals behind a statement
abbrev pub locals_behind : Context → PlainStmt → List PlainLocal → List PlainLocal
locals_behind c x locals = locals_of locals (flow (within_loop c) (begun locals) x)

-- the point behind a statement, where it can be reached
abbrev pub point_behind : Context → PlainStmt → List PlainLocal → Option Point
point_behind c x locals = if goes_on x then Some (surely (locals_behind c x locals)) else None

-- Callees, by name and by number

abbrev pub class_place : Context → ℕ → ℕ
class_place c name = unwrap_or (position_from (λ (t : PlainTable). t.name == name) 0 c.tables) 0

abbrev pub receiver_class : PlainTy → ℕ
receiver_class ty = unwrap_or (class_of_ty ty) 0

abbrev pub methods_in : Option PlainTable → List PlainSig
methods_in None = []
methods_in (Some t) = t.methods

abbrev pub method_place : Context → ℕ → ℕ → ℕ
method_place c class name = unwrap_or (position_from (λ (m : PlainSig). m.name == name) 0 (methods_in (table_named c.tables class))) 0

-- the method of this name, of an entity of this type
abbrev pub callee_of : Context → PlainTy → ℕ → Callee
callee_of c ty name = record { name = record { 0 = name }; class = class_place c (receiver_class ty); method = method_place c (receiver_class ty) name }

abbrev pub created_of : Context → ℕ → Created
created_of c name = record { name = record { 0 = name }; class = class_place c name }

abbrev pub params_of_sig : Option PlainSig → List PlainSigParam
params_of_sig None = []
params_of_sig (Some m) = m.params

-- the parameters of a method, and those of a creation
abbrev pub method_params : Context → PlainTy → ℕ → List PlainSigParam
method_params c ty name = params_of_sig (option_and_then (λ class. method_of c.tables class name) (class_of_ty ty))

abbrev pub init_params : Option PlainTable → List PlainSigParam
init_params None = []
init_params (Some t) = t.init

-- what a `for` goes over, item by item
abbrev pub item_ty : PlainTy → PlainTy
item_ty ty = unwrap_or (element_of ty) TNil
