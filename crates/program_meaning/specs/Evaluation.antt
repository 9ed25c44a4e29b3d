-- What an expression gives, part after part in the order of evaluation.
--
-- The same definition serves the whole state and a single record: a site says how code reaches the record of its own entity,
-- and what calls and creations do.
use Rattle.std.specs.Prelude.{ℕ, pos, ◌-ℤ◌, Bool, true, false, not, nat_eq, List, [], ◌∷◌, ◌++◌, if◌then◌else◌, Some, None, unwrap_or}
use Rattle.std.specs.List.{position_from}
use Rattle.std.specs.declared.option.Option.{Option}
use Rattle.std.specs.Str.{chars}
use Rattle.py_tree.specs.ClassRules.{text_of as text_of_name}
use Rattle.py_tree.specs.ExpressionTypes.{Function, function_of}
use Rattle.py_tree.specs.PlainExpressions.{PlainExpr, PInt, PBool, PStr, PNil, PVar, PSelf, PAttr, PCall, PApply, PIndex, PList, PNeg, PPos, PNot, PChain, PAnd, POr, PCompare, PIsNone, PCond, PlainExprs, PNoExpr, PExpr, PLink, PlainLinks, PNoLink, PMoreLinks}
use Rattle.sf_value.specs.Keys.{Key}
use Rattle.sf_value.specs.declared.value.Value.{Value}
use Rattle.sf_value.specs.declared.value.Value.TheVariants as value
use Rattle.program_meaning.specs.declared.vars.Var.{Var}
use Rattle.program_meaning.specs.ClassTables.{Source, fields_of, methods_of}
use Rattle.program_meaning.specs.World.{Calls, Own, Gives, Got, ◌>>=◌, told, local_value, field_value}
use Rattle.program_meaning.specs.Operations.{in_range, weighed, int_of, is_true, is_nil, items_of, element, combined, holds, given_by}

-- where code runs: its program, how it reaches the own record, what calls and creations do, and its own entity
pub record Site (W : Type 0) : Type 0 where
  pub src : Source
  pub own : Own W
  pub calls : Calls W
  pub me : Key

abbrev pub same_truth : Bool → Bool → Bool
same_truth true b = b
same_truth false b = not b

-- an entity as a value
abbrev pub entity : Key → Value
entity at = value.Entity (record { class = at.0; key = at.1 })

-- the entity that a value is
abbrev pub key_in : Value → Key
key_in (value.Entity at) = (at.class, at.key)
key_in _ = (0, [])

-- the number of the method with this name in a class
unfoldable pub method_of : Source → ℕ → ℕ → ℕ
method_of src class name = unwrap_or (position_from (λ m. nat_eq m.name name) 0 (methods_of src class)) 0

-- the number of the class with this name
unfoldable pub class_of : Source → ℕ → ℕ
class_of src name = unwrap_or (position_from (λ c. nat_eq c.name name) 0 src.program) 0

-- the text that a name stands for
unfoldable pub literal : Source → ℕ → List ℕ
literal src name = chars (text_of_name src.names name)

-- the own field of this name
abbrev pub own_field : {W : Type 0} → Site W → ℕ → W → Value
own_field s x w = field_value (fields_of s.src s.me.0) (s.own.fields w) x

-- `f(args)`, or a creation where the name is no function's
abbrev pub applied : {W : Type 0} → Site W → Option Function → ℕ → List Value → W → ℕ → Gives W Value
applied s (Some f) name args w n = told (given_by f args) w n
applied s None name args w n = s.calls.make (class_of s.src name) args w n

unfoldable mutual
  pub eval : {W : Type 0} → Site W → PlainExpr → List Var → W → ℕ → Gives W Value
  eval s (PInt at z) vars w n = Got (value.Int z) w n
  eval s (PBool at b) vars w n = Got (value.Bool b) w n
  eval s (PStr at text) vars w n = told (weighed (value.Str (literal s.src text))) w n
  eval s (PNil at) vars w n = Got value.Nil w n
  eval s (PVar at x) vars w n = told (weighed (local_value vars x)) w n
  eval s (PSelf at) vars w n = told (weighed (entity s.me)) w n
  eval s (PAttr at on x x_at) vars w n = told (weighed (own_field s x w)) w n
  eval s (PCall at on m m_at args) vars w n =
      eval s on vars w n >>= λ v w n.
      eval_all s args [] vars w n >>= λ vs w n.
      s.calls.call (key_in v) (method_of s.src (key_in v).0 m) vs w n
  eval s (PApply at f args) vars w n = eval_all s args [] vars w n >>= λ vs w n. applied s (function_of f) f vs w n
  eval s (PIndex at on index) vars w n =
      eval s on vars w n >>= λ v w n.
      eval s index vars w n >>= λ i w n.
      told (element (items_of v) (int_of i)) w n
  eval s (PList at items) vars w n = eval_all s items [] vars w n >>= λ vs w n. told (weighed (value.List vs)) w n
  eval s (PNeg at a) vars w n = eval s a vars w n >>= λ v w n. told (in_range (pos 0 -ℤ int_of v)) w n
  eval s (PPos at a) vars w n = eval s a vars w n >>= λ v w n. Got (value.Int (int_of v)) w n
  eval s (PNot at a) vars w n = eval s a vars w n >>= λ v w n. Got (value.Bool (not (is_true v))) w n
  eval s (PChain at first links) vars w n = eval s first vars w n >>= λ v w n. linked s links v vars w n
  eval s (PAnd at items) vars w n = each_is s true items vars w n
  eval s (POr at items) vars w n = each_is s false items vars w n
  eval s (PCompare at op op_at left right) vars w n =
      eval s left vars w n >>= λ x w n.
      eval s right vars w n >>= λ y w n.
      Got (value.Bool (holds op x y)) w n
  eval s (PIsNone at a positive) vars w n = eval s a vars w n >>= λ v w n. Got (value.Bool (if positive then is_nil v else not (is_nil v))) w n
  eval s (PCond at test a b) vars w n = eval s test vars w n >>= λ v w n. if is_true v then eval s a vars w n else eval s b vars w n

  -- the values of expressions, behind those that there are
  pub eval_all : {W : Type 0} → Site W → PlainExprs → List Value → List Var → W → ℕ → Gives W (List Value)
  eval_all s PNoExpr vs vars w n = Got vs w n
  eval_all s (PExpr x xs) vs vars w n = eval s x vars w n >>= λ v w n. eval_all s xs (vs ++ v ∷ []) vars w n

  -- what stands left of each operator is all before it
  pub linked : {W : Type 0} → Site W → PlainLinks → Value → List Var → W → ℕ → Gives W Value
  linked s PNoLink v vars w n = Got v w n
  linked s (PMoreLinks (PLink op at right) more) v vars w n =
      eval s right vars w n >>= λ x w n.
      told (combined op v x) w n >>= λ both w n.
      linked s more both vars w n

  -- operands of `and`, each of which is to be True, or of `or`, each of which is to be False: the first other one decides
  pub each_is : {W : Type 0} → Site W → Bool → PlainExprs → List Var → W → ℕ → Gives W Value
  each_is s truth PNoExpr vars w n = Got (value.Bool truth) w n
  each_is s truth (PExpr x xs) vars w n = eval s x vars w n >>= λ v w n. if same_truth (is_true v) truth then each_is s truth xs vars w n else Got (value.Bool (not truth)) w n
