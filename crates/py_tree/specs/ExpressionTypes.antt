-- The type of an expression under what is known at a point, or the first rule that it breaks.
--
-- Parts are typed in the order of evaluation, and a part's fault comes before the rules on the whole. A wanted type is known
-- beforehand for arguments, for elements, and for what is assigned or returned.
use Rattle.std.specs.Prelude.{ℕ, Bool, true, false, not, ◌||◌, ◌&&◌, ◌==◌, ◌+◌, if◌then◌else◌, List, [], ◌∷◌, length, find, slice_get, Some, None, Result, Ok, Err, is_none, option_and_then, option_map, codes}
use Rattle.std.specs.declared.option.Option.{Option}
use Rattle.py_tree.specs.declared.names.Place.{Place}
use Rattle.py_tree.specs.declared.rule.Rule.{Rule}
use Rattle.py_tree.specs.declared.rule.Rule.TheVariants.{UnknownName, Unassigned, RemoteField, UnknownField, NoneUse, Operand, UnknownMethod, ArgCount, Mismatch, EmptyListType}
use Rattle.py_tree.specs.declared.rule.RuleFault.{RuleFault}
use Rattle.py_tree.specs.declared.expr.BinOp.{BinOp}
use Rattle.py_tree.specs.declared.expr.BinOp.TheVariants as op
use Rattle.py_tree.specs.declared.expr.Cmp.{Cmp}
use Rattle.py_tree.specs.declared.expr.Cmp.TheVariants as cmp
use Rattle.py_tree.specs.PlainTypes.{PlainTy, TInt, TBool, TStr, TNil, TList, TOptional, TEntity}
use Rattle.py_tree.specs.PlainExpressions.{PlainExpr, PInt, PBool, PStr, PNil, PVar, PSelf, PAttr, PCall, PApply, PIndex, PList, PNeg, PPos, PNot, PChain, PAnd, POr, PCompare, PIsNone, PCond, PlainExprs, PNoExpr, PExpr, PLink, PlainLinks, PNoLink, PMoreLinks}
use Rattle.py_tree.specs.ClassRules.{PlainField, PlainSigParam, PlainSig, PlainTable, is_self}
use Rattle.py_tree.specs.ReservedNames.{reserved_number}
use Rattle.py_tree.specs.FlowEnvironment.{PlainLocal, PlainEnv, local_of, has_none, where_test}

-- Types

abbrev pub same_ty : PlainTy → PlainTy → Bool
same_ty TInt TInt = true
same_ty TBool TBool = true
same_ty TStr TStr = true
same_ty TNil TNil = true
same_ty (TList s) (TList t) = same_ty s t
same_ty (TOptional s) (TOptional t) = same_ty s t
same_ty (TEntity c) (TEntity d) = c == d
same_ty _ _ = false

-- the second is an Optional, and the first is what it holds, or None
abbrev pub is_held : PlainTy → PlainTy → Bool
is_held s (TOptional u) = same_ty s u || same_ty s TNil
is_held s _ = false

unfoldable pub assignable : PlainTy → PlainTy → Bool
assignable s t = same_ty s t || is_held s t

-- a type that hasn't None, with None
abbrev pub with_none : PlainTy → Option PlainTy
with_none u = if has_none u then None else Some (TOptional u)

-- of None and another type
abbrev pub join_none : PlainTy → PlainTy → Option PlainTy
join_none TNil t = with_none t
join_none s TNil = with_none s
join_none s t = None

-- the one type of two parts that take turns
unfoldable pub join : PlainTy → PlainTy → Option PlainTy
join s t = if same_ty s t then Some s else (if is_held s t then Some t else (if is_held t s then Some s else join_none s t))

-- the element type of a wanted list type, or of a wanted Optional of one
abbrev pub element_wanted : PlainTy → Option PlainTy
element_wanted (TList element) = Some element
element_wanted (TOptional (TList element)) = Some element
element_wanted _ = None

-- what a list asks of the other side of `+`
abbrev pub as_list : PlainTy → Option PlainTy
as_list (TList element) = Some (TList element)
as_list _ = None

abbrev pub is_int : PlainTy → Bool
is_int TInt = true
is_int _ = false

abbrev pub is_bool : PlainTy → Bool
is_bool TBool = true
is_bool _ = false

abbrev pub is_str : PlainTy → Bool
is_str TStr = true
is_str _ = false

abbrev pub is_list : PlainTy → Bool
is_list (TList element) = true
is_list _ = false

abbrev pub element_of : PlainTy → Option PlainTy
element_of (TList element) = Some element
element_of _ = None

abbrev pub class_of_ty : PlainTy → Option ℕ
class_of_ty (TEntity class) = Some class
class_of_ty _ = None

-- Tables

unfoldable pub table_named : List PlainTable → ℕ → Option PlainTable
table_named tables name = find (λ t. t.name == name) tables

abbrev pub field_in : List PlainField → ℕ → Option PlainTy
field_in fields name = option_map (λ f. f.ty) (find (λ f. f.name == name) fields)

unfoldable pub field_of : List PlainTable → ℕ → ℕ → Option PlainTy
field_of tables class name = option_and_then (λ t. field_in t.fields name) (slice_get tables class)

abbrev pub method_in : List PlainSig → ℕ → Option PlainSig
method_in methods name = find (λ m. m.name == name) methods

-- the method of this name in the class of that name
unfoldable pub method_of : List PlainTable → ℕ → ℕ → Option PlainSig
method_of tables class name = option_and_then (λ t. method_in t.methods name) (table_named tables class)

abbrev pub name_in : Option PlainTable → ℕ
name_in None = 0
name_in (Some t) = t.name

-- `self`, in the class of this number
unfoldable pub self_ty : List PlainTable → ℕ → PlainTy
self_ty tables class = TEntity (name_in (slice_get tables class))

-- Functions

pub data Function : Type 0 where
  Length : Function
  Text : Function
  Absolute : Function
  Least : Function
  Greatest : Function

-- the functions by their words
unfoldable pub function_of : ℕ → Option Function
function_of name =
    if name == reserved_number (codes "len") then Some Length
    else (if name == reserved_number (codes "str") then Some Text
    else (if name == reserved_number (codes "abs") then Some Absolute
    else (if name == reserved_number (codes "min") then Some Least
    else (if name == reserved_number (codes "max") then Some Greatest
    else None))))

-- Faults

abbrev pub fault : {A : Type 0} → Rule → Place → Result A RuleFault
fault rule place = Err (record { rule = rule; place = place })

-- where the rule is broken its fault, else what follows
abbrev pub refuse_if : {A : Type 0} → Bool → Rule → Place → Result A RuleFault → Result A RuleFault
refuse_if is_broken rule place rest = if is_broken then fault rule place else rest

-- what is there, or the fault of the rule that wants it
abbrev pub needs : {X A : Type 0} → Option X → Rule → Place → (X → Result A RuleFault) → Result A RuleFault
needs None rule place f = fault rule place
needs (Some x) rule place f = f x

-- goes on with what was found, or stops at the fault
abbrev pub with_found : {X A : Type 0} → Result X RuleFault → (X → Result A RuleFault) → Result A RuleFault
with_found (Ok x) f = f x
with_found (Err e) f = Err e

abbrev pub place_of : PlainExpr → Place
place_of (PInt at n) = at
place_of (PBool at b) = at
place_of (PStr at text) = at
place_of (PNil at) = at
place_of (PVar at name) = at
place_of (PSelf at) = at
place_of (PAttr at on name name_at) = at
place_of (PCall at on name name_at args) = at
place_of (PApply at name args) = at
place_of (PIndex at on index) = at
place_of (PList at items) = at
place_of (PNeg at a) = at
place_of (PPos at a) = at
place_of (PNot at a) = at
place_of (PChain at first links) = at
place_of (PAnd at items) = at
place_of (POr at items) = at
place_of (PCompare at op op_at left right) = at
place_of (PIsNone at a positive) = at
place_of (PCond at test a b) = at

abbrev pub count_of : PlainExprs → ℕ
count_of PNoExpr = 0
count_of (PExpr x xs) = 1 + count_of xs

-- an operand: it has no None, and passes a test
abbrev pub operand : {A : Type 0} → PlainTy → (PlainTy → Bool) → Place → Result A RuleFault → Result A RuleFault
operand ty test place rest = refuse_if (has_none ty) NoneUse place (refuse_if (not (test ty)) Operand place rest)

-- a value stands where this type is asked
abbrev pub fits : {A : Type 0} → PlainTy → PlainTy → Place → Result A RuleFault → Result A RuleFault
fits ty wanted place rest = refuse_if (not (assignable ty wanted)) Mismatch place rest

-- Rules on operators

abbrev pub is_plus : BinOp → Bool
is_plus op.Add = true
is_plus _ = false

-- two texts or two lists of one type are joined
abbrev pub are_joined : PlainTy → PlainTy → Bool
are_joined s t = same_ty s t && (is_str s || is_list s)

abbrev pub are_ints : PlainTy → PlainTy → Bool
are_ints s t = is_int s && is_int t

-- `a op b`, at its operator
unfoldable pub combined : BinOp → Place → PlainTy → PlainTy → Result PlainTy RuleFault
combined op place s t = refuse_if (has_none s || has_none t) NoneUse place (refuse_if (not (are_ints s t || (is_plus op && are_joined s t))) Operand place (Ok s))

-- the right side of `+` is wanted to be a list where the left one is
abbrev pub right_wanted : BinOp → PlainTy → Option PlainTy
right_wanted op.Add s = as_list s
right_wanted _ s = None

-- `a < b` and the like, at the operator
unfoldable pub ordered : Place → PlainTy → PlainTy → Result PlainTy RuleFault
ordered place s t = refuse_if (has_none s || has_none t) NoneUse place (refuse_if (not (are_ints s t || (is_str s && is_str t))) Operand place (Ok TBool))

-- `a == b`, told at the right side
unfoldable pub compared : Place → PlainTy → PlainTy → Result PlainTy RuleFault
compared place s t = refuse_if (is_none (join s t)) Mismatch place (Ok TBool)

unfoldable pub comparison : Cmp → Place → Place → PlainTy → PlainTy → Result PlainTy RuleFault
comparison cmp.Eq op_at right_at s t = compared right_at s t
comparison cmp.Ne op_at right_at s t = compared right_at s t
comparison _ op_at right_at s t = ordered op_at s t

-- The rules

-- a local as it is read: an Optional that is surely not None is what it holds
abbrev pub inside : PlainTy → PlainTy
inside (TOptional u) = u
inside t = t

abbrev pub read_ty : PlainLocal → PlainTy
read_ty l = if l.not_none then inside l.ty else l.ty

unfoldable pub type_of_name : List PlainLocal → Place → ℕ → Result PlainTy RuleFault
type_of_name locals at name = needs (local_of locals name) UnknownName at (λ l. refuse_if (not l.assigned) Unassigned at (Ok (read_ty l)))

-- of a list without elements
abbrev pub type_of_empty : Option PlainTy → Place → Result PlainTy RuleFault
type_of_empty None at = fault EmptyListType at
type_of_empty (Some element) at = Ok (TList element)

-- an operand of `not`, `and` and `or`, or the test of a conditional or a statement
unfoldable pub as_condition : Place → Result PlainTy RuleFault → Result PlainTy RuleFault
as_condition place found = with_found found (λ t. operand t is_bool place (Ok TBool))

abbrev pub is_str_or_list : PlainTy → Bool
is_str_or_list t = is_str t || is_list t

-- `f(args)`, or `C(args)` where the name is no function's: the number of arguments, and then each of them
unfoldable pub applied : Option Function → Option PlainTable → Place → ℕ → ((PlainTy → Bool) → PlainTy → Result PlainTy RuleFault) → (List PlainSigParam → PlainTy → Result PlainTy RuleFault) → Result PlainTy RuleFault
applied (Some Length) class at count each fit = refuse_if (not (count == 1)) ArgCount at (each is_str_or_list TInt)
applied (Some Text) class at count each fit = refuse_if (not (count == 1)) ArgCount at (each is_int TStr)
applied (Some Absolute) class at count each fit = refuse_if (not (count == 1)) ArgCount at (each is_int TInt)
applied (Some Least) class at count each fit = refuse_if (not (count == 2)) ArgCount at (each is_int TInt)
applied (Some Greatest) class at count each fit = refuse_if (not (count == 2)) ArgCount at (each is_int TInt)
applied None class at count each fit = needs class UnknownName at (λ c. refuse_if (not (count == length c.init)) ArgCount at (fit c.init (TEntity c.name)))

unfoldable mutual
  pub type_of : List PlainTable → PlainEnv → Option PlainTy → PlainExpr → Result PlainTy RuleFault
  type_of tables env wanted (PInt at n) = Ok TInt
  type_of tables env wanted (PBool at b) = Ok TBool
  type_of tables env wanted (PStr at text) = Ok TStr
  type_of tables env wanted (PNil at) = Ok TNil
  type_of tables env wanted (PVar at name) = type_of_name env.locals at name
  type_of tables env wanted (PSelf at) = Ok (self_ty tables env.class)
  type_of tables env wanted (PAttr at on name name_at) = refuse_if (not (is_self on)) RemoteField name_at (needs (field_of tables env.class name) UnknownField name_at (λ t. Ok t))
  type_of tables env wanted (PCall at on name name_at args) =
      with_found (type_of tables env None on) (λ t.
      refuse_if (has_none t) NoneUse (place_of on)
      (needs (class_of_ty t) Operand (place_of on) (λ class.
      needs (method_of tables class name) UnknownMethod name_at (λ m.
      refuse_if (not (count_of args == length m.params)) ArgCount name_at
      (arguments tables env args m.params m.result)))))
  type_of tables env wanted (PApply at name args) = applied (function_of name) (table_named tables name) at (count_of args) (λ test result. each_is test tables env args result) (λ params result. arguments tables env args params result)
  type_of tables env wanted (PIndex at on index) =
      with_found (type_of tables env None on) (λ t.
      refuse_if (has_none t) NoneUse (place_of on)
      (needs (element_of t) Operand (place_of on) (λ element.
      with_found (type_of tables env None index) (λ i.
      refuse_if (not (is_int i)) Operand (place_of index) (Ok element)))))
  type_of tables env wanted (PList at items) = list_of tables env (option_and_then element_wanted wanted) at items
  type_of tables env wanted (PNeg at a) = with_found (type_of tables env None a) (λ t. operand t is_int (place_of a) (Ok TInt))
  type_of tables env wanted (PPos at a) = with_found (type_of tables env None a) (λ t. operand t is_int (place_of a) (Ok TInt))
  type_of tables env wanted (PNot at a) = as_condition (place_of a) (type_of tables env None a)
  type_of tables env wanted (PChain at first links) = with_found (type_of tables env None first) (λ t. linked tables env t links)
  type_of tables env wanted (PAnd at items) = conditions tables env true items
  type_of tables env wanted (POr at items) = conditions tables env false items
  type_of tables env wanted (PCompare at op op_at left right) =
      with_found (type_of tables env None left) (λ s.
      with_found (type_of tables env None right) (λ t.
      comparison op op_at (place_of right) s t))
  type_of tables env wanted (PIsNone at a positive) = with_found (type_of tables env None a) (λ t. Ok TBool)
  type_of tables env wanted (PCond at test a b) =
      with_found (as_condition (place_of test) (type_of tables env None test)) (λ c.
      with_found (type_of tables (where_test true test env) wanted a) (λ s.
      with_found (type_of tables (where_test false test env) wanted b) (λ t.
      needs (join s t) Mismatch (place_of b) (λ u. Ok u))))

  -- each operand is typed where those before it are all True, or all False
  pub conditions : List PlainTable → PlainEnv → Bool → PlainExprs → Result PlainTy RuleFault
  conditions tables env truth PNoExpr = Ok TBool
  conditions tables env truth (PExpr x xs) = with_found (as_condition (place_of x) (type_of tables env None x)) (λ c. conditions tables (where_test truth x env) truth xs)

  -- the type that a call has whose arguments fit
  pub arguments : List PlainTable → PlainEnv → PlainExprs → List PlainSigParam → PlainTy → Result PlainTy RuleFault
  arguments tables env (PExpr x xs) (p ∷ ps) result = with_found (type_of tables env (Some p.ty) x) (λ t. fits t p.ty (place_of x) (arguments tables env xs ps result))
  arguments tables env (PExpr x xs) [] result = Ok result
  arguments tables env PNoExpr params result = Ok result

  -- the type that a function gives whose arguments pass a test
  pub each_is : (PlainTy → Bool) → List PlainTable → PlainEnv → PlainExprs → PlainTy → Result PlainTy RuleFault
  each_is test tables env PNoExpr result = Ok result
  each_is test tables env (PExpr x xs) result = with_found (type_of tables env None x) (λ t. operand t test (place_of x) (each_is test tables env xs result))

  -- a list: its elements have the wanted type, or else that of the first one
  pub list_of : List PlainTable → PlainEnv → Option PlainTy → Place → PlainExprs → Result PlainTy RuleFault
  list_of tables env wanted at PNoExpr = type_of_empty wanted at
  list_of tables env (Some element) at (PExpr x xs) = with_found (type_of tables env (Some element) x) (λ t. fits t element (place_of x) (elements tables env element xs))
  list_of tables env None at (PExpr x xs) = with_found (type_of tables env None x) (λ t. elements tables env t xs)

  pub elements : List PlainTable → PlainEnv → PlainTy → PlainExprs → Result PlainTy RuleFault
  elements tables env element PNoExpr = Ok (TList element)
  elements tables env element (PExpr x xs) = with_found (type_of tables env (Some element) x) (λ t. fits t element (place_of x) (elements tables env element xs))

  -- what stands left of each operator is all before it
  pub linked : List PlainTable → PlainEnv → PlainTy → PlainLinks → Result PlainTy RuleFault
  linked tables env left PNoLink = Ok left
  linked tables env left (PMoreLinks (PLink op at right) more) =
      with_found (type_of tables env (right_wanted op left) right) (λ t.
      with_found (combined op at left t) (λ both.
      linked tables env both more))
