-- What is known at a point of a method: the locals typed so far, with the parameters, and of each whether it is surely
-- assigned and surely not None.
use Rattle.std.specs.Prelude.{ℕ, Bool, true, false, not, ◌==◌, if◌then◌else◌, List, [], ◌∷◌, ◌++◌, map, find}
use Rattle.std.specs.declared.option.Option.{Option}
use Rattle.std.specs.List.{list_any}
use Rattle.py_tree.specs.PlainTypes.{PlainTy, TNil, TOptional}
use Rattle.py_tree.specs.PlainExpressions.{PlainExpr, PVar, PNot, PAnd, POr, PIsNone, PlainExprs, PNoExpr, PExpr}

pub record PlainLocal : Type 0 where
  pub name : ℕ
  pub ty : PlainTy
  pub assigned : Bool
  pub not_none : Bool

-- the number of the class, that of the method, which has none in `__init__`, and the locals in the order in which they were
-- first typed
pub record PlainEnv : Type 0 where
  pub class : ℕ
  pub method : Option ℕ
  pub locals : List PlainLocal

unfoldable pub has_name : List ℕ → ℕ → Bool
has_name names name = list_any (λ n. n == name) names

unfoldable pub local_of : List PlainLocal → ℕ → Option PlainLocal
local_of locals name = find (λ l. l.name == name) locals

-- None belongs to a type
abbrev pub has_none : PlainTy → Bool
has_none TNil = true
has_none (TOptional inner) = true
has_none _ = false

-- Narrowing

abbrev pub variable_in : PlainExpr → List ℕ
variable_in (PVar at name) = name ∷ []
variable_in _ = []

-- `is not None` is True, or `is None` is False
abbrev pub says_not_none : Bool → Bool → Bool
says_not_none true positive = not positive
says_not_none false positive = positive

-- the names that are surely not None where an expression is True, or where it is False
unfoldable mutual
  pub shown : Bool → PlainExpr → List ℕ
  shown truth (PIsNone at a positive) = if says_not_none truth positive then variable_in a else []
  shown truth (PNot at a) = shown (not truth) a
  shown truth (PAnd at items) = if truth then shown_by_each truth items else []
  shown truth (POr at items) = if truth then [] else shown_by_each truth items
  shown truth _ = []

  pub shown_by_each : Bool → PlainExprs → List ℕ
  shown_by_each truth PNoExpr = []
  shown_by_each truth (PExpr x xs) = shown truth x ++ shown_by_each truth xs

abbrev pub known_not_none : PlainLocal → PlainLocal
known_not_none l = record l { not_none = true }

-- the locals where these names are surely not None besides
unfoldable pub narrowed : List ℕ → List PlainLocal → List PlainLocal
narrowed names locals = map (λ l. if has_name names l.name then known_not_none l else l) locals

-- the locals where an expression is True, or False
unfoldable pub where_test : Bool → PlainExpr → PlainEnv → PlainEnv
where_test truth test env = record env { locals = narrowed (shown truth test) env.locals }
