-- What an added field begins with: the value of the literal that `__init__` declares it with.
use Rattle.std.specs.Prelude.{ℕ, pos, ◌-ℤ◌, nat_le, List, [], ◌∷◌, drop, filter_map, if◌then◌else◌, Some, None, Ok, Err, option_map, option_and_then}
use Rattle.std.specs.declared.option.Option.{Option}
use Rattle.std.specs.declared.result.Result.{Result}
use Rattle.std.specs.Str.{chars}
use Rattle.py_tree.specs.PlainExpressions.{PlainExpr, PInt, PBool, PStr, PNil, PNeg, PList, PlainExprs, PNoExpr, PExpr}
use Rattle.py_tree.specs.PlainStatements.{PlainStmt}
use Rattle.py_tree.specs.ClassRules.{text_of, declaration, body_of}
use Rattle.sf_value.specs.Weight.{weight_of}
use Rattle.sf_value.specs.declared.Failure.{Failure}
use Rattle.sf_value.specs.declared.value.Value.{Value}
use Rattle.sf_value.specs.declared.value.Value.TheVariants as value
use Rattle.program_meaning.specs.ClassTables.{Source, init_of}
use Rattle.program_meaning.specs.Operations.{in_range}

-- what an operation gives, where it doesn't fail
abbrev pub given : Result Value Failure → Option Value
given (Ok v) = Some v
given (Err f) = None

-- an int behind a `-`
abbrev pub negative : PlainExpr → Option Value
negative (PInt at n) = given (in_range (pos 0 -ℤ n))
negative _ = None

-- a list without elements
abbrev pub empty_list : PlainExprs → Option Value
empty_list PNoExpr = Some (value.List [])
empty_list (PExpr x xs) = None

-- an int with at most one `-`, a text, True, False, None or `[]`
abbrev pub literal : List (List ℕ) → PlainExpr → Option Value
literal names (PInt at n) = Some (value.Int n)
literal names (PNeg at e) = negative e
literal names (PBool at b) = Some (value.Bool b)
literal names (PStr at text) = Some (value.Str (chars (text_of names text)))
literal names (PNil at) = Some value.Nil
literal names (PList at items) = empty_list items
literal names _ = None

-- which weighs no more than a value may
abbrev pub unless_heavy : Value → Option Value
unless_heavy v = if nat_le (weight_of v) 65536 then Some v else None

unfoldable pub default : List (List ℕ) → PlainExpr → Option Value
default names e = option_and_then unless_heavy (literal names e)

-- the defaults by these expressions, where each gives one
unfoldable pub defaults : List (List ℕ) → List PlainExpr → Option (List Value)
defaults names [] = Some []
defaults names (e ∷ es) = option_and_then (λ v. option_map (λ vs. v ∷ vs) (defaults names es)) (default names e)

-- the expressions that statements declare fields with, in the order of records
unfoldable pub declared_values : List PlainStmt → List PlainExpr
declared_values body = filter_map (λ s. option_map (λ d. d.value) (declaration s)) body

-- the defaults of the fields of a class of this program behind the first so many, where each of them has one
abbrev pub defaults_behind : Source → ℕ → ℕ → Option (List Value)
defaults_behind later class count = defaults later.names (drop count (declared_values (body_of (init_of later class))))
