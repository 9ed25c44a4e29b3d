-- What is known of locals at a point, name by name, and how what is known at two points compares.
use Rattle.std.specs.Prelude.{◌≡◌, ◌<◌, ◌≤◌, ◌&&◌, ⊤, ℕ, Bool, true, false, if◌then◌else◌, List, [], ◌∷◌, map, Some, None, option_map}
use Rattle.std.specs.declared.option.Option.{Option}
use Rattle.py_tree.specs.PlainTypes.{PlainTy, TOptional}
use Rattle.py_tree.specs.FlowEnvironment.{PlainLocal, local_of}
use Rattle.block_code.specs.PlainVars.{PlainVar}
use Rattle.block_code.specs.GraphFits.{var_of}

-- of an assigned local: its type, and whether that is an Optional of which the local is surely not None
pub record Seen : Type 0 where
  pub ty : PlainTy
  pub less : Bool

abbrev pub is_optional : PlainTy → Bool
is_optional (TOptional u) = true
is_optional _ = false

abbrev pub seen_of : Option PlainLocal → Option Seen
seen_of None = None
seen_of (Some l) = if l.assigned then Some (record { ty = l.ty; less = is_optional l.ty && l.not_none }) else None

-- what is known of a name
abbrev pub seen : List PlainLocal → ℕ → Option Seen
seen locals x = seen_of (local_of locals x)

-- of a name: nothing is known here, or just as much there
abbrev pub Kept : Option Seen → Option Seen → Type 0
Kept None o = ⊤
Kept (Some s) o = o ≡ Some s

-- what is known here of a name below the limit is known so there; of other names more may be known there
pub record Alike (limit : ℕ) (here there : List PlainLocal) : Type 0 where
  pub alike : (x : ℕ) → x < limit → Kept (seen here x) (seen there x)

-- of a name: nothing is known here, or its type, and no less there
abbrev pub Under : Option Seen → Option Seen → Type 0
Under None o = ⊤
Under (Some s) None = ⊥
Under (Some s) (Some t) = (s.ty ≡ t.ty) × (s.less ≡ true → t.less ≡ true)

-- each name stands once
abbrev pub Once : List PlainLocal → Type 0
Once [] = ⊤
Once (l ∷ locals) = (local_of locals l.name ≡ None) × Once locals

-- no local has this number or a later one
pub record Free (next : ℕ) (locals : List PlainLocal) : Type 0 where
  pub free : (x : ℕ) → next ≤ x → local_of locals x ≡ None
  pub once : Once locals

-- a name has this type, assigned or not
abbrev pub HasTy : List PlainLocal → ℕ → PlainTy → Type 0
HasTy locals x ty = option_map (λ l. l.ty) (local_of locals x) ≡ Some ty

-- Where all variables of a method have their types beforehand

abbrev pub AreVariables : List PlainVar → List PlainLocal → Type 0
AreVariables variables env = map var_of env ≡ variables

-- what is known here of names below the limit is known so there
pub record Stands (variables : List PlainVar) (limit : ℕ) (locals env : List PlainLocal) : Type 0 where
  pub are : AreVariables variables env
  pub alike : Alike limit locals env

-- or more
pub record AtLeast (variables : List PlainVar) (limit : ℕ) (locals env : List PlainLocal) : Type 0 where
  pub are : AreVariables variables env
  pub under : (x : ℕ) → x < limit → Under (seen locals x) (seen env x)
