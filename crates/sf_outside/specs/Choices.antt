-- What a chooser tells, and what a call adds to it.
use Rattle.std.specs.Prelude.{◌≡◌, ℕ, zero, suc, ◌+◌, Bool, if◌then◌else◌, List, [], ◌∷◌, ◌++◌, Some, None, slice_get, unwrap_or}
use Rattle.std.specs.declared.option.Option.{Option}

-- the starts that it had, the number that the last one was given, of how many one was asked for since, each time, and the picks made of them
pub record Choices : Type 0 where
  pub starts : ℕ
  pub number : Option ℕ
  pub asked : List ℕ
  pub picks : List ℕ

-- it began anew from a number; who tells nothing any more never tells anything again
abbrev pub Begins : Option Choices → ℕ → Option Choices → Type 0
Begins old number None = Unit {0}
Begins None number (Some new) = ⊥
Begins (Some old) number (Some new) = new ≡ record { starts = old.starts + 1; number = Some number; asked = []; picks = [] }

-- it was asked for one of so many, and made one more pick
abbrev pub Picks : Option Choices → ℕ → ℕ → Option Choices → Type 0
Picks old count pick None = Unit {0}
Picks None count pick (Some new) = ⊥
Picks (Some old) count pick (Some new) = new ≡ record { starts = old.starts; number = old.number; asked = old.asked ++ count ∷ []; picks = old.picks ++ pick ∷ [] }

-- A chooser by a list

-- the list, the starts, the number that the last one was given, what was asked and how many picks were made since, and whether all of this is exact
pub record ListState : Type 0 where
  pub list : List ℕ
  pub starts : ℕ
  pub number : Option ℕ
  pub asked : List ℕ
  pub taken : ℕ
  pub exact : Bool

-- the list, and then 0 for ever
abbrev pub pick_at : List ℕ → ℕ → ℕ
pick_at list place = unwrap_or (slice_get list place) 0

-- the first picks
unfoldable pub picked : List ℕ → ℕ → List ℕ
picked list zero = []
picked list (suc count) = picked list count ++ pick_at list count ∷ []

abbrev pub told_by : ListState → Option Choices
told_by s = if s.exact then Some (record { starts = s.starts; number = s.number; asked = s.asked; picks = picked s.list s.taken }) else None
