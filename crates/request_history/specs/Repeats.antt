-- Whether two requests ask for the same, and which entry an id or a place has.
use Rattle.std.specs.Prelude.{ℕ, zero, suc, ◌+◌, Bool, true, false, ◌&&◌, ◌==◌, bytes_eq, List, [], ◌∷◌, None, Some, if◌then◌else◌}
use Rattle.std.specs.List.{slice_get}
use Rattle.std.specs.Option.{option_map}
use Rattle.std.specs.declared.option.Option.{Option}
use Rattle.sf_value.specs.Sameness.{same_value}
use Rattle.sf_value.specs.declared.value.Value.{Value}
use Rattle.sf_value.specs.declared.Act.{Act}
use Rattle.sf_value.specs.declared.Act.TheVariants as act
use Rattle.sf_value.specs.declared.Entry.{Entry}

abbrev pub same_values : List Value → List Value → Bool
same_values [] [] = true
same_values [] (w ∷ ws) = false
same_values (v ∷ vs) [] = false
same_values (v ∷ vs) (w ∷ ws) = same_value v w && same_values vs ws

-- the same class, key, method and arguments
unfoldable pub same_act : Act → Act → Bool
same_act (act.Call class key method args) (act.Call class' key' method' args') = class == class' && bytes_eq key key' && method == method' && same_values args args'
same_act (act.New class args) (act.New class' args') = class == class' && same_values args args'
same_act _ _ = false

-- an entry with its place in the history, counted from 1
pub record Kept : Type 0 where
  pub place : ℕ
  pub entry : Entry

-- the entry with this id, where the first of these has this place
abbrev pub kept_from : ℕ → List Entry → List ℕ → Option Kept
kept_from place [] id = None
kept_from place (e ∷ es) id = if bytes_eq id e.request.id then Some (record { place = place; entry = e }) else kept_from (place + 1) es id

unfoldable pub kept_of : List Entry → List ℕ → Option Kept
kept_of history id = kept_from 1 history id

-- the entry at this place, if there is one
abbrev pub entry_at : List Entry → ℕ → Option Entry
entry_at history zero = None
entry_at history (suc before) = slice_get history before

abbrev pub placed : ℕ → Entry → Kept
placed place e = record { place = place; entry = e }

-- and the same with its place
abbrev pub kept_in : List Entry → ℕ → Option Kept
kept_in history place = option_map (placed place) (entry_at history place)
