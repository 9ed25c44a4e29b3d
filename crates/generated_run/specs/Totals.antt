-- The sum of all balances.
use Rattle.std.specs.Prelude.{◌≡◌, ℤ, pos, ◌+ℤ◌, true, List, [], ◌∷◌, Some, slice_get}
use Rattle.std.specs.declared.option.Option.{Option}
use Rattle.std.specs.FinMap as finite
use Rattle.sf_value.specs.declared.value.Value.{Value}
use Rattle.sf_value.specs.declared.value.Value.TheVariants.{Int}
use Rattle.sf_value.specs.declared.Held.{Held}
use Rattle.program_meaning.specs.World.{State}
use Rattle.keyed_state.specs.Works.{with_records, entities_differ}

-- a whole number in a field, and nothing where there is another value or none
abbrev pub amount_in : Option Value → ℤ
amount_in (Some (Int n)) = n
amount_in other = pos 0

-- the balance of an account is the second field of its record
abbrev pub balance_of : Held → ℤ
balance_of h = amount_in (slice_get h.fields.fields 1)

-- the balances of these records, added up
unfoldable pub added_up : List Held → ℤ
added_up [] = pos 0
added_up (h ∷ more) = balance_of h +ℤ added_up more

-- the sum of the balances of all records of a state, each of them once
pub record IsTotal (state : State) (total : ℤ) : Type 0 where
  pub records : List Held
  pub hold : with_records finite.empty records ≡ state
  pub once : entities_differ records ≡ true
  pub sum : total ≡ added_up records
