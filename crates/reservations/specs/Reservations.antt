-- The least place reserved for each entity.
use Rattle.std.specs.Prelude.{ℕ, Bool, cond, false, nat_lt, nat_le, min, List, map as over, Some, None}
use Rattle.std.specs.declared.option.Option.{Option}
use Rattle.std.specs.List.{position_from}
use Rattle.std.specs.FinMap as finite
use Rattle.std.specs.FinSet as set
use Rattle.std.specs.Coded.{Coded, coded_ℕ, coded×, coded_list}
use Rattle.sf_value.specs.Keys.{Key, key_cmp, key_of}
use Rattle.sf_value.specs.declared.value.Ref.{Ref}
use Rattle.serial_order.specs.ConflictFree.{Access}

abbrev pub Reserved : Type 0
Reserved = finite.FinMap key_cmp ℕ

abbrev pub reserved_code : Coded Reserved
reserved_code = finite.code (coded× coded_ℕ (coded_list coded_ℕ)) coded_ℕ

-- what the entries of the table reserve
abbrev pub reserved_in : List (Ref × ℕ) → Reserved
reserved_in entries = finite.from_entries (over (λ (e : Ref × ℕ). (key_of e.0, e.1)) entries)

-- a place, or the one that was reserved before where that is less
abbrev pub least_with : Option ℕ → ℕ → ℕ
least_with None place = place
least_with (Some before) place = min before place

-- the one that was reserved before stays
abbrev pub keeps : Option ℕ → ℕ → Bool
keeps None place = false
keeps (Some before) place = nat_le before place

-- a reservation of this place besides, where there is one
abbrev pub reserved_if : Bool → Option ℕ → ℕ → Option ℕ
reserved_if wanted before place = cond wanted (Some (least_with before place)) before

-- the place of the first request of a batch that writes an entity
abbrev pub first_writer : List Access → Key → Option ℕ
first_writer batch q = position_from (λ a. set.contains a.writes q) 0 batch

-- it comes before this place
abbrev pub is_before : Option ℕ → ℕ → Bool
is_before None place = false
is_before (Some reserved) place = nat_lt reserved place

-- an entity is reserved for an earlier place
abbrev pub is_reserved : Reserved → ℕ → Ref → Bool
is_reserved reserved place at = is_before (finite.get reserved (key_of at)) place
