-- What the keyed state holds, seen as a finite map, and the room that it has.
use Rattle.std.specs.Prelude.{ℕ, List, map as over, refl}
use Rattle.std.specs.FinMap as finite
use Rattle.std.specs.Coded.{Coded, coded_ℕ, coded×, coded_list, code_by}
use Rattle.sf_value.specs.Keys.{key_cmp, key_of}
use Rattle.sf_value.specs.declared.value.Value.{Value}
use Rattle.sf_value.specs.declared.value.Ref.{Ref}
use Rattle.sf_value.specs.declared.value.Record.{Record}
use Rattle.sf_value.specs.contracts.value.Value as row

-- the values of the fields of each entity that there is
abbrev pub Contents : Type 0
Contents = finite.FinMap key_cmp (List Value)

-- the contents, and how many entities can join them without memory
pub record Stored : Type 0 where
  pub contents : Contents
  pub spare : ℕ

abbrev pub contents_code : Coded Contents
contents_code = finite.code (coded× coded_ℕ (coded_list coded_ℕ)) (coded_list row.the_row.coded)

abbrev pub stored_code : Coded Stored
stored_code =
    code_by (Contents × ℕ) (coded× contents_code coded_ℕ) (λ s. (s.contents, s.spare)) (λ p. record { contents = p.0; spare = p.1 })
    (λ _. refl)

-- the entries of the table with the fields of each record
abbrev pub fields_of : List (Ref × Record) → List (Ref × List Value)
fields_of entries = over (λ (e : Ref × Record). (e.0, e.1.fields)) entries

abbrev pub contents_of : List (Ref × Record) → Contents
contents_of entries = finite.from_entries (over (λ (e : Ref × List Value). (key_of e.0, e.1)) (fields_of entries))
