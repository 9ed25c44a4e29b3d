-- What the transactions of a batch have buffered, and the contents once some of them are committed.
use Rattle.std.specs.Prelude.{ℕ, ◌+◌, Bool, true, cond, not, Some, None, ◌&&◌, nat_eq, nat_lt, List, [], ◌∷◌, map as over, filter, length, slice_index_or}
use Rattle.std.specs.declared.option.Option.{Option}
use Rattle.std.specs.List.{list_any}
use Rattle.std.specs.Ordering.{eq_by_cmp}
use Rattle.std.specs.FinMap as finite
use Rattle.std.specs.FinSet as set
use Rattle.sf_value.specs.Keys.{Key, key_cmp, key_of}
use Rattle.sf_value.specs.declared.value.Value.{Value}
use Rattle.sf_value.specs.declared.value.Ref.{Ref}
use Rattle.sf_value.specs.declared.Held.{Held}
use Rattle.sf_value.proofs.Maps.{ref_eq}
use Rattle.keyed_state.specs.declared.Work.{Work}
use Rattle.keyed_state.specs.Contents.{Contents}

-- the keys of these entities, as a set
abbrev pub Keys : Type 0
Keys = set.FinSet key_cmp

abbrev pub keys_of : List Ref → Keys
keys_of refs = set.from_list (over key_of refs)

-- contents with these records in place of their own; of two records of one entity the first counts
abbrev pub with_records : Contents → List Held → Contents
with_records s [] = s
with_records s (h ∷ more) = finite.insert (with_records s more) (key_of h.at) h.fields.fields

-- the record that is held of an entity
abbrev pub held_record : List Held → Key → Option (List Value)
held_record [] q = None
held_record (h ∷ more) q = cond (eq_by_cmp key_cmp q (key_of h.at)) (Some h.fields.fields) (held_record more q)

-- the record of an entity that was written
abbrev pub is_written : List Ref → Held → Bool
is_written writes h = list_any (λ at. ref_eq at h.at) writes

-- the records that a work holds of the entities that it wrote
abbrev pub written_records : Work → List Held
written_records work = filter (is_written work.writes) work.held

abbrev pub no_work : Work
no_work = record { held = []; reads = []; writes = [] }

abbrev pub work_at : List Work → ℕ → Work
work_at works place = slice_index_or works place no_work

-- the contents after the writes of the works at these places, one work after another
abbrev pub after_writes : Contents → List Work → List ℕ → Contents
after_writes s works [] = s
after_writes s works (place ∷ places) = after_writes (with_records s (written_records (work_at works place))) works places

-- as many records as the works at these places write
abbrev pub written_count : List Work → List ℕ → ℕ
written_count works [] = 0
written_count works (place ∷ places) = length (written_records (work_at works place)) + written_count works places

-- places in a list of this length, none of them twice
abbrev pub are_places : ℕ → List ℕ → Bool
are_places n [] = true
are_places n (place ∷ places) = nat_lt place n && not (list_any (nat_eq place) places) && are_places n places

-- no entity stands twice
abbrev pub entities_differ : List Held → Bool
entities_differ [] = true
entities_differ (h ∷ more) = not (list_any (λ x. ref_eq h.at x.at) more) && entities_differ more
