-- The record of an entity after a work's writes: its own where the work wrote it, and else the one before.
use Rattle.std.proofs.Common.{◌≡◌, ◌∙◌, Bool, true, false, cond, ◌||◌, List, [], ◌∷◌, map as over, Option, Some, refl, sym, ap}
use Rattle.std.specs.Prelude.{filter}
use Rattle.std.specs.Option.{option_or}
use Rattle.std.specs.List.{list_any}
use Rattle.std.specs.Ordering.{eq_by_cmp}
use Rattle.std.specs.Cmp.{eq_by_cmp_equiv}
use Rattle.std.specs.FinMap as finite
use Rattle.std.specs.FinSet as set
use Rattle.sf_value.specs.Keys.{Key, key_cmp, key_of}
use Rattle.sf_value.specs.declared.value.Value.{Value}
use Rattle.sf_value.specs.declared.value.Ref.{Ref}
use Rattle.sf_value.specs.declared.Held.{Held}
use Rattle.sf_value.proofs.Maps.{ref_eq, ref_ties, key_total, tied_key}
use Rattle.keyed_state.specs.declared.Work.{Work}
use Rattle.keyed_state.specs.Contents.{Contents}
use Rattle.keyed_state.specs.Works.{keys_of, with_records, held_record, is_written, written_records}

-- an entity is written where its key is among those of the writes
written-contains : (writes : List Ref) (h : Held) → is_written writes h ≡ set.contains (keys_of writes) (key_of h.at)
written-contains writes h = among writes ∙ sym (set.contains-from_list key_total (over key_of writes) (key_of h.at))
  where
    among : (refs : List Ref) → list_any (λ at. ref_eq at h.at) refs ≡ list_any (eq_by_cmp key_cmp (key_of h.at)) (over key_of refs)
    among [] = refl
    among (at ∷ more) = λ i. (ref_ties at h.at ∙ (eq_by_cmp_equiv key_total).symm (key_of at) (key_of h.at)) i || among more i

-- where an entity was written, what is held of it counts before what was there
abbrev over_old : Bool → Option (List Value) → Option (List Value) → Option (List Value)
over_old written own old = cond written (option_or own old) old

nothing_held : (b : Bool) (old : Option (List Value)) → old ≡ cond b old old
nothing_held true old = refl
nothing_held false old = refl

module _ (writes : List Ref) (s : Contents) (q : Key) where
  get-written : (held : List Held) → finite.get (with_records s (filter (is_written writes) held)) q ≡ over_old (set.contains (keys_of writes) q) (held_record held q) (finite.get s q)
  get-written [] = nothing_held (set.contains (keys_of writes) q) (finite.get s q)
  get-written (h ∷ more) = by (is_written writes h) (eq_by_cmp key_cmp q (key_of h.at)) refl refl (get-written more)
    where
      own : List Value
      own = h.fields.fields

      later : Contents
      later = with_records s (filter (is_written writes) more)

      -- the entity of this record is written exactly where the record is
      here : (w : Bool) → is_written writes h ≡ w → eq_by_cmp key_cmp q (key_of h.at) ≡ true → w ≡ set.contains (keys_of writes) q
      here w is tie = sym is ∙ written-contains writes h ∙ ap (set.contains (keys_of writes)) (sym (tied_key q (key_of h.at) tie))

      by : (w t : Bool) → is_written writes h ≡ w → eq_by_cmp key_cmp q (key_of h.at) ≡ t → finite.get later q ≡ over_old (set.contains (keys_of writes) q) (held_record more q) (finite.get s q)
          → finite.get (with_records s (cond w (h ∷ filter (is_written writes) more) (filter (is_written writes) more))) q ≡ over_old (set.contains (keys_of writes) q) (cond t (Some own) (held_record more q)) (finite.get s q)
      by true true is tie rest =
          finite.get-insert key_total later (key_of h.at) own q
          ∙ ap (λ b. cond b (Some own) (finite.get later q)) tie
          ∙ ap (λ b. over_old b (Some own) (finite.get s q)) (here true is tie)
      by true false is tie rest = finite.get-insert key_total later (key_of h.at) own q ∙ ap (λ b. cond b (Some own) (finite.get later q)) tie ∙ rest
      by false true is tie rest =
          rest
          ∙ ap (λ b. over_old b (held_record more q) (finite.get s q)) (sym (here false is tie))
          ∙ ap (λ b. over_old b (Some own) (finite.get s q)) (here false is tie)
      by false false is tie rest = rest

pub get-with_work : (s : Contents) (work : Work) (q : Key) → finite.get (with_records s (written_records work)) q ≡ cond (set.contains (keys_of work.writes) q) (option_or (held_record work.held q) (finite.get s q)) (finite.get s q)
get-with_work s work q = get-written work.writes s q work.held
