-- An event is noted: the entry of its entity is written anew, in its place or behind the others.
use Rattle.std.proofs.Common.{◌≡◌, ◌∙◌, Bool, true, false, cond, ◌||◌, List, map as over, Option, Some, None, refl, sym, ap}
use Rattle.std.specs.Prelude.{is_some, if◌then◌else◌, option_map}
use Rattle.std.specs.Option.{option_or}
use Rattle.std.specs.Map.{lookup}
use Rattle.std.specs.Ordering.{eq_by_cmp}
use Rattle.std.specs.FinMap as finite
use Rattle.std.specs.FinSet as set
use Rattle.indexmap.specs.IndexMap.{insert_entry}
use Rattle.sf_value.specs.Keys.{Key, key_cmp, key_of}
use Rattle.sf_value.specs.declared.value.Value.{Value}
use Rattle.sf_value.specs.declared.value.Ref.{Ref}
use Rattle.sf_value.specs.declared.value.Record.{Record}
use Rattle.sf_value.proofs.Maps.{key_total, key_exact, ref_eq, find-keyed, find-insert_entry, tied_key}
use Rattle.request_events.specs.RequestEvents.{with_left}
use Rattle.keyed_state.specs.Contents.{Contents}
use Rattle.keyed_state.specs.Works.{Keys, keys_of}
use Rattle.transaction_buffers.specs.declared.buffers.Touched.{Touched}
use Rattle.transaction_buffers.specs.Buffered.{noted}
use Rattle.transaction_buffers.specs.Touches.{with_event, next_touched, own_fields, own_in, written_in, buffered_in}
use Rattle.transaction_buffers.proofs.FoundLaws.{found, own_found, wrote_found, get-own_in, contains-written_in, contains-read}

abbrev pub fields_if : Option Record → Option (List Value)
fields_if = option_map (λ r. r.fields)

-- an entry is the one before with one event more
pub record IsNext (before : Option Touched) (held : Option Record) (wrote : Bool) (new : Touched) : Type 0 where
  pub own : own_fields new ≡ option_or (fields_if held) (own_found before)
  pub written : new.wrote ≡ (wrote_found before || wrote)

next_of_old : (old : Touched) (held : Option Record) (wrote : Bool) → IsNext (Some old) held wrote (with_event old held wrote)
next_of_old old held wrote = record { own = own held; written = refl }
  where
    own : (l : Option Record) → own_fields (with_event old l wrote) ≡ option_or (fields_if l) (own_fields old)
    own None = refl
    own (Some r) = refl

next_of_none : (held : Option Record) (wrote : Bool) → IsNext None held wrote (record { own = held; wrote = wrote })
next_of_none held wrote = record { own = own held; written = refl }
  where
    own : (l : Option Record) → fields_if l ≡ option_or (fields_if l) None
    own None = refl
    own (Some r) = refl

pub next_is : (before : Option Touched) (held : Option Record) (wrote : Bool) → IsNext before held wrote (next_touched before held wrote)
next_is None held wrote = next_of_none held wrote
next_is (Some old) held wrote = next_of_old old held wrote

-- What is noted, at each entity

either_way : {A : Type 0} (b : Bool) (x : A) → x ≡ cond b x x
either_way true x = refl
either_way false x = refl

get-with_left : (s : Contents) (at : Key) (held : Option (List Value)) (q : Key) → finite.get (with_left s at held) q ≡ cond (eq_by_cmp key_cmp q at) (option_or held (finite.get s q)) (finite.get s q)
get-with_left s at None q = either_way (eq_by_cmp key_cmp q at) (finite.get s q)
get-with_left s at (Some fields) q = finite.get-insert key_total s at fields q

contains-with_write : (s : Keys) (at : Key) (wrote : Bool) (q : Key) → set.contains (if wrote then set.insert s at else s) q ≡ cond (eq_by_cmp key_cmp q at) (set.contains s q || wrote) (set.contains s q)
contains-with_write s at true q = set.contains-insert key_total s at q ∙ by (eq_by_cmp key_cmp q at) (set.contains s q)
  where
    by : (b c : Bool) → (b || c) ≡ cond b (c || true) c
    by true true = refl
    by true false = refl
    by false c = refl
contains-with_write s at false q = by (eq_by_cmp key_cmp q at) (set.contains s q)
  where
    by : (b c : Bool) → c ≡ cond b (c || false) c
    by true true = refl
    by true false = refl
    by false c = refl

module _ (new : Touched) (before : Option Touched) where
  own_next : (held : Option (List Value)) (b : Bool) (f : Option Touched) → own_fields new ≡ option_or held (own_found before) → (b ≡ true → f ≡ before)
      → own_found (cond b (Some new) f) ≡ cond b (option_or held (own_found f)) (own_found f)
  own_next held true f is same = is ∙ ap (λ o. option_or held (own_found o)) (sym (same refl))
  own_next held false f is same = refl

  wrote_next : (wrote b : Bool) (f : Option Touched) → new.wrote ≡ (wrote_found before || wrote) → (b ≡ true → f ≡ before)
      → wrote_found (cond b (Some new) f) ≡ cond b (wrote_found f || wrote) (wrote_found f)
  wrote_next wrote true f is same = is ∙ ap (λ o. wrote_found o || wrote) (sym (same refl))
  wrote_next wrote false f is same = refl

  there_next : (b : Bool) (f : Option Touched) → is_some (cond b (Some new) f) ≡ (b || is_some f)
  there_next true f = refl
  there_next false f = refl

module _ (entries : List (Ref × Touched)) (at : Ref) (held : Option Record) (wrote : Bool) (new : Touched) (next : IsNext (lookup (ref_eq at) entries) held wrote new) where
  -- the entry of this entity is the one that was looked up
  same_entry : (q : Key) → eq_by_cmp key_cmp q (key_of at) ≡ true → found q entries ≡ lookup (ref_eq at) entries
  same_entry q same = ap (λ key. found key entries) (tied_key q (key_of at) same) ∙ find-keyed at entries

  own_after : own_in (insert_entry ref_eq entries at new) ≡ with_left (own_in entries) (key_of at) (fields_if held)
  own_after = finite.same_map key_total key_exact _ _ (λ q.
      get-own_in (insert_entry ref_eq entries at new) q
      ∙ ap own_found (find-insert_entry at new entries q)
      ∙ own_next new (lookup (ref_eq at) entries) (fields_if held) (eq_by_cmp key_cmp q (key_of at)) (found q entries) next.own (same_entry q)
      ∙ ap (λ o. cond (eq_by_cmp key_cmp q (key_of at)) (option_or (fields_if held) o) o) (sym (get-own_in entries q))
      ∙ sym (get-with_left (own_in entries) (key_of at) (fields_if held) q))

  written_after : written_in (insert_entry ref_eq entries at new) ≡ (if wrote then set.insert (written_in entries) (key_of at) else written_in entries)
  written_after = set.same_set key_total key_exact _ _ (λ q.
      contains-written_in (insert_entry ref_eq entries at new) q
      ∙ ap wrote_found (find-insert_entry at new entries q)
      ∙ wrote_next new (lookup (ref_eq at) entries) wrote (eq_by_cmp key_cmp q (key_of at)) (found q entries) next.written (same_entry q)
      ∙ ap (λ c. cond (eq_by_cmp key_cmp q (key_of at)) (c || wrote) c) (sym (contains-written_in entries q))
      ∙ sym (contains-with_write (written_in entries) (key_of at) wrote q))

  read_after : keys_of (over (λ (e : Ref × Touched). e.0) (insert_entry ref_eq entries at new)) ≡ set.insert (keys_of (over (λ (e : Ref × Touched). e.0) entries)) (key_of at)
  read_after = set.same_set key_total key_exact _ _ (λ q.
      contains-read (insert_entry ref_eq entries at new) q
      ∙ ap is_some (find-insert_entry at new entries q)
      ∙ there_next new (lookup (ref_eq at) entries) (eq_by_cmp key_cmp q (key_of at)) (found q entries)
      ∙ ap (λ c. eq_by_cmp key_cmp q (key_of at) || c) (sym (contains-read entries q))
      ∙ sym (set.contains-insert key_total (keys_of (over (λ (e : Ref × Touched). e.0) entries)) (key_of at) q))

  pub noted_after : (more : List (Ref × Touched)) → more ≡ insert_entry ref_eq entries at new → buffered_in more ≡ noted (buffered_in entries) (key_of at) (fields_if held) wrote
  noted_after more is = ap buffered_in is ∙ (λ i. record { own = own_after i; reads = read_after i; writes = written_after i })
