-- What is handed over, where no entity has two entries.
use Rattle.std.proofs.Common.{◌≡◌, ◌∙◌, Bool, true, false, cond, ◌||◌, List, [], ◌∷◌, ◌++◌, map as over, filter, Option, Some, None, Result, Ok, Err, IfOk, refl, sym, ap}
use Rattle.std.specs.Prelude.{option_map}
use Rattle.std.specs.Option.{option_or}
use Rattle.std.proofs.lemmas.List.{append-nil}
use Rattle.std.specs.List.{list_any, AllByRecursion, IsDistinct}
use Rattle.std.specs.Ordering.{eq_by_cmp}
use Rattle.std.specs.FinSet as set
use Rattle.sf_value.specs.Keys.{Key, key_cmp, key_of}
use Rattle.sf_value.specs.declared.value.Value.{Value}
use Rattle.sf_value.specs.declared.value.Ref.{Ref}
use Rattle.sf_value.specs.declared.value.Record.{Record}
use Rattle.sf_value.specs.declared.Held.{Held}
use Rattle.sf_value.proofs.Maps.{key_total, key_exact, ref_eq, ref_ties, tied_key}
use Rattle.keyed_state.specs.declared.Work.{Work}
use Rattle.keyed_state.specs.Works.{Keys, keys_of, held_record}
use Rattle.transaction_buffers.specs.declared.buffers.Touched.{Touched}
use Rattle.transaction_buffers.specs.Touches.{own_fields}
use Rattle.transaction_buffers.specs.HandingOver.{IsHandedOver, written, record_of, all_records, records_of}
use Rattle.transaction_buffers.proofs.FoundLaws.{found, own_found, wrote_found, get-own_in, contains-written_in}

abbrev pub refs_of : List (Ref × Touched) → List Ref
refs_of entries = over (λ (e : Ref × Touched). e.0) entries

-- an entity that has no entry is not found
not_found : (at : Ref) (entries : List (Ref × Touched)) → AllByRecursion (λ y. ref_eq at y ≡ false) (refs_of entries) → found (key_of at) entries ≡ None
not_found at [] apart = refl
not_found at (e ∷ more) apart = ap (λ b. cond b (Some e.1) (found (key_of at) more)) (sym (ref_ties at e.0) ∙ apart.0) ∙ not_found at more apart.1

abbrev written_own : Option Touched → Option (List Value)
written_own None = None
written_own (Some t) = cond t.wrote (own_fields t) None

writes_either : (wrote b : Bool) (t : Touched) (later : Option Touched) → t.wrote ≡ wrote → (b ≡ true → later ≡ None)
    → cond wrote (b || wrote_found later) (wrote_found later) ≡ wrote_found (cond b (Some t) later)
writes_either true true t later is none = sym is
writes_either true false t later is none = refl
writes_either false true t later is none = ap wrote_found (none refl) ∙ sym is
writes_either false false t later is none = refl

either_way : {A : Type 0} (b : Bool) (x : A) → x ≡ cond b x x
either_way true x = refl
either_way false x = refl

or_none : {A : Type 0} (o : Option A) → option_or o None ≡ o
or_none None = refl
or_none (Some x) = refl

own_either : (wrote b : Bool) (t : Touched) (later : Option Touched) → t.wrote ≡ wrote → (b ≡ true → later ≡ None)
    → cond wrote (cond b (option_or (own_fields t) (written_own later)) (written_own later)) (written_own later) ≡ written_own (cond b (Some t) later)
own_either true true t later is none =
    ap (λ o. option_or (own_fields t) (written_own o)) (none refl) ∙ or_none (own_fields t) ∙ ap (λ w. cond w (own_fields t) None) (sym is)
own_either true false t later is none = refl
own_either false true t later is none = ap written_own (none refl) ∙ ap (λ w. cond w (own_fields t) None) (sym is)
own_either false false t later is none = refl

any_of_cond : (wrote : Bool) (at : Ref) (refs : List Ref) (q : Key) → list_any (eq_by_cmp key_cmp q) (over key_of (cond wrote (at ∷ refs) refs)) ≡ cond wrote (eq_by_cmp key_cmp q (key_of at) || list_any (eq_by_cmp key_cmp q) (over key_of refs)) (list_any (eq_by_cmp key_cmp q) (over key_of refs))
any_of_cond true at refs q = refl
any_of_cond false at refs q = refl

refs_of_cond : (wrote : Bool) (e : Ref × Touched) (entries : List (Ref × Touched)) → refs_of (cond wrote (e ∷ entries) entries) ≡ cond wrote (e.0 ∷ refs_of entries) (refs_of entries)
refs_of_cond true e entries = refl
refs_of_cond false e entries = refl

module _ (q : Key) where
  -- where an entity ties with the first, it is not found later
  none_later : (e : Ref × Touched) (more : List (Ref × Touched)) → AllByRecursion (λ y. ref_eq e.0 y ≡ false) (refs_of more) → eq_by_cmp key_cmp q (key_of e.0) ≡ true → found q more ≡ None
  none_later e more apart same = ap (λ key. found key more) (tied_key q (key_of e.0) same) ∙ not_found e.0 more apart

  any_written : (entries : List (Ref × Touched)) → IsDistinct ref_eq (refs_of entries) → list_any (eq_by_cmp key_cmp q) (over key_of (written entries)) ≡ wrote_found (found q entries)
  unfolding IsDistinct
  any_written [] distinct = refl
  any_written (e ∷ more) distinct =
      ap (λ l. list_any (eq_by_cmp key_cmp q) (over key_of l)) (refs_of_cond e.1.wrote e (filter (λ (x : Ref × Touched). x.1.wrote) more))
      ∙ any_of_cond e.1.wrote e.0 (written more) q
      ∙ ap (λ b. cond e.1.wrote (eq_by_cmp key_cmp q (key_of e.0) || b) b) (any_written more distinct.1)
      ∙ writes_either e.1.wrote (eq_by_cmp key_cmp q (key_of e.0)) e.1 (found q more) refl (none_later e more distinct.0)

  held_before : (at : Ref) (own : Option Record) (rest : List Held) → held_record (record_of at own ++ rest) q ≡ cond (eq_by_cmp key_cmp q (key_of at)) (option_or (option_map (λ r. r.fields) own) (held_record rest q)) (held_record rest q)
  held_before at None rest = either_way (eq_by_cmp key_cmp q (key_of at)) (held_record rest q)
  held_before at (Some r) rest = refl

  held_of_cond : (wrote : Bool) (e : Ref × Touched) (entries : List (Ref × Touched)) → held_record (all_records (cond wrote (e ∷ entries) entries)) q
      ≡ cond wrote (cond (eq_by_cmp key_cmp q (key_of e.0)) (option_or (own_fields e.1) (held_record (all_records entries) q)) (held_record (all_records entries) q)) (held_record (all_records entries) q)
  held_of_cond true e entries = held_before e.0 e.1.own (all_records entries)
  held_of_cond false e entries = refl

  held_written : (entries : List (Ref × Touched)) → IsDistinct ref_eq (refs_of entries) → held_record (records_of entries) q ≡ written_own (found q entries)
  unfolding IsDistinct
  held_written [] distinct = refl
  held_written (e ∷ more) distinct =
      held_of_cond e.1.wrote e (filter (λ (x : Ref × Touched). x.1.wrote) more)
      ∙ ap (λ o. cond e.1.wrote (cond (eq_by_cmp key_cmp q (key_of e.0)) (option_or (own_fields e.1) o) o) o) (held_written more distinct.1)
      ∙ own_either e.1.wrote (eq_by_cmp key_cmp q (key_of e.0)) e.1 (found q more) refl (none_later e more distinct.0)

written_is_own : (o : Option Touched) → wrote_found o ≡ true → written_own o ≡ own_found o
written_is_own None wrote = refl
written_is_own (Some t) wrote = ap (λ b. cond b (own_fields t) None) wrote

-- a work made of these entries hands them over
pub handed_over : (entries : List (Ref × Touched)) (work : Work) → IsDistinct ref_eq (refs_of entries) → work.reads ≡ refs_of entries → work.writes ≡ written entries → work.held ≡ records_of entries → IsHandedOver entries work
handed_over entries work distinct reads writes held = record {
  reads = ap keys_of reads;
  writes = set.same_set key_total key_exact _ _ (λ q.
      ap (λ l. set.contains (keys_of l) q) writes
      ∙ set.contains-from_list key_total (over key_of (written entries)) q
      ∙ any_written q entries distinct
      ∙ sym (contains-written_in entries q));
  held = λ q wrote.
      ap (λ l. held_record l q) held
      ∙ held_written q entries distinct
      ∙ written_is_own (found q entries) (sym (contains-written_in entries q) ∙ wrote)
      ∙ sym (get-own_in entries q);
}

-- where nothing is left, what is done with is the whole
pub all_done : {A B : Type 0} (f : List A → List B) (done : List B) (left whole : List A) → done ++ f left ≡ f whole → left ≡ [] → f [] ≡ [] → done ≡ f whole
all_done f done left whole is none empty = sym (append-nil done) ∙ ap (λ l. done ++ l) (sym (ap f none ∙ empty)) ∙ is

-- a work that hands these entries over has read what the buffers have
pub reads_handed : {E : Type 0} (r : Result Work E) (list entries : List (Ref × Touched)) (reads : Keys) → list ≡ entries → keys_of (refs_of entries) ≡ reads → IfOk r (IsHandedOver list) → IfOk r (λ work. keys_of work.reads ≡ reads)
reads_handed (Ok work) list entries reads same is over = over.reads ∙ ap (λ l. keys_of (refs_of l)) same ∙ is
reads_handed (Err e) list entries reads same is over = tt
