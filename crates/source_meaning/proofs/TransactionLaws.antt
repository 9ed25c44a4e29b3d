-- The records that a transaction has changed, over those of the state.
use Rattle.std.proofs.Common.{◌≡◌, Bool, true, false, cond, ◌||◌, List, [], ◌∷◌, ◌++◌, map, Option, Some, None, if◌then◌else◌, refl, sym, ap, ◌∙◌}
use Rattle.std.specs.Prelude.{⊤, IfSome, is_some}
use Rattle.std.specs.List.{list_any}
use Rattle.std.specs.FinMap as finite
use Rattle.std.specs.FinSet as set
use Rattle.std.specs.Map.{lookup}
use Rattle.std.specs.Ordering.{eq_by_cmp}
use Rattle.std.proofs.lemmas.List.{map-append}
use Rattle.indexmap.specs.IndexMap.{insert_entry}
use Rattle.indexmap.specs.IndexSet.{insert_key}
use Rattle.indexmap.proofs.SetLemmas.{keys_insert_entry}
use Rattle.few_entities.specs.Entries.{refs_of}
use Rattle.sf_value.specs.Keys.{Key, key_cmp, key_of}
use Rattle.sf_value.specs.declared.value.Value.{Value}
use Rattle.sf_value.specs.declared.value.Ref.{Ref}
use Rattle.sf_value.proofs.Maps.{key_total, key_exact, ref_eq, ref_ties, keyed, find-keyed, find-insert_entry, tied_key, same_key}
use Rattle.program_meaning.specs.World.{State, Keys, reading, writing}
use Rattle.source_meaning.specs.Transactions.{with_records, keys_of, entities_of}

-- the first of two that is there
or_else : {A : Type 0} → Option A → Option A → Option A
or_else (Some x) o = Some x
or_else None o = o

cond_some : {A : Type 0} (b : Bool) (x : A) (o p : Option A) → cond b (Some x) (or_else o p) ≡ or_else (cond b (Some x) o) p
unfolding or_else
cond_some true x o p = refl
cond_some false x o p = refl

-- a record that was changed counts, and else that of the state
get_over : (s : State) (es : List (Ref × List Value)) (q : Key) → finite.get (with_records s es) q ≡ or_else (finite.find key_cmp q (keyed es)) (finite.get s q)
unfolding or_else
get_over s [] q = refl
get_over s (e ∷ es) q =
    finite.get-insert key_total (with_records s es) (key_of e.0) e.1 q
    ∙ ap (cond (eq_by_cmp key_cmp q (key_of e.0)) (Some e.1)) (get_over s es q)
    ∙ cond_some (eq_by_cmp key_cmp q (key_of e.0)) e.1 (finite.find key_cmp q (keyed es)) (finite.get s q)

pub changed_record : (s : State) (es : List (Ref × List Value)) (at : Ref) (fields : List Value) → lookup (ref_eq at) es ≡ Some fields → finite.get (with_records s es) (key_of at) ≡ Some fields
unfolding or_else
changed_record s es at fields is = get_over s es (key_of at) ∙ ap (λ o. or_else o (finite.get s (key_of at))) (find-keyed at es ∙ is)

pub kept_record : (s : State) (es : List (Ref × List Value)) (at : Ref) → lookup (ref_eq at) es ≡ None → finite.get (with_records s es) (key_of at) ≡ finite.get s (key_of at)
unfolding or_else
kept_record s es at is = get_over s es (key_of at) ∙ ap (λ o. or_else o (finite.get s (key_of at))) (find-keyed at es ∙ is)

pub ruleset record_laws = (changed_record, kept_record)

-- a record that is put counts
written : (s : State) (es : List (Ref × List Value)) (k : Ref) (v : List Value) → with_records s (insert_entry ref_eq es k v) ≡ finite.insert (with_records s es) (key_of k) v
unfolding or_else
written s es k v = finite.same_map key_total key_exact _ _ (λ q.
    get_over s (insert_entry ref_eq es k v) q
    ∙ ap (λ o. or_else o (finite.get s q)) (find-insert_entry k v es q)
    ∙ sym (cond_some (eq_by_cmp key_cmp q (key_of k)) v (finite.find key_cmp q (keyed es)) (finite.get s q))
    ∙ sym (finite.get-insert key_total (with_records s es) (key_of k) v q ∙ ap (cond (eq_by_cmp key_cmp q (key_of k)) (Some v)) (get_over s es q)))

or_again : (a b : Bool) → (a || (a || b)) ≡ (a || b)
or_again true b = refl
or_again false b = refl

or_swap : (a b c : Bool) → (a || (b || c)) ≡ (b || (a || c))
or_swap true true c = refl
or_swap true false c = refl
or_swap false b c = refl

-- an entity is among those of the entries where it was, or where it is put
among : (q : Key) (es : List (Ref × List Value)) (k : Ref) (v : List Value) → list_any (eq_by_cmp key_cmp q) (map key_of (entities_of (insert_entry ref_eq es k v))) ≡ (eq_by_cmp key_cmp q (key_of k) || list_any (eq_by_cmp key_cmp q) (map key_of (entities_of es)))
among q [] k v = refl
among q (e ∷ es) k v = by (ref_eq k e.0) refl (among q es k v)
  where
    rest : Bool
    rest = list_any (eq_by_cmp key_cmp q) (map key_of (entities_of es))

    by : (b : Bool) → ref_eq k e.0 ≡ b → list_any (eq_by_cmp key_cmp q) (map key_of (entities_of (insert_entry ref_eq es k v))) ≡ (eq_by_cmp key_cmp q (key_of k) || list_any (eq_by_cmp key_cmp q) (map key_of (entities_of es))) → list_any (eq_by_cmp key_cmp q) (map key_of (entities_of (cond b ((e.0, v) ∷ es) (e ∷ insert_entry ref_eq es k v)))) ≡ (eq_by_cmp key_cmp q (key_of k) || list_any (eq_by_cmp key_cmp q) (map key_of (entities_of (e ∷ es))))
    by true h later =
        sym (or_again (eq_by_cmp key_cmp q (key_of e.0)) (list_any (eq_by_cmp key_cmp q) (map key_of (entities_of es))))
        ∙ ap (λ key. eq_by_cmp key_cmp q key || (eq_by_cmp key_cmp q (key_of e.0) || list_any (eq_by_cmp key_cmp q) (map key_of (entities_of es)))) (sym (same_key k e.0 h))
    by false h later =
        ap (λ b. eq_by_cmp key_cmp q (key_of e.0) || b) later
        ∙ or_swap (eq_by_cmp key_cmp q (key_of e.0)) (eq_by_cmp key_cmp q (key_of k)) (list_any (eq_by_cmp key_cmp q) (map key_of (entities_of es)))

now_written : (es : List (Ref × List Value)) (k : Ref) (v : List Value) → keys_of (entities_of (insert_entry ref_eq es k v)) ≡ set.insert (keys_of (entities_of es)) (key_of k)
now_written es k v = set.same_set key_total key_exact _ _ (λ q.
    set.contains-from_list key_total (map key_of (entities_of (insert_entry ref_eq es k v))) q
    ∙ among q es k v
    ∙ sym (set.contains-insert key_total (keys_of (entities_of es)) (key_of k) q ∙ ap (λ b. eq_by_cmp key_cmp q (key_of k) || b) (set.contains-from_list key_total (map key_of (entities_of es)) q)))

-- the world after a record is put
pub world_written : (s : State) (reads : Keys) (es more : List (Ref × List Value)) (k : Ref) (v : List Value) → more ≡ insert_entry ref_eq es k v
    → record { state = with_records s more; reads = reads; writes = keys_of (entities_of more) } ≡ writing (record { state = with_records s es; reads = reads; writes = keys_of (entities_of es) }) (key_of k) v
world_written s reads es more k v is =
    ap (λ l. record { state = with_records s l; reads = reads; writes = keys_of (entities_of l) }) is
    ∙ (λ i. record { state = written s es k v i; reads = reads; writes = now_written es k v i })

any_by_key : (k : Ref) (refs : List Ref) → list_any (ref_eq k) refs ≡ list_any (eq_by_cmp key_cmp (key_of k)) (map key_of refs)
any_by_key k [] = refl
any_by_key k (r ∷ refs) = λ i. ref_ties k r i || any_by_key k refs i

already : (a b : Bool) → (a ≡ true → b ≡ true) → b ≡ (a || b)
already true b h = h refl
already false b h = refl

now_read : (refs : List Ref) (k : Ref) → keys_of (insert_key ref_eq refs k) ≡ set.insert (keys_of refs) (key_of k)
now_read refs k = by (list_any (ref_eq k) refs) refl
  where
    by : (b : Bool) → list_any (ref_eq k) refs ≡ b → keys_of (if b then refs else (refs ++ k ∷ [])) ≡ set.insert (keys_of refs) (key_of k)
    by true h = set.same_set key_total key_exact _ _ (λ q.
        already (eq_by_cmp key_cmp q (key_of k)) (set.contains (keys_of refs) q) (λ same. ap (set.contains (keys_of refs)) (tied_key q (key_of k) same) ∙ set.contains-from_list key_total (map key_of refs) (key_of k) ∙ sym (any_by_key k refs) ∙ h)
        ∙ sym (set.contains-insert key_total (keys_of refs) (key_of k) q))
    by false h = ap set.from_list (map-append key_of refs (k ∷ [])) ∙ set.from_list_push key_total key_exact (map key_of refs) (key_of k)

-- the world after an entity is read
pub world_read : (s : State) (writes : Keys) (es more : List (Ref × ⊤)) (k : Ref) → more ≡ insert_entry ref_eq es k tt
    → record { state = s; reads = keys_of (refs_of more); writes = writes } ≡ reading (record { state = s; reads = keys_of (refs_of es); writes = writes }) (key_of k)
world_read s writes es more k is =
    let refs : refs_of more ≡ insert_key ref_eq (refs_of es) k = ap refs_of is ∙ keys_insert_entry ref_eq es k tt in
    ap (λ l. record { state = s; reads = keys_of l; writes = writes }) refs ∙ (λ i. record { state = s; reads = now_read (refs_of es) k i; writes = writes })

some_or : {A : Type 0} (b : Bool) (x : A) (o : Option A) (c : Bool) → is_some o ≡ c → is_some (cond b (Some x) o) ≡ (b || c)
some_or true x o c same = refl
some_or false x o c same = same

some_among : (es : List (Ref × List Value)) (at : Ref) → is_some (lookup (ref_eq at) es) ≡ list_any (ref_eq at) (entities_of es)
some_among [] at = refl
some_among (e ∷ es) at = some_or (ref_eq at e.0) e.1 (lookup (ref_eq at) es) (list_any (ref_eq at) (entities_of es)) (some_among es at)

-- an entity has a changed record where it is among those written
pub is_written : (es : List (Ref × List Value)) (at : Ref) (o : Option (List Value)) → o ≡ lookup (ref_eq at) es → is_some o ≡ set.contains (keys_of (entities_of es)) (key_of at)
is_written es at o is = ap is_some is ∙ some_among es at ∙ any_by_key at (entities_of es) ∙ sym (set.contains-from_list key_total (map key_of (entities_of es)) (key_of at))

pub written_record : (s : State) (es : List (Ref × List Value)) (at : Ref) (o : Option (List Value)) → o ≡ lookup (ref_eq at) es → IfSome o (λ fields. finite.get (with_records s es) (key_of at) ≡ Some fields)
written_record s es at None is = tt
written_record s es at (Some fields) is = changed_record s es at fields (sym is)
