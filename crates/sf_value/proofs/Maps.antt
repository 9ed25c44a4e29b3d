-- The entries of a table under entities, as a finite map under their keys.
use Rattle.std.proofs.Common.{◌≡◌, Bool, true, false, cond, ◌&&◌, nat_eq, List, [], ◌∷◌, map as over, Some, refl, sym, ap, ◌∙◌, true≢false}
use Rattle.std.specs.declared.cmp.Ordering.{Ordering}
use Rattle.std.specs.declared.cmp.Ordering.TheVariants.{Less, Equal, Greater}
use Rattle.std.specs.Ordering.{nat_cmp, eq_by_cmp, is_eq, ordering_then}
use Rattle.std.specs.Cmp.{IsTotalOrder, nat_cmp_total, then_total, on_total, unsigned_ties, eq_by_cmp_equiv}
use Rattle.std.specs.Cmp.Lexicographic.{slice_cmp, nat_list_cmp_total, pointwise, texts_ties}
use Rattle.std.specs.Map.{lookup}
use Rattle.std.specs.FinMap.{IsAntisymmetric, find, get, insert, from_entries, get-from_entries, get-insert, same_map}
use Rattle.std.proofs.lemmas.Map.Lookups.{exact_pairs, exact_unsigned, exact_bytes}
use Rattle.indexmap.specs.IndexMap.{insert_entry}
use Rattle.sf_value.specs.Keys.{Key, key_cmp, key_of}
use Rattle.sf_value.specs.declared.value.Ref.{Ref}

pub key_total : IsTotalOrder key_cmp
key_total = then_total (on_total (λ (x : Key). x.0) nat_cmp_total) (on_total (λ (x : Key). x.1) nat_list_cmp_total)

pub key_exact : IsAntisymmetric key_cmp
key_exact = exact_pairs nat_cmp (slice_cmp nat_cmp) exact_unsigned exact_bytes

-- what `==` answers on entities
abbrev pub ref_eq : Ref → Ref → Bool
ref_eq a b = nat_eq a.class b.class && pointwise nat_eq a.key b.key

both_equal : (r s : Ordering) → (is_eq r && is_eq s) ≡ is_eq (ordering_then r s)
both_equal Less s = refl
both_equal Equal s = refl
both_equal Greater s = refl

is_equal : (r : Ordering) → is_eq r ≡ true → r ≡ Equal
is_equal Less h = absurd (true≢false (sym h))
is_equal Equal h = refl
is_equal Greater h = absurd (true≢false (sym h))

shadowed : {A : Type 0} (b : Bool) (x y z : A) → cond b x z ≡ cond b x (cond b y z)
shadowed true x y z = refl
shadowed false x y z = refl

pub swapped : {A : Type 0} (a b : Bool) (x y z : A) → (a ≡ true → b ≡ true → ⊥) → cond a x (cond b y z) ≡ cond b y (cond a x z)
swapped true true x y z apart = absurd (apart refl refl)
swapped true false x y z apart = refl
swapped false b x y z apart = refl

-- two entities are equal exactly where their keys tie
pub ref_ties : (a b : Ref) → ref_eq a b ≡ eq_by_cmp key_cmp (key_of a) (key_of b)
ref_ties a b = (λ i. unsigned_ties a.class b.class i && texts_ties a.key b.key i) ∙ both_equal _ _

pub tied_key : (x y : Key) → eq_by_cmp key_cmp x y ≡ true → x ≡ y
tied_key x y h = key_exact x y (is_equal (key_cmp x y) h)

pub tied_refl : (a b : Ref) → key_of a ≡ key_of b → ref_eq a b ≡ true
tied_refl a b same = ref_ties a b ∙ ap (λ key. eq_by_cmp key_cmp key (key_of b)) same ∙ (eq_by_cmp_equiv key_total).refl (key_of b)

pub same_key : (a b : Ref) → ref_eq a b ≡ true → key_of a ≡ key_of b
same_key a b h = tied_key _ _ (sym (ref_ties a b) ∙ h)

abbrev pub keyed : {X : Type 0} → List (Ref × X) → List (Key × X)
keyed {X} es = over (λ (e : Ref × X). (key_of e.0, e.1)) es

pub find-keyed : {X : Type 0} (q : Ref) (es : List (Ref × X)) → find key_cmp (key_of q) (keyed es) ≡ lookup (ref_eq q) es
find-keyed q [] = refl
find-keyed q (e ∷ es) = λ i. cond (sym (ref_ties q e.0) i) (Some e.1) (find-keyed q es i)

-- what the table answers is what the map answers
pub get-keyed : {X : Type 0} (es : List (Ref × X)) (q : Ref) → get (from_entries {R = key_cmp} (keyed es)) (key_of q) ≡ lookup (ref_eq q) es
get-keyed es q = get-from_entries key_total (keyed es) (key_of q) ∙ find-keyed q es

pub find-insert_entry : {X : Type 0} (k : Ref) (v : X) (es : List (Ref × X)) (q : Key) → find key_cmp q (keyed (insert_entry ref_eq es k v)) ≡ cond (eq_by_cmp key_cmp q (key_of k)) (Some v) (find key_cmp q (keyed es))
find-insert_entry k v [] q = refl
find-insert_entry k v (e ∷ es) q = by (ref_eq k e.0) refl (find-insert_entry k v es q)
  where
    by : (b : Bool) → ref_eq k e.0 ≡ b → find key_cmp q (keyed (insert_entry ref_eq es k v)) ≡ cond (eq_by_cmp key_cmp q (key_of k)) (Some v) (find key_cmp q (keyed es)) → find key_cmp q (keyed (cond b ((e.0, v) ∷ es) (e ∷ insert_entry ref_eq es k v))) ≡ cond (eq_by_cmp key_cmp q (key_of k)) (Some v) (find key_cmp q (keyed (e ∷ es)))
    by true h later =
        ap (λ key. cond (eq_by_cmp key_cmp q key) (Some v) (find key_cmp q (keyed es))) (sym (same_key k e.0 h))
        ∙ shadowed (eq_by_cmp key_cmp q (key_of k)) (Some v) (Some e.1) (find key_cmp q (keyed es))
        ∙ ap (λ key. cond (eq_by_cmp key_cmp q (key_of k)) (Some v) (cond (eq_by_cmp key_cmp q key) (Some e.1) (find key_cmp q (keyed es)))) (same_key k e.0 h)
    by false h later =
        ap (cond (eq_by_cmp key_cmp q (key_of e.0)) (Some e.1)) later
        ∙ swapped (eq_by_cmp key_cmp q (key_of e.0)) (eq_by_cmp key_cmp q (key_of k)) (Some e.1) (Some v) (find key_cmp q (keyed es)) (λ a b. true≢false (sym (tied_refl k e.0 (sym (tied_key q (key_of k) b) ∙ tied_key q (key_of e.0) a)) ∙ h))

-- a write to the table is a write to the map
pub insert-keyed : {X : Type 0} (es : List (Ref × X)) (k : Ref) (v : X) → from_entries {R = key_cmp} (keyed (insert_entry ref_eq es k v)) ≡ insert (from_entries (keyed es)) (key_of k) v
insert-keyed es k v = same_map key_total key_exact _ _ (λ q.
    get-from_entries key_total _ q ∙ find-insert_entry k v es q
    ∙ sym (get-insert key_total (from_entries (keyed es)) (key_of k) v q ∙ ap (cond (eq_by_cmp key_cmp q (key_of k)) (Some v)) (get-from_entries key_total (keyed es) q)))

-- a key says which entity it is
pub ref_of_key : (a b : Ref) → key_of a ≡ key_of b → a ≡ b
ref_of_key a b same = λ i. record { class = (same i).0; key = (same i).1 }
