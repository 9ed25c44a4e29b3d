-- The columns that the code keeps are the open ones.
use Rattle.std.proofs.Common.{◌≡◌, ◌≢◌, ◌⊎◌, ℕ, ◌+◌, ◌-◌, ◌<◌, ◌≤◌, true, false, List, [], ◌∷◌, ◌++◌, length, take, get_or, refl, sym, ap, subst, ◌∙◌, arith, length-take}
use mathlib.Core.Logic.{inl, inr}
use Rattle.std.specs.Prelude.{nat_lt}
use Rattle.std.specs.List.{prefix_len}
use Rattle.std.proofs.lemmas.Bool.{ltb-true, ltb-false}
use Rattle.std.proofs.lemmas.Bool.Decides.{nat_tests}
use Rattle.std.proofs.lemmas.List.{length-append, get_or_append_left, get_or-take}
use Rattle.std.proofs.Math.Seq.{get_or-append_seam}
use Rattle.std.proofs.lemmas.List.Sums.{prefix_len-le-length, prefix_len_passes, prefix_len_stops}
use Rattle.py_lexer.specs.Columns.{HasSince, IsBadDedent}
use Rattle.py_lexer.specs.OpenColumns.{outer, stands_among, is_bad_dedent, opened, AreOpen}
use Rattle.py_lexer.proofs.Runs.{run_len}

true_is_no_false : true ≡ false → ⊥
true_is_no_false e = cc

-- as many are less deep as stand before the first that isn't
outer_is : (c : ℕ) (kept : List ℕ) → outer c kept ≡ prefix_len (λ x. nat_lt x c) kept
outer_is c kept = run_len (λ x. nat_lt x c) kept

outer-le : (c : ℕ) (kept : List ℕ) → outer c kept ≤ length kept
outer-le c kept = rw (outer_is c kept) (prefix_len-le-length (λ x. nat_lt x c) kept)

below : (c i : ℕ) (kept : List ℕ) → i < outer c kept → get_or kept i 0 < c
below c i kept lt = ltb-true (get_or kept i 0) c (prefix_len_passes (λ x. nat_lt x c) kept i 0 (subst (λ n. i < n) (outer_is c kept) lt))

no_less : (c : ℕ) (kept : List ℕ) → outer c kept < length kept → c ≤ get_or kept (outer c kept) 0
no_less c kept lt =
    let n = outer_is c kept in
    let stop : nat_lt (get_or kept (outer c kept) 0) c ≡ false = subst (λ k. nat_lt (get_or kept k 0) c ≡ false) (sym n) (prefix_len_stops (λ x. nat_lt x c) kept 0 (subst (λ k. k < length kept) n lt)) in
    ltb-false (get_or kept (outer c kept) 0) c stop

tells-bad : (c : ℕ) (kept : List ℕ) → is_bad_dedent c kept ≡ true → (c < get_or kept (length kept - 1) 0) × (c ≢ 0) × (stands_among c kept ≡ false)
tells-bad c kept e = grind (arith, nat_tests)

tells-good : (c : ℕ) (kept : List ℕ) → is_bad_dedent c kept ≡ false → c < get_or kept (length kept - 1) 0 → c ≢ 0 → stands_among c kept ≡ true
tells-good c kept e d n = grind (arith, nat_tests)

stands : (c : ℕ) (kept : List ℕ) → stands_among c kept ≡ true → (outer c kept < length kept) × (get_or kept (outer c kept) 0 ≡ c)
stands c kept e = grind (arith, nat_tests)

stands-back : (c : ℕ) (kept : List ℕ) → outer c kept < length kept → get_or kept (outer c kept) 0 ≡ c → stands_among c kept ≡ true
stands-back c kept lt e = grind (arith, nat_tests)

-- a column that is kept is the first that is no less deep
found_at : (c i : ℕ) (kept before : List ℕ) → AreOpen kept before → i < length kept → get_or kept i 0 ≡ c → outer c kept ≡ i
found_at c i kept before o lt e =
    let not_before : (i < outer c kept → ⊥) = λ w. omega (arith, below c i kept w, e) in
    let within : outer c kept < length kept = omega (arith, not_before) in
    let not_behind : (outer c kept < i → ⊥) = λ w. omega (arith, no_less c kept within, o.rising (outer c kept) i w lt, e) in
    omega (arith, not_before, not_behind)

pub bad_is : (c : ℕ) (kept before : List ℕ) → AreOpen kept before → is_bad_dedent c kept ≡ true → IsBadDedent c before
bad_is c kept before o e =
    let t = tells-bad c kept e in
    record {
      deeper = subst (λ n. c < n) o.last t.0;
      closed = λ open_so. elim open_so as (λ _. ⊥) [
        | inl zero_is ↦ t.1 zero_is
        | inr since ↦
            let at = o.complete c since in
            let i = found_at c at.0 kept before o at.1 at.2 in
            true_is_no_false (sym (stands-back c kept (subst (λ k. k < length kept) (sym i) at.1) (subst (λ k. get_or kept k 0 ≡ c) (sym i) at.2)) ∙ t.2)
      ];
    }

pub good_is : (c : ℕ) (kept before : List ℕ) → AreOpen kept before → is_bad_dedent c kept ≡ false → IsBadDedent c before → ⊥
good_is c kept before o e d =
    let s = stands c kept (tells-good c kept e (subst (λ n. c < n) (sym o.last) d.deeper) (λ z. d.closed (inl z))) in
    d.closed (inr (subst (λ x. HasSince x before) s.1 (o.sound (outer c kept) s.0)))

pub none_open : AreOpen [] []
none_open = record {
  last = refl;
  rising = λ i j lt within. absurd (omega (arith, within));
  sound = λ i within. absurd (omega (arith, within));
  complete = λ c since. absurd (omega (arith, since.earlier));
}

-- a line at this column is behind the others
new_len : (c : ℕ) (kept : List ℕ) → length (opened c kept) ≡ outer c kept + 1
new_len c kept = omega (arith, length-append (take (outer c kept) kept) (c ∷ []), length-take (outer c kept) kept, outer-le c kept)

old_at : (c i : ℕ) (kept : List ℕ) → i < outer c kept → get_or (opened c kept) i 0 ≡ get_or kept i 0
old_at c i kept lt = get_or_append_left (take (outer c kept) kept) (c ∷ []) 0 i (omega (arith, length-take (outer c kept) kept, outer-le c kept)) ∙ get_or-take (outer c kept) kept i 0 lt

new_at : (c : ℕ) (kept : List ℕ) → get_or (opened c kept) (outer c kept) 0 ≡ c
new_at c kept =
    let n : length (take (outer c kept) kept) ≡ outer c kept = omega (arith, length-take (outer c kept) kept, outer-le c kept) in
    subst (λ k. get_or (opened c kept) k 0 ≡ c) n (get_or-append_seam (take (outer c kept) kept) c [] 0)

last_of : (c : ℕ) (before : List ℕ) → get_or (before ++ c ∷ []) (length before) 0 ≡ c
last_of c before = get_or-append_seam before c [] 0

-- a line here is the last, or stands before
is_last : (later : ℕ) (c : ℕ) (before : List ℕ) → later < length (before ++ c ∷ []) → (later < length before) ⊎ (later ≡ length before)
is_last later c before within = grind (arith, length-append before (c ∷ []))

still-no_less : (x c later : ℕ) (before : List ℕ) → (later < length before → x ≤ get_or before later 0) → x ≤ c → later < length (before ++ c ∷ []) → x ≤ get_or (before ++ c ∷ []) later 0
still-no_less x c later before h le within = elim (is_last later c before within) as (λ _. x ≤ get_or (before ++ c ∷ []) later 0) [
  | inl lt ↦ rw (get_or_append_left before (c ∷ []) 0 later lt) (h lt)
  | inr same ↦ subst (λ k. x ≤ get_or (before ++ c ∷ []) k 0) (sym same) (rw (last_of c before) le)
]

since_more : (x c : ℕ) (before : List ℕ) → HasSince x before → x ≤ c → HasSince x (before ++ c ∷ [])
since_more x c before h le = record {
  line = h.line;
  earlier = omega (arith, h.earlier, length-append before (c ∷ []));
  has = get_or_append_left before (c ∷ []) 0 h.line h.earlier ∙ h.has;
  since = λ later from within. still-no_less x c later before (h.since later from) le within;
}

since_now : (c : ℕ) (before : List ℕ) → HasSince c (before ++ c ∷ [])
since_now c before = record {
  line = length before;
  earlier = omega (arith, length-append before (c ∷ []));
  has = last_of c before;
  since = λ later from within. still-no_less c c later before (λ lt. absurd (omega (arith, lt, from))) (omega arith) within;
}

-- what was open before, or the new one
since_before : (x c : ℕ) (before : List ℕ) → HasSince x (before ++ c ∷ []) → (HasSince x before × (x ≤ c)) ⊎ (x ≡ c)
since_before x c before h = elim (is_last h.line c before h.earlier) as (λ _. (HasSince x before × (x ≤ c)) ⊎ (x ≡ c)) [
  | inl lt ↦ inl (
    record {
      line = h.line;
      earlier = lt;
      has = sym (get_or_append_left before (c ∷ []) 0 h.line lt) ∙ h.has;
      since = λ later from within. subst (λ n. x ≤ n) (get_or_append_left before (c ∷ []) 0 later within) (h.since later from (omega (arith, within, length-append before (c ∷ []))));
    },
    subst (λ n. x ≤ n) (last_of c before) (h.since (length before) (omega (arith, lt)) (omega (arith, length-append before (c ∷ [])))),
  )
  | inr same ↦ inr (sym h.has ∙ (ap (λ k. get_or (before ++ c ∷ []) k 0) same ∙ last_of c before))
]

-- a place among the new columns is the last, or an old one
is_new : (i c : ℕ) (kept : List ℕ) → i < length (opened c kept) → (i < outer c kept) ⊎ (i ≡ outer c kept)
is_new i c kept within = grind (arith, new_len c kept)

opened-rising : (c : ℕ) (kept before : List ℕ) → AreOpen kept before → (i j : ℕ) → i < j → j < length (opened c kept) → get_or (opened c kept) i 0 < get_or (opened c kept) j 0
opened-rising c kept before o i j lt within =
    let i_old : i < outer c kept = omega (arith, lt, within, new_len c kept) in
    elim (is_new j c kept within) as (λ _. get_or (opened c kept) i 0 < get_or (opened c kept) j 0) [
      | inl j_old ↦ rw (old_at c i kept i_old) (rw (old_at c j kept j_old) (o.rising i j lt (omega (arith, j_old, outer-le c kept))))
      | inr same ↦ rw (old_at c i kept i_old) (subst (λ k. get_or kept i 0 < get_or (opened c kept) k 0) (sym same) (rw (new_at c kept) (below c i kept i_old)))
    ]

opened-sound : (c : ℕ) (kept before : List ℕ) → AreOpen kept before → (i : ℕ) → i < length (opened c kept) → HasSince (get_or (opened c kept) i 0) (before ++ c ∷ [])
opened-sound c kept before o i within = elim (is_new i c kept within) as (λ _. HasSince (get_or (opened c kept) i 0) (before ++ c ∷ [])) [
  | inl old ↦ rw (old_at c i kept old) (since_more (get_or kept i 0) c before (o.sound i (omega (arith, old, outer-le c kept))) (omega (arith, below c i kept old)))
  | inr same ↦ subst (λ k. HasSince (get_or (opened c kept) k 0) (before ++ c ∷ [])) (sym same) (rw (new_at c kept) (since_now c before))
]

Stands : ℕ → List ℕ → Type 0
Stands x kept = (i : ℕ) × (i < length kept) × (get_or kept i 0 ≡ x)

stands_last : (c : ℕ) (kept : List ℕ) → Stands c (opened c kept)
unfolding Stands
stands_last c kept = (outer c kept, omega (arith, new_len c kept), new_at c kept)

-- a smaller column stands before the first that is no less deep
by_place : (x c : ℕ) (kept before : List ℕ) → AreOpen kept before → (i : ℕ) → i < length kept → get_or kept i 0 ≡ x → x < c → i < outer c kept
by_place x c kept before o i within e lt =
    let not_behind : (outer c kept ≤ i → ⊥) = λ le.
    let first : outer c kept < length kept = omega (arith, le, within) in
    let same : (outer c kept ≡ i → ⊥) = λ q. omega (arith, no_less c kept first, ap (λ k. get_or kept k 0) q, e, lt) in
    omega (arith, no_less c kept first, o.rising (outer c kept) i (omega (arith, le, same)) within, e, lt) in
    omega (arith, not_behind)

less_or_same : (x c : ℕ) → x ≤ c → (x < c) ⊎ (x ≡ c)
less_or_same x c le = grind arith

stands_still : (x c : ℕ) (kept before : List ℕ) → AreOpen kept before → HasSince x before → x < c → Stands x (opened c kept)
unfolding Stands
stands_still x c kept before o h lt =
    let at = o.complete x h in
    let old : at.0 < outer c kept = by_place x c kept before o at.0 at.1 at.2 lt in
    (at.0, omega (arith, old, new_len c kept), old_at c at.0 kept old ∙ at.2)

opened-complete : (c : ℕ) (kept before : List ℕ) → AreOpen kept before → (x : ℕ) → HasSince x (before ++ c ∷ []) → Stands x (opened c kept)
opened-complete c kept before o x h = elim (since_before x c before h) as (λ _. Stands x (opened c kept)) [
  | inl old ↦ elim (less_or_same x c old.1) as (λ _. Stands x (opened c kept)) [
    | inl lt ↦ stands_still x c kept before o old.0 lt
    | inr same ↦ subst (λ k. Stands k (opened c kept)) (sym same) (stands_last c kept)
  ]
  | inr same ↦ subst (λ k. Stands k (opened c kept)) (sym same) (stands_last c kept)
]

pub opens : (c : ℕ) (kept before : List ℕ) → AreOpen kept before → AreOpen (opened c kept) (before ++ c ∷ [])
unfolding Stands
opens c kept before o =
    let kept_last : length (opened c kept) - 1 ≡ outer c kept = omega (arith, new_len c kept) in
    let before_last : length before ≡ length (before ++ c ∷ []) - 1 = omega (arith, length-append before (c ∷ [])) in
    record {
      last = ap (λ n. get_or (opened c kept) n 0) kept_last ∙ (new_at c kept ∙ (sym (last_of c before) ∙ ap (λ n. get_or (before ++ c ∷ []) n 0) before_last));
      rising = opened-rising c kept before o;
      sound = opened-sound c kept before o;
      complete = opened-complete c kept before o;
    }
