-- A step of one part is a step of its own run, and one note.
use Rattle.std.proofs.Common.{◌≡◌, ℕ, zero, suc, arith, ◌+◌, ◌≤◌, ◌<◌, ◌%◌, Bool, true, false, cond, List, [], ◌∷◌, ◌++◌, length, map, refl, sym, ap, ◌∙◌, subst, length-append, true≢false}
use Rattle.std.specs.Prelude.{if◌then◌else◌}
use Rattle.std.proofs.Math.Nat.{mod-lt}
use Rattle.interleaving.specs.Turns.{Parts, running, here_or, stepped, noted, turned, told, after, along}
use Rattle.interleaving.specs.AsAlone.{sum_of, Alone, Ends, EachEnds, lasts, total, counted, AreAsAlone, AllComeToTheirOwn}

sum_of_more : {A : Type 0} (f : A → ℕ) (xs ys : List A) → sum_of f (xs ++ ys) ≡ sum_of f xs + sum_of f ys
unfolding sum_of
sum_of_more f [] ys = omega arith
sum_of_more f (x ∷ xs) ys = let rest : sum_of f (xs ++ ys) ≡ sum_of f xs + sum_of f ys = sum_of_more f xs ys in omega (arith, rest)

no_sum : {A : Type 0} (f : A → ℕ) → sum_of f [] ≡ 0
unfolding sum_of
no_sum f = refl

-- of one item more
one_sum : {A : Type 0} (f : A → ℕ) (x : A) (xs : List A) → sum_of f (x ∷ xs) ≡ f x + sum_of f xs
unfolding sum_of
one_sum f x xs = refl

module _ {T N : Type 0} (m : Parts T N) where
  -- what is left after one step that was noted, or after none
  record Steps (ts : List T) (notes : List N) (rs : List (Alone T N)) : Type 0 where
    left : List (Alone T N)
    each : EachEnds m ts left
    same : lasts m left ≡ lasts m rs
    fewer : length notes + total m left ≡ total m rs
    kinds : (f : N → ℕ) → sum_of f notes + counted m f left ≡ counted m f rs

  -- the others, behind a part that took no step
  behind : (t : T) (r : Alone T N) (ts : List T) (notes : List N) (rs : List (Alone T N)) → Ends m t r.notes r.last → Steps ts notes rs → Steps (t ∷ ts) notes (r ∷ rs)
  behind t r ts notes rs own s =
      let few : length notes + total m s.left ≡ total m rs = s.fewer in
      record {
        left = r ∷ s.left;
        each = (own, s.each);
        same = ap (λ xs. r.last ∷ xs) s.same;
        fewer =
            let a : total m (r ∷ s.left) ≡ length r.notes + total m s.left = one_sum (λ (r : Alone T N). length r.notes) r s.left in
            let b : total m (r ∷ rs) ≡ length r.notes + total m rs = one_sum (λ (r : Alone T N). length r.notes) r rs in
            omega (arith, few, a, b);
        kinds = λ f.
            let k : sum_of f notes + counted m f s.left ≡ counted m f rs = s.kinds f in
            let a : counted m f (r ∷ s.left) ≡ sum_of f r.notes + counted m f s.left = one_sum (λ (r : Alone T N). sum_of f r.notes) r s.left in
            let b : counted m f (r ∷ rs) ≡ sum_of f r.notes + counted m f rs = one_sum (λ (r : Alone T N). sum_of f r.notes) r rs in
            omega (arith, k, a, b);
      }

  -- a part that is over comes to itself, without a step
  none_left : (t : T) (r : Alone T N) → m.is_over t ≡ true → Ends m t r.notes r.last → (r.notes ≡ []) × (t ≡ r.last)
  none_left t r over own = by r.notes refl own
    where
      by : (ns : List N) → r.notes ≡ ns → Ends m t ns r.last → (ns ≡ []) × (t ≡ r.last)
      by [] is e = (refl, e.1)
      by (n ∷ ns) is e = absurd (true≢false (sym over ∙ e.0))

  -- one step of a part that runs
  first : (t : T) (r : Alone T N) (ts : List T) (rs : List (Alone T N)) → m.is_over t ≡ false → Ends m t r.notes r.last → EachEnds m ts rs → Steps (m.step t ∷ ts) (m.note t ∷ []) (r ∷ rs)
  first t r ts rs runs own others = by r.notes refl own
    where
      by : (ns : List N) → r.notes ≡ ns → Ends m t ns r.last → Steps (m.step t ∷ ts) (m.note t ∷ []) (r ∷ rs)
      by [] is e = absurd (true≢false (sym e.0 ∙ runs))
      by (n ∷ ns) is e =
          let count : length r.notes ≡ suc (length ns) = ap length is in
          record {
            left = record { notes = ns; last = r.last } ∷ rs;
            each = (e.2, others);
            same = refl;
            fewer =
                let left : Alone T N = record { notes = ns; last = r.last } in
                let a : total m (left ∷ rs) ≡ length ns + total m rs = one_sum (λ (r : Alone T N). length r.notes) left rs in
                let b : total m (r ∷ rs) ≡ length r.notes + total m rs = one_sum (λ (r : Alone T N). length r.notes) r rs in
                omega (arith, count, a, b);
            kinds = λ f.
                let left : Alone T N = record { notes = ns; last = r.last } in
                let sums : sum_of f r.notes ≡ f n + sum_of f ns = ap (sum_of f) is ∙ one_sum f n ns in
                let noted : sum_of f (m.note t ∷ []) ≡ f (m.note t) + sum_of f [] = one_sum f (m.note t) [] in
                let nothing : sum_of f [] ≡ 0 = no_sum f in
                let one : f (m.note t) ≡ f n = ap f e.1 in
                let a : counted m f (left ∷ rs) ≡ sum_of f ns + counted m f rs = one_sum (λ (r : Alone T N). sum_of f r.notes) left rs in
                let b : counted m f (r ∷ rs) ≡ sum_of f r.notes + counted m f rs = one_sum (λ (r : Alone T N). sum_of f r.notes) r rs in
                omega (arith, sums, noted, nothing, one, a, b);
          }

  steps : (ts : List T) (rs : List (Alone T N)) (k : ℕ) → EachEnds m ts rs → k < running m ts → Steps (stepped m k ts) (noted m k ts) rs
  unfolding running stepped noted
  steps [] rs k each within = absurd (omega (arith, within))
  steps (t ∷ ts) [] k each within = absurd each
  steps (t ∷ ts) (r ∷ rs) k each within = by (m.is_over t) refl k within (λ j less. steps ts rs j each.1 less)
    where
      by : (b : Bool) → m.is_over t ≡ b → (k : ℕ) → k < (if b then running m ts else suc (running m ts)) → ((j : ℕ) → j < running m ts → Steps (stepped m j ts) (noted m j ts) rs)
          → Steps (if b then t ∷ stepped m k ts else here_or m k (m.step t ∷ ts) (λ j. t ∷ stepped m j ts)) (if b then noted m k ts else here_or m k (m.note t ∷ []) (λ j. noted m j ts)) (r ∷ rs)
      by true is k less rest = behind t r (stepped m k ts) (noted m k ts) rs each.0 (rest k less)
      by false is zero less rest = first t r ts rs is each.0 each.1
      by false is (suc j) less rest = behind t r (stepped m j ts) (noted m j ts) rs each.0 (rest j (omega (arith, less)))

  -- where none runs, nothing happens, and all are what they come to
  rests : (ts : List T) (rs : List (Alone T N)) → EachEnds m ts rs → running m ts ≡ 0 → (ts ≡ lasts m rs) × (total m rs ≡ 0) × ((f : N → ℕ) → counted m f rs ≡ 0)
  unfolding running
  rests [] [] each none = (refl, no_sum _, λ f. no_sum _)
  rests [] (r ∷ rs) each none = absurd each
  rests (t ∷ ts) [] each none = absurd each
  rests (t ∷ ts) (r ∷ rs) each none = by (m.is_over t) refl none (λ none. rests ts rs each.1 none)
    where
      by : (b : Bool) → m.is_over t ≡ b → (if b then running m ts else suc (running m ts)) ≡ 0 → (running m ts ≡ 0 → (ts ≡ lasts m rs) × (total m rs ≡ 0) × ((f : N → ℕ) → counted m f rs ≡ 0))
          → (t ∷ ts ≡ lasts m (r ∷ rs)) × (total m (r ∷ rs) ≡ 0) × ((f : N → ℕ) → counted m f (r ∷ rs) ≡ 0)
      by true is none rest =
          let o : (r.notes ≡ []) × (t ≡ r.last) = none_left t r is each.0 in
          let q : (ts ≡ lasts m rs) × (total m rs ≡ 0) × ((f : N → ℕ) → counted m f rs ≡ 0) = rest none in
          let no_steps : length r.notes ≡ 0 = ap length o.0 in
          let no_more : total m rs ≡ 0 = q.1 in
          let a : total m (r ∷ rs) ≡ length r.notes + total m rs = one_sum (λ (r : Alone T N). length r.notes) r rs in (
            (λ i. o.1 i ∷ q.0 i),
            omega (arith, no_steps, no_more, a),
            λ f.
                let none : sum_of f r.notes ≡ 0 = ap (sum_of f) o.0 ∙ no_sum f in
                let others : counted m f rs ≡ 0 = q.2 f in
                let b : counted m f (r ∷ rs) ≡ sum_of f r.notes + counted m f rs = one_sum (λ (r : Alone T N). sum_of f r.notes) r rs in
                omega (arith, none, others, b),
          )
      by false is none rest = absurd (omega (arith, none))

  stays : (ts : List T) (k : ℕ) → running m ts ≡ 0 → (stepped m k ts ≡ ts) × (noted m k ts ≡ [])
  unfolding running stepped noted
  stays [] k none = (refl, refl)
  stays (t ∷ ts) k none = by (m.is_over t) none (λ none. stays ts k none)
    where
      by : (b : Bool) → (if b then running m ts else suc (running m ts)) ≡ 0 → (running m ts ≡ 0 → (stepped m k ts ≡ ts) × (noted m k ts ≡ []))
          → ((if b then t ∷ stepped m k ts else here_or m k (m.step t ∷ ts) (λ j. t ∷ stepped m j ts)) ≡ t ∷ ts) × ((if b then noted m k ts else here_or m k (m.note t ∷ []) (λ j. noted m j ts)) ≡ [])
      by true none rest = let q : (stepped m k ts ≡ ts) × (noted m k ts ≡ []) = rest none in (ap (λ xs. t ∷ xs) q.0, q.1)
      by false none rest = absurd (omega (arith, none))

  -- one pick: a step, and fewer are left; or nothing, where none runs
  pick : (p : ℕ) (ts : List T) (rs : List (Alone T N)) → EachEnds m ts rs → Steps (turned m p ts) (told m p ts) rs
  pick p ts rs each = by (running m ts) refl
    where
      by : (n : ℕ) → running m ts ≡ n → Steps (turned m p ts) (told m p ts) rs
      by zero none =
          let s : (stepped m (p % running m ts) ts ≡ ts) × (noted m (p % running m ts) ts ≡ []) = stays ts (p % running m ts) none in
          let no_note : length (noted m (p % running m ts) ts) ≡ 0 = ap length s.1 in
          record {
            left = rs;
            each = subst (λ us. EachEnds m us rs) (sym s.0) each;
            same = refl;
            fewer = omega (arith, no_note);
            kinds = λ f. let none : sum_of f (noted m (p % running m ts) ts) ≡ 0 = ap (sum_of f) s.1 ∙ no_sum f in omega (arith, none);
          }
      by (suc n) some = let positive : 0 < running m ts = omega (arith, some) in steps ts rs (p % running m ts) each (mod-lt p positive)

  -- all picks
  picks_step : (ps : List ℕ) (ts : List T) (rs : List (Alone T N)) → EachEnds m ts rs → Steps (after m ps ts) (along m ps ts) rs
  unfolding after along
  picks_step [] ts rs each = record { left = rs; each = each; same = refl; fewer = omega arith; kinds = λ f. let nothing : sum_of f [] ≡ 0 = no_sum f in omega (arith, nothing) }
  picks_step (p ∷ ps) ts rs each =
      let s : Steps (turned m p ts) (told m p ts) rs = pick p ts rs each in
      let q : Steps (after m ps (turned m p ts)) (along m ps (turned m p ts)) s.left = picks_step ps (turned m p ts) s.left s.each in
      let first_fewer : length (told m p ts) + total m s.left ≡ total m rs = s.fewer in
      let rest_fewer : length (along m ps (turned m p ts)) + total m q.left ≡ total m s.left = q.fewer in
      let both : length (told m p ts ++ along m ps (turned m p ts)) ≡ length (told m p ts) + length (along m ps (turned m p ts)) = length-append (told m p ts) (along m ps (turned m p ts)) in
      record {
        left = q.left;
        each = q.each;
        same = q.same ∙ s.same;
        fewer = omega (arith, first_fewer, rest_fewer, both);
        kinds = λ f.
            let one : sum_of f (told m p ts) + counted m f s.left ≡ counted m f rs = s.kinds f in
            let more : sum_of f (along m ps (turned m p ts)) + counted m f q.left ≡ counted m f s.left = q.kinds f in
            let sums : sum_of f (told m p ts ++ along m ps (turned m p ts)) ≡ sum_of f (told m p ts) + sum_of f (along m ps (turned m p ts)) = sum_of_more f (told m p ts) (along m ps (turned m p ts)) in
            omega (arith, one, more, sums);
      }

  -- while some run, each pick is a step
  one_note : (ts : List T) (k : ℕ) → k < running m ts → length (noted m k ts) ≡ 1
  unfolding running noted
  one_note [] k less = absurd (omega (arith, less))
  one_note (t ∷ ts) k less = by (m.is_over t) k less (λ j less. one_note ts j less)
    where
      by : (b : Bool) (k : ℕ) → k < (if b then running m ts else suc (running m ts)) → ((j : ℕ) → j < running m ts → length (noted m j ts) ≡ 1) → length (if b then noted m k ts else here_or m k (m.note t ∷ []) (λ j. noted m j ts)) ≡ 1
      by true k less rest = rest k less
      by false zero less rest = refl
      by false (suc j) less rest = rest j (omega (arith, less))

  some_run : (ts : List T) (rs : List (Alone T N)) → EachEnds m ts rs → total m rs ≡ 0 → running m ts ≡ 0
  unfolding running
  some_run [] rs each none = refl
  some_run (t ∷ ts) [] each none = absurd each
  some_run (t ∷ ts) (r ∷ rs) each none = by r.notes refl each.0 (λ none. some_run ts rs each.1 none)
    where
      rest_none : (ns : List N) → r.notes ≡ ns → total m rs ≡ 0
      rest_none ns is = let a : total m (r ∷ rs) ≡ length r.notes + total m rs = one_sum (λ (r : Alone T N). length r.notes) r rs in omega (arith, none, a)

      by : (ns : List N) → r.notes ≡ ns → Ends m t ns r.last → (total m rs ≡ 0 → running m ts ≡ 0) → (if m.is_over t then running m ts else suc (running m ts)) ≡ 0
      by [] is e rest = ap (λ b. if b then running m ts else suc (running m ts)) e.0 ∙ rest (rest_none [] is)
      by (n ∷ ns) is e rest =
          let count : length r.notes ≡ suc (length ns) = ap length is in
          let a : total m (r ∷ rs) ≡ length r.notes + total m rs = one_sum (λ (r : Alone T N). length r.notes) r rs in
          absurd (omega (arith, count, none, a))

  -- where some run, a pick leaves a step less
  fewer_left : (p : ℕ) (ts : List T) (rs : List (Alone T N)) → EachEnds m ts rs → (most : ℕ) → total m rs ≤ suc most → (s : Steps (turned m p ts) (told m p ts) rs) → total m s.left ≤ most
  fewer_left p ts rs each most few s = by (running m ts) refl
    where
      less : length (told m p ts) + total m s.left ≡ total m rs
      less = s.fewer

      by : (n : ℕ) → running m ts ≡ n → total m s.left ≤ most
      by zero none = let no_steps : total m rs ≡ 0 = (rests ts rs each none).1 in omega (arith, no_steps, less)
      by (suc n) some =
          let positive : 0 < running m ts = omega (arith, some) in
          let one : length (told m p ts) ≡ 1 = one_note ts (p % running m ts) (mod-lt p positive) in
          omega (arith, one, less, few)

  enough : (ps : List ℕ) (ts : List T) (rs : List (Alone T N)) → EachEnds m ts rs → total m rs ≤ length ps → running m (after m ps ts) ≡ 0
  unfolding after
  enough [] ts rs each few = some_run ts rs each (omega (arith, few))
  enough (p ∷ ps) ts rs each few =
      let s : Steps (turned m p ts) (told m p ts) rs = pick p ts rs each in
      enough ps (turned m p ts) s.left s.each (fewer_left p ts rs each (length ps) few s)

pub all_come_to_their_own : {T N : Type 0} → AllComeToTheirOwn T N
all_come_to_their_own m ts rs each = record {
  end = λ picks few. enough m picks ts rs each few;
  last = λ picks over. let s = picks_step m picks ts rs each in (rests m (after m picks ts) s.left s.each over).0 ∙ s.same;
  count = λ picks over.
      let s = picks_step m picks ts rs each in
      let none : total m s.left ≡ 0 = (rests m (after m picks ts) s.left s.each over).1 in
      let fewer : length (along m picks ts) + total m s.left ≡ total m rs = s.fewer in
      omega (arith, none, fewer);
  kinds = λ f picks over.
      let s = picks_step m picks ts rs each in
      let none : counted m f s.left ≡ 0 = (rests m (after m picks ts) s.left s.each over).2 f in
      let fewer : sum_of f (along m picks ts) + counted m f s.left ≡ counted m f rs = s.kinds f in
      omega (arith, none, fewer);
  within = λ picks. let s = picks_step m picks ts rs each in (s.left, s.each, s.same, s.fewer);
}
