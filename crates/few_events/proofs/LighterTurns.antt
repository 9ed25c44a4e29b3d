-- Where each step of a part makes it lighter, no more is noted of parts that take turns than they weigh.
use Rattle.std.proofs.Common.{◌≡◌, ℕ, zero, suc, arith, ◌+◌, ◌≤◌, ◌<◌, ◌%◌, Bool, true, false, List, [], ◌∷◌, ◌++◌, length, refl, length-append}
use Rattle.std.specs.Prelude.{if◌then◌else◌}
use Rattle.std.specs.List.{AllByRecursion}
use Rattle.interleaving.specs.Turns.{Parts, running, here_or, stepped, noted, turned, told, after, along}
use Rattle.interleaving.specs.AsAlone.{sum_of}

module _ {T N : Type 0} (m : Parts T N) (Fit : T → Type 0) (weighs : T → ℕ) (lighter : (t : T) → Fit t → m.is_over t ≡ false → Fit (m.step t) × (weighs (m.step t) < weighs t)) where
  -- behind some turns parts still fit, and what they weigh less makes up for what was noted
  pub record Falls (old new : List T) (notes : List N) : Type 0 where
    pub fit : AllByRecursion Fit new
    pub less : length notes + sum_of weighs new ≤ sum_of weighs old

  -- a part in front of them took no step
  behind : (t : T) (old new : List T) (notes : List N) → Fit t → Falls old new notes → Falls (t ∷ old) (t ∷ new) notes
  unfolding sum_of
  behind t old new notes fit f = record { fit = (fit, f.fit); less = omega (arith, f.less) }

  -- it took one, and they none
  first : (t : T) (ts : List T) → m.is_over t ≡ false → Fit t → AllByRecursion Fit ts → Falls (t ∷ ts) (m.step t ∷ ts) (m.note t ∷ [])
  unfolding sum_of
  first t ts runs fit others =
      let next : Fit (m.step t) × (weighs (m.step t) < weighs t) = lighter t fit runs in
      record { fit = (next.0, others); less = omega (arith, next.1) }

  one_turn : (ts : List T) (k : ℕ) → AllByRecursion Fit ts → Falls ts (stepped m k ts) (noted m k ts)
  unfolding stepped noted
  one_turn [] k fit = record { fit = tt; less = omega arith }
  one_turn (t ∷ ts) k fit = by (m.is_over t) refl k (λ j. one_turn ts j fit.1)
    where
      by : (b : Bool) → m.is_over t ≡ b → (k : ℕ) → ((j : ℕ) → Falls ts (stepped m j ts) (noted m j ts))
          → Falls (t ∷ ts) (if b then t ∷ stepped m k ts else here_or m k (m.step t ∷ ts) (λ j. t ∷ stepped m j ts)) (if b then noted m k ts else here_or m k (m.note t ∷ []) (λ j. noted m j ts))
      by true over k rest = behind t ts (stepped m k ts) (noted m k ts) fit.0 (rest k)
      by false runs zero rest = first t ts runs fit.0 fit.1
      by false runs (suc j) rest = behind t ts (stepped m j ts) (noted m j ts) fit.0 (rest j)

  pub all_turns : (picks : List ℕ) (ts : List T) → AllByRecursion Fit ts → Falls ts (after m picks ts) (along m picks ts)
  unfolding after along
  all_turns [] ts fit = record { fit = fit; less = omega arith }
  all_turns (p ∷ ps) ts fit =
      let one : Falls ts (turned m p ts) (told m p ts) = one_turn ts (p % running m ts) fit in
      let rest : Falls (turned m p ts) (after m ps (turned m p ts)) (along m ps (turned m p ts)) = all_turns ps (turned m p ts) one.fit in
      let both : length (told m p ts ++ along m ps (turned m p ts)) ≡ length (told m p ts) + length (along m ps (turned m p ts)) = length-append (told m p ts) (along m ps (turned m p ts)) in
      record { fit = rest.fit; less = omega (arith, one.less, rest.less, both) }
