-- One pick more: what it adds to what is told.
use Rattle.std.proofs.Common.{◌≡◌, ◌∙◌, ℕ, zero, suc, arith, ◌+◌, ◌<◌, ◌%◌, Bool, true, false, Option, Some, None, List, [], ◌∷◌, ◌++◌, length, refl, sym, ap, length-append, append_assoc}
use Rattle.std.specs.Prelude.{if◌then◌else◌}
use Rattle.std.proofs.Math.Nat.{mod-lt}
use Rattle.std.proofs.lemmas.List.{append-nil}
use Rattle.sf_outside.specs.Choices.{Choices, Picks}
use Rattle.interleaving.specs.Turns.{Parts, running, here_or, noted, turned, told, after, counts, along}
use Rattle.batch_events.specs.Vocabulary.{Told, AlsoTold}
use Rattle.aria_batch.specs.BatchRun.{AlsoPicked}

-- What is told besides

pub none_picked : (c : Option Choices) → AlsoPicked c c [] []
none_picked None = tt
none_picked (Some c) = λ i. record { starts = c.starts; number = c.number; asked = sym (append-nil c.asked) i; picks = sym (append-nil c.picks) i }

pub one_picked : (a b c : Option Choices) (counts picks : List ℕ) (count pick : ℕ) → AlsoPicked a b counts picks → Picks b count pick c → AlsoPicked a c (counts ++ count ∷ []) (picks ++ pick ∷ [])
one_picked a b None counts picks count pick before now = tt
one_picked a None (Some c) counts picks count pick before now = absurd now
one_picked None (Some b) (Some c) counts picks count pick before now = absurd before
one_picked (Some a) (Some b) (Some c) counts picks count pick before now =
    now
    ∙ (λ i. record { starts = (before i).starts; number = (before i).number; asked = (before i).asked ++ count ∷ []; picks = (before i).picks ++ pick ∷ [] })
    ∙ (λ i. record { starts = a.starts; number = a.number; asked = append_assoc a.asked counts (count ∷ []) i; picks = append_assoc a.picks picks (pick ∷ []) i })

pub none_told : (n : Option (List Told)) → AlsoTold n n []
none_told None = tt
none_told (Some notes) = sym (append-nil notes)

pub more_told : (a b c : Option (List Told)) (first more : List Told) → AlsoTold a b first → AlsoTold b c more → AlsoTold a c (first ++ more)
more_told a b None first more before now = tt
more_told a None (Some c) first more before now = absurd now
more_told None (Some b) (Some c) first more before now = absurd before
more_told (Some a) (Some b) (Some c) first more before now = now ∙ ap (λ l. l ++ more) before ∙ append_assoc a first more

-- Parts along picks

module _ {T N : Type 0} (m : Parts T N) where
  pub nothing_picked : (ts : List T) → (after m [] ts ≡ ts) × (along m [] ts ≡ [])
  unfolding after along
  nothing_picked ts = (refl, refl)

  pub after_one_more : (picks : List ℕ) (pick : ℕ) (ts : List T) → after m (picks ++ pick ∷ []) ts ≡ turned m pick (after m picks ts)
  unfolding after
  after_one_more [] pick ts = refl
  after_one_more (p ∷ picks) pick ts = after_one_more picks pick (turned m p ts)

  pub none_counted : (ts : List T) → counts m [] ts ≡ []
  unfolding counts
  none_counted ts = refl

  pub counts_one_more : (picks : List ℕ) (pick : ℕ) (ts : List T) → counts m (picks ++ pick ∷ []) ts ≡ counts m picks ts ++ running m (after m picks ts) ∷ []
  unfolding after counts
  counts_one_more [] pick ts = refl
  counts_one_more (p ∷ picks) pick ts = ap (λ l. running m ts ∷ l) (counts_one_more picks pick (turned m p ts))

  pub along_one_more : (picks : List ℕ) (pick : ℕ) (ts : List T) → along m (picks ++ pick ∷ []) ts ≡ along m picks ts ++ told m pick (after m picks ts)
  unfolding after along
  along_one_more [] pick ts = append-nil (told m pick ts)
  along_one_more (p ∷ picks) pick ts = ap (λ l. told m p ts ++ l) (along_one_more picks pick (turned m p ts)) ∙ sym (append_assoc (told m p ts) (along m picks (turned m p ts)) (told m pick (after m picks (turned m p ts))))

  -- while some run, a pick is one step, and one note
  one_note : (ts : List T) (k : ℕ) → k < running m ts → length (noted m k ts) ≡ 1
  unfolding running noted
  one_note [] k less = absurd (omega (arith, less))
  one_note (t ∷ ts) k less = by (m.is_over t) k less (λ j less. one_note ts j less)
    where
      by : (b : Bool) (k : ℕ) → k < (if b then running m ts else suc (running m ts)) → ((j : ℕ) → j < running m ts → length (noted m j ts) ≡ 1) → length (if b then noted m k ts else here_or m k (m.note t ∷ []) (λ j. noted m j ts)) ≡ 1
      by true k less rest = rest k less
      by false zero less rest = refl
      by false (suc j) less rest = rest j (omega (arith, less))

  pub one_more_note : (picks : List ℕ) (pick : ℕ) (ts : List T) → 0 < running m (after m picks ts) → length (along m (picks ++ pick ∷ []) ts) ≡ length (along m picks ts) + 1
  one_more_note picks pick ts some =
      let one : length (told m pick (after m picks ts)) ≡ 1 = one_note (after m picks ts) (pick % running m (after m picks ts)) (mod-lt pick some) in
      let both : length (along m picks ts ++ told m pick (after m picks ts)) ≡ length (along m picks ts) + length (told m pick (after m picks ts)) = length-append (along m picks ts) (told m pick (after m picks ts)) in
      ap length (along_one_more picks pick ts) ∙ omega (arith, one, both)
