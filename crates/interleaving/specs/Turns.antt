-- Parts of which one at a time takes a step, as the picks say.
--
-- Parts keep their places. A pick counts those that still run, in their order: it is taken modulo how many there are.
use Rattle.std.specs.Prelude.{ℕ, zero, suc, ◌%◌, Bool, true, false, if◌then◌else◌, List, [], ◌∷◌, ◌++◌}

-- what a step makes of a part, which parts are over, and what is noted of a step before it is taken
pub record Parts (T N : Type 0) : Type 0 where
  pub step : T → T
  pub is_over : T → Bool
  pub note : T → N

module _ {T N : Type 0} (m : Parts T N) where
  -- how many still run
  unfoldable pub running : List T → ℕ
  running [] = zero
  running (t ∷ ts) = if m.is_over t then running ts else suc (running ts)

  -- this one, or a later one
  abbrev pub here_or : {A : Type 0} → ℕ → A → (ℕ → A) → A
  here_or zero here later = here
  here_or (suc k) here later = later k

  -- the parts after the one at this place among those that run has taken a step
  unfoldable pub stepped : ℕ → List T → List T
  stepped k [] = []
  stepped k (t ∷ ts) = if m.is_over t then t ∷ stepped k ts else here_or k (m.step t ∷ ts) (λ j. t ∷ stepped j ts)

  -- what is noted of it
  unfoldable pub noted : ℕ → List T → List N
  noted k [] = []
  noted k (t ∷ ts) = if m.is_over t then noted k ts else here_or k (m.note t ∷ []) (λ j. noted j ts)

  -- after a pick
  abbrev pub turned : ℕ → List T → List T
  turned pick ts = stepped (pick % running ts) ts

  abbrev pub told : ℕ → List T → List N
  told pick ts = noted (pick % running ts) ts

  -- after all picks, and what was noted along them
  unfoldable pub after : List ℕ → List T → List T
  after [] ts = ts
  after (pick ∷ picks) ts = after picks (turned pick ts)

  -- how many ran at each pick
  unfoldable pub counts : List ℕ → List T → List ℕ
  counts [] ts = []
  counts (pick ∷ picks) ts = running ts ∷ counts picks (turned pick ts)

  unfoldable pub along : List ℕ → List T → List N
  along [] ts = []
  along (pick ∷ picks) ts = told pick ts ++ along picks (turned pick ts)
