-- That parts which take turns come to what each comes to alone.
use Rattle.std.specs.Prelude.{◌≡◌, ℕ, ◌+◌, ◌≤◌, true, false, List, [], ◌∷◌, ◌++◌, length, map}
use Rattle.interleaving.specs.Turns.{Parts, running, after, along}

-- what a part comes to alone, with what is noted of its steps
pub record Alone (T N : Type 0) : Type 0 where
  pub notes : List N
  pub last : T

-- the sum of what each counts for
unfoldable pub sum_of : {A : Type 0} → (A → ℕ) → List A → ℕ
sum_of f [] = 0
sum_of f (x ∷ xs) = f x + sum_of f xs

module _ {T N : Type 0} (m : Parts T N) where
  -- a part takes these steps, and is over then
  abbrev pub Ends : T → List N → T → Type 0
  Ends t [] u = (m.is_over t ≡ true) × (t ≡ u)
  Ends t (n ∷ ns) u = (m.is_over t ≡ false) × (m.note t ≡ n) × Ends (m.step t) ns u

  -- each of these parts comes to this alone
  abbrev pub EachEnds : List T → List (Alone T N) → Type 0
  EachEnds [] [] = Unit {0}
  EachEnds [] (r ∷ rs) = ⊥
  EachEnds (t ∷ ts) [] = ⊥
  EachEnds (t ∷ ts) (r ∷ rs) = Ends t r.notes r.last × EachEnds ts rs

  abbrev pub lasts : List (Alone T N) → List T
  lasts = map (λ r. r.last)

  -- how many steps there are, and how many of them are counted so
  abbrev pub total : List (Alone T N) → ℕ
  total = sum_of (λ r. length r.notes)

  abbrev pub counted : (N → ℕ) → List (Alone T N) → ℕ
  counted f = sum_of (λ r. sum_of f r.notes)

  -- these parts come to what they come to alone, whatever the picks
  pub record AreAsAlone (ts : List T) (rs : List (Alone T N)) : Type 0 where
    -- they are over once there were as many picks as steps
    pub end : (picks : List ℕ) → total rs ≤ length picks → running m (after m picks ts) ≡ 0
    -- where they are over, each is what it comes to alone
    pub last : (picks : List ℕ) → running m (after m picks ts) ≡ 0 → after m picks ts ≡ lasts rs
    -- there were as many steps
    pub count : (picks : List ℕ) → running m (after m picks ts) ≡ 0 → length (along m picks ts) ≡ total rs
    -- and of each kind as many
    pub kinds : (f : N → ℕ) (picks : List ℕ) → running m (after m picks ts) ≡ 0 → sum_of f (along m picks ts) ≡ counted f rs
    -- before, some steps are left
    pub within : (picks : List ℕ) → (left : List (Alone T N)) × EachEnds (after m picks ts) left × (lasts left ≡ lasts rs) × (length (along m picks ts) + total left ≡ total rs)

-- parts that take turns all come to their own
abbrev pub AllComeToTheirOwn : Type 0 → Type 0 → Type 0
AllComeToTheirOwn T N = (m : Parts T N) (ts : List T) (rs : List (Alone T N)) → EachEnds m ts rs → AreAsAlone m ts rs
