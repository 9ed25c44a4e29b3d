-- What a copy at a place takes from what was left there.
use Rattle.std.proofs.Common.{◌≡◌, ℕ, ◌+◌, ◌<◌, List, [], ◌++◌, length, take, drop, sym, ap, ◌∙◌, arith}
use Rattle.std.proofs.lemmas.List.{take-append-drop, drop-drop, drop_all}
use Rattle.sf_outside.specs.Bytes.{CopiedAll}

-- what was left is what was copied, and what is left behind it
pub copied-rest : (all : List ℕ) (at n : ℕ) (buf : List ℕ) → CopiedAll all at n buf → drop at all ≡ take n buf ++ drop (at + n) all
copied-rest all at n buf copied =
    sym (take-append-drop n (drop at all)) ∙ ap (λ rest. take n (drop at all) ++ rest) (drop-drop n at all) ∙ ap (λ front. front ++ drop (at + n) all) (sym copied.bytes)

-- nothing is left where nothing was copied though there was room
pub copied-end : (all : List ℕ) (at n : ℕ) (buf : List ℕ) → CopiedAll all at n buf → n ≡ 0 → 0 < length buf → drop (at + n) all ≡ []
copied-end all at n buf copied none room = drop_all (at + n) all (omega (arith, copied.count, none, room))
