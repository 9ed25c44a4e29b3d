-- Texts that are added in pieces.
use Rattle.std.proofs.Common.{◌≡◌, ℕ, ◌+◌, ◌<◌, List, [], ◌∷◌, ◌++◌, length, map, take, get_or, append_assoc, append-nil, sym, ap, ◌∙◌}
use Rattle.std.specs.List.{concat}
use Rattle.std.specs.Borrow.{Bor}
use Rattle.std.proofs.lemmas.List.{take_more, map-append}
use Rattle.std.proofs.lemmas.List.Folds.{concat-append}

concat_more : (xs : List (List ℕ)) (x : List ℕ) → concat (xs ++ x ∷ []) ≡ concat xs ++ x
concat_more xs x = concat-append xs (x ∷ []) ∙ ap (λ rest. concat xs ++ rest) (append-nil x)

-- one piece more
pub pieces_more : (before old new : List ℕ) (pieces : List (Bor (List ℕ))) (i : ℕ) (d : Bor (List ℕ)) → i < length pieces
    → old ≡ before ++ concat (map (λ p. p.now) (take i pieces)) → new ≡ old ++ (get_or pieces i d).now → new ≡ before ++ concat (map (λ p. p.now) (take (i + 1) pieces))
pieces_more before old new pieces i d within so_far more =
    let piece = get_or pieces i d in
    let cut : map (λ (p : Bor (List ℕ)). p.now) (take (i + 1) pieces) ≡ map (λ p. p.now) (take i pieces) ++ piece.now ∷ [] =
    ap (map (λ p. p.now)) (take_more pieces i d within) ∙ map-append (λ p. p.now) (take i pieces) (piece ∷ []) in
    more ∙ ap (λ text. text ++ piece.now) so_far ∙ append_assoc before (concat (map (λ p. p.now) (take i pieces))) piece.now
    ∙ ap (λ rest. before ++ rest) (sym (ap concat cut ∙ concat_more (map (λ p. p.now) (take i pieces)) piece.now))
