-- Parts that are added one after another.
use Rattle.std.proofs.Common.{◌≡◌, List, [], ◌++◌, append_assoc, append-nil, sym, ap, ◌∙◌}

pub no_more : {X : Type 0} (old : List X) → old ++ [] ≡ old
no_more old = append-nil old

pub two_parts : {X : Type 0} (old a b : List X) → old ++ (a ++ b) ≡ (old ++ a) ++ b
two_parts old a b = sym (append_assoc old a b)

pub three_parts : {X : Type 0} (old a b c : List X) → old ++ ((a ++ b) ++ c) ≡ ((old ++ a) ++ b) ++ c
three_parts old a b c = two_parts old (a ++ b) c ∙ ap (λ xs. xs ++ c) (two_parts old a b)
