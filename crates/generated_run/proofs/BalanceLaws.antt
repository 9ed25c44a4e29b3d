-- The balances of records, added up one after another.
use Rattle.std.proofs.Common.{◌≡◌, ℕ, ◌+◌, ◌<◌, ◌≤◌, List, length, drop, get_or, sym, ap, ◌∙◌}
use Rattle.std.specs.Prelude.{ℤ, ◌+ℤ◌}
use Rattle.std.proofs.Math.IntN.{+ℤ_assoc, +ℤ_idr}
use Rattle.std.proofs.lemmas.List.{at_drop_more, drop_all}
use Rattle.sf_value.specs.declared.Held.{Held}
use Rattle.generated_run.specs.Totals.{balance_of, added_up}

-- the next one is added
pub one_more : (records : List Held) (i : ℕ) (h : Held) → i < length records → h ≡ get_or records i h → (so_far more : ℤ) → more ≡ so_far +ℤ balance_of h
    → so_far +ℤ added_up (drop i records) ≡ added_up records → more +ℤ added_up (drop (i + 1) records) ≡ added_up records
unfolding added_up
one_more records i h within is so_far more adds before =
    let rest : ℤ = added_up (drop (i + 1) records) in
    let split : added_up (drop i records) ≡ balance_of h +ℤ rest = at_drop_more added_up records i h within ∙ ap (λ x. balance_of x +ℤ rest) (sym is) in
    ap (λ z. z +ℤ rest) adds ∙ +ℤ_assoc so_far (balance_of h) rest ∙ ap (λ z. so_far +ℤ z) (sym split) ∙ before

-- none is left
pub none_more : (records : List Held) (i : ℕ) → length records ≤ i → (so_far : ℤ) → so_far +ℤ added_up (drop i records) ≡ added_up records → so_far ≡ added_up records
unfolding added_up
none_more records i past so_far before = sym (+ℤ_idr so_far) ∙ ap (λ l. so_far +ℤ added_up l) (sym (drop_all i records past)) ∙ before
