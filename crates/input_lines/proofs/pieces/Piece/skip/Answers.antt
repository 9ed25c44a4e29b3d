use Rattle.std.proofs.Common.{◌≡◌, ℕ, List, ◌+◌, ◌-◌, ◌∙◌, ap, sym, take, drop, length, arith}
use Rattle.std.proofs.lemmas.List.{drop-take, drop-drop, length-take}
use Rattle.input_lines.proofs.pieces.Piece.skip.Goals as goal

-- what stands from a place on is, behind so many of its bytes, what stands from a later place on
from_later : (count from left all : ℕ) (bytes : List ℕ) → count + left ≡ all → take left (drop (from + count) bytes) ≡ drop count (take all (drop from bytes))
from_later count from left all bytes sum =
    ap (take left) (sym (drop-drop count from bytes))
    ∙ sym (drop-take count left (drop from bytes))
    ∙ ap (λ n. drop count (take n (drop from bytes))) sum

pub returns : goal.returns
returns c =
    let count : ℕ = c.args.count in
    let bytes : List ℕ = c.self.inside.bytes in
    let from : ℕ = c.self.inside.from in
    let to : ℕ = c.self.inside.to in
    let sum : count + (to - (from + count)) ≡ to - from = omega (arith, c.requires, ap length c.self.view_is, length-take (to - from) (drop from bytes)) in
    from_later count from (to - (from + count)) (to - from) bytes sum ∙ ap (drop count) c.self.view_is
