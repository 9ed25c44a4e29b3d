use Rattle.std.proofs.Common.{◌≡◌, ℕ, List, ◌+◌, ◌-◌, ◌∙◌, min, length, arith}
use Rattle.input_lines.proofs.KeptBytes.{kept_joined}
use Rattle.input_lines.proofs.start.LineStart.keep.Goals as goal

pub returns-clause-grows : goal.returns-clause-grows
returns-clause-grows c = λ part h.
    let kept : List ℕ = c.self.inside.kept.items in
    let bytes : List ℕ = c.args.bytes.now in
    let longest : ℕ = c.args.longest in
    let count : c.min-count.result ≡ min (longest + 1 - length kept) (length bytes) =
    omega (arith, c.len.ensures, c.saturating_sub-room.ensures, c.min-count.ensures) in
    c.in_ok-extend_from_slice.ensures.items ∙ kept_joined longest kept part bytes c.min-count.result count (c.self.view_is ∙ h)
