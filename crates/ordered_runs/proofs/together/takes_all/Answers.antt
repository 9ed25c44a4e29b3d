use Rattle.std.proofs.Common.{◌≡◌, ◌+◌, ◌<◌, ◌++◌, ◌∷◌, [], length, get_or, ap, sym, ◌∙◌, arith}
use Rattle.std.proofs.lemmas.List.{take_more}
use Rattle.std.proofs.lemmas.List.FromFn.{length-range_with_len, get_or-range_with_len}
use Rattle.kept_parts.proofs.EachLaws.{fails}
use Rattle.ordered_runs.proofs.PlaceLaws.{one_place_more}
use Rattle.ordered_runs.proofs.together.takes_all.Goals as goal

pub returns-then-len-count : goal.returns-then-len-count
returns-then-len-count c = fails (λ same. c.if-len-count.true (c.len.ensures ∙ ap length same ∙ length-range_with_len 0 c.args.count))

pub returns-then-place-i : goal.returns-then-place-i
returns-then-place-i c =
    let items = ap length c.as_slice-place-items.ensures in
    let within : c.loop-i.i < c.args.count = omega (arith, c.loop-i-test.true, items, c.len.ensures, c.if-len-count.false) in
    let same : 0 + c.loop-i.i ≡ c.loop-i.i = omega arith in
    fails (λ all. c.if-place-i.true (ap (λ l. get_or l c.loop-i.i 0) (c.as_slice-place-items.ensures ∙ all) ∙ get_or-range_with_len 0 c.args.count c.loop-i.i 0 within ∙ same))

pub loop-i-preserved : goal.loop-i-preserved
loop-i-preserved c =
    let items = ap length c.as_slice-place-items.ensures in
    let within : c.loop-i.i < length c.args.places.now = omega (arith, c.loop-i-test.true, items) in
    let here = ap (λ l. get_or l c.loop-i.i 0) (sym c.as_slice-place-items.ensures) ∙ c.if-place-i.false in
    take_more c.args.places.now c.loop-i.i 0 within ∙ (λ j. c.loop-i.invariant j ++ here j ∷ []) ∙ sym (one_place_more c.loop-i.i)
