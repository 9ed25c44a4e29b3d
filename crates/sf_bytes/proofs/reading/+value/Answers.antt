use Rattle.std.proofs.Common.{◌≡◌, ◌-◌, ◌<◌, [], ◌∷◌, ◌++◌, sym, ap, subst, ◌∙◌, arith}
use Rattle.std.proofs.lemmas.Result.{err_from_is_err_and}
use Rattle.sf_bytes.specs.Reading.{FallsShort, items_at, value_within, values_within}
use Rattle.sf_bytes.proofs.Loops.{with_front, goes_on, ends, is_done, starts, no_count}
use Rattle.sf_bytes.proofs.Levels.{no_level, one_level}
use Rattle.sf_bytes.proofs.reading.+value.Goals as goal

pub values_of-returns-then-level-eq0 : goal.values_of-returns-then-level-eq0
values_of-returns-then-level-eq0 t c = no_level _ _ c.if-level-eq0.true

pub values_of-returns-in_err-count : goal.values_of-returns-in_err-count
values_of-returns-in_err-count t c =
    let p = err_from_is_err_and c.from_residual.result c.from_residual.ensures.1 in
    let some : 0 < c.args.level = omega (arith, c.if-level-eq0.false) in
    rw (p.1, p.2) (subst (FallsShort c.in_err-count.field-0.0) (sym (one_level c.args.level c.args.bytes.now some)) (no_count (value_within (c.args.level - 1)) c.args.bytes.now c.in_err-count.field-0.0 c.in_err-count.ensures))

pub values_of-loop-init : goal.values_of-loop-init
values_of-loop-init t c =
    let some : 0 < c.args.level = omega (arith, c.if-level-eq0.false) in
    ap (λ front. with_front front (items_at (value_within (c.args.level - 1)) (c.in_ok-count.count - 0) c.in_ok-count.rest.now)) c.new-values.ensures
    ∙ starts (value_within (c.args.level - 1)) c.args.bytes.now c.in_ok-count.count c.in_ok-count.rest.now c.in_ok-count.ensures
    ∙ sym (one_level c.args.level c.args.bytes.now some)

pub values_of-returns-in_err-value : goal.values_of-returns-in_err-value
values_of-returns-in_err-value t c =
    let p = err_from_is_err_and c.from_residual-in_err-value.result c.from_residual-in_err-value.ensures.1 in
    rw (p.1, p.2) (ends c.in_err-value.field-0.0 (value_within (c.args.level - 1)) c.loop.values c.in_ok-count.count c.loop.counter c.loop.rest.now (values_within c.args.level c.args.bytes.now) c.loop-test.true c.in_err-value.ensures c.loop.invariant)

pub values_of-loop-preserved : goal.values_of-loop-preserved
values_of-loop-preserved t c =
    let more : c.push.new.self ≡ c.loop.values ++ c.in_ok-value.value ∷ [] = c.in_ok-push.ensures.ok in
    rw more (goes_on (value_within (c.args.level - 1)) c.loop.values c.in_ok-count.count c.loop.counter c.loop.rest.now c.in_ok-value.value c.in_ok-value.after.now (values_within c.args.level c.args.bytes.now) c.loop-test.true c.in_ok-value.ensures c.loop.invariant)

pub values_of-returns : goal.values_of-returns
values_of-returns t c = is_done (value_within (c.args.level - 1)) c.loop.values c.in_ok-count.count c.loop.counter c.loop.rest.now (values_within c.args.level c.args.bytes.now) c.loop-test.false c.loop.invariant
