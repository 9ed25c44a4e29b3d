use Rattle.std.proofs.Common.{refl, arith}
use Rattle.std.proofs.lemmas.Result.{err_from_is_err_and}
use Rattle.input_lines.proofs.ReadLaws.{Joins-then, Ends-then, All-then, Then-piece, Then-end, Then-none, Still-all, keeps_all}
use Rattle.input_lines.proofs.lines.Lines.next.Goals as goal

pub pieces-init : goal.pieces-init
pieces-init g c = record { joins = c.begin.ensures (g.S.Source.left c.args.input.now); later = omega arith }

pub returns-in_err-take-clause-gives : goal.returns-in_err-take-clause-gives
returns-in_err-take-clause-gives g c =
    let p = err_from_is_err_and c.from_residual.result c.from_residual.ensures.1 in
    rw p.1 (Joins-then c.pieces.invariant.joins (c.in_err-take.ensures (g.S.Source.left c.pieces.input)))

pub returns-then-branch-clause-gives : goal.returns-then-branch-clause-gives
returns-then-branch-clause-gives g c =
    Ends-then c.pieces.invariant.joins (rw c.if-branch.true at (c.in_ok-take.ensures (g.S.Source.left c.pieces.input)))

pub returns-in-Ok-true-clause-gives : goal.returns-in-Ok-true-clause-gives
returns-in-Ok-true-clause-gives g c =
    let one = rw c.in-Ok-true.field-0-test at c.in-Ok-true.ensures.asks in
    record {
      before = g.S.Source.left c.pieces.input;
      all = All-then c.pieces.invariant.joins (rw c.if-branch.false at (c.in_ok-take.ensures (g.S.Source.left c.pieces.input)));
      full = c.if-self-eq0.true;
      next = one.0;
      beyond = one.1;
    }

pub returns-in-Ok-false-clause-gives : goal.returns-in-Ok-false-clause-gives
returns-in-Ok-false-clause-gives g c =
    let all = All-then c.pieces.invariant.joins (rw c.if-branch.false at (c.in_ok-take.ensures (g.S.Source.left c.pieces.input))) in
    let asks = rw c.in-Ok-false.field-0-test at c.in-Ok-false.ensures.asks in
    (Still-all all (keeps_all _ _ asks.0), asks.1)

pub returns-in-Err-clause-gives : goal.returns-in-Err-clause-gives
returns-in-Err-clause-gives g c =
    let all = All-then c.pieces.invariant.joins (rw c.if-branch.false at (c.in_ok-take.ensures (g.S.Source.left c.pieces.input))) in
    Still-all all c.in-Err.ensures.asks

pub returns-in-Ok-eq0-clause-gives : goal.returns-in-Ok-eq0-clause-gives
returns-in-Ok-eq0-clause-gives g c =
    let all = All-then c.pieces.invariant.joins (rw c.if-branch.false at (c.in_ok-take.ensures (g.S.Source.left c.pieces.input))) in
    Then-end all (rw c.in-Ok-eq0.field-0-test at c.in-Ok-eq0.ensures.fills) refl refl refl refl

pub pieces-smaller : goal.pieces-smaller
pieces-smaller g c =
    let all = rw c.if-branch.false at (c.in_ok-take.ensures (g.S.Source.left c.pieces.input)) in
    omega (arith, all.joins.uses.counted, c.in-Ok.ensures.fills.within, c.in-Ok.count-test)

pub pieces-preserved : goal.pieces-preserved
pieces-preserved g c =
    let all = All-then c.pieces.invariant.joins (rw c.if-branch.false at (c.in_ok-take.ensures (g.S.Source.left c.pieces.input))) in
    let fills = c.in-Ok.ensures.fills in
    record {
      joins = Then-piece all fills refl refl (omega (arith, fills.within)) refl;
      later = omega (arith, c.pieces.invariant.later, c.fill.ensures.cause.later);
    }

pub returns-in-Err-fill-clause-gives : goal.returns-in-Err-fill-clause-gives
returns-in-Err-fill-clause-gives g c =
    let all = All-then c.pieces.invariant.joins (rw c.if-branch.false at (c.in_ok-take.ensures (g.S.Source.left c.pieces.input))) in
    let fills = c.in-Err-fill.ensures.fills in
    Then-none all fills.0 fills.1 refl refl refl refl
