use Rattle.std.proofs.Common.{◌∙◌, sym, ap}
use Rattle.std.proofs.lemmas.Result.{err_from_is_err_and}
use Rattle.py_lexer.specs.Cursor.{is_hash}
use Rattle.py_lexer.proofs.Rules.{gap_fails}
use Rattle.py_lexer.proofs.gaps.pass_gap.Goals as goal

pub returns-in_err-pass_comment-clause-comes : goal.returns-in_err-pass_comment-clause-comes
returns-in_err-pass_comment-clause-comes c =
    let p = err_from_is_err_and c.from_residual.result c.from_residual.ensures.1 in
    rw (p.1, p.2) (gap_fails c.args.depth c.args.text.now c.gap.text c.pass-then-is_hash.new.self c.in_err-pass_comment.field-0.0 c.gap.invariant.so_far (ap is_hash (sym c.byte-else-is_blank.ensures.value) ∙ sym c.if-is_hash.ensures) c.pass-then-is_hash.ensures.moved c.in_err-pass_comment.ensures.comes)
