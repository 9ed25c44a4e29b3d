use Rattle.std.proofs.Common.{Some, sym, ap, ◌∙◌}
use Rattle.py_tree.specs.PlainExpressions.{plain_kind, plain_expr, plain_exprs, exprs_of}
use Rattle.program_meaning.specs.Trailers.{Calling, last_trailer}
use Rattle.program_meaning.proofs.TrailerLaws.{trailer-Call}
use Rattle.source_meaning.proofs.trailers.last_trailer.Goals as goal

pub returns-in-Call : goal.returns-in-Call
returns-in-Call c =
    ap (λ k. last_trailer (plain_kind k c.args.expr.now.place)) c.in-Call.is
    ∙ trailer-Call c.args.expr.now.place c.in-Call.on c.in-Call.name c.in-Call.args
    ∙ (λ j. Some (plain_expr (sym c.deref.ensures j), Calling c.in-Call.name.name.0 (exprs_of (plain_exprs (sym c.as_slice.ensures j)))))
