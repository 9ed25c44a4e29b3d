use Rattle.std.proofs.Common.{◌≡◌, ◌∙◌, ◌-◌, ap, refl, sym, length, arith}
use Rattle.std.proofs.lemmas.List.{length-take}
use Rattle.std.proofs.lemmas.Result.{err_from_is_err_and}
use Rattle.input_lines.proofs.FileLaws.{piece_at, first_bytes, kept_at}
use Rattle.input_lines.proofs.pieces.Piece.fill_at.Goals as goal

pub returns-clause-fills : goal.returns-clause-fills
returns-clause-fills g c =
    let most = c.next_piece-most.ensures in
    let bound = c.in_ok-count.ensures.bound in
    let size = length-take c.next_piece-most.result c.self.inside.bytes in
    piece_at _ (g.F.Files.content c.args.files.now c.args.name.now) c.args.room c.args.at c.in_ok-count.count c.read_at.new.buf _ c.in_ok-count.ensures.bytes bound.0
    (omega (arith, bound.1, c.read_at.auto.buf, size, most.some, most.fits)) (omega (arith, bound.1, c.read_at.auto.buf, size, most.within))
    (first_bytes c.in_ok-count.count c.read_at.new.buf _ bound.0)

pub returns-in_err-count-clause-fills : goal.returns-in_err-count-clause-fills
returns-in_err-count-clause-fills g c =
    let p = err_from_is_err_and c.from_residual.result c.from_residual.ensures.1 in
    rw p.1 (kept_at (g.F.Files.content c.args.files.now c.args.name.now) c.args.at _ refl, refl)
