use Rattle.std.proofs.Common.{◌≡◌, ◌≤◌, ◌<◌, ℕ, Bool, true, false, nat_le, Ok, refl, arith, length}
use Rattle.std.proofs.lemmas.Bool.Decides.{nat_tests}
use Rattle.input_lines.specs.FileReads.{AsksAt}
use Rattle.input_lines.proofs.FileLaws.{asks_at}
use Rattle.input_lines.proofs.pieces.has_byte_at.Goals as goal

pub returns-clause-asks : goal.returns-clause-asks
returns-clause-asks g c =
    let bound = c.in_ok-read_at.ensures.bound in
    asks_at _ (g.F.Files.content c.args.files.now c.args.name.now) c.args.at c.in_ok-read_at.field-0 c.read_at.new.buf c.in_ok-read_at.ensures.bytes bound.0
    (omega (arith, bound.1, c.read_at.auto.buf))
