use Rattle.std.proofs.Common.{◌+◌, ◌*◌}
use Rattle.py_parser.proofs.types.+ty.Given as goal

abbrev pub decreases-inner : goal.decreases-inner
decreases-inner l = 2 * l.levels + 0

abbrev pub decreases-ty : goal.decreases-ty
decreases-ty l = 2 * l.levels + 1
