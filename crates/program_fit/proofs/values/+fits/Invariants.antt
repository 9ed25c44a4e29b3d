use Rattle.std.proofs.Common.{take}
use Rattle.py_tree.specs.PlainTypes.{plain_ty}
use Rattle.entity_tables.specs.Views.{plain_tables}
use Rattle.program_meaning.specs.Fits.{AllFit}
use Rattle.program_fit.proofs.values.+fits.Given as goal

abbrev pub invariant-all_fit-loop-value : goal.invariant-all_fit-loop-value
invariant-all_fit-loop-value l = AllFit (plain_tables l.tables) (plain_ty l.element) (take l.value-index l.values)
