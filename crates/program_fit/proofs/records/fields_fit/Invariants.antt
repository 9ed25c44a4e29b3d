use Rattle.std.proofs.Common.{take, map}
use Rattle.entity_tables.specs.Views.{plain_field, plain_tables}
use Rattle.program_meaning.specs.Fits.{EachFits}
use Rattle.program_fit.proofs.records.fields_fit.Given as goal

abbrev pub invariant-loop-i : goal.invariant-loop-i
invariant-loop-i l = EachFits (plain_tables l.tables) (map (λ x. x.ty) (map plain_field (take l.i l.fields))) (take l.i l.values)
