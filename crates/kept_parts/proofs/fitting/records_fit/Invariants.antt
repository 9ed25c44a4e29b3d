use Rattle.std.proofs.Common.{take}
use Rattle.std.specs.List.{AllByRecursion}
use Rattle.entity_tables.specs.Views.{plain_tables}
use Rattle.program_meaning.specs.Fits.{RecordFits}
use Rattle.kept_parts.proofs.fitting.records_fit.Given as goal

abbrev pub invariant-loop-held : goal.invariant-loop-held
invariant-loop-held l = AllByRecursion (λ held. RecordFits (plain_tables l.tables) held.at.class held.fields.fields) (take l.held-index l.records)
