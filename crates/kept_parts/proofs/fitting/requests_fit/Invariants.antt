use Rattle.std.proofs.Common.{take}
use Rattle.std.specs.List.{AllByRecursion}
use Rattle.entity_tables.specs.Views.{plain_tables}
use Rattle.request_history.specs.SoundHistory.{RequestFits}
use Rattle.kept_parts.proofs.fitting.requests_fit.Given as goal

abbrev pub invariant-loop-request : goal.invariant-loop-request
invariant-loop-request l = AllByRecursion (RequestFits (plain_tables l.tables)) (take l.request-index l.requests)
