use Rattle.std.proofs.Common.{◌++◌, take}
use Rattle.std.specs.Prelude.{bytes_eq}
use Rattle.std.specs.List.{IsDistinct}
use Rattle.kept_parts.specs.Ids.{entry_ids, request_ids}
use Rattle.kept_parts.proofs.ids.ids_differ.Given as goal

abbrev pub invariant-loop-i : goal.invariant-loop-i
invariant-loop-i l = IsDistinct bytes_eq (entry_ids l.history.entries ++ request_ids (take l.i l.requests))
