use Rattle.std.proofs.Common.{◌≡◌, drop}
use Rattle.std.specs.Prelude.{bytes_eq}
use Rattle.std.specs.List.{list_any}
use Rattle.kept_parts.specs.Ids.{request_ids}
use Rattle.kept_parts.proofs.ids.is_among.Given as goal

abbrev pub invariant-loop-request : goal.invariant-loop-request
invariant-loop-request l = list_any (bytes_eq l.id) (request_ids (drop l.request-index l.requests)) ≡ list_any (bytes_eq l.id) (request_ids l.requests)
