use Rattle.std.proofs.Common.{◌≡◌, drop}
use Rattle.std.specs.List.{list_any}
use Rattle.program_meaning.specs.RequestRun.{is_heavy}
use Rattle.source_meaning.proofs.local.any_heavy.Given as goal

abbrev pub invariant-loop-arg : goal.invariant-loop-arg
invariant-loop-arg l = list_any is_heavy (drop l.arg-index l.args) ≡ list_any is_heavy l.args
