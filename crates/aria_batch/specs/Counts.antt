-- The events that a batch counted, where it was run to its end.
use Rattle.std.specs.Prelude.{ℕ, Some, None, Ok, Err}
use Rattle.std.specs.declared.option.Option.{Option}
use Rattle.std.specs.declared.result.Result.{Result}
use Rattle.std.specs.declared.alloc.AllocError.{AllocError}
use Rattle.aria_batch.specs.declared.batch.BatchResult.{BatchResult}
use Rattle.aria_batch.specs.declared.events.Ended.{Ended}

-- none where memory ran out
abbrev pub counted_in_batch : Result BatchResult AllocError → Option ℕ
counted_in_batch (Ok b) = Some b.events
counted_in_batch (Err e) = None

abbrev pub counted_in_run : Result Ended AllocError → Option ℕ
counted_in_run (Ok ended) = Some ended.events
counted_in_run (Err e) = None
