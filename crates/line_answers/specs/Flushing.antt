-- What a line leaves of what an output has handed on.
use Rattle.std.specs.Prelude.{ℕ, List, IfOk, IsSome}
use Rattle.std.specs.declared.option.Option.{Option}
use Rattle.std.specs.declared.result.Result.{Result}
use Rattle.sf_outside.specs.Handing.{IsHandedOn}
use Rattle.batch_replies.specs.Flushing.{StaysHanded}
use Rattle.batch_replies.specs.declared.counting.BatchCounts.{BatchCounts}
use Rattle.batch_replies.specs.declared.stops.Stop.{Stop}

-- it stays so, and where a batch was answered the output was flushed behind it
pub record FlushesBatch (result : Result (Option BatchCounts) Stop) (old new held : Option (List ℕ)) : Type 0 where
  pub stays : StaysHanded old new
  pub all : IfOk result (λ ran. IsSome ran → IsHandedOn new held)
