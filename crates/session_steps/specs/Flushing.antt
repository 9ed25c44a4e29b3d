-- What of an output was handed on behind the batches of a session.
use Rattle.std.specs.Prelude.{◌≡◌, ◌<◌, ℕ, List, ◌++◌, length}
use Rattle.std.specs.declared.option.Option.{Option}
use Rattle.std.specs.Io.KnownBytes.{Appends}
use Rattle.sf_outside.specs.Gains.{joined}
use Rattle.sf_outside.specs.Handing.{IsHandedOn}
use Rattle.batch_output.specs.BatchOutput.{Standing}
use Rattle.line_answers.specs.Vocabulary.{StaysHanded}
use Rattle.line_answers.specs.Services.{Service}
use Rattle.session_steps.specs.Steps.{Step, printed, ran_on}

-- Some first ones of these steps run so many batches. Behind them the output was flushed, so that all that it held then was handed on; and that stays so.
pub record IsFlushedBehind (v : Service) (steps : List Step) (old : Standing) (batches : ℕ) (held handed handed' : Option (List ℕ)) : Type 0 where
  pub first : List Step
  pub rest : List Step
  pub split : steps ≡ first ++ rest
  pub ran : length (ran_on v old first) ≡ batches
  pub behind : Option (List ℕ)
  pub printed : Appends held behind (joined (printed v old first))
  pub flushed : Option (List ℕ)
  pub before : StaysHanded handed flushed
  pub all : IsHandedOn flushed behind
  pub since : StaysHanded flushed handed'

-- What was handed on stays so, and behind the last of so many batches the output was flushed.
pub record FlushesBatches (v : Service) (steps : List Step) (old : Standing) (batches : ℕ) (held handed handed' : Option (List ℕ)) : Type 0 where
  pub stays : StaysHanded handed handed'
  pub behind : 0 < batches → IsFlushedBehind v steps old batches held handed handed'
