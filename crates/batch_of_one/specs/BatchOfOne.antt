-- A session with batches of one request, beside one that serves each request at once.
use Rattle.std.specs.Prelude.{◌≡◌, ℕ, false, List, []}
use Rattle.sf_outside.specs.Gains.{joined}
use Rattle.program_meaning.specs.ClassTables.{Source}
use Rattle.program_meaning.specs.Serial as serial
use Rattle.serial_order.specs.ConflictFree.{Access}
use Rattle.reservations.specs.CommitRules.{Chosen}
use Rattle.request_json.specs.Actions.{Line}
use Rattle.engine.specs.Cores.{Core, empty_core}
use Rattle.session.specs.OutputText as local
use Rattle.batch_output.specs.BatchOutput.{Limits, Standing, begun, after, replies, at_end, end_replies, output_text}
use Rattle.batch_output.specs.SerialBatches.{IsLawfulRule}

-- what was committed, with the state behind it
abbrev pub committed_of : Core → serial.Core
committed_of core = record { history = core.history; state = core.state }

-- where both stand behind these lines
abbrev pub in_batches : Source → (List Access → Chosen) → Limits → List Line → Standing
in_batches src rule limits lines = after src rule limits (begun empty_core) lines

abbrev pub at_once : Source → Limits → List Line → local.Standing
at_once src limits lines = local.after src limits.history local.start lines

-- after these lines both have the same history and state and have printed the same text, and both go on, or both have stopped since the
-- history is full; as long as they go on nothing waits, and at the end of the input nothing more is printed, committed and taken
pub record StandAlike (src : Source) (rule : List Access → Chosen) (limits : Limits) (lines : List Line) : Type 0 where
  pub core : committed_of (in_batches src rule limits lines).core ≡ (at_once src limits lines).core
  pub full : (in_batches src rule limits lines).is_full ≡ (at_once src limits lines).is_full
  pub text : joined (replies src rule limits (begun empty_core) lines) ≡ joined (local.replies src limits.history local.start lines)
  pub none : (in_batches src rule limits lines).is_full ≡ false → (in_batches src rule limits lines).core.pending ≡ []
  pub end : end_replies src rule limits (in_batches src rule limits lines) ≡ []
  pub over : at_end src rule limits (in_batches src rule limits lines) ≡ in_batches src rule limits lines

-- so it is after any lines, and both print the same text of a whole input
pub record IsLocal (src : Source) (rule : List Access → Chosen) (limits : Limits) : Type 0 where
  pub lines : (lines : List Line) → StandAlike src rule limits lines
  pub text : (bytes : List ℕ) → output_text src rule limits empty_core bytes ≡ local.output_text src limits.history bytes

-- whatever lawful rule commits and however many entries the history may have, where a batch is one request
abbrev pub BatchOfOneIsLocal : Type 0
BatchOfOneIsLocal = (src : Source) (rule : List Access → Chosen) → IsLawfulRule rule → (limits : Limits) → limits.batch ≡ 1 → IsLocal src rule limits
