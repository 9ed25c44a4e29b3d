-- What a session that serves each request at once has written, as a session with batches of one request tells it.
use Rattle.std.specs.Prelude.{◌≡◌, ℕ, ◌⊎◌, List, ◌++◌, take, Err}
use Rattle.std.specs.declared.option.Option.{Option}
use Rattle.std.specs.declared.result.Result.{Result}
use Rattle.std.specs.Io.KnownBytes.{Appends}
use Rattle.sf_outside.specs.Bytes.{AppendsPrefix}
use Rattle.sf_outside.specs.Gains.{joined}
use Rattle.program_meaning.specs.ClassTables.{Source}
use Rattle.serial_order.specs.ConflictFree.{Access}
use Rattle.reservations.specs.CommitRules.{Chosen}
use Rattle.request_json.specs.Actions.{Line}
use Rattle.engine.specs.Cores.{Core, empty_core}
use Rattle.engine.specs.Batches.{after_batch}
use Rattle.session.specs.declared.feeding.InputEnd.{InputEnd}
use Rattle.session.specs.declared.stopping.SessionStop.{SessionStop}
use Rattle.session.specs.declared.stopping.SessionStop.TheVariants.{NoMemory, WriteFault}
use Rattle.session.specs.OutputText as local
use Rattle.session.specs.Stops.{Wrote}
use Rattle.batch_output.specs.BatchOutput.{Limits, begun, committed, replies}
use Rattle.batch_output.specs.SerialBatches.{IsLawfulRule, PrintsSerially}
use Rattle.batch_of_one.specs.BatchOfOne.{in_batches}

module _ (src : Source) (rule : List Access → Chosen) (limits : Limits) (lines : List Line) (held held' : Option (List ℕ)) where
  -- It came to the core behind some first ones of these lines, whose replies are those of one serial run, and wrote a front of them. Of what it committed all
  -- replies were written; or, where one was cut, all but those to one batch: what is printed before it was written, and perhaps more.
  pub record ComesBehind (cut : Type 0) (last : Core) : Type 0 where
    pub count : ℕ
    pub core : (in_batches src rule limits (take count lines)).core ≡ last
    pub came : ℕ
    pub run : PrintsSerially src empty_core last came (replies src rule limits (begun empty_core) (take count lines))
    pub front : AppendsPrefix held held' (joined (replies src rule limits (begun empty_core) (take count lines)))
    pub before : Core
    pub number : ℕ
    pub texts : List (List ℕ)
    pub serial : PrintsSerially src empty_core before number texts
    pub more : List ℕ
    pub wrote : Appends held held' (joined texts ++ more)
    pub last_is : (last ≡ before) ⊎ (cut × (last ≡ after_batch src before (committed src rule limits before)))

  -- With a write fault alone a reply may be cut, and with want of memory the session may have stopped before the last line.
  pub record WroteBatches (result : Result InputEnd SessionStop) : Type 0 where
    pub last : Core
    pub behind : ComesBehind (result ≡ Err WriteFault) last
    pub whole : (result ≡ Err NoMemory → ⊥) → (result ≡ Err WriteFault → ⊥) → (in_batches src rule limits lines).core ≡ last
    pub some : (result ≡ Err WriteFault → ⊥) → (count : ℕ) × Appends held held' (joined (take count (replies src rule limits (begun empty_core) lines)))

-- whatever a session wrote that serves each request at once, to any lines and with any result
abbrev pub WritesBatches : Type 0
WritesBatches = (src : Source) (rule : List Access → Chosen) → IsLawfulRule rule → (limits : Limits) → limits.batch ≡ 1 → (lines : List Line)
    → (held held' : Option (List ℕ)) (result : Result InputEnd SessionStop) → Wrote result held held' (local.replies src limits.history local.start lines)
    → WroteBatches src rule limits lines held held' result
