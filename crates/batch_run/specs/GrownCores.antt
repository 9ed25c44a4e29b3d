-- What batches make of a core.
use Rattle.std.specs.Prelude.{◌≡◌, List, [], ◌∷◌, ◌++◌}
use Rattle.std.specs.FinMap as map
use Rattle.sf_value.specs.Keys.{Key}
use Rattle.sf_value.specs.declared.Entry.{Entry}
use Rattle.program_meaning.specs.ClassTables.{Source}
use Rattle.serial_order.specs.ConflictFree.{runs_on, record_after}
use Rattle.engine.specs.Cores.{Core}
use Rattle.engine.specs.Vocabulary as requests
use Rattle.engine.specs.Batches.{batch_entries, requests_at}
use Rattle.engine.specs.RanBatches.{accesses_on}
use Rattle.batch_session.specs.Vocabulary.{next_core}
use Rattle.batch_run.specs.RunViews.{Rule}

-- the entries that batches on these cores commit, one batch after another
abbrev pub entries_of : Source → Rule → List Core → List Entry
entries_of src rule [] = []
entries_of src rule (core ∷ more) = batch_entries src core (rule (accesses_on src core)).committed ++ entries_of src rule more

-- the state behind a batch is the one before it with what the committed requests write, each run by itself on the state before
pub record TakesWrites (src : Source) (rule : Rule) (core : Core) : Type 0 where
  pub records : (q : Key) → map.get (next_core rule src core).state q
      ≡ record_after (map.get core.state q) q (runs_on src core.state (requests.acts_of (requests_at core.pending (rule (accesses_on src core)).committed)))
