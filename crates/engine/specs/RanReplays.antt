-- What a batch of a log has to be, once it ran, for its core to be the one behind it.
use Rattle.std.specs.Prelude.{◌≡◌, ℕ, true, List, length}
use Rattle.sf_value.specs.declared.Request.{Request}
use Rattle.program_meaning.specs.ClassTables.{Source}
use Rattle.keyed_state.specs.Works.{are_places}
use Rattle.engine.specs.declared.replaying.Replay.{Replay}
use Rattle.engine.specs.Cores.{Core}
use Rattle.engine.specs.Batches.{requests_at}
use Rattle.engine.specs.Moves.{moved}
use Rattle.engine.specs.Replays.{serial_entries, ran_again}

-- what the requests at these places move is made: their entries, works at its places, and what makes the core behind them
pub record HasRunAgain (src : Source) (core : Core) (waiting : List Request) (committed : List ℕ) (r : Replay) : Type 0 where
  pub entries : r.moves.entries ≡ serial_entries src core.state (requests_at waiting committed)
  pub there : are_places (length r.moves.works) r.places ≡ true
  pub behind : moved core r.moves r.places ≡ ran_again src core waiting committed
