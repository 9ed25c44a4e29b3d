-- What requests come to together, each by itself on one state, and in their order, each on the state left by those before it.
use Rattle.std.specs.Prelude.{◌≡◌, List, [], ◌∷◌, ◌++◌, length}
use Rattle.std.specs.List.{range_with_len}
use Rattle.sf_value.specs.declared.Act.{Act}
use Rattle.program_meaning.specs.ClassTables.{Source}
use Rattle.program_meaning.specs.World.{State}
use Rattle.program_meaning.specs.RequestRun.{run}
use Rattle.program_meaning.specs.Serial.{serial_outcomes, serial_state}
use Rattle.keyed_state.specs.declared.Work.{Work}
use Rattle.keyed_state.specs.Works.{with_records, written_records, after_writes}
use Rattle.reservations.specs.Accesses.{accesses_of}
use Rattle.reservations.specs.CommitRules.{IsLawful}
use Rattle.commit_order.specs.CommittedSerial.{AreWorksOf, IsSerial}
use Rattle.aria_batch.specs.declared.batch.BatchResult.{BatchResult}
use Rattle.aria_batch.specs.BatchRun.{own_outcomes}
use Rattle.ordered_runs.specs.declared.ordered.Ordered.{Ordered}

-- the requests ran by themselves on the state, and those that are committed are a serial run
pub record IsTogether (src : Source) (s : State) (asked : List Act) (ran : BatchResult) : Type 0 where
  pub outcomes : ran.outcomes ≡ own_outcomes src s asked
  pub works : AreWorksOf src s asked ran.works
  pub lawful : IsLawful (accesses_of ran.works) (record { committed = ran.committed; carried = ran.carried })
  pub serial : IsSerial src s asked ran.works ran.committed

-- the outcomes are those of a serial run, and the writes of all works, one work after another, make the state after it
pub record IsInOrder (src : Source) (s : State) (asked : List Act) (ran : Ordered) : Type 0 where
  pub outcomes : ran.outcomes ≡ serial_outcomes src s asked
  pub works : length ran.works ≡ length asked
  pub places : ran.places ≡ range_with_len 0 (length asked)
  pub state : after_writes s ran.works ran.places ≡ serial_state src s asked

-- one request more: its outcome and its work have joined the others, and its writes make the state after it
pub record HasJoined (src : Source) (s : State) (asked : Act) (old new : Ordered) : Type 0 where
  pub work : Work
  pub outcomes : new.outcomes ≡ old.outcomes ++ (run src s asked).outcome ∷ []
  pub works : new.works ≡ old.works ++ work ∷ []
  pub places : new.places ≡ old.places ++ length old.works ∷ []
  pub writes : with_records s (written_records work) ≡ (run src s asked).state
