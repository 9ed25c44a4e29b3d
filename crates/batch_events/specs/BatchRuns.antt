-- A batch comes to the runs of its requests on the snapshot, whatever the picks and the number of partitions.
use Rattle.std.specs.Prelude.{◌≡◌, ◌≤◌, ℕ, List, length, map as over, Some}
use Rattle.std.specs.declared.option.Option.{Option}
use Rattle.std.specs.List.{AllByRecursion}
use Rattle.py_tree.specs.PlainProgram.{PlainProgram}
use Rattle.py_tree.specs.ClassRules.{PlainTable, tables_of}
use Rattle.sf_value.specs.declared.Act.{Act}
use Rattle.program_meaning.specs.ClassTables.{Source}
use Rattle.program_meaning.specs.World.{State}
use Rattle.program_meaning.specs.Fits.{StateFits, ActFits}
use Rattle.program_meaning.specs.RequestRun.{Ran, run}
use Rattle.program_meaning.specs.NothingGoesWrong.{IsKnownAccepted}
use Rattle.block_code.specs.declared.event.Event.{Event}
use Rattle.block_code.specs.PlainBlocks.{PlainBlock}
use Rattle.block_code.specs.GraphFits.{GraphFits}
use Rattle.operator_graph.specs.Telling.{Told}
use Rattle.request_events.specs.RequestEvents.{ended_as}
use Rattle.request_events.specs.GraphMeans.{GraphMeans}
use Rattle.quiet_methods.specs.MarksKeepWithin.{source}
use Rattle.interleaving.specs.AsAlone.{sum_of, Alone, EachEnds, AreAsAlone}
use Rattle.transaction_steps.specs.Transactions.{Transaction, firsts}
use Rattle.operator_graph.specs.BatchEvents.{event_told, transactions, batch_after, batch_told, batch_running}

-- Runs

-- the events that a transaction handles alone, and what it is behind them
pub record OwnRun : Type 0 where
  pub events : List Event
  pub last : Transaction

-- as it is told where there are so many partitions
abbrev pub as_told : ℕ → OwnRun → Alone Transaction Told
as_told parts r = record { notes = over (event_told parts) r.events; last = r.last }

-- what a transaction has come to, where it is over
abbrev pub come_to : State → Transaction → Option Ran
come_to snapshot t = ended_as snapshot t.world t.next.steps t.next.kind

-- these transactions have come to the runs of their requests on the snapshot
abbrev pub AreRuns : Source → State → List Act → List Transaction → Type 0
AreRuns src snapshot batch ts = over (come_to snapshot) ts ≡ over (λ asked. Some (run src snapshot asked)) batch

-- a batch comes to the runs of its requests, whatever the picks and the number of partitions
pub record ComesToRuns (src : Source) (tables : List PlainTable) (graph : List (List PlainBlock)) (snapshot : State) (batch : List Act) : Type 0 where
  -- alone, each transaction handles these events, and comes to its request's run
  pub alone : List OwnRun
  pub ends : (parts : ℕ) → EachEnds (transactions src tables graph parts) (firsts src snapshot batch) (over (as_told parts) alone)
  pub alone_are : AreRuns src snapshot batch (over (λ (r : OwnRun). r.last) alone)
  -- along picks each handles its own events
  pub along_picks : (parts : ℕ) → AreAsAlone (transactions src tables graph parts) (firsts src snapshot batch) (over (as_told parts) alone)
  -- all are over once there were as many picks as events
  pub end : (parts : ℕ) (picks : List ℕ) → sum_of (λ (r : OwnRun). length r.events) alone ≤ length picks → batch_running src tables graph snapshot batch parts picks ≡ 0
  -- where all are over, they have come to their requests' runs
  pub are : (parts : ℕ) (picks : List ℕ) → batch_running src tables graph snapshot batch parts picks ≡ 0 → AreRuns src snapshot batch (batch_after src tables graph snapshot batch parts picks)
  -- and there were as many events as alone
  pub count : (parts : ℕ) (picks : List ℕ) → batch_running src tables graph snapshot batch parts picks ≡ 0
      → length (batch_told src tables graph snapshot batch parts picks) ≡ sum_of (λ (r : OwnRun). length r.events) alone

-- so it is for each batch whose requests fit, on each snapshot that fits
abbrev pub BatchesComeToTheirRuns : Type 0
BatchesComeToTheirRuns = (names : List (List ℕ)) (program : PlainProgram) → IsKnownAccepted names program → (graph : List (List PlainBlock)) → GraphFits names program graph → GraphMeans names program graph
    → (snapshot : State) → StateFits (tables_of names program) snapshot → (batch : List Act) → AllByRecursion (ActFits (tables_of names program)) batch
    → ComesToRuns (source names program) (tables_of names program) graph snapshot batch
