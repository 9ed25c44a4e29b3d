-- Transactions in flight: the next event of each, what it buffers over the snapshot, and its work once it is over.
use Rattle.std.specs.Prelude.{◌≡◌, ℕ, true, false, List, [], ◌∷◌, replicate, is_some}
use Rattle.std.specs.List.{AllByRecursion}
use Rattle.std.specs.FinMap as map
use Rattle.std.specs.FinSet as set
use Rattle.sf_value.specs.Keys.{Key}
use Rattle.program_meaning.specs.World.{State, World}
use Rattle.keyed_state.specs.declared.Work.{Work}
use Rattle.keyed_state.specs.Works.{no_work}
use Rattle.transaction_buffers.specs.Buffered.{Buffered, seen}
use Rattle.block_step.specs.declared.compiled.Compiled.{Compiled}
use Rattle.block_step.specs.CompiledViews.{compiled_program, compiled_names, compiled_tables, compiled_blocks}
use Rattle.quiet_methods.specs.MarksKeepWithin.{source}
use Rattle.interleaving.specs.Turns.{Parts}
use Rattle.transaction_steps.specs.Transactions.{Transaction, is_done}
use Rattle.transaction_steps.specs.GoingOn.{TransactionFits}
use Rattle.operator_graph.specs.declared.flight.Flight.{Flight}
use Rattle.operator_graph.specs.Telling.{Told}
use Rattle.operator_graph.specs.BatchEvents.{transactions}
use Rattle.operator_graph.specs.BufferedWorks.{Buffers}

-- what a request has done in its world is what these buffers say: it sees its own records, or else those of the snapshot, has read and
-- written these entities, and has a record of its own of each that it wrote
pub record IsBuffered (snapshot : State) (w : World) (b : Buffered) : Type 0 where
  pub state : (q : Key) → map.get w.state q ≡ seen snapshot b q
  pub reads : w.reads ≡ b.reads
  pub writes : w.writes ≡ b.writes
  pub own : (q : Key) → set.contains b.writes q ≡ true → is_some (map.get b.own q) ≡ true

-- a transaction is what a flight and its work are: it has the same next event; while it goes on, the flight buffers what it has done, and
-- its work is empty; once it is over, its work has what it has done
pub record IsTransaction (snapshot : State) (t : Transaction) (f : Flight) (work : Work) : Type 0 where
  pub next : t.next ≡ f.next
  pub goes_on : is_done f.next.kind ≡ false → IsBuffered snapshot t.world f.buffers × (work ≡ no_work)
  pub is_over : is_done f.next.kind ≡ true → Buffers t work

-- these transactions are what these flights and works are, each at its place
abbrev pub EachTransaction : State → List Transaction → List Flight → List Work → Type 0
EachTransaction snapshot [] [] [] = Unit {0}
EachTransaction snapshot (t ∷ ts) (f ∷ fs) (work ∷ works) = IsTransaction snapshot t f work × EachTransaction snapshot ts fs works
EachTransaction snapshot ts fs works = ⊥

-- flights are those of transactions on this snapshot that fit what was compiled
pub record FlightsFit (c : Compiled) (snapshot : State) (flights : List Flight) (works : List Work) : Type 0 where
  pub transactions : List Transaction
  pub are : EachTransaction snapshot transactions flights works
  pub fit : AllByRecursion (TransactionFits (compiled_tables c) (compiled_blocks c)) transactions

-- how the transactions of what was compiled take turns, on operators of which there are so many for each class
abbrev pub turns_of : Compiled → ℕ → Parts Transaction Told
turns_of c parts = transactions (source (compiled_names c) (compiled_program c)) (compiled_tables c) (compiled_blocks c) parts

-- works that have done nothing, so many
abbrev pub no_works : ℕ → List Work
no_works count = replicate count no_work
