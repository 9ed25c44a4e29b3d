-- The works of transactions that are over: what each has read and written, and its records of what it wrote.
use Rattle.std.specs.Prelude.{◌≡◌, true, List, [], ◌∷◌}
use Rattle.std.specs.FinMap as map
use Rattle.std.specs.FinSet as set
use Rattle.sf_value.specs.Keys.{Key}
use Rattle.sf_value.specs.declared.Outcome.TheVariants as outcome
use Rattle.program_meaning.specs.World.{Keys, World}
use Rattle.keyed_state.specs.declared.Work.{Work}
use Rattle.keyed_state.specs.Works.{keys_of, held_record}
use Rattle.block_code.specs.declared.event.EventKind.{EventKind}
use Rattle.block_code.specs.declared.event.EventKind.TheVariants as kind
use Rattle.transaction_steps.specs.Transactions.{Transaction}

-- what counts as written in a world: a request that failed has written nothing
abbrev pub written : World → EventKind → Keys
written w (kind.Done (outcome.Failed f)) = set.empty
written w k = w.writes

-- a work has read and written what a transaction has, and holds of what was written the records that the transaction's world has
pub record Buffers (t : Transaction) (work : Work) : Type 0 where
  pub reads : keys_of work.reads ≡ t.world.reads
  pub writes : keys_of work.writes ≡ written t.world t.next.kind
  pub records : (q : Key) → set.contains (written t.world t.next.kind) q ≡ true → held_record work.held q ≡ map.get t.world.state q

-- these works are those of these transactions, each at its place
abbrev pub EachBuffers : List Transaction → List Work → Type 0
EachBuffers [] [] = Unit {0}
EachBuffers [] (work ∷ works) = ⊥
EachBuffers (t ∷ ts) [] = ⊥
EachBuffers (t ∷ ts) (work ∷ works) = Buffers t work × EachBuffers ts works
