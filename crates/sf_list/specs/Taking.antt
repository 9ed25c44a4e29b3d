-- How a list is taken apart.
use Rattle.std.specs.Prelude.{◌≡◌, ◌^◌, ◌<◌, List, length}
use Rattle.std.specs.Global.{Global}
use Rattle.std.specs.Iterator.Runs.{EveryRun, ItemsAre}
use Rattle.std.specs.Vec.Iter.{into_iter_items, into_iter_len, into_iter_steps}
use Rattle.std.specs.declared.vec.IntoIter.{IntoIter}

-- the iterator has the elements of the list before it, and gives them from the front, each once
abbrev pub TakesApart : {T : Type 0} → List T → IntoIter T Global → Type 0
TakesApart {T = T} list taken =
    (into_iter_items taken ≡ list) × (into_iter_len taken ≡ length list) × (into_iter_len taken < 2 ^ 64)
    × EveryRun (into_iter_steps {X = T} {Z = Global}) (λ p. ItemsAre p (into_iter_items p.from))
