-- What a turn of transactions in flight comes to.
use Rattle.std.specs.Prelude.{◌≡◌, ℕ, Bool, true, false, List, Ok, Err}
use Rattle.std.specs.declared.option.Option.{Option}
use Rattle.std.specs.declared.result.Result.{Result}
use Rattle.std.specs.declared.alloc.AllocError.{AllocError}
use Rattle.program_meaning.specs.World.{State}
use Rattle.keyed_state.specs.declared.Work.{Work}
use Rattle.sf_outside.specs.Choices.{Choices, Picks}
use Rattle.interleaving.specs.Turns.{Parts, running, turned, told}
use Rattle.transaction_steps.specs.Transactions.{Transaction}
use Rattle.operator_graph.specs.declared.flight.Flight.{Flight}
use Rattle.operator_graph.specs.Telling.{Told, AlsoTold}
use Rattle.operator_graph.specs.Flights.{EachTransaction}

-- what a chooser tells of its choices, and what a watch was told
pub record Outside : Type 0 where
  pub choices : Option Choices
  pub told : Option (List Told)

module _ (m : Parts Transaction Told) (ts : List Transaction) where
  -- one more pick was asked for of as many as aren't over, made of them, and told
  pub record PicksOne (old new : Outside) : Type 0 where
    pub pick : ℕ
    pub runs : running m ts ≡ 0 → ⊥
    pub picked : Picks old.choices (running m ts) pick new.choices
    pub told_of_it : AlsoTold old.told new.told (told m pick ts)

  -- where there was a turn, the one that was picked has taken a step; where there was none, none is left, and all is as it was; where
  -- memory ran out, the pick was made and told
  abbrev pub Turns : State → Result Bool AllocError → List Flight → List Work → Outside → Outside → Type 0
  Turns snapshot (Ok true) flights works old new = (p : PicksOne old new) × EachTransaction snapshot (turned m p.pick ts) flights works
  Turns snapshot (Ok false) flights works old new = (running m ts ≡ 0) × EachTransaction snapshot ts flights works × (new ≡ old)
  Turns snapshot (Err e) flights works old new = PicksOne old new
