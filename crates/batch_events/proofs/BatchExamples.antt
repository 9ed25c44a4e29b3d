-- A batch of two calls of entities that aren't there, worked out by hand.
use Rattle.std.proofs.Common.{◌≡◌, ℕ, List, [], ◌∷◌, refl, ap}
use Rattle.std.specs.Prelude.{codes}
use Rattle.std.specs.Char.{encode_utf8}
use Rattle.std.specs.FinMap as map
use Rattle.std.specs.FinSet as set
use Rattle.sf_value.specs.Keys.{key_cmp}
use Rattle.sf_value.specs.declared.Act.{Act}
use Rattle.sf_value.specs.declared.Act.TheVariants as act
use Rattle.sf_value.specs.declared.Outcome.TheVariants as outcome
use Rattle.program_meaning.specs.ClassTables.{Source}
use Rattle.program_meaning.specs.World.{State, no_entity}
use Rattle.program_meaning.specs.RequestRun.{at_first, is_too_heavy}
use Rattle.block_code.specs.declared.event.Event.{Event}
use Rattle.block_code.specs.declared.event.EventKind.TheVariants as kind
use Rattle.block_code.specs.PlainBlocks.{ELeave, PlainBlock}
use Rattle.block_runs.specs.EventStep.{event, lasts, up_to}
use Rattle.operator_graph.specs.Routing.{hash_from}
use Rattle.operator_graph.specs.Telling.{StepTold}
use Rattle.interleaving.specs.Turns.{running, noted, after, along}
use Rattle.interleaving.specs.AsAlone.{sum_of}
use Rattle.transaction_steps.specs.Transactions.{Transaction, begun, above_ranks, enough, moved, step_with_enough, handled}
use Rattle.operator_graph.specs.BatchEvents.{batch_told, batch_running}

-- Ranks

of_rank : ℕ → PlainBlock
of_rank rank = record { params = []; code = []; end = ELeave; rank = rank; catches = [] }

more_than_each : above_ranks ((of_rank 0 ∷ of_rank 2 ∷ []) ∷ [] ∷ (of_rank 1 ∷ []) ∷ []) ≡ 6
unfolding sum_of of_rank
more_than_each = refl

enough_for_two_steps : enough ((of_rank 0 ∷ of_rank 2 ∷ []) ∷ [] ∷ (of_rank 1 ∷ []) ∷ []) 2 ≡ 18
unfolding sum_of of_rank
enough_for_two_steps = refl

-- The batch

abbrev src : Source
src = record { program = []; names = [] }

abbrev nothing : State
nothing = map.empty

abbrev calls : List Act
calls = act.Call 0 [] 0 [] ∷ act.Call 1 (codes "apple") 2 [] ∷ []

abbrev second : Event
second = event 1 99999 [] (kind.Enter (record { class = 1; key = codes "apple" }) 2 [])

-- an entity that isn't there is read, and the call is over
abbrev is_missing : Transaction
is_missing = record {
  world = record { state = nothing; reads = set.insert set.empty (1, codes "apple"); writes = set.empty };
  next = event 1 99999 [] (kind.Done (outcome.Failed no_entity));
}

call_fails : handled src [] [] (record { world = at_first nothing; next = second }) ≡ is_missing
unfolding lasts up_to
call_fails = ap (λ held. moved (record { world = at_first nothing; next = second }) (1, codes "apple") (step_with_enough src [] [] second held)) (map.get-empty key_cmp (1, codes "apple"))

-- both run at first, and the pick 3 takes the second; of the four operators of its class the third serves it
third_pick : batch_told src [] [] nothing calls 4 (3 ∷ []) ≡ StepTold 6 second ∷ []
unfolding begun is_too_heavy running noted along lasts hash_from encode_utf8
third_pick = refl

both_run : batch_running src [] [] nothing calls 4 [] ≡ 2
unfolding begun is_too_heavy running after encode_utf8
both_run = refl
