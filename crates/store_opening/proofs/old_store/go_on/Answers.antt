use Rattle.std.proofs.Common.{refl}
use Rattle.kept_parts.proofs.EachLaws.{refuses}
use Rattle.engine.specs.EngineViews.{core_of}
use Rattle.store_opening.proofs.OldStores.{kept_storable, other_told, batches_told, old_placed}
use Rattle.store_opening.proofs.old_store.go_on.Goals as goal

pub returns-then-not-same-clause-answer : goal.returns-then-not-same-clause-answer
returns-then-not-same-clause-answer c = λ image old.
    other_told c.args.compiled c.args.settings.program c.args.position c.args.kept c.args.batches image old (refuses _ refl c.if-not-same.ensures)

pub with_batches-requires-clause-storable : goal.with_batches-requires-clause-storable
with_batches-requires-clause-storable c =
    kept_storable c.args.compiled c.args.kept c.in-Ok.ensures.kept_fits (core_of c.in-Ok.engine) c.in-Ok.ensures.core c.requires.kept

pub returns-in-Ok-clause-answer : goal.returns-in-Ok-clause-answer
returns-in-Ok-clause-answer c = λ image old.
    batches_told c.args.compiled c.args.settings.program c.args.position c.args.kept c.args.batches image old (c.if-not-same.ensures.0 refl) c.in-Ok.ensures.kept_fits c.requires.count
    c.in-Ok.engine c.in-Ok.ensures.runs.compiled_is c.in-Ok.ensures.core c.with_batches.result c.with_batches.ensures.replays c.with_batches.ensures.position c.with_batches.ensures.stop

pub returns-in-Ok-clause-placed : goal.returns-in-Ok-clause-placed
returns-in-Ok-clause-placed c =
    old_placed c.args.compiled c.args.settings.program c.args.position c.args.kept c.args.batches c.requires.count c.requires.bytes c.requires.logged
    c.in-Ok.engine c.in-Ok.ensures.runs.compiled_is c.in-Ok.ensures.core c.with_batches.result c.with_batches.ensures.replays c.with_batches.ensures.position
