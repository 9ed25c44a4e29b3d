use Rattle.std.proofs.Common.{◌++◌, ap, sym, ◌∙◌, subst}
use Rattle.program_meaning.proofs.Soundness.{checked_are_known}
use Rattle.block_step.specs.CompiledViews.{compiled_program, compiled_names}
use Rattle.kept_parts.specs.Ids.{entry_ids, request_ids}
use Rattle.kept_parts.proofs.IdLaws.{first_part}
use Rattle.engine.specs.Cores.{Core, CoreFits}
use Rattle.engine.specs.Growth.{GrowsSerially}
use Rattle.engine.specs.EngineViews.{core_of, source_of, tables_of}
use Rattle.engine.specs.Moves.{moved, CanMove}
use Rattle.engine.proofs.GrowthLaws.{grows_same}
use Rattle.engine.proofs.ReplayLaws.{can_replay, replayed_fits, replayed_grows}
use Rattle.engine.proofs.engine.Engine.replay.Goals as goal

pub ids_differ-requires-clause-committed : goal.ids_differ-requires-clause-committed
ids_differ-requires-clause-committed c = first_part (entry_ids (core_of c.args.self.now).history) (request_ids (core_of c.args.self.now).pending) c.requires.fits.pending.ids

pub join-requires-clause-can : goal.join-requires-clause-can
join-requires-clause-can c =
    let core = core_of c.args.self.now in
    let waiting = c.in_ok-append.ensures.ok ∙ ap (λ l. l ++ c.args.batch.news) (c.in_ok-waiting.ensures ∙ c.as_slice.ensures) in
    let can = can_replay (tables_of c.args.self.now) (source_of c.args.self.now) core c.args.batch c.requires.fits (c.can_take.ensures.0 c.if-not-can_take.false) (c.can_list.ensures.0 c.if-not-can_list.false)
    c.append.new.self c.as_slice-2.result.now waiting c.as_slice-2.ensures (c.ids_differ.ensures.0 c.if-not-ids_differ.false) c.in_ok-replay.replay c.in_ok-replay.ensures in
    subst (λ (k : Core). CanMove k c.in_ok-replay.replay.moves c.in_ok-replay.replay.places) (sym c.make_room.ensures.core) can.joins.can

pub returns-clause-batch_fits : goal.returns-clause-batch_fits
returns-clause-batch_fits c =
    let core = core_of c.args.self.now in
    let waiting = c.in_ok-append.ensures.ok ∙ ap (λ l. l ++ c.args.batch.news) (c.in_ok-waiting.ensures ∙ c.as_slice.ensures) in
    let can = can_replay (tables_of c.args.self.now) (source_of c.args.self.now) core c.args.batch c.requires.fits (c.can_take.ensures.0 c.if-not-can_take.false) (c.can_list.ensures.0 c.if-not-can_list.false)
    c.append.new.self c.as_slice-2.result.now waiting c.as_slice-2.ensures (c.ids_differ.ensures.0 c.if-not-ids_differ.false) c.in_ok-replay.replay c.in_ok-replay.ensures in
    can.good

pub returns-clause-core : goal.returns-clause-core
returns-clause-core c =
    let core = core_of c.args.self.now in
    let waiting = c.in_ok-append.ensures.ok ∙ ap (λ l. l ++ c.args.batch.news) (c.in_ok-waiting.ensures ∙ c.as_slice.ensures) in
    let can = can_replay (tables_of c.args.self.now) (source_of c.args.self.now) core c.args.batch c.requires.fits (c.can_take.ensures.0 c.if-not-can_take.false) (c.can_list.ensures.0 c.if-not-can_list.false)
    c.append.new.self c.as_slice-2.result.now waiting c.as_slice-2.ensures (c.ids_differ.ensures.0 c.if-not-ids_differ.false) c.in_ok-replay.replay c.in_ok-replay.ensures in
    c.join.ensures.core ∙ ap (λ (k : Core). moved k c.in_ok-replay.replay.moves c.in_ok-replay.replay.places) c.make_room.ensures.core ∙ can.joins.core_is

pub returns-clause-core_fits : goal.returns-clause-core_fits
returns-clause-core_fits c =
    let e = c.args.self.now in
    subst (CoreFits (tables_of e)) (sym (returns-clause-core c))
    (replayed_fits (compiled_names e.compiled) (compiled_program e.compiled) (checked_are_known e.compiled.program) (core_of e) c.args.batch (returns-clause-batch_fits c) c.requires.fits)

pub returns-clause-grows : goal.returns-clause-grows
returns-clause-grows c =
    let e = c.args.self.now in
    subst (GrowsSerially (source_of e) (core_of e)) (sym (returns-clause-core c))
    (replayed_grows (source_of e) (core_of e) c.args.batch (returns-clause-batch_fits c))

pub returns-then-not-can_list-clause-grows : goal.returns-then-not-can_list-clause-grows
returns-then-not-can_list-clause-grows c = grows_same (source_of c.args.self.now) (core_of c.args.self.now)

pub returns-in_err-waiting-clause-grows : goal.returns-in_err-waiting-clause-grows
returns-in_err-waiting-clause-grows c = grows_same (source_of c.args.self.now) (core_of c.args.self.now)

pub returns-in_err-append-clause-grows : goal.returns-in_err-append-clause-grows
returns-in_err-append-clause-grows c = grows_same (source_of c.args.self.now) (core_of c.args.self.now)

pub returns-then-not-ids_differ-clause-grows : goal.returns-then-not-ids_differ-clause-grows
returns-then-not-ids_differ-clause-grows c = grows_same (source_of c.args.self.now) (core_of c.args.self.now)

pub returns-in_err-replay-clause-grows : goal.returns-in_err-replay-clause-grows
returns-in_err-replay-clause-grows c = grows_same (source_of c.args.self.now) (core_of c.args.self.now)

pub returns-in_err-make_room-clause-grows : goal.returns-in_err-make_room-clause-grows
returns-in_err-make_room-clause-grows c =
    subst (GrowsSerially (source_of c.args.self.now) (core_of c.args.self.now)) (sym c.make_room.ensures.core) (grows_same (source_of c.args.self.now) (core_of c.args.self.now))
