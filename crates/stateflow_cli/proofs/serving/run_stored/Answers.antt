use Rattle.std.proofs.Common.{ap, refl, sym, subst, ◌∙◌}
use Rattle.accepted_texts.proofs.AcceptedTexts.{accepted_is_short}
use Rattle.byte_sizes.specs.Spelt.{IsShortText}
use Rattle.block_step.specs.CompiledViews.{IsWhole}
use Rattle.command_words.specs.Commands.{settings_by}
use Rattle.batch_run.specs.declared.running.RunSettings.{RunSettings}
use Rattle.session_store.specs.declared.store.StoreSettings.{StoreSettings}
use Rattle.stateflow_cli.specs.Devices.{devices, source, sink, outside, store_disk}
use Rattle.stateflow_cli.specs.Endings.{longest_input}
use Rattle.stateflow_cli.proofs.RunEndings.{run_ends, can_serve}
use Rattle.stateflow_cli.proofs.ServedRuns.{nothing_run, not_opened, ran_stored}
use Rattle.stateflow_cli.proofs.serving.run_stored.Goals as goal

pub open_store-requires : goal.open_store-requires
open_store-requires g c =
    let holds = c.in-Ok.ensures.gives in
    record {
      whole = holds.is.is.whole;
      short = subst IsShortText (sym holds.is.characters) (accepted_is_short holds.text _ _ holds.is.is.is_accepted);
      every = c.requires.in_range.every;
    }

pub run_on-requires : goal.run_on-requires
run_on-requires g c =
    let ready = c.in-Ok-open_store.ensures.ready in
    record {
      whole = subst IsWhole (sym ready.runs.compiled_is) c.in-Ok.ensures.gives.is.is.whole;
      serves = can_serve (settings_by c.args.words) c.settings_of.result c.settings_of.ensures c.requires.in_range;
      history = ready.runs.limit_is ∙ sym (ap (λ (s : RunSettings). s.history) c.settings_of.ensures);
      fresh = ready.fresh;
      fits = ready.fits;
      storable = ready.storable;
      few = ready.few;
      since = ready.since;
      first = ap (λ (s : StoreSettings). s.opened) ready.settings_are;
      kept = c.in-Ok-open_store.ensures.kept;
    }

pub returns-in-Err : goal.returns-in-Err
returns-in-Err g c =
    not_opened longest_input c.args.file.now c.args.name.now (settings_by c.args.words) _ _ _ _ c.requires.named c.in-Ok.loaded c.in-Ok.ensures.gives c.in-Err.stop
    c.in-Err.ensures.answer c.in-Err.ensures.unchanged c.in-Err.ensures.mounts c.in-Err.ensures.cause (nothing_run longest_input c.args.file.now (settings_by c.args.words) _ _ _ _ _ _ _ _ _ (g.D.Disk.facts c.args.disk.now) _)

pub returns-in-Ok-open_store : goal.returns-in-Ok-open_store
returns-in-Ok-open_store g c =
    let w = settings_by c.args.words in
    let old = devices (g.F.Files.content c.args.files.now) (g.F.Files.faults c.args.files.now) (source (g.S.Source.left c.args.input.now) (g.S.Source.faults c.args.input.now)) (sink (g.K.Sink.held c.args.out.now) (g.K.Sink.handed c.args.out.now) (g.K.Sink.faults c.args.out.now))
    (sink (g.E.Sink.held c.args.err.now) (g.E.Sink.handed c.args.err.now) (g.E.Sink.faults c.args.err.now)) (outside (g.C.Chooser.choices c.args.chooser.now) (g.W.Watch.told c.args.watch.now))
    (store_disk (g.D.Disk.found c.args.disk.now) (g.D.Disk.faults c.args.disk.now) (g.D.Disk.mounts c.args.disk.now)) in
    let new = devices (g.F.Files.content c.load_with_text.new.files) (g.F.Files.faults c.load_with_text.new.files) (source (g.S.Source.left c.run_on.new.input) (g.S.Source.faults c.run_on.new.input)) (sink (g.K.Sink.held c.run_on.new.out) (g.K.Sink.handed c.run_on.new.out) (g.K.Sink.faults c.run_on.new.out))
    (sink (g.E.Sink.held c.run_on.new.err) (g.E.Sink.handed c.run_on.new.err) (g.E.Sink.faults c.run_on.new.err)) (outside (g.C.Chooser.choices c.run_on.new.chooser) (g.W.Watch.told c.run_on.new.watch))
    (store_disk (g.D.Disk.found c.run_on.new.disk) (g.D.Disk.faults c.run_on.new.disk) (g.D.Disk.mounts c.run_on.new.disk)) in
    let was = g.D.Disk.facts c.args.disk.now in
    let now = g.D.Disk.facts c.run_on.new.disk in
    run_ends longest_input c.args.file.now w old new was now c.run_on.result c.ending_of.result c.ending_of.ensures
    (ran_stored longest_input c.args.file.now c.args.name.now w old new was now c.requires.named c.in-Ok.loaded c.in-Ok.ensures.gives
    c.in-Ok-open_store.opened _ c.in-Ok-open_store.ensures.ready refl refl c.in-Ok-open_store.ensures.answer
    c.settings_of.result c.settings_of.ensures (can_serve (settings_by c.args.words) c.settings_of.result c.settings_of.ensures c.requires.in_range) c.run_on.result (g.D.Disk.faults c.open_store.new.disk) c.in-Ok-open_store.ensures.later
    c.in-Ok-open_store.ensures.mounts.moment (c.run_on.ensures.mounts ∙ c.in-Ok-open_store.ensures.mounts.mounts) (g.D.Disk.facts c.open_store.new.disk) c.in-Ok-open_store.ensures.mounts.within
    c.in-Ok-open_store.ensures.mounts.each c.run_on.ensures.ran
    c.run_on.ensures.read_cause c.run_on.ensures.write_cause c.run_on.ensures.later_err c.run_on.ensures.handed)
