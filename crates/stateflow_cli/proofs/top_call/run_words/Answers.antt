use Rattle.std.proofs.Common.{subst, ◌≡◌, map, string_bytes, ℕ, List}
use Rattle.std.specs.Prelude.{Err, None}
use Rattle.command_words.specs.Readings.{Reads}
use Rattle.command_words.specs.CommandReading.{asked}
use Rattle.command_words.specs.Commands.{asked_by}
use Rattle.stateflow_cli.specs.Devices.{devices, source, sink, outside, store_disk}
use Rattle.stateflow_cli.specs.StatusLines.{line_of, status_of}
use Rattle.stateflow_cli.specs.Telling.{Told}
use Rattle.stateflow_cli.proofs.DeedLaws.{answers_misused, answers_unread, answers_on, aside_before, aside_on}
use Rattle.stateflow_cli.specs.Deeds.{store_in}
use Rattle.stateflow_cli.proofs.top_call.run_words.Goals as goal

pub returns-in-Ok-clause-answers : goal.returns-in-Ok-clause-answers
returns-in-Ok-clause-answers g c =
    let e = c.perform-ending.result in
    let err = sink (g.E.Sink.held c.perform-ending.new.err) (g.E.Sink.handed c.perform-ending.new.err) (g.E.Sink.faults c.perform-ending.new.err) in
    answers_on _ _ _ _ _ err _ _ (asked_by c.in-Ok.command) e c.in-Ok.ensures.reads c.perform-ending.ensures.ends
    (subst (λ (file : List ℕ). Told (line_of file e) (status_of e) err.held (g.E.Sink.held c.tell.new.err) err.faults (g.E.Sink.faults c.tell.new.err) c.tell.result) c.program_name.ensures c.tell.ensures.told)
    c.tell.ensures.later

pub returns-in-Err-Usage-clause-answers : goal.returns-in-Err-Usage-clause-answers
returns-in-Err-Usage-clause-answers g c =
    let given = map string_bytes c.args.words.now in
    let err = sink (g.E.Sink.held c.tell-in-Err-Usage.new.err) (g.E.Sink.handed c.tell-in-Err-Usage.new.err) (g.E.Sink.faults c.tell-in-Err-Usage.new.err) in
    answers_misused _ _ _ err _ c.tell-in-Err-Usage.ensures.later (asked given) (subst (λ e. Reads asked_by (asked given) (Err e)) c.in-Err-Usage.field-0-is c.in-Err-Usage.ensures.reads) c.tell-in-Err-Usage.ensures.told

pub returns-in-Err-NoMemory-clause-answers : goal.returns-in-Err-NoMemory-clause-answers
returns-in-Err-NoMemory-clause-answers g c =
    let err = sink (g.E.Sink.held c.tell-in-Err-NoMemory.new.err) (g.E.Sink.handed c.tell-in-Err-NoMemory.new.err) (g.E.Sink.faults c.tell-in-Err-NoMemory.new.err) in
    answers_unread _ _ _ err _ c.tell-in-Err-NoMemory.ensures.later _ c.tell-in-Err-NoMemory.ensures.told

pub returns-in-Ok-clause-untouched : goal.returns-in-Ok-clause-untouched
returns-in-Ok-clause-untouched g c = λ none. c.perform-ending.ensures.untouched (subst (λ o. store_in o ≡ None) c.in-Ok.ensures.reads none)

pub returns-in-Ok-clause-aside : goal.returns-in-Ok-clause-aside
returns-in-Ok-clause-aside g c =
    let before = devices (g.F.Files.content c.args.files.now) (g.F.Files.faults c.args.files.now) (source (g.S.Source.left c.args.input.now) (g.S.Source.faults c.args.input.now))
    (sink (g.K.Sink.held c.args.out.now) (g.K.Sink.handed c.args.out.now) (g.K.Sink.faults c.args.out.now)) (sink (g.E.Sink.held c.args.err.now) (g.E.Sink.handed c.args.err.now) (g.E.Sink.faults c.args.err.now))
    (outside (g.C.Chooser.choices c.args.chooser.now) (g.W.Watch.told c.args.watch.now)) (store_disk (g.D.Disk.found c.args.disk.now) (g.D.Disk.faults c.args.disk.now) (g.D.Disk.mounts c.args.disk.now)) in
    let after = devices (g.F.Files.content c.perform-ending.new.files) (g.F.Files.faults c.perform-ending.new.files) (source (g.S.Source.left c.perform-ending.new.input) (g.S.Source.faults c.perform-ending.new.input))
    (sink (g.K.Sink.held c.perform-ending.new.out) (g.K.Sink.handed c.perform-ending.new.out) (g.K.Sink.faults c.perform-ending.new.out)) (sink (g.E.Sink.held c.tell.new.err) (g.E.Sink.handed c.tell.new.err) (g.E.Sink.faults c.tell.new.err))
    (outside (g.C.Chooser.choices c.perform-ending.new.chooser) (g.W.Watch.told c.perform-ending.new.watch)) (store_disk (g.D.Disk.found c.perform-ending.new.disk) (g.D.Disk.faults c.perform-ending.new.disk) (g.D.Disk.mounts c.perform-ending.new.disk)) in
    aside_on (asked (map string_bytes c.args.words.now)) (asked_by c.in-Ok.command) before after
    (sink (g.E.Sink.held c.perform-ending.new.err) (g.E.Sink.handed c.perform-ending.new.err) (g.E.Sink.faults c.perform-ending.new.err)) c.in-Ok.ensures.reads c.perform-ending.ensures.aside

pub returns-in-Err-Usage-clause-aside : goal.returns-in-Err-Usage-clause-aside
returns-in-Err-Usage-clause-aside g c =
    let before = devices (g.F.Files.content c.args.files.now) (g.F.Files.faults c.args.files.now) (source (g.S.Source.left c.args.input.now) (g.S.Source.faults c.args.input.now))
    (sink (g.K.Sink.held c.args.out.now) (g.K.Sink.handed c.args.out.now) (g.K.Sink.faults c.args.out.now)) (sink (g.E.Sink.held c.args.err.now) (g.E.Sink.handed c.args.err.now) (g.E.Sink.faults c.args.err.now))
    (outside (g.C.Chooser.choices c.args.chooser.now) (g.W.Watch.told c.args.watch.now)) (store_disk (g.D.Disk.found c.args.disk.now) (g.D.Disk.faults c.args.disk.now) (g.D.Disk.mounts c.args.disk.now)) in
    aside_before (asked (map string_bytes c.args.words.now)) before (sink (g.E.Sink.held c.tell-in-Err-Usage.new.err) (g.E.Sink.handed c.tell-in-Err-Usage.new.err) (g.E.Sink.faults c.tell-in-Err-Usage.new.err))

pub returns-in-Err-NoMemory-clause-aside : goal.returns-in-Err-NoMemory-clause-aside
returns-in-Err-NoMemory-clause-aside g c =
    let before = devices (g.F.Files.content c.args.files.now) (g.F.Files.faults c.args.files.now) (source (g.S.Source.left c.args.input.now) (g.S.Source.faults c.args.input.now))
    (sink (g.K.Sink.held c.args.out.now) (g.K.Sink.handed c.args.out.now) (g.K.Sink.faults c.args.out.now)) (sink (g.E.Sink.held c.args.err.now) (g.E.Sink.handed c.args.err.now) (g.E.Sink.faults c.args.err.now))
    (outside (g.C.Chooser.choices c.args.chooser.now) (g.W.Watch.told c.args.watch.now)) (store_disk (g.D.Disk.found c.args.disk.now) (g.D.Disk.faults c.args.disk.now) (g.D.Disk.mounts c.args.disk.now)) in
    aside_before (asked (map string_bytes c.args.words.now)) before (sink (g.E.Sink.held c.tell-in-Err-NoMemory.new.err) (g.E.Sink.handed c.tell-in-Err-NoMemory.new.err) (g.E.Sink.faults c.tell-in-Err-NoMemory.new.err))
