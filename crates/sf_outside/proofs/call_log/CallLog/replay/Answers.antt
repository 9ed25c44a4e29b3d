use Rattle.std.proofs.Common.{◌≡◌, ◌+◌, ◌≤◌, length, take, drop, min, ap, sym, subst, ◌∙◌, arith, get_or, length-drop}
use Rattle.std.proofs.lemmas.Grind.{common_steps}
use Rattle.std.proofs.lemmas.List.{take_all}
use Rattle.sf_outside.specs.declared.call_log.Note.TheVariants as note
use Rattle.sf_outside.specs.CallLog.{calls_of, note_fits, notes_fit, noted_bytes}
use Rattle.sf_outside.specs.Images.{image_after}
use Rattle.sf_outside.specs.Replays.{Played}
use Rattle.sf_outside.proofs.LogLaws.{length-calls_of, calls_of-take, notes_fit-at, notes_fit-take}
use Rattle.sf_outside.proofs.Replays.{played_none, played_next, up_to_next, next_has_bytes, all_behind, as_many}
use Rattle.sf_outside.proofs.call_log.CallLog.replay.Goals as goal

pub loop-note-init : goal.loop-note-init
loop-note-init c = played_none c.args.fill c.self.inside.bytes.items c.args.now.now c.args.left.now c.requires.same

pub slice_bounds-play-count : goal.slice_bounds-play-count
slice_bounds-play-count c =
    let there = next_has_bytes c.deref.result.now c.min-end.result c.loop-note.note-index note.Quiet c.loop-note-test.true in
    omega (arith, there, c.loop-note.invariant.used, c.self.invariant.0, ap noted_bytes c.deref.ensures.value, ap length c.deref-in-loop-note.ensures.value)

pub slice_bounds-play-start : goal.slice_bounds-play-start
slice_bounds-play-start c =
    let there = next_has_bytes c.deref.result.now c.min-end.result c.loop-note.note-index note.Quiet c.loop-note-test.true in
    let within : c.loop-note.used ≤ length c.deref-in-loop-note.result.now = omega (arith, there, c.loop-note.invariant.used, c.self.invariant.0, ap noted_bytes c.deref.ensures.value, ap length c.deref-in-loop-note.ensures.value) in
    within

pub play-used-requires-clause-bytes : goal.play-used-requires-clause-bytes
play-used-requires-clause-bytes c =
    let bytes = c.deref-in-loop-note.result.now in
    let there = next_has_bytes c.deref.result.now c.min-end.result c.loop-note.note-index note.Quiet c.loop-note-test.true in
    let long = ap length (all_behind bytes c.loop-note.used) ∙ length-drop c.loop-note.used bytes in
    omega (arith, there, long, c.loop-note.invariant.used, c.self.invariant.0, ap noted_bytes c.deref.ensures.value, ap length c.deref-in-loop-note.ensures.value)

pub play-used-requires-clause-now : goal.play-used-requires-clause-now
play-used-requires-clause-now c =
    let room = c.self.inside.room in
    let first = take c.min-end.result c.deref.result.now in
    let next = get_or first c.loop-note.note-index note.Quiet in
    let all = subst (notes_fit room) (sym c.deref.ensures.value) c.self.invariant.4 in
    let same = ap (λ files. files.room) c.loop-note.invariant.now ∙ c.requires.now ∙ sym (ap (λ log. log.room) c.self.view_is) in
    subst (λ room. note_fits room next) (sym same) (notes_fit-at room first c.loop-note.note-index note.Quiet (notes_fit-take room c.min-end.result c.deref.result.now all) c.loop-note-test.true)

pub play-used-requires-clause-left : goal.play-used-requires-clause-left
play-used-requires-clause-left c =
    let room = c.self.inside.room in
    let first = take c.min-end.result c.deref.result.now in
    let next = get_or first c.loop-note.note-index note.Quiet in
    let all = subst (notes_fit room) (sym c.deref.ensures.value) c.self.invariant.4 in
    let same = ap (λ files. files.room) c.loop-note.invariant.left ∙ c.requires.left ∙ sym (ap (λ log. log.room) c.self.view_is) in
    subst (λ room. note_fits room next) (sym same) (notes_fit-at room first c.loop-note.note-index note.Quiet (notes_fit-take room c.min-end.result c.deref.result.now all) c.loop-note-test.true)

pub play-used-requires-clause-same : goal.play-used-requires-clause-same
play-used-requires-clause-same c = c.loop-note.invariant.same

pub overflow_add-used : goal.overflow_add-used
overflow_add-used c =
    let there = next_has_bytes c.deref.result.now c.min-end.result c.loop-note.note-index note.Quiet c.loop-note-test.true in
    let small = c.deref-in-loop-note.type_inv.0 in
    omega (arith, there, small, c.play-used.ensures.used, c.loop-note.invariant.used, c.self.invariant.0, ap noted_bytes c.deref.ensures.value, ap length c.deref-in-loop-note.ensures.value)

pub loop-note-preserved : goal.loop-note-preserved
loop-note-preserved c =
    let first = take c.min-end.result c.deref.result.now in
    let index = c.loop-note.note-index in
    let bytes = c.self.inside.bytes.items in
    let next = get_or first index note.Quiet in
    let given = all_behind c.deref-in-loop-note.result.now c.loop-note.used ∙ ap (drop c.loop-note.used) c.deref-in-loop-note.ensures.value in
    subst (λ notes. Played c.args.fill bytes c.args.now.now c.args.left.now notes (c.loop-note.used + c.play-used.result) c.play-used.new.now c.play-used.new.left) (sym (up_to_next first index note.Quiet c.loop-note-test.true))
    (played_next c.args.fill bytes c.args.now.now c.args.left.now (take index first) c.loop-note.used c.loop-note.now c.loop-note.left c.loop-note.invariant
    next _ c.play-used.result c.play-used.new.now c.play-used.new.left given c.play-used.ensures.used c.play-used.ensures.now c.play-used.ensures.left)

pub returns : goal.returns
returns c =
    let notes = c.deref.result.now in
    let first = take c.min-end.result notes in
    let bytes = c.self.inside.bytes.items in
    let calls : calls_of notes bytes ≡ c.args.self.now.calls = ap (λ all. calls_of all bytes) c.deref.ensures.value ∙ ap (λ log. log.calls) c.self.view_is in
    let end : c.min-end.result ≡ min c.args.moment (length (calls_of notes bytes)) = grind (arith, common_steps, length-calls_of notes bytes, c.deref.ensures.value) in
    c.loop-note.invariant.left
    ∙ ap (λ calls. record c.args.left.now { image = image_after c.args.fill c.args.now.now.image calls })
    (ap (λ all. calls_of all bytes) (take_all c.loop-note.note-index first (omega (arith, c.loop-note-test.false)))
    ∙ sym (calls_of-take c.min-end.result notes bytes) ∙ ap (λ n. take n (calls_of notes bytes)) end ∙ as_many c.args.moment (calls_of notes bytes) ∙ ap (take c.args.moment) calls)
