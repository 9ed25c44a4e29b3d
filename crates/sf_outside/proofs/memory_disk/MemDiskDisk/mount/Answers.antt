use Rattle.std.proofs.Common.{◌≡◌, ℕ, List, Some, ap, sym, subst, ◌∙◌}
use Rattle.sf_outside.specs.DiskCalls.{Mount, facts_after, bytes_now, files_after}
use Rattle.sf_outside.specs.DiskFiles.{FitsIn}
use Rattle.sf_outside.specs.DiskModel.{IsClean}
use Rattle.sf_outside.proofs.DiskSteps.{IsClean-mount, bytes_now-mount, holds_mount}
use Rattle.sf_outside.proofs.DiskStateLaws.{on_err, Stays-passed, noted, one_counted}
use Rattle.sf_outside.proofs.memory_disk.MemDiskDisk.mount.Goals as goal

pub returns-in_err-refuse-clause-kept : goal.returns-in_err-refuse-clause-kept
returns-in_err-refuse-clause-kept c =
    on_err _ _ (Stays-passed c.args.self.now c.pass.new.self c.self-then-fails_next.inside.start.image c.self-then-fails_next.inside.log.calls c.pass.ensures (ap (λ disk. disk.start) c.self-then-fails_next.view_is) (ap (λ disk. disk.calls) c.self-then-fails_next.view_is))

pub returns-in_err-refuse-clause-same : goal.returns-in_err-refuse-clause-same
returns-in_err-refuse-clause-same c =
    let stays = Stays-passed c.args.self.now c.pass.new.self c.self-then-fails_next.inside.start.image c.self-then-fails_next.inside.log.calls c.pass.ensures (ap (λ disk. disk.start) c.self-then-fails_next.view_is) (ap (λ disk. disk.calls) c.self-then-fails_next.view_is) in
    let each : List ℕ → Some (bytes_now (files_after c.self-then-fails_next.inside.start.image c.self-then-fails_next.inside.log.calls)) ≡ Some (bytes_now (files_after c.args.self.now.start c.args.self.now.calls)) = λ other. stays.seen in
    on_err _ _ each

pub returns-then-fails_next-clause-kept : goal.returns-then-fails_next-clause-kept
returns-then-fails_next-clause-kept c =
    Stays-passed c.args.self.now c.pass.new.self c.self-then-fails_next.inside.start.image c.self-then-fails_next.inside.log.calls c.pass.ensures (ap (λ disk. disk.start) c.self-then-fails_next.view_is) (ap (λ disk. disk.calls) c.self-then-fails_next.view_is)

pub returns-then-fails_next-clause-same : goal.returns-then-fails_next-clause-same
returns-then-fails_next-clause-same c other =
    (Stays-passed c.args.self.now c.pass.new.self c.self-then-fails_next.inside.start.image c.self-then-fails_next.inside.log.calls c.pass.ensures (ap (λ disk. disk.start) c.self-then-fails_next.view_is) (ap (λ disk. disk.calls) c.self-then-fails_next.view_is)).seen

pub invariant_of-self-2 : goal.invariant_of-self-2
invariant_of-self-2 c = (
  holds_mount c.self.inside.start.image c.self.inside.files.image c.self.inside.log.calls c.note_mount.new.self.calls c.self.invariant.0 (ap (λ log. log.calls) c.note_mount.ensures),
  c.self.invariant.1 ∙ sym (ap (λ log. log.room) c.note_mount.ensures),
  one_counted c.args.self.now c.fails_next.result c.self.inside.log c.note_mount.new.self c.self.inside.calls c.count.new.self Mount c.fails_next.ensures.answer c.if-fails_next.false c.fails_next.ensures.few (ap (λ disk. disk.calls) c.self.view_is) (ap (λ disk. disk.limit) c.self.view_is)
      c.self.invariant.2 c.note_mount.ensures c.count.ensures,
  subst (λ room. FitsIn room c.self.inside.start.image) (sym (ap (λ log. log.room) c.note_mount.ensures)) c.self.invariant.3,
)

pub returns-clause-clean : goal.returns-clause-clean
returns-clause-clean c =
    noted (λ start calls. IsClean (facts_after start calls)) c.args.self.now c.self.inside.start.image c.self.inside.log c.note_mount.new.self Mount (ap (λ disk. disk.start) c.self.view_is) (ap (λ disk. disk.calls) c.self.view_is) c.note_mount.ensures
    (IsClean-mount c.args.self.now.start c.args.self.now.calls)

pub returns-clause-found : goal.returns-clause-found
returns-clause-found c =
    let before = bytes_now (files_after c.args.self.now.start c.args.self.now.calls) in
    noted (λ start calls. Some (bytes_now (files_after start calls)) ≡ Some before) c.args.self.now c.self.inside.start.image c.self.inside.log c.note_mount.new.self Mount (ap (λ disk. disk.start) c.self.view_is) (ap (λ disk. disk.calls) c.self.view_is) c.note_mount.ensures
    (ap Some (bytes_now-mount c.args.self.now.start c.args.self.now.calls))
