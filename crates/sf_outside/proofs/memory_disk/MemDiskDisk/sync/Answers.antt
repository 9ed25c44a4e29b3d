use Rattle.std.proofs.Common.{ap, sym, subst, ◌∙◌}
use Rattle.sf_outside.specs.DiskCalls.{Sync, facts_after}
use Rattle.sf_outside.specs.DiskFiles.{FitsIn}
use Rattle.sf_outside.specs.DiskModel.{Stays, IsDurable}
use Rattle.sf_outside.specs.DiskState.{facts_of}
use Rattle.sf_outside.proofs.DiskLaws.{LeavesNoMore-stays}
use Rattle.sf_outside.proofs.DiskSteps.{Stays-sync, IsDurable-sync, holds_sync}
use Rattle.sf_outside.proofs.DiskStateLaws.{Stays-failed, noted, one_counted}
use Rattle.sf_outside.proofs.memory_disk.MemDiskDisk.sync.Goals as goal

pub returns-then-fails_next-clause-stays : goal.returns-then-fails_next-clause-stays
returns-then-fails_next-clause-stays c = Stays-failed c.args.self.now c.fault.new.self c.fault.ensures.counted

pub returns-then-fails_next-clause-no_more : goal.returns-then-fails_next-clause-no_more
returns-then-fails_next-clause-no_more c =
    LeavesNoMore-stays (facts_of c.args.self.now) (facts_of c.fault.new.self) (Stays-failed c.args.self.now c.fault.new.self c.fault.ensures.counted)

pub invariant_of-self : goal.invariant_of-self
invariant_of-self c = (
  holds_sync c.self.inside.start.image c.args.file c.self.inside.files.image c.self.inside.log.calls c.note_sync.new.self.calls c.self.invariant.0 (ap (λ log. log.calls) c.note_sync.ensures),
  c.self.invariant.1 ∙ sym (ap (λ log. log.room) c.note_sync.ensures),
  one_counted c.args.self.now c.fails_next.result c.self.inside.log c.note_sync.new.self c.self.inside.calls c.count.new.self (Sync c.args.file) c.fails_next.ensures.answer c.if-fails_next.false c.fails_next.ensures.few (ap (λ disk. disk.calls) c.self.view_is) (ap (λ disk. disk.limit) c.self.view_is)
      c.self.invariant.2 c.note_sync.ensures c.count.ensures,
  subst (λ room. FitsIn room c.self.inside.start.image) (sym (ap (λ log. log.room) c.note_sync.ensures)) c.self.invariant.3,
)

pub returns-clause-durable : goal.returns-clause-durable
returns-clause-durable c =
    noted (λ start calls. IsDurable c.args.file (facts_after start calls)) c.args.self.now c.self.inside.start.image c.self.inside.log c.note_sync.new.self (Sync c.args.file) (ap (λ disk. disk.start) c.self.view_is) (ap (λ disk. disk.calls) c.self.view_is) c.note_sync.ensures
    (IsDurable-sync c.args.self.now.start c.args.file c.args.self.now.calls)

pub returns-clause-stays : goal.returns-clause-stays
returns-clause-stays c =
    noted (λ start calls. Stays (facts_of c.args.self.now) (facts_after start calls)) c.args.self.now c.self.inside.start.image c.self.inside.log c.note_sync.new.self (Sync c.args.file) (ap (λ disk. disk.start) c.self.view_is) (ap (λ disk. disk.calls) c.self.view_is) c.note_sync.ensures
    (Stays-sync c.args.self.now.start c.args.file c.args.self.now.calls)

pub returns-clause-no_more : goal.returns-clause-no_more
returns-clause-no_more c = LeavesNoMore-stays _ _ (returns-clause-stays c)
