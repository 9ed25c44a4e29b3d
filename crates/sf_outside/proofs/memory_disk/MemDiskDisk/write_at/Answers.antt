use Rattle.std.proofs.Common.{length, ap, sym, subst, ◌∙◌}
use Rattle.sf_outside.specs.DiskCalls.{Write, facts_after}
use Rattle.sf_outside.specs.DiskFiles.{FitsIn}
use Rattle.sf_outside.specs.DiskModel.{LeavesOnly, SeenWritten}
use Rattle.sf_outside.specs.DiskState.{facts_of}
use Rattle.sf_outside.specs.ImageSteps.{ComesTorn}
use Rattle.sf_outside.proofs.DiskLaws.{SeenTorn-stays, LeavesOnly-unwritten}
use Rattle.sf_outside.proofs.DiskSteps.{SeenWritten-write, LeavesOnly-write, holds_write}
use Rattle.sf_outside.proofs.DiskStateLaws.{Stays-failed, noted, one_counted}
use Rattle.sf_outside.proofs.memory_disk.MemDiskDisk.write_at.Goals as goal

pub returns-then-fails_next-clause-err : goal.returns-then-fails_next-clause-err
returns-then-fails_next-clause-err c =
    SeenTorn-stays c.args.file c.args.at (length c.args.bytes.now) (facts_of c.args.self.now) (facts_of c.fault.new.self) (Stays-failed c.args.self.now c.fault.new.self c.fault.ensures.counted)

pub returns-then-fails_next-clause-moments : goal.returns-then-fails_next-clause-moments
returns-then-fails_next-clause-moments c =
    LeavesOnly-unwritten c.args.file c.args.at (length c.args.bytes.now) (facts_of c.args.self.now) (facts_of c.fault.new.self) (Stays-failed c.args.self.now c.fault.new.self c.fault.ensures.counted)

pub invariant_of-self : goal.invariant_of-self
invariant_of-self c = (
  holds_write c.self.inside.start.image c.args.file c.args.at c.args.bytes.now c.self.inside.files.image c.write_at.new.self.image c.self.inside.log.calls c.note_write.new.self.calls c.self.invariant.0
      (ap (λ files. files.image) c.write_at.ensures) (ap (λ log. log.calls) c.note_write.ensures),
  ap (λ files. files.room) c.write_at.ensures ∙ c.self.invariant.1 ∙ sym (ap (λ log. log.room) c.note_write.ensures),
  one_counted c.args.self.now c.fails_next.result c.self.inside.log c.note_write.new.self c.self.inside.calls c.count.new.self (Write c.args.file c.args.at c.args.bytes.now) c.fails_next.ensures.answer c.if-fails_next.false c.fails_next.ensures.few (ap (λ disk. disk.calls) c.self.view_is) (ap (λ disk. disk.limit) c.self.view_is)
      c.self.invariant.2 c.note_write.ensures c.count.ensures,
  subst (λ room. FitsIn room c.self.inside.start.image) (sym (ap (λ log. log.room) c.note_write.ensures)) c.self.invariant.3,
)

pub returns-clause-ok : goal.returns-clause-ok
returns-clause-ok c =
    noted (λ start calls. SeenWritten c.args.file c.args.at c.args.bytes.now (facts_of c.args.self.now) (facts_after start calls)) c.args.self.now c.self.inside.start.image c.self.inside.log c.note_write.new.self (Write c.args.file c.args.at c.args.bytes.now) (ap (λ disk. disk.start) c.self.view_is) (ap (λ disk. disk.calls) c.self.view_is) c.note_write.ensures
    (SeenWritten-write c.args.self.now.start c.args.file c.args.at c.args.bytes.now c.args.self.now.calls)

pub returns-clause-moments : goal.returns-clause-moments
returns-clause-moments c =
    noted (λ start calls. LeavesOnly (facts_of c.args.self.now) (facts_after start calls) (ComesTorn c.args.file c.args.at (length c.args.bytes.now) (facts_of c.args.self.now))) c.args.self.now c.self.inside.start.image c.self.inside.log c.note_write.new.self (Write c.args.file c.args.at c.args.bytes.now) (ap (λ disk. disk.start) c.self.view_is) (ap (λ disk. disk.calls) c.self.view_is) c.note_write.ensures
    (LeavesOnly-write c.args.self.now.start c.args.file c.args.at c.args.bytes.now c.args.self.now.calls)
