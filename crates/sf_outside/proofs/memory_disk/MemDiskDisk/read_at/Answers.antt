use Rattle.std.proofs.Common.{ap, sym, subst, ◌∙◌}
use Rattle.sf_outside.specs.DiskCalls.{Quiet, facts_after}
use Rattle.sf_outside.specs.DiskFiles.{FitsIn}
use Rattle.sf_outside.specs.DiskModel.{Stays}
use Rattle.sf_outside.specs.DiskState.{facts_of}
use Rattle.sf_outside.proofs.DiskSteps.{Stays-quiet, holds_quiet}
use Rattle.sf_outside.proofs.DiskStateLaws.{Stays-failed, noted, one_counted}
use Rattle.sf_outside.proofs.memory_disk.MemDiskDisk.read_at.Goals as goal

pub returns-then-fails_next-clause-stays : goal.returns-then-fails_next-clause-stays
returns-then-fails_next-clause-stays c = Stays-failed c.args.self.now c.fault.new.self c.fault.ensures.counted

pub invariant_of-self : goal.invariant_of-self
invariant_of-self c = (
  holds_quiet c.self.inside.start.image c.self.inside.files.image c.self.inside.log.calls c.note_quiet.new.self.calls c.self.invariant.0 (ap (λ log. log.calls) c.note_quiet.ensures),
  c.self.invariant.1 ∙ sym (ap (λ log. log.room) c.note_quiet.ensures),
  one_counted c.args.self.now c.fails_next.result c.self.inside.log c.note_quiet.new.self c.self.inside.calls c.count.new.self Quiet c.fails_next.ensures.answer c.if-fails_next.false c.fails_next.ensures.few (ap (λ disk. disk.calls) c.self.view_is) (ap (λ disk. disk.limit) c.self.view_is)
      c.self.invariant.2 c.note_quiet.ensures c.count.ensures,
  subst (λ room. FitsIn room c.self.inside.start.image) (sym (ap (λ log. log.room) c.note_quiet.ensures)) c.self.invariant.3,
)

pub returns-clause-stays : goal.returns-clause-stays
returns-clause-stays c =
    noted (λ start calls. Stays (facts_of c.args.self.now) (facts_after start calls)) c.args.self.now c.self.inside.start.image c.self.inside.log c.note_quiet.new.self Quiet (ap (λ disk. disk.start) c.self.view_is) (ap (λ disk. disk.calls) c.self.view_is) c.note_quiet.ensures
    (Stays-quiet c.args.self.now.start c.args.self.now.calls)
