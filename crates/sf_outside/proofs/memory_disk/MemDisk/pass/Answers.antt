use Rattle.std.proofs.Common.{◌<◌, length, ap, sym, subst, ◌∙◌, arith}
use Rattle.std.proofs.lemmas.Bool.Decides.{nat_tests}
use Rattle.sf_outside.specs.DiskCalls.{Quiet}
use Rattle.sf_outside.specs.DiskFiles.{FitsIn}
use Rattle.sf_outside.proofs.DiskSteps.{holds_quiet}
use Rattle.sf_outside.proofs.DiskStateLaws.{some_counted}
use Rattle.sf_outside.proofs.memory_disk.MemDisk.pass.Goals as goal

pub invariant_of-self : goal.invariant_of-self
invariant_of-self c =
    let room : length c.self.inside.log.calls < c.self.inside.log.limit = grind (arith, nat_tests) in (
      holds_quiet c.self.inside.start.image c.self.inside.files.image c.self.inside.log.calls c.note_quiet.new.self.calls c.self.invariant.0 (ap (λ log. log.calls) c.note_quiet.ensures),
      c.self.invariant.1 ∙ sym (ap (λ log. log.room) c.note_quiet.ensures),
      some_counted c.self.inside.log c.note_quiet.new.self c.self.inside.calls c.count.new.self Quiet room c.is_full.ensures.few c.self.invariant.2 c.note_quiet.ensures c.count.ensures,
      subst (λ room. FitsIn room c.self.inside.start.image) (sym (ap (λ log. log.room) c.note_quiet.ensures)) c.self.invariant.3,
    )
