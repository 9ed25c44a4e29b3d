use Rattle.std.proofs.Common.{ap, sym, ◌∙◌, subst}
use Rattle.sf_outside.specs.Bytes.{CopiedAll}
use Rattle.sf_outside.proofs.CopyLaws.{copied-rest, copied-end}
use Rattle.sf_outside.proofs.memory_source.MemSourceSource.read.Goals as goal

pub returns-clause-bytes : goal.returns-clause-bytes
returns-clause-bytes c =
    let all = c.self.inside.bytes.items in
    let copied = subst (λ bytes. CopiedAll bytes c.self.inside.at c.copy_at-count.result c.copy_at-count.new.buf) c.as_slice.ensures.value c.copy_at-count.ensures.copied in (
      ap (λ source. source.left) (sym c.self.view_is) ∙ copied-rest all c.self.inside.at c.copy_at-count.result c.copy_at-count.new.buf copied,
      copied-end all c.self.inside.at c.copy_at-count.result c.copy_at-count.new.buf copied,
    )
