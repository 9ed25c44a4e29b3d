use Rattle.std.proofs.Common.{Some, subst}
use Rattle.sf_outside.specs.Choices.{Begins, told_by}
use Rattle.sf_outside.proofs.Choosing.{began}
use Rattle.sf_outside.proofs.chooser.ListChooserChooser.start.Goals as goal

pub returns-in-Some-clause-told : goal.returns-in-Some-clause-told
returns-in-Some-clause-told c =
    subst
    (λ s. Begins (told_by s) c.args.number
    (told_by (record { list = c.self.inside.list.items; starts = c.in-Some.starts; number = Some c.args.number; asked = c.clear.new.self.items; taken = 0; exact = c.self.inside.exact })))
    c.self.view_is
    (began c.self.inside.list.items c.self.inside.asked.items c.clear.new.self.items c.args.number c.self.inside.starts c.self.inside.taken c.in-Some.starts c.self.inside.number c.self.inside.exact
    c.in-Some.ensures.1 c.clear.ensures.items)
