use Rattle.std.proofs.Common.{sym, subst}
use Rattle.sf_outside.specs.Choices.{Picks, told_by}
use Rattle.sf_outside.proofs.Choosing.{picked_more}
use Rattle.sf_outside.proofs.chooser.ListChooserChooser.pick.Goals as goal

pub returns-clause-told : goal.returns-clause-told
returns-clause-told c =
    subst (λ pick. Picks (told_by c.args.self.now) c.args.n pick (told_by c.advance.new.self)) (sym c.current-pick.ensures)
    (picked_more c.args.self.now c.note.new.self c.advance.new.self c.args.n c.note.ensures.noted c.note.ensures.rest c.advance.ensures.counted c.advance.ensures.rest)
