use Rattle.std.proofs.Common.{[], unwrap_or, sym, ap, ◌∙◌}
use Rattle.std.proofs.lemmas.Option.{unwrap_or-slice_get}
use Rattle.sf_list.proofs.CopyLaws.{equal_copies}
use Rattle.program_upgrade.specs.Mapping.{added_by}
use Rattle.program_upgrade.proofs.mapped.added_for.Goals as goal

pub returns-in_ok-try_clone-in-Some : goal.returns-in_ok-try_clone-in-Some
returns-in_ok-try_clone-in-Some c =
    equal_copies _ _ c.in_ok-try_clone-in-Some.ensures
    ∙ ap (λ o. unwrap_or o []) c.in-Some.ensures.value
    ∙ unwrap_or-slice_get (added_by c.args.mapping.now) c.args.class []

pub returns-in-None : goal.returns-in-None
returns-in-None c =
    c.new.ensures
    ∙ ap (λ o. unwrap_or o []) c.in-None.ensures.value
    ∙ unwrap_or-slice_get (added_by c.args.mapping.now) c.args.class []
