use Rattle.std.proofs.Common.{◌∙◌, ap, ◌++◌, refl}
use Rattle.few_entities.specs.Entries.{is_ref}
use Rattle.few_entities.proofs.ListLaws.{is_absent, push_few, insert_more, none_left}
use Rattle.few_entities.proofs.put_more.Goals as goal

pub returns-then-len-lt-FEW-clause-ok : goal.returns-then-len-lt-FEW-clause-ok
returns-then-len-lt-FEW-clause-ok g c =
    let few = c.args.few.now.items in
    let more = c.args.more.now.entries in
    ap (λ l. l ++ more) c.in_ok-push.ensures.items
    ∙ push_few c.args.at c.args.value few more (is_absent (is_ref c.args.at) few c.requires.absent) (none_left more (c.if-is_empty.ensures.0 refl))

pub returns-clause-ok : goal.returns-clause-ok
returns-clause-ok g c =
    let few = c.args.few.now.items in
    ap (λ l. few ++ l) c.in_ok-insert.ensures.entries
    ∙ insert_more c.args.at c.args.value few c.args.more.now.entries (is_absent (is_ref c.args.at) few c.requires.absent)
