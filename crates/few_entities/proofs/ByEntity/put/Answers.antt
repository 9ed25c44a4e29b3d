use Rattle.std.proofs.Common.{◌∙◌, ◌++◌, ap, position}
use Rattle.indexmap.specs.IndexMap.{insert_entry}
use Rattle.few_entities.specs.Entries.{is_ref}
use Rattle.few_entities.proofs.ListLaws.{set_few, stays_distinct, either_distinct}
use Rattle.few_entities.proofs.ByEntity.put.Goals as goal

pub invariant_of-self : goal.invariant_of-self
invariant_of-self g c =
    let few = c.self.inside.few.items in
    let more = c.self.inside.more.entries in
    stays_distinct (few ++ more) _ c.args.at c.args.value
    (set_few c.args.at c.args.value few more c.in-Some.i c.index_mut.result.now
    (c.in-Some.ensures.place ∙ ap (position (λ e. is_ref c.args.at e.0)) c.as_slice.ensures.value) c.index_mut.ensures.value)
    c.self.invariant

pub invariant_of-self-in-None : goal.invariant_of-self-in-None
invariant_of-self-in-None g c =
    either_distinct c.put_more.result (c.self.inside.few.items ++ c.self.inside.more.entries) _ c.args.at c.args.value c.put_more.ensures.ok c.put_more.ensures.err c.self.invariant

pub returns-in-Some-clause-ok : goal.returns-in-Some-clause-ok
returns-in-Some-clause-ok g c =
    let few = c.self.inside.few.items in
    set_few c.args.at c.args.value few c.self.inside.more.entries c.in-Some.i c.index_mut.result.now
    (c.in-Some.ensures.place ∙ ap (position (λ e. is_ref c.args.at e.0)) c.as_slice.ensures.value) c.index_mut.ensures.value
    ∙ ap (λ l. insert_entry is_ref l c.args.at c.args.value) c.self.view_is
