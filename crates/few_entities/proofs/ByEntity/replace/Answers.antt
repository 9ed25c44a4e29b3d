use Rattle.std.proofs.Common.{◌∙◌, ◌++◌, sym, ap, position, Some}
use Rattle.std.specs.Map.{lookup}
use Rattle.indexmap.specs.IndexMap.{insert_entry}
use Rattle.few_entities.specs.Entries.{is_ref}
use Rattle.few_entities.proofs.ListLaws.{is_absent, lookup_more, found_few, set_few, set_more, stays_distinct, none_by}
use Rattle.few_entities.proofs.ByEntity.replace.Goals as goal

pub invariant_of-self : goal.invariant_of-self
invariant_of-self g c =
    let few = c.self.inside.few.items in
    let more = c.self.inside.more.entries in
    stays_distinct (few ++ more) _ c.args.at.now c.replace.new.dest
    (set_few c.args.at.now c.replace.new.dest few more c.in-Some.i c.index_mut.result.now
    (c.in-Some.ensures.place ∙ ap (position (λ e. is_ref c.args.at.now e.0)) c.as_slice.ensures.value) c.index_mut.ensures.value)
    c.self.invariant

pub returns-in_err-i-in-None-clause-value : goal.returns-in_err-i-in-None-clause-value
returns-in_err-i-in-None-clause-value g c =
    let few = c.self.inside.few.items in
    let more = c.self.inside.more.entries in
    let t = is_ref c.args.at.now in
    c.from_residual.ensures
    ∙ none_by c.place_behind.result (lookup t more) c.place_behind.ensures.found c.in_err-i-in-None.was
    ∙ sym (lookup_more t few more (is_absent t few (c.in-None.ensures.place ∙ ap (position (λ e. t e.0)) c.as_slice.ensures.value)))
    ∙ ap (lookup t) c.self.view_is

pub invariant_of-self-in-None : goal.invariant_of-self-in-None
invariant_of-self-in-None g c =
    let few = c.self.inside.few.items in
    let more = c.self.inside.more.entries in
    let t = is_ref c.args.at.now in
    stays_distinct (few ++ more) _ c.args.at.now c.replace-in-None.new.dest
    (set_more c.args.at.now c.replace-in-None.new.dest few more c.in_ok-i-in-None.i
    (is_absent t few (c.in-None.ensures.place ∙ ap (position (λ e. t e.0)) c.as_slice.ensures.value)) (sym c.in_ok-i-in-None.ensures.index))
    c.self.invariant

pub returns-in-Some-clause-value : goal.returns-in-Some-clause-value
returns-in-Some-clause-value g c =
    let t = is_ref c.args.at.now in
    ap Some c.replace.ensures.value
    ∙ found_few t c.self.inside.few.items c.self.inside.more.entries c.in-Some.i c.index_mut.result.now
    (c.in-Some.ensures.place ∙ ap (position (λ e. t e.0)) c.as_slice.ensures.value) c.index_mut.ensures.value
    ∙ ap (lookup t) c.self.view_is

pub returns-in-Some-clause-entries : goal.returns-in-Some-clause-entries
returns-in-Some-clause-entries g c =
    let few = c.self.inside.few.items in
    let at = c.args.at.now in
    set_few at c.replace.new.dest few c.self.inside.more.entries c.in-Some.i c.index_mut.result.now
    (c.in-Some.ensures.place ∙ ap (position (λ e. is_ref at e.0)) c.as_slice.ensures.value) c.index_mut.ensures.value
    ∙ (λ i. insert_entry is_ref (c.self.view_is i) at (c.replace.ensures.after i))

pub returns-in_ok-i-in-None-clause-value : goal.returns-in_ok-i-in-None-clause-value
returns-in_ok-i-in-None-clause-value g c =
    let few = c.self.inside.few.items in
    let t = is_ref c.args.at.now in
    ap Some c.replace-in-None.ensures.value
    ∙ sym c.index_mut-in-None.ensures.value
    ∙ c.in_ok-i-in-None.ensures.value
    ∙ sym (lookup_more t few c.self.inside.more.entries (is_absent t few (c.in-None.ensures.place ∙ ap (position (λ e. t e.0)) c.as_slice.ensures.value)))
    ∙ ap (lookup t) c.self.view_is

pub returns-in_ok-i-in-None-clause-entries : goal.returns-in_ok-i-in-None-clause-entries
returns-in_ok-i-in-None-clause-entries g c =
    let few = c.self.inside.few.items in
    let at = c.args.at.now in
    set_more at c.replace-in-None.new.dest few c.self.inside.more.entries c.in_ok-i-in-None.i
    (is_absent (is_ref at) few (c.in-None.ensures.place ∙ ap (position (λ e. is_ref at e.0)) c.as_slice.ensures.value)) (sym c.in_ok-i-in-None.ensures.index)
    ∙ (λ i. insert_entry is_ref (c.self.view_is i) at (c.replace-in-None.ensures.after i))
