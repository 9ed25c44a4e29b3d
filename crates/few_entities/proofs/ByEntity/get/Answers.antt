use Rattle.std.proofs.Common.{◌∙◌, sym, ap, position}
use Rattle.std.specs.Option.{option_copied}
use Rattle.std.specs.Map.{lookup}
use Rattle.few_entities.specs.Entries.{is_ref}
use Rattle.few_entities.proofs.ListLaws.{is_absent, lookup_more, found_few, none_by}
use Rattle.few_entities.proofs.ByEntity.get.Goals as goal

pub returns-in-Some : goal.returns-in-Some
returns-in-Some g c =
    let t = is_ref c.args.at.now in
    found_few t c.self.inside.few.items c.self.inside.more.entries c.in-Some.i c.index.result.now
    (c.in-Some.ensures.place ∙ ap (position (λ e. t e.0)) c.as_slice.ensures.value) c.index.ensures
    ∙ ap (lookup t) c.self.view_is

pub returns-in_err-i-in-None : goal.returns-in_err-i-in-None
returns-in_err-i-in-None g c =
    let few = c.self.inside.few.items in
    let more = c.self.inside.more.entries in
    let t = is_ref c.args.at.now in
    ap option_copied c.from_residual.ensures
    ∙ none_by c.place_behind.result (lookup t more) c.place_behind.ensures.found c.in_err-i-in-None.was
    ∙ sym (lookup_more t few more (is_absent t few (c.in-None.ensures.place ∙ ap (position (λ e. t e.0)) c.as_slice.ensures.value)))
    ∙ ap (lookup t) c.self.view_is

pub returns-in_ok-i-in-None : goal.returns-in_ok-i-in-None
returns-in_ok-i-in-None g c =
    let few = c.self.inside.few.items in
    let more = c.self.inside.more.entries in
    let t = is_ref c.args.at.now in
    sym c.index-in-None.ensures
    ∙ c.in_ok-i-in-None.ensures.value
    ∙ sym (lookup_more t few more (is_absent t few (c.in-None.ensures.place ∙ ap (position (λ e. t e.0)) c.as_slice.ensures.value)))
    ∙ ap (lookup t) c.self.view_is
