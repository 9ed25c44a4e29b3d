use Rattle.std.proofs.Common.{ap, sym, ◌∙◌, subst}
use Rattle.indexmap.proofs.MapLemmas.{OnOk-map}
use Rattle.sf_value.specs.Keys.{key_of}
use Rattle.few_entities.proofs.ListLaws.{put_back}
use Rattle.transaction_buffers.specs.Buffered.{noted}
use Rattle.transaction_buffers.proofs.NotedLaws.{IsNext, fields_if, next_is, noted_after}
use Rattle.transaction_buffers.proofs.buffers.Buffers.note.Goals as goal

pub returns : goal.returns
returns c =
    let es = c.self.inside.entities in
    let at = c.args.at in
    let new = c.touched_again.result in
    let old = c.replace-before.result in
    let made = subst (λ t. IsNext old c.args.held c.args.wrote t) (sym c.touched_again.ensures) (next_is old c.args.held c.args.wrote) in
    let next = subst (λ before. IsNext before c.args.held c.args.wrote new) c.replace-before.ensures.value made in
    OnOk-map c.put.result _ _ (λ is.
    noted_after es at c.args.held c.args.wrote new next _ (is ∙ put_back at _ new old es c.replace-before.new.self c.replace-before.ensures.entries c.replace-before.ensures.unchanged)
    ∙ ap (λ b. noted b (key_of at) (fields_if c.args.held) c.args.wrote) c.self.view_is) c.put.ensures.ok
