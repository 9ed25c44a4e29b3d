use Rattle.std.proofs.Common.{ap, sym, ◌∙◌}
use Rattle.std.specs.Option.{option_map, option_copied}
use Rattle.std.specs.FinMap as finite
use Rattle.sf_value.specs.Keys.{key_of}
use Rattle.transaction_buffers.proofs.FoundLaws.{own_found, own_looked_up}
use Rattle.transaction_buffers.proofs.buffers.Buffers.own.Goals as goal

pub returns-in_err-get : goal.returns-in_err-get
returns-in_err-get c =
    ap (λ r. option_map (λ r. r.fields) (option_copied r)) c.from_residual.ensures
    ∙ sym (own_looked_up c.self.inside.entities c.args.at.now ∙ ap own_found (sym c.get.ensures) ∙ ap (λ r. own_found (option_copied r)) c.in_err-get.was)
    ∙ ap (λ b. finite.get b.own (key_of c.args.at.now)) c.self.view_is

pub returns : goal.returns
returns c =
    ap (option_map (λ r. r.fields)) c.as_ref.ensures.value
    ∙ sym (own_looked_up c.self.inside.entities c.args.at.now ∙ ap own_found (sym c.in_ok-get.ensures))
    ∙ ap (λ b. finite.get b.own (key_of c.args.at.now)) c.self.view_is
