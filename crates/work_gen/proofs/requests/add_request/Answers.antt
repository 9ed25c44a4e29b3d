use Rattle.std.proofs.Common.{◌++◌, sym, ap, ◌∙◌}
use Rattle.work_gen.specs.Requests as spec
use Rattle.work_gen.proofs.RequestLaws.{on_ok, gives}
use Rattle.work_gen.proofs.requests.add_request.Goals as goal

pub returns-else-number-le-ACCOUNTS : goal.returns-else-number-le-ACCOUNTS
returns-else-number-le-ACCOUNTS c =
    let is = gives c.args.number c.args.state.now c.if-number-le-ACCOUNTS.false in
    on_ok c.add_transfer.result _ _
    (λ e. (e ∙ ap (λ t. c.args.input.now ++ spec.giving c.args.number t) c.draw_transfer.ensures.drawn ∙ ap (λ l. c.args.input.now ++ l) (sym is.0), c.draw_transfer.ensures.state ∙ sym is.1))
    c.add_transfer.ensures
