use Rattle.std.proofs.Common.{ap, sym, ◌∙◌, nat_eq}
use Rattle.serde_json.specs.View.{view, members_view}
use Rattle.request_json.proofs.DataLaws.{count_of-members, members_are}
use Rattle.request_json.proofs.read.has_size.Goals as goal

pub returns-in-Some : goal.returns-in-Some
returns-in-Some c =
    ap (λ n. nat_eq n c.args.count) (c.len.ensures.len ∙ sym (count_of-members c.in-Some.members.now.entries))
    ∙ sym (members_are (view c.args.value.now) (members_view c.in-Some.members.now.entries) c.args.count c.in-Some.ensures)
