use Rattle.std.proofs.Common.{◌∙◌, ap, sym, subst}
use Rattle.std.specs.List.{IsDistinct}
use Rattle.few_entities.specs.Entries.{is_ref, refs_of}
use Rattle.source_meaning.specs.StateView.{state_of}
use Rattle.source_meaning.specs.Transactions.{with_records}
use Rattle.source_meaning.proofs.CommitLaws.{all_put}
use Rattle.source_meaning.proofs.local.Local.commit.Goals as goal

pub returns-clause-ok : goal.returns-clause-ok
returns-clause-ok c =
    let list = c.in_ok-entries.entries.items in
    let distinct = subst (λ l. IsDistinct is_ref (refs_of l)) (sym c.in_ok-entries.ensures.entries) c.into_list.ensures.distinct in
    ap state_of c.put_all.ensures
    ∙ all_put c.reserve.new.self.entries list distinct
    ∙ (λ i. with_records (state_of (c.in_ok-reserve.ensures.entries i)) (c.in_ok-entries.ensures.entries i))
    ∙ ap (λ s. with_records s c.args.changed) c.self.view_is
