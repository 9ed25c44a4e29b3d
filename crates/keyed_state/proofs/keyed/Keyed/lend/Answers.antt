use Rattle.std.proofs.Common.{ap, ◌∙◌}
use Rattle.std.specs.FinMap as finite
use Rattle.keyed_state.specs.Works.{with_records}
use Rattle.keyed_state.proofs.TableLaws.{listed_contents}
use Rattle.keyed_state.proofs.keyed.Keyed.lend.Goals as goal

pub returns-clause-contents : goal.returns-clause-contents
returns-clause-contents c = ap (with_records finite.empty) c.of.ensures.all ∙ listed_contents c.self.inside.records.entries ∙ ap (λ s. s.contents) c.self.view_is
