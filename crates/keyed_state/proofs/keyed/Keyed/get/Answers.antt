use Rattle.std.proofs.Common.{ap, ◌∙◌}
use Rattle.std.specs.Option.{option_map}
use Rattle.std.specs.FinMap as finite
use Rattle.sf_value.specs.Keys.{key_of}
use Rattle.keyed_state.proofs.TableLaws.{get-contents}
use Rattle.keyed_state.proofs.keyed.Keyed.get.Goals as goal

pub returns : goal.returns
returns c = ap (option_map (λ r. r.fields)) c.get.ensures.value ∙ get-contents c.self.inside.records.entries c.args.at.now ∙ ap (λ s. finite.get s.contents (key_of c.args.at.now)) c.self.view_is
