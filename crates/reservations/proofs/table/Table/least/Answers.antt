use Rattle.std.proofs.Common.{ap, ◌∙◌, sym}
use Rattle.std.specs.FinMap as finite
use Rattle.sf_value.specs.Keys.{key_of}
use Rattle.sf_value.proofs.Maps.{get-keyed}
use Rattle.reservations.proofs.table.Table.least.Goals as goal

pub returns : goal.returns
returns c = c.copied.ensures ∙ c.get.ensures.value ∙ sym (get-keyed c.self.inside.places.entries c.args.at.now) ∙ ap (λ m. finite.get m (key_of c.args.at.now)) c.self.view_is
