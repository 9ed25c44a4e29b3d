use Rattle.std.proofs.Common.{◌∙◌, sym, ap}
use Rattle.std.specs.Prelude.{slice_get}
use Rattle.block_code.proofs.GraphLaws.{none_or}
use Rattle.block_code.proofs.graph.Graph.first.Goals as goal

pub returns-in-None : goal.returns-in-None
returns-in-None c = sym (none_or _ c.args.class 0 (ap (λ xs. slice_get xs c.args.class) (sym c.args.self.now.has_firsts) ∙ sym c.in-None.ensures.value))
