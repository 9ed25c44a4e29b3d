use Rattle.method_splitter.proofs.ParamsArePoints.{params_are_points}
use Rattle.method_splitter.proofs.laws.params_are_points.Goals as goal

pub returns : goal.returns
returns c = params_are_points
