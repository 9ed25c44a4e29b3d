use Rattle.request_json.proofs.RequestFits.{reading_fits}
use Rattle.request_json.proofs.laws.lines_fit.Goals as goal

pub returns : goal.returns
returns c = reading_fits
