use Rattle.request_json.proofs.RequestsBack.{request_back}
use Rattle.request_json.proofs.laws.requests_read_back.Goals as goal

pub returns : goal.returns
returns c = request_back
