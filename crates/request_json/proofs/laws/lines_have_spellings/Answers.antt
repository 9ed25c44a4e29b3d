use Rattle.request_json.proofs.RequestSpellings.{reading_spelt}
use Rattle.request_json.proofs.laws.lines_have_spellings.Goals as goal

pub returns : goal.returns
returns c = reading_spelt
