use Rattle.request_json.proofs.FittingSpellings.{fits_nest, value_spelt, outcome_spelt, record_spelt}
use Rattle.request_json.proofs.laws.fitting_things_have_spellings.Goals as goal

pub returns : goal.returns
returns c = record { nesting = λ tables ty v level fits flat. fits_nest level fits flat; values = value_spelt; outcomes = outcome_spelt; records = record_spelt }
