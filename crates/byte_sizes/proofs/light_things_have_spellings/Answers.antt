use Rattle.byte_sizes.proofs.Light.{values_spelt, requests_spelt, outcomes_spelt, records_spelt}
use Rattle.byte_sizes.proofs.light_things_have_spellings.Goals as goal

pub returns : goal.returns
returns c = record { values = values_spelt; requests = requests_spelt; outcomes = outcomes_spelt; records = records_spelt }
