use Rattle.program_upgrade.proofs.KeptFits.{records_still_fit, states_still_fit, requests_still_fit, entries_still_fit, added_are_light}
use Rattle.program_upgrade.proofs.MappedStates.{each_is_mapped, records_are_mapped, entities_stay}
use Rattle.program_upgrade.proofs.laws.what_is_kept_fits.Goals as goal

pub returns : goal.returns
returns c = record { records = records_still_fit; states = states_still_fit; requests = requests_still_fit; entries = entries_still_fit; light = added_are_light; each = each_is_mapped; mapped = records_are_mapped; entities = entities_stay }
