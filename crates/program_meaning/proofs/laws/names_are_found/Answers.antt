use Rattle.program_meaning.proofs.NamesAreFound.{classes_are_found, methods_are_found}
use Rattle.program_meaning.proofs.laws.names_are_found.Goals as goal

pub returns : goal.returns
returns c = record { classes = classes_are_found; methods = methods_are_found }
