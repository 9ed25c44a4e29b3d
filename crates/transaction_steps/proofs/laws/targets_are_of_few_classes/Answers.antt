use Rattle.transaction_steps.proofs.GoingOn.{targets_are_of_few_classes}
use Rattle.transaction_steps.proofs.laws.targets_are_of_few_classes.Goals as goal

pub returns : goal.returns
returns c = targets_are_of_few_classes
