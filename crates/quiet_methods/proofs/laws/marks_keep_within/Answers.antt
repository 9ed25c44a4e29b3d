use Rattle.quiet_methods.proofs.QuietMethods as quiet
use Rattle.quiet_methods.proofs.laws.marks_keep_within.Goals as goal

pub returns : goal.returns
returns c = record { methods = quiet.unmarked_stay; calls = quiet.marks_keep_within; checked = quiet.checked_keep_within }
