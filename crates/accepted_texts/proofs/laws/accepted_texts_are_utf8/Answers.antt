use Rattle.accepted_texts.proofs.AcceptedTexts.{accepted_is_utf8, accepted_is_short}
use Rattle.accepted_texts.proofs.laws.accepted_texts_are_utf8.Goals as goal

pub returns : goal.returns
returns c = record { utf8 = accepted_is_utf8; short = accepted_is_short }
