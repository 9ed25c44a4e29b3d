use Rattle.export_laws.proofs.ShortReplies.{reply_short}
use Rattle.export_laws.proofs.replies_are_short.Goals as goal

pub returns : goal.returns
returns c = reply_short
