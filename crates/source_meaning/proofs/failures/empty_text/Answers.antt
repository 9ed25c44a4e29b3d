use Rattle.std.specs.Str.{chars}
use Rattle.source_meaning.proofs.failures.empty_text.Goals as goal

pub returns : goal.returns
unfolding chars
returns c = c.of.ensures
