use Rattle.session_steps.proofs.BeginLaws.{comes_begin}
use Rattle.session_steps.proofs.laws.comes_begin.Goals as goal

pub returns : goal.returns
returns c = comes_begin
