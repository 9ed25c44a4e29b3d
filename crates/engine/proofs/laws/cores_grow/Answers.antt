use Rattle.engine.proofs.GrowthLaws.{grows_sound, grows_then}
use Rattle.engine.proofs.laws.cores_grow.Goals as goal

pub returns-clause-sound : goal.returns-clause-sound
returns-clause-sound c = grows_sound

pub returns-clause-on : goal.returns-clause-on
returns-clause-on c = grows_then
