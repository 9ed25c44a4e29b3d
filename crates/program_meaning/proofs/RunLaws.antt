-- A request that weighs too much, and one that doesn't.
use Rattle.std.proofs.Common.{◌≡◌, true, false, if◌then◌else◌, ap}
use Rattle.sf_value.specs.declared.Act.{Act}
use Rattle.program_meaning.specs.ClassTables.{Source}
use Rattle.program_meaning.specs.World.{State}
use Rattle.program_meaning.specs.RequestRun.{run, begin, ended, refused, is_too_heavy}

module _ (src : Source) (s : State) (asked : Act) where
  pub run_heavy : is_too_heavy asked ≡ true → run src s asked ≡ refused s
  unfolding run
  run_heavy heavy = ap (λ b. if b then refused s else ended s (begin src asked s)) heavy

  pub run_light : is_too_heavy asked ≡ false → run src s asked ≡ ended s (begin src asked s)
  unfolding run
  run_light light = ap (λ b. if b then refused s else ended s (begin src asked s)) light
