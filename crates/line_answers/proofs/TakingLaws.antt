-- What an engine leaves that takes what a line asks, or not.
use Rattle.std.proofs.Common.{◌≡◌, false, List, refl, sym, subst}
use Rattle.serial_order.specs.ConflictFree.{Access}
use Rattle.reservations.specs.CommitRules.{Chosen}
use Rattle.engine.specs.declared.engine.Engine.{Engine}
use Rattle.engine.specs.Cores.{CoreFits}
use Rattle.engine.specs.Growth.{GrowsSerially}
use Rattle.engine.specs.EngineViews.{core_of, source_of, tables_of, compiled_of, limit_of, fresh_of, RunsProgram}
use Rattle.engine.proofs.GrowthLaws.{grows_same}
use Rattle.batch_replies.specs.GoingOn.{SessionState, CanGoOn, GoesOn, state_of}
use Rattle.batch_replies.proofs.GoingLaws.{same_storable, same_logged, moved}
use Rattle.batch_replies.proofs.SameProgram.{runs_itself}
use Rattle.line_answers.specs.Takings.{Takes}

-- contracts see no change
pub Takes-same : (e now : Engine) → RunsProgram now (compiled_of e) (limit_of e) → core_of now ≡ core_of e → fresh_of now ≡ fresh_of e → Takes e now
Takes-same e now runs core fresh = record {
  runs = runs;
  logged = same_logged e now core fresh;
  fits = λ fits. subst (CoreFits (tables_of e)) (sym core) fits;
  grows = subst (GrowsSerially (source_of e) (core_of e)) (sym core) (grows_same (source_of e) (core_of e));
  storable = λ storable. same_storable e now core fresh storable;
}

-- nothing was taken
pub Takes-itself : (e : Engine) → Takes e e
Takes-itself e = Takes-same e e (runs_itself e) refl refl

-- the session goes on from there
pub takes_on : (rule : List Access → Chosen) (s : SessionState) (now : Engine) → CanGoOn s → Takes s.engine now → GoesOn rule false s (state_of now s.store s.facts s.faults s.mounts)
takes_on rule s now ready took =
    moved rule s.engine now took.runs (took.fits ready.fits) took.grows (took.storable ready.storable) took.logged s.store s.facts s.faults s.mounts ready
