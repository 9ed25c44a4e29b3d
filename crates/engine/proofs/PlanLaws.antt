-- The core of an engine behind a batch that was planned on it.
use Rattle.std.proofs.Common.{◌≡◌, ◌+◌, length, ap, ◌∙◌, subst, arith}
use Rattle.std.proofs.lemmas.List.{length-map}
use Rattle.program_meaning.specs.Serial.{acts_of, outcomes_of, serial_outcomes}
use Rattle.program_meaning.proofs.Soundness.{checked_are_known}
use Rattle.block_step.specs.CompiledViews.{compiled_program, compiled_names}
use Rattle.engine.specs.declared.engine.Engine.{Engine}
use Rattle.engine.specs.declared.planned.Planned.{Planned}
use Rattle.engine.specs.Cores.{Core, CoreFits}
use Rattle.engine.specs.Growth.{GrowsSerially}
use Rattle.engine.specs.EngineViews.{core_of, source_of, tables_of}
use Rattle.engine.specs.Batches.{requests_at, other_places, entry_on, batch_entries, after_batch}
use Rattle.engine.specs.Moves.{CanMove}
use Rattle.engine.specs.Plans.{IsPlanOf}
use Rattle.engine.proofs.PlaceLaws.{count_once}
use Rattle.engine.proofs.BatchLaws.{batch_goes_on, batch_fits}

module _ (e : Engine) (p : Planned) (plan : IsPlanOf e p) where
  -- each request that waited is committed or waits on
  pub places_count : length p.moves.entries + length p.moves.carried ≡ length (core_of e).pending
  places_count =
      let count = count_once (core_of e).pending p.batch.committed (other_places (length (core_of e).pending) p.batch.committed) plan.made.once in
      let carried = ap (λ (c : Core). length c.pending) plan.made.behind in
      let entries = ap length plan.made.entries ∙ length-map (requests_at (core_of e).pending p.batch.committed) (entry_on (source_of e) (core_of e).state) in
      omega arith

  pub can_move : CanMove (core_of e) p.moves p.batch.committed
  can_move = record {
    ids = plan.serial.ids;
    placed = omega (arith, places_count, plan.room.places);
    few = omega (arith, places_count, e.few);
    there = plan.made.there;
  }

  pub plan_fits : CoreFits (tables_of e) (core_of e) → CoreFits (tables_of e) (after_batch (source_of e) (core_of e) p.batch.committed)
  plan_fits fits = batch_fits (compiled_names e.compiled) (compiled_program e.compiled) (checked_are_known e.compiled.program) (core_of e) p.batch.committed plan.made.once fits

  pub plan_grows : GrowsSerially (source_of e) (core_of e) (after_batch (source_of e) (core_of e) p.batch.committed)
  plan_grows =
      let same = subst (λ es. outcomes_of es ≡ serial_outcomes (source_of e) (core_of e).state (acts_of es)) plan.made.entries plan.serial.outcomes in
      record {
        added = batch_entries (source_of e) (core_of e) p.batch.committed;
        goes_on = batch_goes_on (source_of e) (core_of e) p.batch.committed plan.made.once same;
      }
