-- What looking for a store to export tells, by the program that was compiled for it.
use Rattle.std.proofs.Common.{◌≡◌, ℕ, ◌⊎◌, List, None, Some, Err, refl, ap, subst}
use Rattle.std.specs.Prelude.{IfSome, OnOk, IsErrOf}
use Rattle.std.specs.declared.option.Option.{Option}
use Rattle.std.specs.declared.result.Result.{Result}
use Rattle.sf_outside.specs.Causes.{Rose}
use Rattle.sf_outside.specs.DiskModel.{Image, DiskFacts}
use Rattle.sf_outside.specs.Gains.{Wrote, Counts}
use Rattle.sf_outside.specs.Handing.{IsHandedOn}
use Rattle.sf_outside.specs.declared.gains.WriteStop.{WriteStop}
use Rattle.aria_batch.specs.BatchRun.{source_of as source_by}
use Rattle.entity_compiler.specs.Compiling.{IsCompiledOf}
use Rattle.engine.specs.EngineViews.{core_of, source_of}
use Rattle.store_meaning.specs.declared.position.Position.{Position}
use Rattle.store_meaning.specs.StandsFor.{OldStandsFor}
use Rattle.store_opening.specs.Findings.{IsAsFound}
use Rattle.store_opening.specs.OpenedStores.{program_for, IsReady}
use Rattle.store_opening.specs.Openings.{TellsWhy, LeavesAsFound, StoppedAsFound, MountsFor}
use Rattle.store_opening.specs.declared.finding.FoundStore.{FoundStore}
use Rattle.store_opening.specs.declared.opened_store.OpenSettings.{OpenSettings}
use Rattle.store_opening.specs.declared.opened_store.OpenedStore.{OpenedStore}
use Rattle.store_opening.specs.declared.stop.OpenStop.{OpenStop}
use Rattle.store_opening.specs.declared.stop.OpenStop.TheVariants as of_store
use Rattle.export_laws.specs.Exports.{history_lines}
use Rattle.stateflow_cli.specs.Devices.{Devices}
use Rattle.stateflow_cli.specs.Loading.{HoldsOne, Holds, IsCompiledWith, source_in}
use Rattle.stateflow_cli.specs.Starts.{program_of}
use Rattle.stateflow_cli.specs.ExportEnds.{HasCore, ReadsStore, export_ending, ExportWays, CannotLook, Exports}
use Rattle.stateflow_cli.specs.declared.loading.CompiledText.{CompiledText}
use Rattle.stateflow_cli.specs.declared.ending.Ending.{Ending}
use Rattle.stateflow_cli.specs.declared.ending.Ending.TheVariants.{Unopened}
use Rattle.stateflow_cli.proofs.PrintLaws.{holds_compiled}

module _ (file dir : List ℕ) (before after : Devices) (was now : DiskFacts) (made : CompiledText) (one : HoldsOne (λ text. IsCompiledWith text made) (before.content file)) where
  abbrev compiled_text : HoldsOne (λ text. IsCompiledOf text made.compiled) (before.content file)
  compiled_text = record { text = one.text; told = one.told; is = one.is.is }

  abbrev holds : Holds (before.content file)
  holds = holds_compiled (before.content file) made.compiled compiled_text

  pub not_looked : (stop : OpenStop) → IfSome (before.disk.found dir) (TellsWhy stop (program_for made.compiled made.text)) → StoppedAsFound stop (before.disk.found dir) now
      → MountsFor {T = FoundStore} (Err stop) dir (IsAsFound (before.disk.found dir)) before.disk.mounts after.disk.mounts before.disk.faults after.disk.faults was now
      → (IsErrOf {T = FoundStore} {E = OpenStop} (Err stop) of_store.DiskFault → Rose before.disk.faults after.disk.faults ⊎ Rose (before.disk.mounts.refused dir) (after.disk.mounts.refused dir))
      → after.out ≡ before.out → ExportWays file dir before after was now (Unopened stop)
  not_looked stop answer unchanged mounts cause kept =
      CannotLook holds stop refl
      (record {
        answer = subst (λ t. IfSome (before.disk.found dir) (TellsWhy stop (program_for made.compiled t))) one.is.characters answer;
        unchanged = unchanged;
        mounts = mounts;
        cause = λ is. cause (ap Err is);
      })
      kept

  module _ (opened : OpenedStore) (settings : OpenSettings) (ready : IsReady made.compiled settings opened)
      (answer : IfSome (before.disk.found dir) (λ image. OldStandsFor (program_for made.compiled made.text) image (core_of opened.engine) opened.store.position)) where
    found_so : IfSome (before.disk.found dir) (λ image. OldStandsFor (program_of (source_in (before.content file) holds) one.text) image (core_of opened.engine) opened.store.position)
    found_so = subst (λ t. IfSome (before.disk.found dir) (λ image. OldStandsFor (program_for made.compiled t) image (core_of opened.engine) opened.store.position)) one.is.characters answer

    has_core : HasCore dir before (program_of (source_in (before.content file) holds) one.text) (core_of opened.engine)
    has_core = by (before.disk.found dir) found_so
      where
        by : (found : Option Image) → IfSome found (λ image. OldStandsFor (program_of (source_in (before.content file) holds) one.text) image (core_of opened.engine) opened.store.position)
            → IfSome found (λ image. (position : Position) × OldStandsFor (program_of (source_in (before.content file) holds) one.text) image (core_of opened.engine) position)
        by None stands = tt
        by (Some image) stands = (opened.store.position, stands)

    pub exported : (result : Result (Unit {0}) WriteStop) (e : Ending) → e ≡ export_ending result → ReadsStore dir before.disk after.disk was now → LeavesAsFound (before.disk.found dir) now
        → Wrote result before.out.held after.out.held (history_lines (source_of opened.engine) (core_of opened.engine).history) → Counts before.out.faults after.out.faults result
        → OnOk result (IsHandedOn after.out.handed after.out.held) → ExportWays file dir before after was now e
    exported result e is reads left wrote counts handed =
        Exports holds (core_of opened.engine) result is has_core reads left
        (subst (λ src. Wrote result before.out.held after.out.held (history_lines src (core_of opened.engine).history)) (ap source_by ready.runs.compiled_is) wrote) counts handed
