-- What finding the store of a program in a folder tells. Nothing is written then, so each image since the mount is what was found.
use Rattle.std.specs.Prelude.{◌≡◌, Some, Ok, Err}
use Rattle.std.specs.declared.option.Option.{Option}
use Rattle.std.specs.declared.result.Result.{Result}
use Rattle.sf_outside.specs.DiskModel.{Image, DiskFacts}
use Rattle.snapshot_store.specs.SlotFile.{IsEpoch, IsNew}
use Rattle.block_step.specs.declared.compiled.Compiled.{Compiled}
use Rattle.engine.specs.EngineViews.{core_of}
use Rattle.store_meaning.specs.StandsFor.{Program, OldStandsFor}
use Rattle.session_store.specs.Places.{IsPlaced}
use Rattle.store_opening.specs.declared.finding.FoundStore.{FoundStore}
use Rattle.store_opening.specs.declared.finding.FoundStore.TheVariants.{New, Old}
use Rattle.store_opening.specs.declared.opened_store.OpenSettings.{OpenSettings}
use Rattle.store_opening.specs.declared.stop.OpenStop.{OpenStop}
use Rattle.store_opening.specs.OpenedStores.{program_for, IsReady}
use Rattle.store_opening.specs.Openings.{TellsWhy, LeavesAsFound, StoppedAsFound}

-- what was found is new; or it is old, and stands for the core of the engine, where the store is; or it is bad at exactly this place, or of another
-- program
abbrev pub Judges : Result FoundStore OpenStop → Program → Image → Type 0
Judges (Ok (New compiled settings)) p image = IsNew image
Judges (Ok (Old made)) p image = OldStandsFor p image (core_of made.engine) made.store.position
Judges (Err stop) p image = TellsWhy stop p image

-- where nothing was kept yet, what the store was looked for with is given back; and with an old store a session can begin, from where its entries and
-- batches say
abbrev pub IsFoundFor : Compiled → OpenSettings → FoundStore → Type 0
IsFoundFor compiled settings (New given kept) = (given ≡ compiled) × (kept ≡ settings)
IsFoundFor compiled settings (Old made) =
    IsReady compiled settings made × IsEpoch made.store.position.epoch × IsPlaced (program_for compiled settings.program) (core_of made.engine) made.store.position

-- an image is what was found
abbrev pub IsAsFound : Option Image → Image → Type 0
IsAsFound found image = found ≡ Some image

-- what was judged stays as it was found
abbrev pub StaysAsFound : Result FoundStore OpenStop → Option Image → DiskFacts → Type 0
StaysAsFound (Ok store) found facts = LeavesAsFound found facts
StaysAsFound (Err stop) found facts = StoppedAsFound stop found facts
