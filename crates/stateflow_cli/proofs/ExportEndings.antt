-- How an export ends, by its status.
use Rattle.std.proofs.Common.{◌≡◌, ℕ, ◌⊎◌, inl, inr, List, [], ◌∷◌, length, take, drop, Some, Ok, Err, refl, sym, ap, ◌∙◌, subst, arith, take-append-drop}
use Rattle.std.proofs.lemmas.List.{take_at}
use Rattle.std.proofs.KnownBytes.{Keeps-refl}
use Rattle.std.specs.declared.option.Option.{Option}
use Rattle.std.specs.declared.result.Result.{Result}
use Rattle.std.specs.Io.KnownBytes.{Keeps, Appends}
use Rattle.sf_outside.specs.Bytes.{AppendsPrefix}
use Rattle.sf_outside.specs.Causes.{Rose}
use Rattle.sf_outside.specs.DiskModel.{DiskFacts}
use Rattle.sf_outside.specs.Gains.{joined, Wrote}
use Rattle.sf_outside.specs.declared.store_disk.StoreFile.{StoreFile}
use Rattle.sf_outside.specs.declared.gains.WriteStop.{WriteStop}
use Rattle.sf_outside.specs.declared.gains.WriteStop.TheVariants as of_write
use Rattle.sf_outside.proofs.GainLaws.{joined-append}
use Rattle.program_meaning.specs.ClassTables.{Source}
use Rattle.snapshot_store.specs.SlotFile.{IsNew}
use Rattle.snapshot_store.proofs.OneNewest.{newest_not_new}
use Rattle.engine.specs.Cores.{Core, empty_core}
use Rattle.store_meaning.specs.declared.position.Position.{Position}
use Rattle.store_meaning.specs.StandsFor.{Program, new_position, OldStandsFor}
use Rattle.store_opening.specs.Openings.{LeavesAsFound, IsRefused}
use Rattle.store_opening.specs.declared.stop.OpenStop.{OpenStop}
use Rattle.store_opening.specs.declared.stop.OpenStop.TheVariants as of_store
use Rattle.export_laws.specs.Exports.{history_lines}
use Rattle.batch_run.proofs.Vocabulary.{prefix_whole}
use Rattle.stateflow_cli.specs.Devices.{Devices, Input, Output, with_err}
use Rattle.stateflow_cli.specs.Loading.{source_in}
use Rattle.stateflow_cli.specs.Starts.{program_of}
use Rattle.stateflow_cli.specs.StatusLines.{status_of, line_of}
use Rattle.stateflow_cli.specs.StoredRuns.{DiskRose}
use Rattle.stateflow_cli.specs.StoreClauses.{IsBadAt, IsOfAnother, TellsBadStore}
use Rattle.stateflow_cli.specs.ExportEnds.{HasCore, HasNone, ReadsStore, LeavesDisk, FailsToLook, ExportWays, TurnsDown, CannotRead, WantsMemory, CannotLook, FindsNothing, Exports, ExportEnds}
use Rattle.stateflow_cli.specs.ExportPromise.{WritesAll, WritesFront, WritesFirst, OfStore, FindsBad, FindsAnother, FindsNone, FindsCore, AreTold}
use Rattle.stateflow_cli.specs.Answers.{TellsFault}
use Rattle.stateflow_cli.specs.Causes.{IsFault, WasUnread, WasUnwritten, WasUnstored, WantedMemory, FileRose, OfText, HasNoProgram, HasProgram, IsTold}
use Rattle.stateflow_cli.specs.Session.{IsOneOf}
use Rattle.stateflow_cli.specs.declared.ending.Ending.{Ending}
use Rattle.stateflow_cli.proofs.OneCause.{told_of, one_of_text, IsBad, IsOther, Stands, bad_not_other, bad_not_core, other_not_core, bad_so, other_so}

-- ---- statuses

pub not_unwritten : (n : ℕ) → IsOneOf n (0 ∷ 6 ∷ 7 ∷ 11 ∷ []) → n ≡ 4 → ⊥
not_unwritten n (inl is) four = omega (arith, is, four)
not_unwritten n (inr (inl is)) four = omega (arith, is, four)
not_unwritten n (inr (inr (inl is))) four = omega (arith, is, four)
not_unwritten n (inr (inr (inr (inl is)))) four = omega (arith, is, four)
not_unwritten n (inr (inr (inr (inr none)))) four = absurd none

-- a status that is none of these
not_found : (n m : ℕ) → n ≡ m → (m ≡ 0 → ⊥) → (m ≡ 6 → ⊥) → (m ≡ 7 → ⊥) → (m ≡ 11 → ⊥) → IsOneOf n (0 ∷ 6 ∷ 7 ∷ 11 ∷ []) → ⊥
not_found n m same a b c d (inl is) = a (sym same ∙ is)
not_found n m same a b c d (inr (inl is)) = b (sym same ∙ is)
not_found n m same a b c d (inr (inr (inl is))) = c (sym same ∙ is)
not_found n m same a b c d (inr (inr (inr (inl is)))) = d (sym same ∙ is)
not_found n m same a b c d (inr (inr (inr (inr none)))) = absurd none

record IsSilent (n : ℕ) : Type 0 where
  wrote : n ≡ 0 → ⊥
  written : n ≡ 4 → ⊥
  wanted : n ≡ 8 → ⊥

apart_of : (n m : ℕ) → n ≡ m → (m ≡ 0 → ⊥) → (m ≡ 4 → ⊥) → (m ≡ 8 → ⊥) → IsSilent n
apart_of n m is a b c = record { wrote = λ z. a (sym is ∙ z); written = λ z. b (sym is ∙ z); wanted = λ z. c (sym is ∙ z) }

is_silent : (n : ℕ) → IsOneOf n (1 ∷ 3 ∷ 5 ∷ 6 ∷ 7 ∷ 11 ∷ []) → IsSilent n
is_silent n (inl is) = apart_of n 1 is (λ z. omega (arith, z)) (λ z. omega (arith, z)) (λ z. omega (arith, z))
is_silent n (inr (inl is)) = apart_of n 3 is (λ z. omega (arith, z)) (λ z. omega (arith, z)) (λ z. omega (arith, z))
is_silent n (inr (inr (inl is))) = apart_of n 5 is (λ z. omega (arith, z)) (λ z. omega (arith, z)) (λ z. omega (arith, z))
is_silent n (inr (inr (inr (inl is)))) = apart_of n 6 is (λ z. omega (arith, z)) (λ z. omega (arith, z)) (λ z. omega (arith, z))
is_silent n (inr (inr (inr (inr (inl is))))) = apart_of n 7 is (λ z. omega (arith, z)) (λ z. omega (arith, z)) (λ z. omega (arith, z))
is_silent n (inr (inr (inr (inr (inr (inl is)))))) = apart_of n 11 is (λ z. omega (arith, z)) (λ z. omega (arith, z)) (λ z. omega (arith, z))
is_silent n (inr (inr (inr (inr (inr (inr none)))))) = absurd none

-- ---- lines

-- the first lines, each whole, are a prefix of the text
first_is_front : (lines : List (List ℕ)) (k : ℕ) → take (length (joined (take k lines))) (joined lines) ≡ joined (take k lines)
first_is_front lines k =
    let first = joined (take k lines) in
    ap (take (length first)) (ap joined (sym (take-append-drop k lines)) ∙ joined-append (take k lines) (drop k lines)) ∙ take_at first (joined (drop k lines)) (length first) refl

wrote_front : (result : Result (Unit {0}) WriteStop) (old new : Option (List ℕ)) (lines : List (List ℕ)) → Wrote result old new lines → AppendsPrefix old new (joined lines)
wrote_front (Ok all) old new lines wrote = prefix_whole old new (joined lines) wrote
wrote_front (Err of_write.NoMemory) old new lines wrote = (length (joined (take wrote.0 lines)), subst (Appends old new) (sym (first_is_front lines wrote.0)) wrote.1)
wrote_front (Err of_write.WriteFault) old new lines wrote = wrote

-- ---- by the ending

module _ (before after : Devices) (was now : DiskFacts) (behind : Output) (file dir : List ℕ) (e : Ending) (a : ExportEnds file dir before (with_err behind after) was now e) where
  abbrev Ways : Type 0
  Ways = ExportWays file dir before (with_err behind after) was now e

  abbrev Store : Type 0
  Store = LeavesDisk dir before.disk after.disk was now ⊎ ReadsStore dir before.disk after.disk was now

  stopped_store : (p : Program) (stop : OpenStop) → FailsToLook dir p before.disk after.disk was now stop → Store
  stopped_store p (of_store.Bad bad at) f = inr f.mounts
  stopped_store p of_store.OtherProgram f = inr f.mounts
  stopped_store p of_store.DiskFault f = by f.mounts
    where
      by : ReadsStore dir before.disk after.disk was now
          ⊎ (IsRefused dir before.disk.mounts after.disk.mounts before.disk.faults after.disk.faults was now × Rose (before.disk.mounts.refused dir) (after.disk.mounts.refused dir)) → Store
      by (inl m) = inr m
      by (inr r) = inl (inr r.0)
  stopped_store p of_store.NoMemory f = by f.mounts
    where
      by : ReadsStore dir before.disk after.disk was now ⊎ IsRefused dir before.disk.mounts after.disk.mounts before.disk.faults after.disk.faults was now → Store
      by (inl m) = inr m
      by (inr r) = inl (inr r)

  pub export_store : Store
  export_store = by a.ways
    where
      by : Ways → Store
      by (TurnsDown fault same refused left kept) = inl (inl left)
      by (CannotRead same rose left kept) = inl (inl left)
      by (WantsMemory same left kept) = inl (inl left)
      by (CannotLook holds stop same fails kept) = stopped_store (program_of (source_in (before.content file) holds) holds.holds.text) stop fails
      by (FindsNothing holds same none reads left kept) = inr reads
      by (Exports holds core result same has reads left wrote counts handed) = inr reads

  pub export_front : (after.out ≡ before.out) ⊎ WritesFront file dir before after
  export_front = by a.ways
    where
      by : Ways → (after.out ≡ before.out) ⊎ WritesFront file dir before after
      by (TurnsDown fault same refused left kept) = inl kept
      by (CannotRead same rose left kept) = inl kept
      by (WantsMemory same left kept) = inl kept
      by (CannotLook holds stop same fails kept) = inl kept
      by (FindsNothing holds same none reads left kept) = inl kept
      by (Exports holds core result same has reads left wrote counts handed) =
          inr (record {
            stands = record { holds = holds; core = core; is = has };
            front = wrote_front result before.out.held after.out.held (history_lines (source_in (before.content file) holds) core.history) wrote;
          })

  module _ (status : ℕ) where
    abbrev Why : Type 0
    Why = OfText (before.content file) (OfStore dir before) status ⊎ IsFault (FileRose file before after) (DiskRose dir before.disk after.disk) before after status

    -- why it has its status
    pub export_cause : status ≡ status_of e → Why
    export_cause own = by a.ways
      where
        by : Ways → Why
        by (TurnsDown fault same refused left kept) = inl (HasNoProgram fault (own ∙ ap status_of same) refused)
        by (CannotRead same rose left kept) = inr (WasUnread (own ∙ ap status_of same) rose)
        by (WantsMemory same left kept) = inr (WantedMemory (own ∙ ap status_of same))
        by (CannotLook holds (of_store.Bad bad at) same fails kept) = inl (HasProgram holds (FindsBad bad at (own ∙ ap status_of same) fails.answer))
        by (CannotLook holds of_store.OtherProgram same fails kept) = inl (HasProgram holds (FindsAnother (own ∙ ap status_of same) fails.answer))
        by (CannotLook holds of_store.DiskFault same fails kept) = inr (WasUnstored (own ∙ ap status_of same) (fails.cause refl))
        by (CannotLook holds of_store.NoMemory same fails kept) = inr (WantedMemory (own ∙ ap status_of same))
        by (FindsNothing holds same none reads left kept) = inl (HasProgram holds (FindsNone (own ∙ ap status_of same) none))
        by (Exports holds core (Ok all) same has reads left wrote counts handed) = inl (HasProgram holds (FindsCore core (own ∙ ap status_of same) has))
        by (Exports holds core (Err of_write.NoMemory) same has reads left wrote counts handed) = inr (WantedMemory (own ∙ ap status_of same))
        by (Exports holds core (Err of_write.WriteFault) same has reads left wrote counts handed) = inr (WasUnwritten (own ∙ ap status_of same) (inl (counts.rose refl)))

    module _ (own : (status ≡ 4 → ⊥) → status ≡ status_of e) where
      abbrev Read : Type 0
      Read = ReadsStore dir before.disk after.disk was now × LeavesAsFound (before.disk.found dir) now

      pub export_found : IsOneOf status (0 ∷ 6 ∷ 7 ∷ 11 ∷ []) → Read
      export_found one = by a.ways
        where
          mine : status ≡ status_of e
          mine = own (not_unwritten status one)

          never : (m : ℕ) → status_of e ≡ m → (m ≡ 0 → ⊥) → (m ≡ 6 → ⊥) → (m ≡ 7 → ⊥) → (m ≡ 11 → ⊥) → Read
          never m is x y z w = absurd (not_found status m (mine ∙ is) x y z w one)

          by : Ways → Read
          by (TurnsDown fault same refused left kept) = never 1 (ap status_of same) (λ z. omega (arith, z)) (λ z. omega (arith, z)) (λ z. omega (arith, z)) (λ z. omega (arith, z))
          by (CannotRead same rose left kept) = never 3 (ap status_of same) (λ z. omega (arith, z)) (λ z. omega (arith, z)) (λ z. omega (arith, z)) (λ z. omega (arith, z))
          by (WantsMemory same left kept) = never 8 (ap status_of same) (λ z. omega (arith, z)) (λ z. omega (arith, z)) (λ z. omega (arith, z)) (λ z. omega (arith, z))
          by (CannotLook holds (of_store.Bad bad at) same fails kept) = (fails.mounts, fails.unchanged)
          by (CannotLook holds of_store.OtherProgram same fails kept) = (fails.mounts, fails.unchanged)
          by (CannotLook holds of_store.DiskFault same fails kept) = never 5 (ap status_of same) (λ z. omega (arith, z)) (λ z. omega (arith, z)) (λ z. omega (arith, z)) (λ z. omega (arith, z))
          by (CannotLook holds of_store.NoMemory same fails kept) = never 8 (ap status_of same) (λ z. omega (arith, z)) (λ z. omega (arith, z)) (λ z. omega (arith, z)) (λ z. omega (arith, z))
          by (FindsNothing holds same none reads left kept) = (reads, left)
          by (Exports holds core result same has reads left wrote counts handed) = (reads, left)

      pub export_all : status ≡ 0 → WritesAll file dir before after
      export_all zero = by a.ways
        where
          mine : 0 ≡ status_of e
          mine = sym zero ∙ own (λ four. omega (arith, zero, four))

          never : (m : ℕ) → status_of e ≡ m → (0 ≡ m → ⊥) → WritesAll file dir before after
          never m is x = absurd (x (mine ∙ is))

          by : Ways → WritesAll file dir before after
          by (TurnsDown fault same refused left kept) = never 1 (ap status_of same) (λ z. omega (arith, z))
          by (CannotRead same rose left kept) = never 3 (ap status_of same) (λ z. omega (arith, z))
          by (WantsMemory same left kept) = never 8 (ap status_of same) (λ z. omega (arith, z))
          by (CannotLook holds (of_store.Bad bad at) same fails kept) = never 6 (ap status_of same) (λ z. omega (arith, z))
          by (CannotLook holds of_store.OtherProgram same fails kept) = never 7 (ap status_of same) (λ z. omega (arith, z))
          by (CannotLook holds of_store.DiskFault same fails kept) = never 5 (ap status_of same) (λ z. omega (arith, z))
          by (CannotLook holds of_store.NoMemory same fails kept) = never 8 (ap status_of same) (λ z. omega (arith, z))
          by (FindsNothing holds same none reads left kept) = never 11 (ap status_of same) (λ z. omega (arith, z))
          by (Exports holds core (Ok all) same has reads left wrote counts handed) = record { stands = record { holds = holds; core = core; is = has }; wrote = wrote; handed = handed }
          by (Exports holds core (Err of_write.NoMemory) same has reads left wrote counts handed) = never 8 (ap status_of same) (λ z. omega (arith, z))
          by (Exports holds core (Err of_write.WriteFault) same has reads left wrote counts handed) = never 4 (ap status_of same) (λ z. omega (arith, z))

      pub export_whole : status ≡ 8 → (after.out ≡ before.out) ⊎ WritesFirst file dir before after
      export_whole eight = by a.ways
        where
          mine : 8 ≡ status_of e
          mine = sym eight ∙ own (λ four. omega (arith, eight, four))

          by : Ways → (after.out ≡ before.out) ⊎ WritesFirst file dir before after
          by (TurnsDown fault same refused left kept) = inl kept
          by (CannotRead same rose left kept) = inl kept
          by (WantsMemory same left kept) = inl kept
          by (CannotLook holds stop same fails kept) = inl kept
          by (FindsNothing holds same none reads left kept) = inl kept
          by (Exports holds core (Ok all) same has reads left wrote counts handed) = let at : 8 ≡ 0 = mine ∙ ap status_of same in absurd (omega (arith, at))
          by (Exports holds core (Err of_write.NoMemory) same has reads left wrote counts handed) =
              inr (record { stands = record { holds = holds; core = core; is = has }; count = wrote.0; wrote = wrote.1 })
          by (Exports holds core (Err of_write.WriteFault) same has reads left wrote counts handed) = let at : 8 ≡ 4 = mine ∙ ap status_of same in absurd (omega (arith, at))

      pub export_nothing : IsOneOf status (1 ∷ 3 ∷ 5 ∷ 6 ∷ 7 ∷ 11 ∷ []) → after.out ≡ before.out
      export_nothing one = by a.ways
        where
          silent : IsSilent status
          silent = is_silent status one

          mine : status ≡ status_of e
          mine = own silent.written

          by : Ways → after.out ≡ before.out
          by (TurnsDown fault same refused left kept) = kept
          by (CannotRead same rose left kept) = kept
          by (WantsMemory same left kept) = kept
          by (CannotLook holds stop same fails kept) = kept
          by (FindsNothing holds same none reads left kept) = kept
          by (Exports holds core (Ok all) same has reads left wrote counts handed) = absurd (silent.wrote (mine ∙ ap status_of same))
          by (Exports holds core (Err of_write.NoMemory) same has reads left wrote counts handed) = absurd (silent.wanted (mine ∙ ap status_of same))
          by (Exports holds core (Err of_write.WriteFault) same has reads left wrote counts handed) = absurd (silent.written (mine ∙ ap status_of same))

    -- what was told

    module _ (line : Appends before.err.held after.err.held (line_of file e)) where
      abbrev Said : Ending → Type 0
      Said x = Appends before.err.held after.err.held (line_of file x)

      pub export_told : status_of e ≡ 1 → TellsFault file before after
      export_told one = by a.ways
        where
          never : (m : ℕ) → status_of e ≡ m → (m ≡ 1 → ⊥) → TellsFault file before after
          never m is x = absurd (x (sym is ∙ one))

          by : Ways → TellsFault file before after
          by (TurnsDown fault same refused left kept) = record { fault = fault; refused = refused; line = subst Said same line }
          by (CannotRead same rose left kept) = never 3 (ap status_of same) (λ z. omega (arith, z))
          by (WantsMemory same left kept) = never 8 (ap status_of same) (λ z. omega (arith, z))
          by (CannotLook holds (of_store.Bad bad at) same fails kept) = never 6 (ap status_of same) (λ z. omega (arith, z))
          by (CannotLook holds of_store.OtherProgram same fails kept) = never 7 (ap status_of same) (λ z. omega (arith, z))
          by (CannotLook holds of_store.DiskFault same fails kept) = never 5 (ap status_of same) (λ z. omega (arith, z))
          by (CannotLook holds of_store.NoMemory same fails kept) = never 8 (ap status_of same) (λ z. omega (arith, z))
          by (FindsNothing holds same none reads left kept) = never 11 (ap status_of same) (λ z. omega (arith, z))
          by (Exports holds core (Ok all) same has reads left wrote counts handed) = never 0 (ap status_of same) (λ z. omega (arith, z))
          by (Exports holds core (Err of_write.NoMemory) same has reads left wrote counts handed) = never 8 (ap status_of same) (λ z. omega (arith, z))
          by (Exports holds core (Err of_write.WriteFault) same has reads left wrote counts handed) = never 4 (ap status_of same) (λ z. omega (arith, z))

      pub export_bad : status_of e ≡ 6 → TellsBadStore file (Some dir) before after
      export_bad six = by a.ways
        where
          never : (m : ℕ) → status_of e ≡ m → (m ≡ 6 → ⊥) → TellsBadStore file (Some dir) before after
          never m is x = absurd (x (sym is ∙ six))

          by : Ways → TellsBadStore file (Some dir) before after
          by (TurnsDown fault same refused left kept) = never 1 (ap status_of same) (λ z. omega (arith, z))
          by (CannotRead same rose left kept) = never 3 (ap status_of same) (λ z. omega (arith, z))
          by (WantsMemory same left kept) = never 8 (ap status_of same) (λ z. omega (arith, z))
          by (CannotLook holds (of_store.Bad bad at) same fails kept) = record {
            dir = dir;
            named = refl;
            bad = bad;
            at = at;
            is = record { holds = holds; is = fails.answer };
            line = subst Said same line;
            idle = record {
              left = subst (λ (i : Input). Keeps before.input.left i.left) (sym a.input) (Keeps-refl before.input.left);
              held = subst (λ (o : Output). Keeps before.out.held o.held) (sym kept) (Keeps-refl before.out.held);
            };
          }
          by (CannotLook holds of_store.OtherProgram same fails kept) = never 7 (ap status_of same) (λ z. omega (arith, z))
          by (CannotLook holds of_store.DiskFault same fails kept) = never 5 (ap status_of same) (λ z. omega (arith, z))
          by (CannotLook holds of_store.NoMemory same fails kept) = never 8 (ap status_of same) (λ z. omega (arith, z))
          by (FindsNothing holds same none reads left kept) = never 11 (ap status_of same) (λ z. omega (arith, z))
          by (Exports holds core (Ok all) same has reads left wrote counts handed) = never 0 (ap status_of same) (λ z. omega (arith, z))
          by (Exports holds core (Err of_write.NoMemory) same has reads left wrote counts handed) = never 8 (ap status_of same) (λ z. omega (arith, z))
          by (Exports holds core (Err of_write.WriteFault) same has reads left wrote counts handed) = never 4 (ap status_of same) (λ z. omega (arith, z))

-- ---- a folder comes to one status

module _ (dir : List ℕ) (before : Devices) (src : Source) (text : List ℕ) where
  abbrev p : Program
  p = program_of src text

  abbrev Comes : ℕ → Type 0
  Comes k = OfStore dir before src text k

  past_text : (k : ℕ) → Comes k → k ≡ 1 → ⊥
  past_text k (FindsBad bad at is of) same = omega (arith, is, same)
  past_text k (FindsAnother is of) same = omega (arith, is, same)
  past_text k (FindsNone is of) same = omega (arith, is, same)
  past_text k (FindsCore core is of) same = omega (arith, is, same)

  module _ (known : IsTold (before.disk.found dir)) where
    core_so : (core : Core) → HasCore dir before p core → (place : Position) × OldStandsFor p known.0 core place
    core_so core has = told_of (before.disk.found dir) known (λ image. (place : Position) × OldStandsFor p image core place) has

    none_so : HasNone dir before → IsNew known.0
    none_so none = told_of (before.disk.found dir) known IsNew none

    -- an empty folder stands for the empty core
    empty_so : HasNone dir before → Stands p known.0 empty_core
    empty_so none = (new_position, inl (none_so none, refl, refl))

    stands_so : (core : Core) → HasCore dir before p core → Stands p known.0 core
    stands_so core has = let x = core_so core has in (x.0, inr x.1)

    bad_is : (bad : StoreFile) (at : ℕ) → IsBadAt dir before bad at p → IsBad p known.0 bad at
    bad_is bad at of = bad_so p before.disk.found dir known bad at of

    other_is : IsOfAnother dir before p → IsOther p known.0
    other_is of = other_so p before.disk.found dir known of

    none_or_core : (core : Core) → HasNone dir before → HasCore dir before p core → ⊥
    none_or_core core none has = let x = core_so core has in newest_not_new known.0 x.0.epoch x.1.holds.newest.head x.1.holds.newest.newest (none_so none)

    one_of_store : (k m : ℕ) → Comes k → Comes m → k ≡ m
    one_of_store k m (FindsBad bad at is of) (FindsBad other place same this) = is ∙ sym same
    one_of_store k m (FindsBad bad at is of) (FindsAnother same this) = absurd (bad_not_other p known.0 bad at (bad_is bad at of) (other_is this))
    one_of_store k m (FindsBad bad at is of) (FindsNone same this) = absurd (bad_not_core p known.0 bad at empty_core (bad_is bad at of) (empty_so this))
    one_of_store k m (FindsBad bad at is of) (FindsCore core same this) = absurd (bad_not_core p known.0 bad at core (bad_is bad at of) (stands_so core this))
    one_of_store k m (FindsAnother is of) (FindsBad bad at same this) = absurd (bad_not_other p known.0 bad at (bad_is bad at this) (other_is of))
    one_of_store k m (FindsAnother is of) (FindsAnother same this) = is ∙ sym same
    one_of_store k m (FindsAnother is of) (FindsNone same this) = absurd (other_not_core p known.0 empty_core (other_is of) (empty_so this))
    one_of_store k m (FindsAnother is of) (FindsCore core same this) = absurd (other_not_core p known.0 core (other_is of) (stands_so core this))
    one_of_store k m (FindsNone is of) (FindsBad bad at same this) = absurd (bad_not_core p known.0 bad at empty_core (bad_is bad at this) (empty_so of))
    one_of_store k m (FindsNone is of) (FindsAnother same this) = absurd (other_not_core p known.0 empty_core (other_is this) (empty_so of))
    one_of_store k m (FindsNone is of) (FindsNone same this) = is ∙ sym same
    one_of_store k m (FindsNone is of) (FindsCore core same this) = absurd (none_or_core core of this)
    one_of_store k m (FindsCore core is of) (FindsBad bad at same this) = absurd (bad_not_core p known.0 bad at core (bad_is bad at this) (stands_so core of))
    one_of_store k m (FindsCore core is of) (FindsAnother same this) = absurd (other_not_core p known.0 core (other_is this) (stands_so core of))
    one_of_store k m (FindsCore core is of) (FindsNone same this) = absurd (none_or_core core this of)
    one_of_store k m (FindsCore core is of) (FindsCore other same this) = is ∙ sym same

pub one_of_export : (file dir : List ℕ) (before : Devices) (k m : ℕ) → AreTold file dir before k → OfText (before.content file) (OfStore dir before) k
    → OfText (before.content file) (OfStore dir before) m → k ≡ m
one_of_export file dir before k m known =
    one_of_text (before.content file) (OfStore dir before) known.text k m
    (λ src text cause other. one_of_store dir before src text (known.found (past_text dir before src text k cause)) k m cause other)
