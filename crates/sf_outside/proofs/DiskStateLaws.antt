-- What the calls of a disk in memory make of its state, and so of its facts.
use Rattle.std.proofs.Common.{◌≡◌, ℕ, ◌≤◌, ◌<◌, ◌^◌, ◌||◌, Bool, true, false, true≢false, cond, List, [], ◌∷◌, ◌++◌, length, min, nat_le, Result, Ok, Err, OnErr, sym, ap, ◌∙◌, subst, arith, length-append}
use Rattle.std.proofs.lemmas.Bool.Decides.{nat_tests}
use Rattle.sf_outside.specs.Calls.{CallsState, is_due}
use Rattle.sf_outside.specs.Causes.{next_count}
use Rattle.sf_outside.specs.DiskModel.{Image, Stays, of_file}
use Rattle.sf_outside.specs.DiskCalls.{DiskCall, Quiet, no_bytes, facts_after}
use Rattle.sf_outside.specs.DiskFiles.{FitsIn}
use Rattle.sf_outside.specs.DiskState.{DiskState, facts_of, fails_next, calls_quiet, after_quiet, after_fault}
use Rattle.sf_outside.specs.LogState.{LogState}
use Rattle.sf_outside.specs.declared.store_disk.StoreFile.{StoreFile}
use Rattle.sf_outside.specs.declared.store_disk.StoreFile.TheVariants.{Log0, Log1, Snap0, Snap1, Hist}
use Rattle.sf_outside.proofs.DiskLaws.{Stays-refl}
use Rattle.sf_outside.proofs.DiskSteps.{Stays-quiet}

pub on_err : {T E : Type 0} (result : Result T E) (P : Type 0) → P → OnErr result P
on_err (Ok value) P holds = tt
on_err (Err error) P holds = holds

-- a call that changes nothing, noted where there is room
noted_stays : (start : Image) (calls : List DiskCall) (full : Bool) → Stays (facts_after start calls) (facts_after start (cond full calls (calls ++ Quiet ∷ [])))
noted_stays start calls true = Stays-refl (facts_after start calls)
noted_stays start calls false = Stays-quiet start calls

quiet_stays : (old : DiskState) → Stays (facts_of old) (facts_after old.start (calls_quiet old))
quiet_stays old = noted_stays old.start old.calls (nat_le old.limit (length old.calls))

pub Stays-passed : (old passed : DiskState) (start : Image) (calls : List DiskCall) → passed ≡ after_quiet old → start ≡ passed.start → calls ≡ passed.calls → Stays (facts_of old) (facts_after start calls)
Stays-passed old passed start calls is from same =
    subst (λ image. Stays (facts_of old) (facts_after image calls)) (sym (from ∙ ap (λ (disk : DiskState). disk.start) is))
    (subst (λ all. Stays (facts_of old) (facts_after old.start all)) (sym (same ∙ ap (λ (disk : DiskState). disk.calls) is)) (quiet_stays old))

pub Stays-failed : (old new : DiskState) → new ≡ after_fault old → Stays (facts_of old) (facts_of new)
Stays-failed old new failed = subst (λ (disk : DiskState). Stays (facts_of old) (facts_of disk)) (sym failed) (quiet_stays old)

-- ---- a call that was noted

-- what holds of the calls and this one holds of those that are noted
pub noted : (P : Image → List DiskCall → Type 0) (old : DiskState) (start : Image) (log new : LogState) (call : DiskCall) → start ≡ old.start → log.calls ≡ old.calls → new ≡ record log { calls = log.calls ++ call ∷ [] }
    → P old.start (old.calls ++ call ∷ []) → P start new.calls
noted P old start log new call from same is holds =
    subst (λ image. P image new.calls) (sym from) (subst (P old.start) (sym (ap (λ (l : LogState). l.calls) is ∙ ap (λ calls. calls ++ call ∷ []) same)) holds)

not_full : (due : Bool) (limit n : ℕ) → false ≡ (due || nat_le limit n) → n < limit
not_full true limit n is = absurd (true≢false (sym is))
not_full false limit n is = grind (arith, nat_tests, is)

-- it was counted, too
pub some_counted : (log new : LogState) (counts counted : CallsState) (call : DiskCall) → length log.calls < log.limit → log.limit < 2 ^ 64 → length log.calls ≡ min counts.made log.limit
    → new ≡ record log { calls = log.calls ++ call ∷ [] } → counted ≡ record counts { made = next_count counts.made } → length new.calls ≡ min counted.made new.limit
some_counted log new counts counted call room few all is counted_is =
    omega (arith, room, few, all, ap (λ (l : LogState). length l.calls) is, ap (λ (l : LogState). l.limit) is, ap (λ (c : CallsState). c.made) counted_is, length-append log.calls (call ∷ []))

-- where it is known that the next call didn't fail
pub one_counted : (old : DiskState) (fails : Bool) (log new : LogState) (counts counted : CallsState) (call : DiskCall) → fails ≡ fails_next old → fails ≡ false → old.limit < 2 ^ 64 → log.calls ≡ old.calls → log.limit ≡ old.limit
    → length log.calls ≡ min counts.made log.limit → new ≡ record log { calls = log.calls ++ call ∷ [] } → counted ≡ record counts { made = next_count counts.made } → length new.calls ≡ min counted.made new.limit
one_counted old fails log new counts counted call answer goes_on few same limit all is counted_is =
    let room = not_full (is_due old.fail_at (next_count old.made)) old.limit (length old.calls) (sym goes_on ∙ answer) in
    some_counted log new counts counted call (omega (arith, room, ap length same, limit)) (omega (arith, few, limit)) all is counted_is

-- or there was no room for it
pub none_counted : (log : LogState) (counts counted : CallsState) → log.limit ≤ length log.calls → log.limit < 2 ^ 64 → length log.calls ≡ min counts.made log.limit → counted ≡ record counts { made = next_count counts.made }
    → length log.calls ≡ min counted.made log.limit
none_counted log counts counted full few all counted_is = omega (arith, full, few, all, ap (λ (c : CallsState). c.made) counted_is)

-- files of no bytes have room anywhere
pub no_bytes_fit : (room : ℕ) → FitsIn room no_bytes
no_bytes_fit room = record { each = λ file. by_file file }
  where
    by_file : (file : StoreFile) → length (of_file file no_bytes) ≤ room
    by_file Log0 = omega arith
    by_file Log1 = omega arith
    by_file Snap0 = omega arith
    by_file Snap1 = omega arith
    by_file Hist = omega arith
