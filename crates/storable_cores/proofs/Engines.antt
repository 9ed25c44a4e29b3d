-- The core of an engine can be written to a store behind each call, and so can the plan of a batch.
use Rattle.std.proofs.Common.{◌≡◌, ℕ, ◌+◌, ◌*◌, ◌≤◌, ◌<◌, ◌^◌, List, ◌++◌, length, sym, ◌∙◌, subst, arith}
use Rattle.std.specs.List.{range_with_len}
use Rattle.std.proofs.lemmas.List.{length-append}
use Rattle.std.proofs.lemmas.List.FromFn.{length-range_with_len}
use Rattle.std.proofs.lemmas.List.Sorted.{length_permutation}
use Rattle.sf_value.specs.declared.Request.{Request}
use Rattle.byte_sizes.specs.Sizes.{batch_size}
use Rattle.byte_sizes.specs.Spelt.{IsSpeltBatch}
use Rattle.request_json.specs.RequestLines.{longest}
use Rattle.request_json.specs.LineSpellings.{HasSpelling}
use Rattle.engine.specs.declared.engine.Engine.{Engine}
use Rattle.engine.specs.declared.planned.Planned.{Planned}
use Rattle.engine.specs.Arrivals.{after_arrival, fresh_after}
use Rattle.engine.specs.Batches.{other_places, after_batch}
use Rattle.engine.specs.Cores.{Core, CoreFits, empty_core}
use Rattle.engine.specs.EngineViews.{core_of, source_of, tables_of, fresh_of}
use Rattle.engine.specs.Plans.{IsPlanOf}
use Rattle.storable_cores.specs.Storable.{most_bytes, IsStorable}
use Rattle.storable_cores.proofs.Accepted.{engine_accepted}
use Rattle.storable_cores.proofs.CoreLaws.{empty_is_storable, arrivals_are_storable, batches_are_storable}
use Rattle.storable_cores.proofs.KeptLaws.{records_are_spelt}

-- what a line asks is no longer than the request of a line may be
pub line_is_short : (line : List ℕ) (r : Request) → length line ≤ longest → HasSpelling (9 * length line + 100) r → HasSpelling most_bytes r
line_is_short line r within spelling = record { spelt = spelling.spelt; short = omega (arith, spelling.short, within) }

-- of an engine of this core
abbrev pub IsStorableEngine : Engine → Type 0
IsStorableEngine e = IsStorable (core_of e) (fresh_of e)

stays : (core now : Core) (fresh fresh_now : ℕ) → now ≡ core → fresh_now ≡ fresh → IsStorable core fresh → IsStorable now fresh_now
stays core now fresh fresh_now same also storable = subst (IsStorable now) (sym also) (subst (λ c. IsStorable c fresh) (sym same) storable)

pub empty_storable : (e : Engine) → core_of e ≡ empty_core → fresh_of e ≡ 0 → IsStorableEngine e
empty_storable e core fresh = stays empty_core (core_of e) 0 (fresh_of e) core fresh empty_is_storable

module _ (e now : Engine) where
  -- nothing has changed that contracts see
  pub same_storable : core_of now ≡ core_of e → fresh_of now ≡ fresh_of e → IsStorableEngine e → IsStorableEngine now
  same_storable = stays (core_of e) (core_of now) (fresh_of e) (fresh_of now)

  -- a request of a line came
  pub arrival_storable : (r : Request) → core_of now ≡ after_arrival (core_of e) r → fresh_of now ≡ fresh_after (core_of e) r (fresh_of e) → HasSpelling most_bytes r
      → IsStorableEngine e → IsStorableEngine now
  arrival_storable r core fresh spelling storable =
      stays (after_arrival (core_of e) r) (core_of now) (fresh_after (core_of e) r (fresh_of e)) (fresh_of now) core fresh
      (arrivals_are_storable (core_of e) (fresh_of e) r storable spelling)

  -- a batch was committed
  pub commit_storable : (committed : List ℕ) → core_of now ≡ after_batch (source_of e) (core_of e) committed → fresh_of now ≡ 0 → CoreFits (tables_of e) (core_of e)
      → IsStorableEngine e → IsStorableEngine now
  commit_storable committed core fresh fits storable =
      stays (after_batch (source_of e) (core_of e) committed) (core_of now) 0 (fresh_of now) core fresh
      (batches_are_storable (source_of e) (core_of e) (fresh_of e) committed (engine_accepted e) fits storable)

-- ---- the record of a plan

module _ (e : Engine) (p : Planned) (plan : IsPlanOf e p) (storable : IsStorableEngine e) where
  few_committed : length p.batch.committed ≤ length (core_of e).pending
  few_committed =
      let waiting = length (core_of e).pending in
      let others = other_places waiting p.batch.committed in
      let all = length_permutation (range_with_len 0 waiting) (p.batch.committed ++ others) plan.made.once ∙ length-range_with_len 0 waiting in
      omega (arith, all, length-append p.batch.committed others)

  pub plan_is_spelt : IsSpeltBatch p.batch × (batch_size p.batch < 2 ^ 32)
  plan_is_spelt = records_are_spelt (core_of e) (fresh_of e) p.batch storable e.few plan.told.news (omega (arith, few_committed, e.few))
