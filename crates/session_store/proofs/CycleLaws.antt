-- Checkpoints in their cycle, from one call of a session to the next.
use Rattle.std.proofs.Common.{◌≡◌, ℕ, ◌+◌, ◌-◌, ◌*◌, ◌/◌, ◌%◌, ◌^◌, ◌≤◌, ◌<◌, nat_le, true, false, min, inl, inr, Some, None, if◌then◌else◌, refl, sym, ap, ◌∙◌, subst, arith}
use Rattle.std.specs.declared.option.Option.{Option}
use Rattle.std.proofs.lemmas.Bool.{cases_lt}
use Rattle.std.proofs.lemmas.Bool.Decides.{nat_tests}
use Rattle.std.proofs.Math.Nat.{add-mul-div_left, add-mul-mod_self_left, div-eq_of_lt, mod-eq_of_lt, mod_self, div_self, zero-mod, zero-div, div-add-mod, mod-lt}
use Rattle.sf_outside.specs.DiskModel.{DiskFacts}
use Rattle.program_meaning.specs.ClassTables.{Source}
use Rattle.store_meaning.specs.Vocabulary.{Core}
use Rattle.session_store.specs.declared.store.Store.{Store}
use Rattle.session_store.specs.declared.store.StoreSettings.{StoreSettings}
use Rattle.session_store.specs.Cycles.{Cycle, cycle_of, epoch_after, with_batch, next_cycle, IsBehind, IsCycleBehind, IsInCycle}
use Rattle.session_store.specs.Stores.{settings_of, Keeps}

-- ---- one number more, by its quotient and its rest

module _ (n k : ℕ) (some : 0 < k) where
  split : n + 1 ≡ n % k + 1 + k * (n / k)
  split = omega (arith, div-add-mod n k)

  rest_more : (n + 1) % k ≡ (n % k + 1) % k
  rest_more = ap (λ x. x % k) split ∙ add-mul-mod_self_left (n % k + 1) k (n / k)

  quotient_more : (n + 1) / k ≡ (n % k + 1) / k + n / k
  quotient_more = ap (λ x. x / k) split ∙ add-mul-div_left (n % k + 1) (n / k) some

  pub rest_within : n % k + 1 < k → (n + 1) % k ≡ n % k + 1
  rest_within below = rest_more ∙ mod-eq_of_lt below

  pub quotient_within : n % k + 1 < k → (n + 1) / k ≡ n / k
  quotient_within below = omega (arith, quotient_more, div-eq_of_lt below)

  all_of_it : k ≤ n % k + 1 → n % k + 1 ≡ k
  all_of_it full = omega (arith, full, mod-lt n some)

  pub rest_full : k ≤ n % k + 1 → (n + 1) % k ≡ 0
  rest_full full = rest_more ∙ ap (λ x. x % k) (all_of_it full) ∙ mod_self k

  pub quotient_full : k ≤ n % k + 1 → (n + 1) / k ≡ n / k + 1
  quotient_full full = omega (arith, quotient_more, ap (λ x. x / k) (all_of_it full), div_self some)

-- ---- settings

cycle_settings : Option Cycle → Option StoreSettings
cycle_settings None = None
cycle_settings (Some c) = Some c.settings

settings_in : (store : Option Store) → cycle_settings (cycle_of store) ≡ settings_of store
unfolding cycle_settings
settings_in None = refl
settings_in (Some store) = refl

pub settings_kept : (old new : Option Store) → cycle_of new ≡ cycle_of old → settings_of new ≡ settings_of old
settings_kept old new same = sym (settings_in new) ∙ ap cycle_settings same ∙ settings_in old

-- ---- behind so many batches

pub cycle_kept : (old new : Option Store) (batches : ℕ) → cycle_of new ≡ cycle_of old → IsInCycle old batches → IsInCycle new batches
cycle_kept old new batches same so_far = subst (λ c. IsCycleBehind c batches) (sym same) so_far

-- a store that was just opened
pub cycle_begun : (store : Store) → store.since ≡ 0 → store.position.epoch ≡ store.settings.opened → store.position.epoch < 2 ^ 63 → IsInCycle (Some store) 0
cycle_begun store since opened in_range = λ counted. record {
  since = since ∙ sym (zero-mod store.settings.every);
  epoch = omega (arith, opened, in_range, zero-div store.settings.every);
}

abbrev counted : Cycle → Cycle
counted c = record { settings = c.settings; epoch = c.epoch; since = c.since + 1 }

abbrev checked : Cycle → Cycle
checked c = record { settings = c.settings; epoch = epoch_after c.epoch; since = 0 }

-- where no checkpoint is due
pub only_counted : (c : Cycle) → c.since + 1 < c.settings.every → with_batch c ≡ counted c
only_counted c below =
    let no : nat_le c.settings.every (c.since + 1) ≡ false = grind (arith, nat_tests, below) in
    ap (λ is_due. if is_due then checked c else counted c) no

-- where one is
pub is_checked : (c : Cycle) → c.settings.every ≤ c.since + 1 → with_batch c ≡ checked c
is_checked c full =
    let yes : nat_le c.settings.every (c.since + 1) ≡ true = grind (arith, nat_tests, full) in
    ap (λ is_due. if is_due then checked c else counted c) yes

module _ (c : Cycle) (batches : ℕ) (some : 1 ≤ c.settings.every) (so_far : IsBehind c batches) where
  counted_behind : c.since + 1 < c.settings.every → IsBehind (counted c) (batches + 1)
  counted_behind below =
      let small : batches % c.settings.every + 1 < c.settings.every = omega (arith, so_far.since, below) in
      record {
        since = omega (arith, so_far.since, rest_within batches c.settings.every some small);
        epoch = so_far.epoch ∙ ap (λ n. min (c.settings.opened + n) (2 ^ 63 - 1)) (sym (quotient_within batches c.settings.every some small));
      }

  checked_behind : c.settings.every ≤ c.since + 1 → IsBehind (checked c) (batches + 1)
  checked_behind full =
      let all : c.settings.every ≤ batches % c.settings.every + 1 = omega (arith, so_far.since, full) in
      record {
        since = sym (rest_full batches c.settings.every some all);
        epoch = omega (arith, so_far.epoch, quotient_full batches c.settings.every some all);
      }

  one_more : IsBehind (with_batch c) (batches + 1)
  one_more = elim (cases_lt (c.since + 1) c.settings.every) [
    | inl below ↦ subst (λ next. IsBehind next (batches + 1)) (sym (only_counted c below)) (counted_behind below)
    | inr full ↦ subst (λ next. IsBehind next (batches + 1)) (sym (is_checked c full)) (checked_behind full)
  ]

-- a batch more, as far as the count reaches
pub cycle_goes_on : (old new : Option Store) (src : Source) (core : Core) (facts : DiskFacts) (batches : ℕ) → Keeps old src core facts → cycle_of new ≡ next_cycle (cycle_of old)
    → IsInCycle old batches → IsInCycle new (min (batches + 1) (2 ^ 64 - 1))
cycle_goes_on old new src core facts batches kept next so_far = subst (λ c. IsCycleBehind c (min (batches + 1) (2 ^ 64 - 1))) (sym next) (by old kept so_far)
  where
    by : (store : Option Store) → Keeps store src core facts → IsInCycle store batches → IsCycleBehind (next_cycle (cycle_of store)) (min (batches + 1) (2 ^ 64 - 1))
    by None none in_cycle = tt
    by (Some store) keeps in_cycle = λ counted.
        let more : batches + 1 ≡ min (batches + 1) (2 ^ 64 - 1) = omega (arith, counted) in
        let before : batches < 2 ^ 64 - 1 = omega (arith, counted) in
        let c : Cycle = record { settings = store.settings; epoch = store.position.epoch; since = store.since } in
        subst (λ n. IsBehind (with_batch c) n) more (one_more c batches keeps.every (in_cycle before))
