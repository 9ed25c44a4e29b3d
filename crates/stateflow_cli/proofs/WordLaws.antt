-- What words ask for is in range.
use Rattle.std.proofs.Common.{◌≡◌, ℕ, ◌≤◌, Bool, true, false, ◌&&◌, nat_le, List, [], ◌∷◌, Option, Some, None, refl, ap, subst, arith}
use Rattle.std.specs.Prelude.{option_map, option_and_then, if◌then◌else◌}
use Rattle.std.proofs.lemmas.Bool.Decides.{nat_tests}
use Rattle.command_words.specs.WordReading.{Text}
use Rattle.command_words.specs.Grammar.{stands_alone}
use Rattle.command_words.specs.Numbers.{number_of, at_least_one, count_of, or_usual}
use Rattle.command_words.specs.Commands.{Asked, Run, Gen, Export, Audit, audit_of, RunSettings, GenSettings, Texts, ◌>>?◌, with_file, run_settings, gen_settings, run_in, gen_in, export_in, needed_store, file_in, batch_in, partitions_in, schedule_in, store_in, every_in, history_in, reorder_in, trace_in, number_in, size_in}
use Rattle.stateflow_cli.specs.Words.{AreInRange, IsWorkInRange}
use Rattle.stateflow_cli.specs.Deeds.{IsInRange}

-- The ranges of the settings

none_some : {X P : Type 0} (x : X) → None ≡ Some x → P
none_some x e = absurd (no e)
  where
    no : None ≡ Some x → ⊥
    no e = cc

some_same : {X : Type 0} (x y : X) → Some x ≡ Some y → x ≡ y
some_same x y e = ap (or_this x) e
  where
    or_this : {X : Type 0} → X → Option X → X
    or_this x None = x
    or_this x (Some y) = y

counted : (most m n : ℕ) → at_least_one most m ≡ Some n → (1 ≤ n) × (n ≤ most)
counted most m n e = by (nat_le 1 m && nat_le m most) refl e
  where
    by : (b : Bool) → (nat_le 1 m && nat_le m most) ≡ b → (if b then Some m else None) ≡ Some n → (1 ≤ n) × (n ≤ most)
    by true is e = let same = some_same m n e in let both : (1 ≤ m) × (m ≤ most) = both_le is in subst (λ k. (1 ≤ k) × (k ≤ most)) same both
      where
        both_le : (nat_le 1 m && nat_le m most) ≡ true → (1 ≤ m) × (m ≤ most)
        both_le is = grind (arith, nat_tests, is)
    by false is e = none_some n e

count_range : (most usual : ℕ) (o : Option Text) (n : ℕ) → 1 ≤ usual → usual ≤ most → or_usual (count_of most) usual o ≡ Some n → (1 ≤ n) × (n ≤ most)
count_range most usual None n least less e = subst (λ k. (1 ≤ k) × (k ≤ most)) (some_same usual n e) (least, less)
count_range most usual (Some text) n least less e = by (number_of text) e
  where
    by : (o : Option ℕ) → option_and_then (at_least_one most) o ≡ Some n → (1 ≤ n) × (n ≤ most)
    by None e = none_some n e
    by (Some m) e = counted most m n e

-- what is made of several texts has what was read of the first two and of the fifth
own_three : (batch partitions schedule : Option ℕ) (store : Option (Option Text)) (every history : Option ℕ) (reorder trace : Bool) (s : RunSettings)
    → (batch >>? (λ b. partitions >>? (λ p. schedule >>? (λ c. store >>? (λ t. every >>? (λ e. history >>? (λ h. Some (record {
      batch = b;
      partitions = p;
      schedule = c;
      store = t;
      every = e;
      history = h;
      reorder = reorder;
      trace = trace;
    })))))))) ≡ Some s → (batch ≡ Some s.batch) × (partitions ≡ Some s.partitions) × (every ≡ Some s.every)
own_three None p c t e h reorder trace s is = none_some s is
own_three (Some b) None c t e h reorder trace s is = none_some s is
own_three (Some b) (Some p) None t e h reorder trace s is = none_some s is
own_three (Some b) (Some p) (Some c) None e h reorder trace s is = none_some s is
own_three (Some b) (Some p) (Some c) (Some t) None h reorder trace s is = none_some s is
own_three (Some b) (Some p) (Some c) (Some t) (Some e) None reorder trace s is = none_some s is
own_three (Some b) (Some p) (Some c) (Some t) (Some e) (Some h) reorder trace s is =
    let same = some_same (record { batch = b; partitions = p; schedule = c; store = t; every = e; history = h; reorder = reorder; trace = trace }) s is in
    (ap (λ (x : RunSettings). Some x.batch) same, ap (λ (x : RunSettings). Some x.partitions) same, ap (λ (x : RunSettings). Some x.every) same)

settings_range : (texts : Texts) (s : RunSettings) → run_settings texts ≡ Some s → AreInRange s
unfolding run_settings
settings_range texts s is =
    let two = own_three (batch_in texts) (partitions_in texts) (schedule_in texts) (store_in texts) (every_in texts) (history_in texts) (reorder_in texts) (trace_in texts) s is in
    let batch = count_range 256 64 _ s.batch (omega arith) (omega arith) two.0 in
    let partitions = count_range 64 4 _ s.partitions (omega arith) (omega arith) two.1 in
    let every = count_range 65535 64 _ s.every (omega arith) (omega arith) two.2 in
    record { some = batch.0; few = batch.1; partitions = record { some = partitions.0; few = partitions.1 }; every = every.0 }

pub run_in_range : (texts : Texts) (a : Asked) → run_in texts ≡ Some a → IsInRange a
run_in_range texts a is = by (file_in texts) (run_settings texts) (settings_range texts) is
  where
    by : (o : Option Text) (r : Option RunSettings) → ((t : RunSettings) → r ≡ Some t → AreInRange t) → (o >>? (λ f. option_map (Run f) r)) ≡ Some a → IsInRange a
    by None r range e = none_some a e
    by (Some f) None range e = none_some a e
    by (Some f) (Some t) range e = subst IsInRange (some_same (Run f t) a e) (range t refl)

-- and the settings of generated work have what was read of the last three
last_three : (number size batch partitions : Option ℕ) (s : GenSettings)
    → (number >>? (λ n. size >>? (λ z. batch >>? (λ b. partitions >>? (λ p. Some (record { number = n; size = z; batch = b; partitions = p })))))) ≡ Some s
    → (size ≡ Some s.size) × (batch ≡ Some s.batch) × (partitions ≡ Some s.partitions)
last_three None z b p s is = none_some s is
last_three (Some n) None b p s is = none_some s is
last_three (Some n) (Some z) None p s is = none_some s is
last_three (Some n) (Some z) (Some b) None s is = none_some s is
last_three (Some n) (Some z) (Some b) (Some p) s is =
    let same = some_same (record { number = n; size = z; batch = b; partitions = p }) s is in
    (ap (λ (x : GenSettings). Some x.size) same, ap (λ (x : GenSettings). Some x.batch) same, ap (λ (x : GenSettings). Some x.partitions) same)

size_range : (o : Option Text) (n : ℕ) → (o >>? count_of 100000) ≡ Some n → n ≤ 100000
size_range None n e = none_some n e
size_range (Some text) n e = (count_range 100000 1 (Some text) n (omega arith) (omega arith) e).1

work_range : (texts : Texts) (s : GenSettings) → gen_settings texts ≡ Some s → IsWorkInRange s
unfolding gen_settings
work_range texts s is =
    let three = last_three (number_in texts) (size_in texts) (batch_in texts) (partitions_in texts) s is in
    let batch = count_range 256 64 _ s.batch (omega arith) (omega arith) three.1 in
    let partitions = count_range 64 4 _ s.partitions (omega arith) (omega arith) three.2 in
    record { size = size_range _ s.size three.0; some = batch.0; few = batch.1; partitions = record { some = partitions.0; few = partitions.1 } }

pub gen_in_range : (texts : Texts) (a : Asked) → gen_in texts ≡ Some a → IsInRange a
gen_in_range texts a is = by (gen_settings texts) (work_range texts) is
  where
    by : (r : Option GenSettings) → ((t : GenSettings) → r ≡ Some t → IsWorkInRange t) → option_map Gen r ≡ Some a → IsInRange a
    by None range e = none_some a e
    by (Some t) range e = subst IsInRange (some_same (Gen t) a e) (range t refl)

pub file_in_range : (command : Text → Asked) → ((file : Text) → IsInRange (command file)) → (texts : Texts) (a : Asked) → with_file command texts ≡ Some a → IsInRange a
unfolding with_file
file_in_range command fine texts a is = by (file_in texts) is
  where
    by : (o : Option Text) → option_map command o ≡ Some a → IsInRange a
    by None e = none_some a e
    by (Some file) e = subst IsInRange (some_same (command file) a e) (fine file)

pub audit_in_range : (words : List Text) (a : Asked) → audit_of words ≡ Some a → IsInRange a
unfolding audit_of
audit_in_range [] a is = none_some a is
audit_in_range (file ∷ []) a is = none_some a is
audit_in_range (file ∷ run ∷ word ∷ more) a is = none_some a is
audit_in_range (file ∷ run ∷ []) a is = by (stands_alone file && stands_alone run) is
  where
    by : (b : Bool) → (if b then Some (Audit file run) else None) ≡ Some a → IsInRange a
    by false e = none_some a e
    by true e = subst IsInRange (some_same (Audit file run) a e) tt

pub export_in_range : (texts : Texts) (a : Asked) → export_in texts ≡ Some a → IsInRange a
export_in_range texts a is = by (file_in texts) (needed_store texts) is
  where
    by : (o r : Option Text) → (o >>? (λ f. option_map (Export f) r)) ≡ Some a → IsInRange a
    by None r e = none_some a e
    by (Some f) None e = none_some a e
    by (Some f) (Some dir) e = subst IsInRange (some_same (Export f dir) a e) tt
