-- What one request leaves alone, as a test of sets and as a fact, and tests of entities by their keys.
use Rattle.std.proofs.Common.{◌≡◌, ◌∙◌, Bool, true, false, true≢false, not, ◌&&◌, ◌||◌, List, [], ◌∷◌, map as over, inl, inr, refl, sym, ap}
use Rattle.std.specs.List.{list_any, list_all}
use Rattle.std.specs.FinSet as set
use Rattle.std.specs.Ordering.{eq_by_cmp}
use Rattle.std.specs.Cmp.{eq_by_cmp_equiv}
use Rattle.std.proofs.lemmas.Bool.{eq-eqb, and_parts, and_from, or_parts, or_cases, or_left, or_right, false_from_ne_true}
use Rattle.sf_value.specs.Keys.{Key, key_cmp, key_of}
use Rattle.sf_value.specs.declared.value.Ref.{Ref}
use Rattle.sf_value.proofs.Maps.{key_total, key_exact, tied_key}
use Rattle.serial_order.specs.ConflictFree.{Access, touches, LeavesAlone}
use Rattle.keyed_state.specs.declared.Work.{Work}
use Rattle.keyed_state.specs.Works.{keys_of}
use Rattle.reservations.specs.Accesses.{access_of_work}
use Rattle.reservations.specs.BatchRule.{leaves_alone}
use Rattle.reservations.specs.BatchRuleLaws.{common, contains-common, alone_from_test}

nothing_common : (a b : Access) → LeavesAlone a b → common a b ≡ set.empty
nothing_common a b alone = set.same_set key_total key_exact (common a b) set.empty (λ q. contains-common a b q ∙ by q (set.contains a.writes q) refl ∙ sym (set.contains-empty key_cmp q))
  where
    by : (q : Key) (w : Bool) → set.contains a.writes q ≡ w → (w && touches b q) ≡ false
    by q true h = alone.at q h
    by q false h = refl

pub test_from_alone : (a b : Access) → LeavesAlone a b → leaves_alone a b ≡ true
test_from_alone a b alone = eq-eqb (set.len (common a b)) 0 (ap set.len (nothing_common a b alone) ∙ set.len-empty key_cmp)

-- Of several that come earlier

-- one of them writes an entity
abbrev pub one_writes : List Access → Key → Bool
one_writes earlier q = list_any (λ a. set.contains a.writes q) earlier

abbrev pub all_leave_alone : List Access → Access → Bool
all_leave_alone earlier b = list_all (λ a. leaves_alone a b) earlier

pub untouched_from_test : (earlier : List Access) (b : Access) → all_leave_alone earlier b ≡ true → (q : Key) → one_writes earlier q ≡ true → touches b q ≡ false
untouched_from_test [] b h q written = absurd (true≢false (sym written))
untouched_from_test (a ∷ more) b h q written =
    let parts = and_parts (leaves_alone a b) (all_leave_alone more b) h in
    elim (or_cases (set.contains a.writes q) (one_writes more q) written) as (λ _. touches b q ≡ false) [
      | inl here ↦ (alone_from_test a b parts.0).at q here
      | inr later ↦ untouched_from_test more b parts.1 q later
    ]

pub test_from_untouched : (earlier : List Access) (b : Access) → ((q : Key) → one_writes earlier q ≡ true → touches b q ≡ false) → all_leave_alone earlier b ≡ true
test_from_untouched [] b h = refl
test_from_untouched (a ∷ more) b h =
    and_from (leaves_alone a b) (all_leave_alone more b)
    (test_from_alone a b (record { at = λ q written. h q (or_left (set.contains a.writes q) (one_writes more q) written) }))
    (test_from_untouched more b (λ q written. h q (or_right (set.contains a.writes q) (one_writes more q) written)))

-- Entities in a list, by their keys

module _ (p : Key → Bool) where
  none_passes : (refs : List Ref) → list_any (λ at. p (key_of at)) refs ≡ false → (q : Key) → list_any (eq_by_cmp key_cmp q) (over key_of refs) ≡ true → p q ≡ false
  none_passes [] none q among = absurd (true≢false (sym among))
  none_passes (at ∷ more) none q among =
      let parts = or_parts (p (key_of at)) (list_any (λ at. p (key_of at)) more) none in
      elim (or_cases (eq_by_cmp key_cmp q (key_of at)) (list_any (eq_by_cmp key_cmp q) (over key_of more)) among) as (λ _. p q ≡ false) [
        | inl here ↦ ap p (tied_key q (key_of at) here) ∙ parts.0
        | inr later ↦ none_passes more parts.1 q later
      ]

  one_passes : {P : Type 0} (refs : List Ref) → ((q : Key) → list_any (eq_by_cmp key_cmp q) (over key_of refs) ≡ true → p q ≡ true → P) → list_any (λ at. p (key_of at)) refs ≡ true → P
  one_passes [] found one = absurd (true≢false (sym one))
  one_passes {P} (at ∷ more) found one =
      elim (or_cases (p (key_of at)) (list_any (λ at. p (key_of at)) more) one) as (λ _. P) [
        | inl here ↦ found (key_of at) (or_left (eq_by_cmp key_cmp (key_of at) (key_of at)) (list_any (eq_by_cmp key_cmp (key_of at)) (over key_of more)) ((eq_by_cmp_equiv key_total).refl (key_of at))) here
        | inr later ↦ one_passes more (λ q among passes. found q (or_right (eq_by_cmp key_cmp q (key_of at)) (list_any (eq_by_cmp key_cmp q) (over key_of more)) among) passes) later
      ]

  among : (refs : List Ref) (q : Key) → set.contains (keys_of refs) q ≡ list_any (eq_by_cmp key_cmp q) (over key_of refs)
  among refs q = set.contains-from_list key_total (over key_of refs) q

  -- a work touches an entity that passes
  abbrev touches_passing : Work → Bool
  touches_passing work = list_any (λ at. p (key_of at)) work.reads || list_any (λ at. p (key_of at)) work.writes

  module _ (earlier : List Access) (work : Work) (is : (q : Key) → p q ≡ one_writes earlier q) where
    untouched : touches_passing work ≡ false → (q : Key) → one_writes earlier q ≡ true → touches (access_of_work work) q ≡ false
    untouched none q written = false_from_ne_true (touches (access_of_work work) q) (λ touched. elim (or_cases (set.contains (keys_of work.reads) q) (set.contains (keys_of work.writes) q) touched) as (λ _. ⊥) [
      | inl read ↦ true≢false (sym (is q ∙ written) ∙ none_passes work.reads parts.0 q (sym (among work.reads q) ∙ read))
      | inr wrote ↦ true≢false (sym (is q ∙ written) ∙ none_passes work.writes parts.1 q (sym (among work.writes q) ∙ wrote))
    ])
      where
        parts : (list_any (λ at. p (key_of at)) work.reads ≡ false) × (list_any (λ at. p (key_of at)) work.writes ≡ false)
        parts = or_parts (list_any (λ at. p (key_of at)) work.reads) (list_any (λ at. p (key_of at)) work.writes) none

    touched : touches_passing work ≡ true → all_leave_alone earlier (access_of_work work) ≡ true → ⊥
    touched one alone = elim (or_cases (list_any (λ at. p (key_of at)) work.reads) (list_any (λ at. p (key_of at)) work.writes) one) as (λ _. ⊥) [
      | inl read ↦ one_passes work.reads (λ q found passes. true≢false (sym (or_left (set.contains (keys_of work.reads) q) (set.contains (keys_of work.writes) q) (among work.reads q ∙ found)) ∙ untouched_from_test earlier (access_of_work work) alone q (sym (is q) ∙ passes))) read
      | inr wrote ↦ one_passes work.writes (λ q found passes. true≢false (sym (or_right (set.contains (keys_of work.reads) q) (set.contains (keys_of work.writes) q) (among work.writes q ∙ found)) ∙ untouched_from_test earlier (access_of_work work) alone q (sym (is q) ∙ passes))) wrote
    ]

    -- where an entity passes that an earlier one writes, a work touches one exactly where not all earlier ones leave it alone
    pub tests_agree : touches_passing work ≡ not (all_leave_alone earlier (access_of_work work))
    tests_agree = by (touches_passing work) (all_leave_alone earlier (access_of_work work)) refl refl
      where
        by : (one alone : Bool) → touches_passing work ≡ one → all_leave_alone earlier (access_of_work work) ≡ alone → one ≡ not alone
        by true true h k = absurd (touched h k)
        by true false h k = refl
        by false true h k = refl
        by false false h k = absurd (true≢false (sym (test_from_untouched earlier (access_of_work work) (untouched h)) ∙ k))
