-- What a scope knows of the locals of its environment.
use Rattle.std.specs.Prelude.{if◌then◌else◌, slice_set}
use Rattle.std.proofs.Common.{◌≡◌, ℕ, zero, suc, arith, ◌+◌, ◌<◌, ◌≤◌, Bool, true, false, Some, None, List, [], ◌∷◌, ◌++◌, length, map, take, drop, get_or, append-nil, refl, sym, ap, ◌∙◌}
use Rattle.std.proofs.lemmas.Bool.{eq-eqb, ne_eqb}
use Rattle.std.proofs.lemmas.List.{take_more, map-append, drop_all, take_all, get_or_default}
use Rattle.py_tree.specs.FlowEnvironment.{PlainLocal, local_of, known_not_none, has_name, narrowed}
use Rattle.entity_types.specs.declared.env.Local.{Local}
use Rattle.entity_types.specs.Views.{plain_local, plain_locals}
use Rattle.entity_types.specs.Scopes.{known_by, plain_scope}
use Rattle.entity_types.specs.declared.scope.Scope.{Scope}
use Rattle.py_tree.proofs.ListWalks.{from_item}

-- nothing is known but what the locals say
pub known_as_is : (ls : List Local) → known_by (plain_locals ls) (map (λ l. l.not_none) ls) ≡ plain_locals ls
known_as_is [] = refl
known_as_is (l ∷ ls) = ap (λ more. plain_local l ∷ more) (known_as_is ls)

pub flags_more : (ls : List Local) (i : ℕ) (l : Local) (flags more : List Bool) → i < length ls → l ≡ get_or ls i l → flags ≡ map (λ l. l.not_none) (take i ls) → more ≡ flags ++ l.not_none ∷ [] → more ≡ map (λ l. l.not_none) (take (i + 1) ls)
flags_more ls i l flags more within is so_far one =
    one ∙ ap (λ fs. fs ++ l.not_none ∷ []) so_far ∙ sym (ap (map (λ l. l.not_none)) (take_more ls i l within ∙ ap (λ z. take i ls ++ z ∷ []) (sym is)) ∙ map-append (λ l. l.not_none) (take i ls) (l ∷ []))

pub all_known : (ls items : List Local) (i : ℕ) (flags : List Bool) → items ≡ ls → length items ≤ i → flags ≡ map (λ l. l.not_none) (take i items) → known_by (plain_locals ls) flags ≡ plain_locals ls
all_known ls items i flags same past all =
    ap (known_by (plain_locals ls)) (all ∙ ap (map (λ l. l.not_none)) (take_all i items past ∙ same)) ∙ known_as_is ls

pub ruleset whole_laws = (all_known, flags_more)

-- the local of a name, from one of the locals on
pub local_passes : (ls : List Local) (known : List Bool) (name i : ℕ) (l : Local) → i < length ls → i < length known → l ≡ get_or ls i l → (l.name.0 ≡ name → ⊥) → local_of (known_by (plain_locals (drop i ls)) (drop i known)) name ≡ local_of (known_by (plain_locals (drop (i + 1) ls)) (drop (i + 1) known)) name
unfolding local_of
local_passes ls known name i l within among is other =
    (λ j. local_of (known_by (plain_locals (from_item ls i l within is j)) (from_item known i (get_or known i false) among (get_or_default known i false (get_or known i false) among) j)) name)
    ∙ ap (λ b. if b then Some (record (plain_local l) { not_none = get_or known i false }) else local_of (known_by (plain_locals (drop (i + 1) ls)) (drop (i + 1) known)) name) (ne_eqb l.name.0 name other)

pub local_stops : (ls : List Local) (known : List Bool) (name i : ℕ) (l : Local) (k : Bool) → i < length ls → i < length known → l ≡ get_or ls i l → k ≡ get_or known i k → l.name.0 ≡ name → local_of (known_by (plain_locals (drop i ls)) (drop i known)) name ≡ Some (record (plain_local l) { not_none = k })
unfolding local_of
local_stops ls known name i l k within among is flag same =
    (λ j. local_of (known_by (plain_locals (from_item ls i l within is j)) (from_item known i k among flag j)) name)
    ∙ ap (λ b. if b then Some (record (plain_local l) { not_none = k }) else local_of (known_by (plain_locals (drop (i + 1) ls)) (drop (i + 1) known)) name) (eq-eqb l.name.0 name same)

pub local_ends : (ls : List Local) (known : List Bool) (name i : ℕ) → length ls ≤ i → local_of (known_by (plain_locals (drop i ls)) (drop i known)) name ≡ None
unfolding local_of
local_ends ls known name i past = ap (λ xs. local_of (known_by (plain_locals xs) (drop i known)) name) (drop_all i ls past)

pub ruleset read_laws = (local_passes, local_stops, local_ends)

-- locals that are marked one by one, those before one of them so far
module _ (names : List ℕ) where
  flag_passed : (ls : List Local) (known : List Bool) (i : ℕ) (l : Local) → i < length ls → length known ≡ length ls → l ≡ get_or ls i l → has_name names l.name.0 ≡ false → take i (known_by (plain_locals ls) known) ++ narrowed names (drop i (known_by (plain_locals ls) known)) ≡ take (suc i) (known_by (plain_locals ls) known) ++ narrowed names (drop (suc i) (known_by (plain_locals ls) known))
  unfolding narrowed
  flag_passed [] known i l within as_many is other = absurd (omega arith)
  flag_passed (x ∷ ls) [] i l within as_many is other = absurd (omega arith)
  flag_passed (x ∷ ls) (k ∷ known) zero l within as_many is other =
      ap (λ b. (if b then record (plain_local x) { not_none = true } else record (plain_local x) { not_none = k }) ∷ narrowed names (known_by (plain_locals ls) known)) (ap (λ y. has_name names y.name.0) (sym is) ∙ other)
  flag_passed (x ∷ ls) (k ∷ known) (suc i) l within as_many is other = ap (λ more. record (plain_local x) { not_none = k } ∷ more) (flag_passed ls known i l (omega arith) (omega arith) is other)

  flag_marked : (ls : List Local) (known : List Bool) (i : ℕ) (l : Local) → i < length ls → length known ≡ length ls → l ≡ get_or ls i l → has_name names l.name.0 ≡ true → take i (known_by (plain_locals ls) known) ++ narrowed names (drop i (known_by (plain_locals ls) known)) ≡ take (suc i) (known_by (plain_locals ls) (slice_set known i true)) ++ narrowed names (drop (suc i) (known_by (plain_locals ls) (slice_set known i true)))
  unfolding narrowed
  flag_marked [] known i l within as_many is shown = absurd (omega arith)
  flag_marked (x ∷ ls) [] i l within as_many is shown = absurd (omega arith)
  flag_marked (x ∷ ls) (k ∷ known) zero l within as_many is shown =
      ap (λ b. (if b then record (plain_local x) { not_none = true } else record (plain_local x) { not_none = k }) ∷ narrowed names (known_by (plain_locals ls) known)) (ap (λ y. has_name names y.name.0) (sym is) ∙ shown)
  flag_marked (x ∷ ls) (k ∷ known) (suc i) l within as_many is shown = ap (λ more. record (plain_local x) { not_none = k } ∷ more) (flag_marked ls known i l (omega arith) (omega arith) is shown)

  local_passed : (ls : List Local) (i : ℕ) (l : Local) → i < length ls → l ≡ get_or ls i l → has_name names l.name.0 ≡ false → take i (plain_locals ls) ++ narrowed names (drop i (plain_locals ls)) ≡ take (suc i) (plain_locals ls) ++ narrowed names (drop (suc i) (plain_locals ls))
  unfolding narrowed
  local_passed [] i l within is other = absurd (omega arith)
  local_passed (x ∷ ls) zero l within is other =
      ap (λ b. (if b then record (plain_local x) { not_none = true } else plain_local x) ∷ narrowed names (plain_locals ls)) (ap (λ y. has_name names y.name.0) (sym is) ∙ other)
  local_passed (x ∷ ls) (suc i) l within is other = ap (λ more. plain_local x ∷ more) (local_passed ls i l (omega arith) is other)

  local_marked : (ls : List Local) (i : ℕ) (l marked : Local) → i < length ls → l ≡ get_or ls i l → plain_local marked ≡ known_not_none (plain_local l) → has_name names l.name.0 ≡ true → take i (plain_locals ls) ++ narrowed names (drop i (plain_locals ls)) ≡ take (suc i) (plain_locals (slice_set ls i marked)) ++ narrowed names (drop (suc i) (plain_locals (slice_set ls i marked)))
  unfolding narrowed
  local_marked [] i l marked within is one shown = absurd (omega arith)
  local_marked (x ∷ ls) zero l marked within is one shown =
      ap (λ b. (if b then record (plain_local x) { not_none = true } else plain_local x) ∷ narrowed names (plain_locals ls)) (ap (λ y. has_name names y.name.0) (sym is) ∙ shown)
      ∙ ap (λ y. known_not_none (plain_local y) ∷ narrowed names (plain_locals ls)) (sym is) ∙ ap (λ p. p ∷ narrowed names (plain_locals ls)) (sym one)
  local_marked (x ∷ ls) (suc i) l marked within is one shown = ap (λ more. plain_local x ∷ more) (local_marked ls i l marked (omega arith) is one shown)

  pub flag_passes : (ls : List Local) (known : List Bool) (i : ℕ) (l : Local) → i < length ls → length known ≡ length ls → l ≡ get_or ls i l → has_name names l.name.0 ≡ false → take i (known_by (plain_locals ls) known) ++ narrowed names (drop i (known_by (plain_locals ls) known)) ≡ take (i + 1) (known_by (plain_locals ls) known) ++ narrowed names (drop (i + 1) (known_by (plain_locals ls) known))
  flag_passes ls known i l within as_many is other =
      let next : suc i ≡ i + 1 = omega arith in
      flag_passed ls known i l within as_many is other ∙ ap (λ n. take n (known_by (plain_locals ls) known) ++ narrowed names (drop n (known_by (plain_locals ls) known))) next

  pub flag_marks : (ls : List Local) (known more : List Bool) (i : ℕ) (l : Local) → i < length ls → length known ≡ length ls → l ≡ get_or ls i l → has_name names l.name.0 ≡ true → more ≡ slice_set known i true → take i (known_by (plain_locals ls) known) ++ narrowed names (drop i (known_by (plain_locals ls) known)) ≡ take (i + 1) (known_by (plain_locals ls) more) ++ narrowed names (drop (i + 1) (known_by (plain_locals ls) more))
  flag_marks ls known more i l within as_many is shown marks =
      let next : suc i ≡ i + 1 = omega arith in
      flag_marked ls known i l within as_many is shown ∙ (λ j. take (next j) (known_by (plain_locals ls) (sym marks j)) ++ narrowed names (drop (next j) (known_by (plain_locals ls) (sym marks j))))

  pub locals_pass : (ls : List Local) (i : ℕ) (l : Local) → i < length ls → l ≡ get_or ls i l → has_name names l.name.0 ≡ false → take i (plain_locals ls) ++ narrowed names (drop i (plain_locals ls)) ≡ take (i + 1) (plain_locals ls) ++ narrowed names (drop (i + 1) (plain_locals ls))
  locals_pass ls i l within is other =
      let next : suc i ≡ i + 1 = omega arith in
      local_passed ls i l within is other ∙ ap (λ n. take n (plain_locals ls) ++ narrowed names (drop n (plain_locals ls))) next

  pub locals_mark : (ls more : List Local) (i : ℕ) (l marked : Local) → i < length ls → l ≡ get_or ls i l → plain_local marked ≡ known_not_none (plain_local l) → has_name names l.name.0 ≡ true → more ≡ slice_set ls i marked → take i (plain_locals ls) ++ narrowed names (drop i (plain_locals ls)) ≡ take (i + 1) (plain_locals more) ++ narrowed names (drop (i + 1) (plain_locals more))
  locals_mark ls more i l marked within is one shown marks =
      let next : suc i ≡ i + 1 = omega arith in
      local_marked ls i l marked within is one shown ∙ (λ j. take (next j) (plain_locals (sym marks j)) ++ narrowed names (drop (next j) (plain_locals (sym marks j))))

  -- all are walked over
  pub all_walked : (xs : List PlainLocal) (i : ℕ) → length xs ≤ i → take i xs ++ narrowed names (drop i xs) ≡ xs
  unfolding narrowed
  all_walked xs i past = (λ j. take_all i xs past j ++ narrowed names (drop_all i xs past j)) ∙ append-nil xs

pub length_known : (ls : List PlainLocal) (known : List Bool) → length (known_by ls known) ≡ length ls
length_known [] known = refl
length_known (l ∷ ls) [] = refl
length_known (l ∷ ls) (k ∷ known) = ap suc (length_known ls known)

-- an item that is written again
kept : (ls : List Local) (i : ℕ) (l : Local) → i < length ls → l ≡ get_or ls i l → slice_set ls i l ≡ ls
kept [] i l within is = absurd (omega arith)
kept (x ∷ ls) zero l within is = ap (λ y. y ∷ ls) is
kept (x ∷ ls) (suc i) l within is = ap (λ more. x ∷ more) (kept ls i l (omega arith) is)

pub locals_keep : (names : List ℕ) (ls more : List Local) (i : ℕ) (l : Local) → i < length ls → l ≡ get_or ls i l → has_name names l.name.0 ≡ false → more ≡ slice_set ls i l → take i (plain_locals ls) ++ narrowed names (drop i (plain_locals ls)) ≡ take (i + 1) (plain_locals more) ++ narrowed names (drop (i + 1) (plain_locals more))
locals_keep names ls more i l within is other keeps =
    locals_pass names ls i l within is other ∙ ap (λ xs. take (i + 1) (plain_locals xs) ++ narrowed names (drop (i + 1) (plain_locals xs))) (sym (keeps ∙ kept ls i l within is))

pub scope_class : (s : Scope) → (plain_scope s).class ≡ s.env.now.class
unfolding plain_scope
scope_class s = refl
