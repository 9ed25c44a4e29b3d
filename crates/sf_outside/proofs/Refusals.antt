-- A mount of a name that is refused, once more or for the first time.
use Rattle.std.proofs.Common.{◌≡◌, ◌≢◌, ℕ, zero, suc, ◌≤◌, ◌<◌, true, false, cond, List, [], ◌∷◌, ◌++◌, length, get_or, set, Some, None, refl, sym, ap, ◌∙◌, arith, bytes_eq}
use Rattle.std.proofs.lemmas.Grind.{common_steps}
use Rattle.std.proofs.lemmas.Slice.Eq.{bytes_eq-Decides}
use Rattle.std.specs.List.{position}
use Rattle.sf_outside.specs.Causes.{next_count}
use Rattle.sf_outside.specs.DiskModel.{NotMounted}
use Rattle.sf_outside.specs.MountState.{RefusedName, MountState, refusals_of, refusals_with, mounts_of}
use Rattle.sf_outside.specs.Named.{value_named}
use Rattle.sf_outside.proofs.NamedValues.{FirstAt, first_at, rest_first, none_named, value_named-first, value_named-set, value_named-others, value_named-missing, value_named-push, same_name, other_name}

-- what a refusal of this name changes, in its names alone
pub record Refused (old new : List RefusedName) (name : List ℕ) : Type 0 where
  pub counted : refusals_of new name ≡ next_count (refusals_of old name)
  pub later : refusals_of old name ≤ refusals_of new name
  pub others : (other : List ℕ) → other ≢ name → refusals_of new other ≡ refusals_of old other

pub refused_again : (old : List RefusedName) (name : List ℕ) (place : ℕ) (d new : RefusedName) → Some place ≡ position (λ refused. bytes_eq refused.name name) old → d ≡ get_or old place d
    → new ≡ record d { count = next_count d.count } → d.count ≤ new.count → Refused old (set old place new) name
refused_again old name place d new found is counted later =
    let first = first_at (λ (refused : RefusedName). refused.name) old name place d found in
    let held : RefusedName = get_or old place d in
    let named : new.name ≡ held.name = ap (λ refused. refused.name) counted ∙ ap (λ refused. refused.name) is in
    let before : refusals_of old name ≡ d.count = value_named-first (λ refused. refused.name) (λ refused. refused.count) 0 old name place d first ∙ ap (λ refused. refused.count) (sym is) in
    let after : refusals_of (set old place new) name ≡ new.count = value_named-set (λ refused. refused.name) (λ refused. refused.count) 0 old name place d new first named in
    record {
      counted = after ∙ ap (λ refused. refused.count) counted ∙ ap next_count (sym before);
      later = omega (arith, later, before, after);
      others = λ other differs. value_named-others (λ refused. refused.name) (λ refused. refused.count) 0 old place d new other first.within named
          (other_name held.name other (λ same. differs (sym same ∙ same_name held.name name first.here)));
    }

pub refused_first : (old : List RefusedName) (name : List ℕ) → None ≡ position (λ refused. bytes_eq refused.name name) old → Refused old (old ++ record { name = name; count = 1 } ∷ []) name
refused_first old name none =
    let new : RefusedName = record { name = name; count = 1 } in
    let absent = none_named (λ (refused : RefusedName). refused.name) old name none in
    let before : refusals_of old name ≡ 0 = value_named-missing (λ refused. refused.name) (λ refused. refused.count) 0 old name absent in
    let self : bytes_eq name name ≡ true = grind (arith, common_steps, bytes_eq-Decides name name) in
    let after : refusals_of (old ++ new ∷ []) name ≡ 1 =
    value_named-push (λ refused. refused.name) (λ refused. refused.count) 0 old new name
    ∙ value_named-missing (λ refused. refused.name) (λ refused. refused.count) (cond (bytes_eq name name) 1 0) old name absent ∙ ap (λ b. cond b 1 0) self in
    record {
      counted = after ∙ ap next_count (sym before);
      later = omega (arith, before, after);
      others = λ other differs. value_named-push (λ refused. refused.name) (λ refused. refused.count) 0 old new other
          ∙ ap (λ b. value_named (λ (refused : RefusedName). refused.name) (λ refused. refused.count) (cond b 1 0) old other) (other_name name other (λ same. differs (sym same)));
    }

-- and so in all that is kept of the mounts
pub NotMounted-refused : (old new : MountState) (name : List ℕ) → new.count ≡ old.count → new.name ≡ old.name → new.moment ≡ old.moment → Refused old.refusals new.refusals name → NotMounted name (mounts_of old) (mounts_of new)
NotMounted-refused old new name count last moment refused = record { count = count; last = last; moment = moment; later = refused.later; others = refused.others }

-- ---- the names themselves

-- the first thing of this name, once more refused
again_there : (old : List RefusedName) (name : List ℕ) (place : ℕ) (d new : RefusedName) → FirstAt (λ refused. refused.name) old name place d
    → new ≡ record (get_or old place d) { count = next_count (get_or old place d).count } → set old place new ≡ refusals_with old name
again_there [] name place d new first is = absurd (omega (arith, first.within))
again_there (refusal ∷ rest) name zero d new first is = rw first.here (ap (λ refused. refused ∷ rest) is)
again_there (refusal ∷ rest) name (suc place) d new first is =
    rw (first.before 0 (omega arith)) (ap (λ refusals. refusal ∷ refusals) (again_there rest name place d new (rest_first (λ refused. refused.name) refusal rest name place d first) is))

-- no thing of this name, so it stands behind the others
behind_all : (old : List RefusedName) (name : List ℕ) → ((k : ℕ) (d : RefusedName) → k < length old → bytes_eq (get_or old k d).name name ≡ false) → old ++ record { name = name; count = 1 } ∷ [] ≡ refusals_with old name
behind_all [] name none = refl
behind_all (refusal ∷ rest) name none =
    rw (none 0 refusal (omega arith)) (ap (λ refusals. refusal ∷ refusals) (behind_all rest name (λ k d within. none (suc k) d (omega (arith, within)))))

pub names_again : (old : List RefusedName) (name : List ℕ) (place : ℕ) (d new : RefusedName) → Some place ≡ position (λ refused. bytes_eq refused.name name) old → d ≡ get_or old place d
    → new ≡ record d { count = next_count d.count } → set old place new ≡ refusals_with old name
names_again old name place d new found is counted =
    again_there old name place d new (first_at (λ (refused : RefusedName). refused.name) old name place d found) (counted ∙ ap (λ (refused : RefusedName). record refused { count = next_count refused.count }) is)

pub names_first : (old : List RefusedName) (name : List ℕ) → None ≡ position (λ refused. bytes_eq refused.name name) old → old ++ record { name = name; count = 1 } ∷ [] ≡ refusals_with old name
names_first old name none = behind_all old name (none_named (λ (refused : RefusedName). refused.name) old name none)
