-- Locals that are changed one by one.
use Rattle.std.specs.Prelude.{◌==◌, if◌then◌else◌, slice_set, is_some, option_map}
use Rattle.std.proofs.Common.{◌≡◌, ℕ, zero, suc, arith, ◌+◌, ◌<◌, ◌≤◌, Bool, true, false, Option, Some, None, List, [], ◌∷◌, ◌++◌, length, map, take, drop, get_or, append-nil, refl, sym, ap, ◌∙◌}
use Rattle.std.proofs.lemmas.List.{drop_all, take_all, map-append}
use Rattle.py_tree.specs.PlainTypes.{PlainTy}
use Rattle.py_tree.specs.FlowEnvironment.{PlainLocal, local_of, has_none}
use Rattle.py_tree.specs.Flow.{given, with_local}
use Rattle.entity_types.specs.declared.env.Local.{Local}
use Rattle.entity_types.specs.Views.{plain_local, plain_locals}
use Rattle.flow_types.specs.Views.{given_by}

module _ (f : PlainLocal → PlainLocal) where
  changed_further : (ls : List Local) (i : ℕ) (l made : Local) → i < length ls → l ≡ get_or ls i l → plain_local made ≡ f (plain_local l) → take i (plain_locals ls) ++ map f (drop i (plain_locals ls)) ≡ take (suc i) (plain_locals (slice_set ls i made)) ++ map f (drop (suc i) (plain_locals (slice_set ls i made)))
  changed_further [] i l made within is one = absurd (omega arith)
  changed_further (x ∷ ls) zero l made within is one = ap (λ y. f (plain_local y) ∷ map f (plain_locals ls)) (sym is) ∙ ap (λ p. p ∷ map f (plain_locals ls)) (sym one)
  changed_further (x ∷ ls) (suc i) l made within is one = ap (λ more. plain_local x ∷ more) (changed_further ls i l made (omega arith) is one)

  pub changed_more : (ls more : List Local) (i : ℕ) (l made : Local) → i < length ls → l ≡ get_or ls i l → plain_local made ≡ f (plain_local l) → more ≡ slice_set ls i made → take i (plain_locals ls) ++ map f (drop i (plain_locals ls)) ≡ take (i + 1) (plain_locals more) ++ map f (drop (i + 1) (plain_locals more))
  changed_more ls more i l made within is one sets =
      let next : suc i ≡ i + 1 = omega arith in
      changed_further ls i l made within is one ∙ (λ j. take (next j) (plain_locals (sym sets j)) ++ map f (drop (next j) (plain_locals (sym sets j))))

  pub changed_all : (ls : List PlainLocal) (i : ℕ) → length ls ≤ i → take i ls ++ map f (drop i ls) ≡ ls
  changed_all ls i past = (λ j. take_all i ls past j ++ map f (drop_all i ls past j)) ∙ append-nil ls

some_mapped : {X A : Type 0} (f : X → A) (o : Option X) → is_some (option_map f o) ≡ is_some o
some_mapped f None = refl
some_mapped f (Some x) = refl

-- a value is assigned to a name that has a type
pub name_given : (ls : List PlainLocal) (name : ℕ) (may_be_none : Bool) (first ty : PlainTy) → is_some (option_map (λ l. l.ty) (local_of ls name)) ≡ true → may_be_none ≡ has_none ty → map (given_by name may_be_none) ls ≡ with_local name first ty ls
unfolding with_local
name_given ls name may_be_none first ty some is =
    let known : is_some (local_of ls name) ≡ true = sym (some_mapped (λ l. l.ty) (local_of ls name)) ∙ some in
    ap (λ b. map (given_by name b) ls) is ∙ ap (λ b. if b then map (λ l. if l.name == name then given ty l else l) ls else ls ++ given ty (record { name = name; ty = first; assigned = true; not_none = false }) ∷ []) (sym known)

-- and to one that has none yet
pub name_added : (ls more : List Local) (made : Local) (name : ℕ) (first ty : PlainTy) → is_some (option_map (λ l. l.ty) (local_of (plain_locals ls) name)) ≡ false → more ≡ ls ++ made ∷ [] → plain_local made ≡ given ty (record { name = name; ty = first; assigned = true; not_none = false }) → plain_locals more ≡ with_local name first ty (plain_locals ls)
unfolding with_local
name_added ls more made name first ty none grown is =
    let unknown : is_some (local_of (plain_locals ls) name) ≡ false = sym (some_mapped (λ l. l.ty) (local_of (plain_locals ls) name)) ∙ none in
    let new : PlainLocal = record { name = name; ty = first; assigned = true; not_none = false } in
    ap plain_locals grown ∙ map-append plain_local ls (made ∷ []) ∙ ap (λ p. plain_locals ls ++ p ∷ []) is
    ∙ ap (λ b. if b then map (λ l. if l.name == name then given ty l else l) (plain_locals ls) else plain_locals ls ++ given ty new ∷ []) (sym unknown)

pub ruleset name_laws = (name_given, name_added)
