-- The variables of a method: its locals and its temporaries, each once; and points of what is surely assigned name them.
use Rattle.std.proofs.Common.{◌≡◌, ◌≤◌, ◌<◌, ◌+◌, arith, ℕ, Bool, true, false, not, cond, Some, None, List, [], ◌∷◌, ◌++◌, map, append_assoc, refl, sym, ap, ◌∙◌, subst}
use Rattle.std.specs.Prelude.{◌==◌, ◌||◌, find, nat_le, if◌then◌else◌}
use Rattle.std.specs.List.{list_any}
use Rattle.std.specs.Cmp.Derive.{both_true as both_hold}
use Rattle.std.proofs.lemmas.Bool.{eqb-true, eq-eqb, leb-true, leb-false}
use Rattle.std.proofs.lemmas.Option.{same_Some, none-some}
use Rattle.py_tree.specs.PlainTypes.{PlainTy, TOptional}
use Rattle.py_tree.specs.ClassRules.{PlainSigParam}
use Rattle.py_tree.specs.FlowEnvironment.{PlainLocal, local_of, has_none}
use Rattle.py_tree.specs.ExpressionTypes.{inside}
use Rattle.py_tree.specs.Flow.{known_at, settled, param_local}
use Rattle.program_meaning.proofs.LocalShapes.{Shape, shape, shapes, type_in}
use Rattle.block_code.specs.PlainVars.{PlainVar}
use Rattle.block_code.specs.GraphFits.{var_of, var_of_param, is_var, each_once}
use Rattle.hoisting.specs.Stages.{surely}
use Rattle.typed_hoisting.specs.KnownLocals.{Once}
use Rattle.typed_hoisting.specs.TypedHoisting.{Numbered, AreAmong}
use Rattle.typed_hoisting.proofs.LocalLaws.{apart}
use Rattle.typed_methods.proofs.CodeLaws.{TypedAs}
use Rattle.typed_methods.proofs.PointsBehind.{first_of_list, rest_of_list}

-- Temporaries are variables

named_none : (vs : List PlainVar) (x : ℕ) → find (is_var x) vs ≡ None → (v : PlainVar) → (v.name == x) ≡ false → find (is_var x) (vs ++ v ∷ []) ≡ None
named_none [] x h v e = ap (λ b. cond b (Some v) None) e
named_none (u ∷ vs) x h v e = by (u.name == x) h (named_none vs x)
  where
    by : (b : Bool) → cond b (Some u) (find (is_var x) vs) ≡ None → (find (is_var x) vs ≡ None → (v : PlainVar) → (v.name == x) ≡ false → find (is_var x) (vs ++ v ∷ []) ≡ None) → cond b (Some u) (find (is_var x) (vs ++ v ∷ [])) ≡ None
    by true h k = absurd (none-some u (sym h))
    by false h k = k h v e

found_behind : (vs more : List PlainVar) (v : PlainVar) → find (is_var v.name) vs ≡ None → find (is_var v.name) (vs ++ v ∷ more) ≡ Some v
found_behind [] more v h = ap (λ b. cond b (Some v) (find (is_var v.name) more)) (eq-eqb v.name v.name refl)
found_behind (u ∷ vs) more v h = by (u.name == v.name) h (found_behind vs more v)
  where
    by : (b : Bool) → cond b (Some u) (find (is_var v.name) vs) ≡ None → (find (is_var v.name) vs ≡ None → find (is_var v.name) (vs ++ v ∷ more) ≡ Some v) → cond b (Some u) (find (is_var v.name) (vs ++ v ∷ more)) ≡ Some v
    by true h k = absurd (none-some u (sym h))
    by false h k = k h

pub made_among : (vs made : List PlainVar) (first next : ℕ) → Numbered first made next → ((x : ℕ) → first ≤ x → find (is_var x) vs ≡ None) → AreAmong (vs ++ made) made
made_among vs [] first next numbered none = tt
made_among vs (v ∷ made) first next numbered none = (
  found_behind vs made v (none v.name (omega (arith, numbered.0))),
  subst (λ us. AreAmong us made) (append_assoc vs (v ∷ []) made)
      (made_among (vs ++ v ∷ []) made (first + 1) next numbered.1 (λ x up. named_none vs x (none x (omega (arith, up))) v (apart v.name x (λ e. omega (arith, numbered.0, up, e))))),
)

pub none_named : (ls : List PlainLocal) (x : ℕ) → local_of ls x ≡ None → find (is_var x) (map var_of ls) ≡ None
unfolding local_of
none_named [] x h = refl
none_named (l ∷ ls) x h = by (l.name == x) h (none_named ls x)
  where
    by : (b : Bool) → cond b (Some l) (local_of ls x) ≡ None → (local_of ls x ≡ None → find (is_var x) (map var_of ls) ≡ None) → cond b (Some (var_of l)) (find (is_var x) (map var_of ls)) ≡ None
    by true h k = absurd (none-some l (sym h))
    by false h k = k h

-- Locals are variables

var_so : ℕ → PlainTy → PlainVar
var_so x t = record { name = x; ty = t }

pub locals_typed : (ls : List PlainLocal) (made : List PlainVar) → TypedAs (map var_of ls ++ made) ls
unfolding var_so
locals_typed [] made x t h = absurd (none-some t h)
locals_typed (l ∷ ls) made x t h = by (l.name == x) refl h (locals_typed ls made x t)
  where
    by : (b : Bool) → (l.name == x) ≡ b → cond b (Some l.ty) (type_in (shapes ls) x) ≡ Some t → (type_in (shapes ls) x ≡ Some t → find (is_var x) (map var_of ls ++ made) ≡ Some (var_so x t))
        → cond b (Some (var_of l)) (find (is_var x) (map var_of ls ++ made)) ≡ Some (var_so x t)
    by true e h k = ap (λ y. Some (var_so y l.ty)) (eqb-true l.name x e) ∙ ap (λ u. Some (var_so x u)) (same_Some _ _ h)
    by false e h k = k h

-- Each once

no_later : (x first next : ℕ) (made : List PlainVar) → x < first → Numbered first made next → list_any (is_var x) made ≡ false
no_later x first next [] below numbered = refl
no_later x first next (v ∷ made) below numbered = ap (λ b. b || list_any (is_var x) made) (apart v.name x (λ e. omega (arith, below, numbered.0, e))) ∙ no_later x (first + 1) next made (omega (arith, below)) numbered.1

pub made_once : (first next : ℕ) (made : List PlainVar) → Numbered first made next → each_once made ≡ true
made_once first next [] numbered = refl
made_once first next (v ∷ made) numbered = both_hold (ap not (no_later v.name (first + 1) next made (omega (arith, numbered.0)) numbered.1)) (made_once (first + 1) next made numbered.1)

none_either : (x : ℕ) (ls : List PlainLocal) (made : List PlainVar) → local_of ls x ≡ None → list_any (is_var x) made ≡ false → list_any (is_var x) (map var_of ls ++ made) ≡ false
unfolding local_of
none_either x [] made h g = g
none_either x (l ∷ ls) made h g = by (l.name == x) h (λ h. none_either x ls made h g)
  where
    by : (b : Bool) → cond b (Some l) (local_of ls x) ≡ None → (local_of ls x ≡ None → list_any (is_var x) (map var_of ls ++ made) ≡ false) → (b || list_any (is_var x) (map var_of ls ++ made)) ≡ false
    by true h k = absurd (none-some l (sym h))
    by false h k = k h

pub all_once : (first next : ℕ) (ls : List PlainLocal) (made : List PlainVar) → ((x : ℕ) → first ≤ x → local_of ls x ≡ None) → Once ls → Numbered first made next → each_once (map var_of ls ++ made) ≡ true
unfolding local_of
all_once first next [] made none once numbered = made_once first next made numbered
all_once first next (l ∷ ls) made none once numbered =
    both_hold (ap not (none_either l.name ls made once.0 (no_later l.name first next made (below (nat_le first l.name) refl) numbered)))
    (all_once first next ls made (λ x up. later x (l.name == x) (none x up)) once.1 numbered)
  where
    later : (x : ℕ) (b : Bool) → cond b (Some l) (local_of ls x) ≡ None → local_of ls x ≡ None
    later x true h = absurd (none-some l (sym h))
    later x false h = h

    below : (o : Bool) → nat_le first l.name ≡ o → l.name < first
    below true f = absurd (none-some l (sym (sym (ap (λ b. cond b (Some l) (local_of ls l.name)) (eq-eqb l.name l.name refl)) ∙ none l.name (leb-true first l.name f))))
    below false f = leb-false first l.name f

-- Parameters

none_settled : (ls : List PlainLocal) → surely (settled ls []) ≡ []
unfolding settled
none_settled [] = refl
none_settled (l ∷ ls) = none_settled ls

read_param : (p : PlainSigParam) → (if not (has_none p.ty) then inside p.ty else p.ty) ≡ p.ty
read_param p = by p.ty
  where
    by : (t : PlainTy) → (if not (has_none t) then inside t else t) ≡ t
    by (TOptional u) = refl
    by _ = refl

-- what is surely assigned where a method begins are its parameters
pub surely_params : (params : List PlainSigParam) (ls : List PlainLocal) (rest : List Shape) → shapes ls ≡ shapes (map param_local params) ++ rest → surely (settled ls (known_at (map param_local params))) ≡ map var_of_param params
unfolding settled known_at var_so
surely_params [] ls rest e = none_settled ls
surely_params (p ∷ params) [] rest e = absurd cc
surely_params (p ∷ params) (l ∷ ls) rest e =
    let named : shape l ≡ (p.name, p.ty) = ap (first_of_list (shape l)) e in
    ap (λ (s : Shape). var_so s.0 (if not (has_none p.ty) then inside s.1 else s.1) ∷ surely (settled ls (known_at (map param_local params)))) named
    ∙ ap (λ t. var_so p.name t ∷ surely (settled ls (known_at (map param_local params)))) (read_param p)
    ∙ ap (λ vs. var_of_param p ∷ vs) (surely_params params ls rest (ap rest_of_list e))
