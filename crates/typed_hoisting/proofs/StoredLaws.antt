-- A value goes into the next temporary.
use Rattle.std.proofs.Common.{◌≡◌, ◌<◌, ◌≤◌, ◌+◌, arith, ℕ, Bool, true, false, not, cond, Option, Some, None, List, [], ◌∷◌, ◌++◌, map, if◌then◌else◌, refl, sym, ap, ◌∙◌, subst, true≢false}
use Rattle.std.specs.Prelude.{◌&&◌, ◌==◌, option_map, is_some, nat_le}
use Rattle.std.proofs.lemmas.Bool.{eqb-true, eq-eqb, leb-true, leb-false}
use Rattle.py_tree.specs.PlainTypes.{PlainTy, TOptional}
use Rattle.py_tree.specs.FlowEnvironment.{PlainLocal, local_of, has_none}
use Rattle.py_tree.specs.ExpressionTypes.{assignable}
use Rattle.py_tree.specs.Flow.{given, with_local}
use Rattle.program_meaning.proofs.LocalShapes.{given_if}
use Rattle.block_code.specs.PlainVars.{PlainVar}
use Rattle.block_code.specs.GraphFits.{Asked, Takes}
use Rattle.hoisting.specs.Stages.{temporary}
use Rattle.typed_hoisting.specs.KnownLocals.{is_optional, seen_of, seen, Kept, Under, Free, AreVariables, Stands, AtLeast}
use Rattle.typed_hoisting.proofs.LocalLaws.{found_name, changed, variables_changed, apart, kept_same}
use Rattle.typed_hoisting.proofs.EnvironmentLaws.{other_local, temporary_seen}
use Rattle.typed_hoisting.proofs.PointLaws.{IsVariable, Found, found_local}

given_name : (n : ℕ) (s : PlainTy) (l : PlainLocal) → (given_if n s l).name ≡ l.name
given_name n s l = by (l.name == n)
  where
    by : (b : Bool) → (cond b (given s l) l).name ≡ l.name
    by true = refl
    by false = refl

given_ty : (n : ℕ) (s : PlainTy) (l : PlainLocal) → (given_if n s l).ty ≡ l.ty
given_ty n s l = by (l.name == n)
  where
    by : (b : Bool) → (cond b (given s l) l).ty ≡ l.ty
    by true = refl
    by false = refl

given_less : (t : PlainTy) → is_optional t && not (has_none t) ≡ false
given_less (TOptional u) = refl
given_less _ = refl

-- a variable of type t takes a value of type s
module _ (variables : List PlainVar) (n : ℕ) (t s : PlainTy) (env : List PlainLocal) (are : AreVariables variables env) (is : IsVariable variables n t) where
  at : Found variables env n t
  at = found_local variables env n t are is

  stored_is : with_local n s s env ≡ map (given_if n s) env
  unfolding with_local
  stored_is = ap (λ o. if is_some o then map (given_if n s) env else env ++ given s (record { name = n; ty = s; assigned = true; not_none = false }) ∷ []) at.1

  pub takes : assignable s t ≡ true → (goal : Asked) → goal (with_local n s s env) → Takes env n s goal
  takes fit goal goes = record { local = at.0; is = at.1; suits = subst (λ u. assignable s u ≡ true) (sym at.2) fit; goes = goes }

  pub stored_variables : AreVariables variables (with_local n s s env)
  stored_variables = subst (AreVariables variables) (sym stored_is) (variables_changed (given_if n s) (given_name n s) (given_ty n s) env ∙ are)

  stored_local : (x : ℕ) → local_of (with_local n s s env) x ≡ option_map (given_if n s) (local_of env x)
  stored_local x = ap (λ ls. local_of ls x) stored_is ∙ changed (given_if n s) (given_name n s) env x

  stored_seen : seen (with_local n s s env) n ≡ Some (record { ty = t; less = is_optional t && not (has_none s) })
  stored_seen =
      ap seen_of (stored_local n ∙ ap (option_map (given_if n s)) at.1 ∙ ap (λ b. Some (cond b (given s at.0) at.0)) (eq-eqb at.0.name n (found_name env n at.0 at.1)))
      ∙ ap (λ u. Some (record { ty = u; less = is_optional u && not (has_none s) })) at.2

  other_seen : (x : ℕ) → (x == n) ≡ false → seen (with_local n s s env) x ≡ seen env x
  other_seen x e = ap seen_of (stored_local x ∙ by (local_of env x) refl)
    where
      by : (o : Option PlainLocal) → local_of env x ≡ o → option_map (given_if n s) o ≡ o
      by None f = refl
      by (Some l) f = ap (λ y. Some (cond (y == n) (given s l) l)) (found_name env x l f) ∙ ap (λ b. Some (cond b (given s l) l)) e

  module _ (k : ℕ) (up : k ≤ n) (locals : List PlainLocal) (free : Free k locals) where
    free_there : Free n locals
    free_there = record { free = λ x later. free.free x (omega (arith, up, later)); once = free.once }

    turned : (x : ℕ) → (x == n) ≡ false → (n == x) ≡ false
    turned x e = apart n x (λ f. true≢false (sym (eq-eqb x n (sym f)) ∙ e))

    strictly : (x : ℕ) → x < n + 1 → (x == n) ≡ false → x < n
    strictly x less e = by (nat_le n x) refl
      where
        by : (b : Bool) → nat_le n x ≡ b → x < n
        by true f = absurd (true≢false (sym (eq-eqb x n (omega (arith, less, leb-true n x f))) ∙ e))
        by false f = leb-false n x f

    under_there : AtLeast variables k locals env → (x : ℕ) → Under (seen locals x) (seen env x)
    under_there least x = by (nat_le k x) refl
      where
        by : (b : Bool) → nat_le k x ≡ b → Under (seen locals x) (seen env x)
        by true f = subst (λ o. Under o (seen env x)) (sym (ap seen_of (free.free x (leb-true k x f)))) tt
        by false f = least.under x (leb-false k x f)

    pub stored_least : AtLeast variables k locals env → AtLeast variables (n + 1) (locals ++ temporary n t ∷ []) (with_local n s s env)
    stored_least least = record { are = stored_variables; under = λ x below. by x (x == n) refl }
      where
        by : (x : ℕ) (b : Bool) → (x == n) ≡ b → Under (seen (locals ++ temporary n t ∷ []) x) (seen (with_local n s s env) x)
        by x true e =
            subst (λ y. Under (seen (locals ++ temporary n t ∷ []) y) (seen (with_local n s s env) y)) (sym (eqb-true x n e))
            (subst (λ o. Under o (seen (with_local n s s env) n)) (sym (temporary_seen n locals t free_there))
            (subst (Under (Some (record { ty = t; less = false }))) (sym stored_seen) (refl, λ h. absurd (true≢false (sym h)))))
        by x false e =
            subst (λ o. Under o (seen (with_local n s s env) x)) (sym (ap seen_of (other_local n locals t x (turned x e))))
            (subst (Under (seen locals x)) (sym (other_seen x e)) (under_there least x))

-- a value of its own type
module _ (variables : List PlainVar) (n : ℕ) (t : PlainTy) (env : List PlainLocal) (locals : List PlainLocal) (free : Free n locals) (stands : Stands variables n locals env) (is : IsVariable variables n t) where
  pub stored_stands : Stands variables (n + 1) (locals ++ temporary n t ∷ []) (with_local n t t env)
  stored_stands = record { are = stored_variables variables n t t env stands.are is; alike = record { alike = λ x below. by x below (x == n) refl } }
    where
      by : (x : ℕ) → x < n + 1 → (b : Bool) → (x == n) ≡ b → Kept (seen (locals ++ temporary n t ∷ []) x) (seen (with_local n t t env) x)
      by x below true e =
          kept_same (seen (locals ++ temporary n t ∷ []) x) (seen (with_local n t t env) x)
          (ap (seen (locals ++ temporary n t ∷ [])) (eqb-true x n e) ∙ temporary_seen n locals t free
          ∙ sym (ap (seen (with_local n t t env)) (eqb-true x n e) ∙ stored_seen variables n t t env stands.are is ∙ ap (λ b. Some (record { ty = t; less = b })) (given_less t)))
      by x below false e =
          subst (λ o. Kept o (seen (with_local n t t env) x)) (sym (ap seen_of (other_local n locals t x (turned variables n t t env stands.are is n (omega arith) locals free x e))))
          (subst (Kept (seen locals x)) (sym (other_seen variables n t t env stands.are is x e)) (stands.alike.alike x (strictly variables n t t env stands.are is n (omega arith) locals free x below e)))
