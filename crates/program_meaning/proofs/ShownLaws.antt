-- What a test shows of locals: where it came out so, they aren't None.
use Rattle.std.proofs.Common.{◌≡◌, ℕ, Bool, true, false, cond, not, List, [], ◌∷◌, ◌++◌, Ok, Err, ◌⊎◌, inl, inr, refl, sym, ap, ◌∙◌, subst, true≢false}
use Rattle.std.specs.Prelude.{◌||◌, if◌then◌else◌, nat_le, ◌==◌}
use Rattle.std.proofs.Math.Bool.{not-not}
use Rattle.std.proofs.lemmas.Bool.{eqb-true}
use Rattle.py_tree.specs.declared.names.Place.{Place}
use Rattle.py_tree.specs.PlainExpressions.{PlainExpr, PVar, PNot, PAnd, POr, PIsNone, PlainExprs, PNoExpr, PExpr}
use Rattle.py_tree.specs.FlowEnvironment.{has_name, shown, shown_by_each, says_not_none, variable_in}
use Rattle.sf_value.specs.Weight.{weight_of}
use Rattle.sf_value.specs.declared.value.Value.{Value}
use Rattle.sf_value.specs.declared.value.Value.TheVariants as value
use Rattle.sf_value.specs.declared.Failure.{Failure}
use Rattle.program_meaning.specs.declared.vars.Var.{Var}
use Rattle.program_meaning.specs.World.{Gives, Got, Fell, ◌>>=◌, told, local_value, size_limit}
use Rattle.program_meaning.specs.Operations.{weighed, is_true, is_nil}
use Rattle.program_meaning.specs.Evaluation.{Site, eval, each_is, same_truth}

-- these names aren't None
pub record NotNone (vars : List Var) (names : List ℕ) : Type 0 where
  pub not_none : (x : ℕ) → has_name names x ≡ true → is_nil (local_value vars x) ≡ false

-- what is given, if anything is, has a property
pub data Only {W A : Type 0} (P : A → Type 0) : Gives W A → Type 0 where
  got : {x : A} {w : W} {n : ℕ} → P x → Only P (Got x w n)
  fell : {f : Failure} {w : W} {n : ℕ} → Only P (Fell f w n)

pub only_then : {W A B : Type 0} (P : A → Type 0) (Q : B → Type 0) (g : Gives W A) (k : A → W → ℕ → Gives W B) → Only P g → ((x : A) (w : W) (n : ℕ) → P x → Only Q (k x w n)) → Only Q (g >>= k)
only_then P Q g k (got p) h = h _ _ _ p
only_then P Q g k fell h = fell

pub only_all : {W A : Type 0} (P : A → Type 0) (g : Gives W A) → ((x : A) → P x) → Only P g
only_all P (Got x w n) h = got (h x)
only_all P (Fell f w n) h = fell

pub only_more : {W A : Type 0} (P Q : A → Type 0) (g : Gives W A) → Only P g → ((x : A) → P x → Q x) → Only Q g
only_more P Q g (got p) h = got (h _ p)
only_more P Q g fell h = fell

nothing : (vars : List Var) → NotNone vars []
unfolding has_name
nothing vars = record { not_none = λ x h. absurd (true≢false (sym h)) }

nothing_either : (vars : List Var) (b : Bool) → NotNone vars (cond b [] [])
nothing_either vars true = nothing vars
nothing_either vars false = nothing vars

either_named : (a b : Bool) → (a || b) ≡ true → (a ≡ true) ⊎ (b ≡ true)
either_named true b h = inl refl
either_named false b h = inr h

pub named_behind : (names more : List ℕ) (x : ℕ) → has_name (names ++ more) x ≡ true → (has_name names x ≡ true) ⊎ (has_name more x ≡ true)
unfolding has_name
named_behind [] more x h = inr h
named_behind (y ∷ names) more x h = by (y == x) refl h (named_behind names more x)
  where
    later : (y == x) ≡ false → (has_name names x ≡ true) ⊎ (has_name more x ≡ true) → (has_name (y ∷ names) x ≡ true) ⊎ (has_name more x ≡ true)
    later e (inl f) = inl (ap (λ c. c || has_name names x) e ∙ f)
    later e (inr f) = inr f

    by : (b : Bool) → (y == x) ≡ b → (b || has_name (names ++ more) x) ≡ true → (has_name (names ++ more) x ≡ true → (has_name names x ≡ true) ⊎ (has_name more x ≡ true)) → (has_name (y ∷ names) x ≡ true) ⊎ (has_name more x ≡ true)
    by true e h rest = inl (ap (λ c. c || has_name names x) e)
    by false e h rest = later e (rest h)

both_not_none : (vars : List Var) (names more : List ℕ) → NotNone vars names → NotNone vars more → NotNone vars (names ++ more)
both_not_none vars names more p q = record { not_none = λ x h. by x (named_behind names more x h) }
  where
    by : (x : ℕ) → (has_name names x ≡ true) ⊎ (has_name more x ≡ true) → is_nil (local_value vars x) ≡ false
    by x (inl e) = p.not_none x e
    by x (inr e) = q.not_none x e

one_not_none : (vars : List Var) (x : ℕ) → is_nil (local_value vars x) ≡ false → NotNone vars (x ∷ [])
unfolding has_name
one_not_none vars x e = record { not_none = λ y h. by y (x == y) refl h }
  where
    by : (y : ℕ) (b : Bool) → (x == y) ≡ b → (b || false) ≡ true → is_nil (local_value vars y) ≡ false
    by y true f h = subst (λ z. is_nil (local_value vars z) ≡ false) (eqb-true x y f) e
    by y false f h = absurd (true≢false (sym h))

-- a weighed value is the value
pub weighed_is : {W : Type 0} (v : Value) (w : W) (n : ℕ) → Only (λ u. u ≡ v) (told (weighed v) w n)
unfolding weighed
weighed_is v w n = by (nat_le (weight_of v) 65536)
  where
    by : (b : Bool) → Only (λ u. u ≡ v) (told (cond b (Ok v) (Err size_limit)) w n)
    by true = got refl
    by false = fell

-- where `is not None` is True, or `is None` False, the value isn't None
told_apart : (truth positive : Bool) (v : Value) → is_true (value.Bool (if positive then is_nil v else not (is_nil v))) ≡ truth → says_not_none truth positive ≡ true → is_nil v ≡ false
told_apart true true v e h = absurd (true≢false (sym h))
told_apart true false v e h = sym (not-not (is_nil v)) ∙ ap not e
told_apart false true v e h = e
told_apart false false v e h = absurd (true≢false (sym h))

variable_or_not : (a : PlainExpr) → (variable_in a ≡ []) ⊎ ((at : Place) × (x : ℕ) × (a ≡ PVar at x))
variable_or_not (PVar at x) = inr (at, x, refl)
variable_or_not a = inl refl

pub same_is_equal : (a b : Bool) → same_truth a b ≡ true → a ≡ b
same_is_equal true b h = sym h
same_is_equal false true h = absurd (true≢false (sym h))
same_is_equal false false h = refl

not_turned : (b : Bool) → not b ≡ b → ⊥
not_turned true h = true≢false (sym h)
not_turned false h = true≢false h

module _ {W : Type 0} (s : Site W) (vars : List Var) where
  shown_variable : (at p : Place) (x : ℕ) (truth positive b : Bool) (w : W) (n : ℕ) → says_not_none truth positive ≡ b → Only (λ v. is_true v ≡ truth → NotNone vars (cond b (x ∷ []) [])) (eval s (PIsNone at (PVar p x) positive) vars w n)
  unfolding eval
  shown_variable at p x truth positive false w n h = only_all _ _ (λ v e. nothing vars)
  shown_variable at p x truth positive true w n h = only_then (λ u. u ≡ local_value vars x) _ _ _ (weighed_is (local_value vars x) w n)
      (λ u w n is. got (λ e. one_not_none vars x (told_apart truth positive (local_value vars x) (subst (λ v. is_true (value.Bool (if positive then is_nil v else not (is_nil v))) ≡ truth) is e) h)))

  one_more : (x : PlainExpr) (xs : PlainExprs) (truth : Bool) (v : Value) (w : W) (n : ℕ) (b : Bool) → same_truth (is_true v) truth ≡ b → (is_true v ≡ truth → NotNone vars (shown truth x)) → Only (λ v. is_true v ≡ truth → NotNone vars (shown_by_each truth xs)) (each_is s truth xs vars w n)
      → Only (λ u. is_true u ≡ truth → NotNone vars (shown truth x ++ shown_by_each truth xs)) (cond b (each_is s truth xs vars w n) (Got (value.Bool (not truth)) w n))
  one_more x xs truth v w n true e p q = only_more _ _ _ q (λ u r f. both_not_none vars (shown truth x) (shown_by_each truth xs) (p (same_is_equal (is_true v) truth e)) (r f))
  one_more x xs truth v w n false e p q = got (λ f. absurd (not_turned truth f))

  shown_none_test : (at : Place) (a : PlainExpr) (truth positive : Bool) (w : W) (n : ℕ) → (variable_in a ≡ []) ⊎ ((at : Place) × (x : ℕ) × (a ≡ PVar at x)) → Only (λ v. is_true v ≡ truth → NotNone vars (cond (says_not_none truth positive) (variable_in a) [])) (eval s (PIsNone at a positive) vars w n)
  shown_none_test at a truth positive w n (inl e) = only_all _ _ (λ v f. subst (λ names. NotNone vars (cond (says_not_none truth positive) names [])) (sym e) (nothing_either vars (says_not_none truth positive)))
  shown_none_test at a truth positive w n (inr v) = subst (λ a. Only (λ v. is_true v ≡ truth → NotNone vars (cond (says_not_none truth positive) (variable_in a) [])) (eval s (PIsNone at a positive) vars w n)) (sym v.2) (shown_variable at v.0 v.1 truth positive (says_not_none truth positive) w n refl)

  mutual
    unfolding shown eval

    pub shows : (e : PlainExpr) (truth : Bool) (w : W) (n : ℕ) → Only (λ v. is_true v ≡ truth → NotNone vars (shown truth e)) (eval s e vars w n)
    shows (PIsNone at a positive) truth w n = shown_none_test at a truth positive w n (variable_or_not a)
    shows (PNot at a) truth w n = only_then _ _ _ _ (shows a (not truth) w n) (λ v w n p. got (λ e. p (sym (not-not (is_true v)) ∙ ap not e)))
    shows (PAnd at items) true w n = shows_each items true w n
    shows (PAnd at items) false w n = only_all _ _ (λ v e. nothing vars)
    shows (POr at items) true w n = only_all _ _ (λ v e. nothing vars)
    shows (POr at items) false w n = shows_each items false w n
    shows e truth w n = only_all _ _ (λ v e. nothing vars)

    pub shows_each : (xs : PlainExprs) (truth : Bool) (w : W) (n : ℕ) → Only (λ v. is_true v ≡ truth → NotNone vars (shown_by_each truth xs)) (each_is s truth xs vars w n)
    shows_each PNoExpr truth w n = only_all _ _ (λ v e. nothing vars)
    shows_each (PExpr x xs) truth w n = only_then _ _ _ _ (shows x truth w n) (λ v w n p. one_more x xs truth v w n (same_truth (is_true v) truth) refl p (shows_each xs truth w n))
