-- How what is known at two points compares, as locals are narrowed and temporaries come.
use Rattle.std.proofs.Common.{◌≡◌, ◌<◌, ◌≤◌, ◌+◌, arith, ℕ, Bool, true, false, cond, Option, Some, None, Ok, List, [], ◌∷◌, ◌++◌, refl, sym, ap, ◌∙◌, subst, true≢false}
use Rattle.std.specs.Prelude.{◌&&◌, ◌==◌, option_map, nat_le}
use Rattle.std.proofs.lemmas.Bool.{eq-eqb, leb-true, leb-false}
use Rattle.std.proofs.lemmas.Option.{none-some}
use Rattle.py_tree.specs.declared.names.Place.{Place}
use Rattle.py_tree.specs.Bounded.{ExprNames}
use Rattle.py_tree.specs.PlainTypes.{PlainTy, TOptional}
use Rattle.py_tree.specs.PlainExpressions.{PlainExpr, PVar}
use Rattle.py_tree.specs.FlowEnvironment.{PlainLocal, local_of, has_name, narrowed}
use Rattle.py_tree.specs.ExpressionTypes.{type_of}
use Rattle.py_tree.specs.Flow.{Context, env_of, type_at}
use Rattle.block_code.specs.PlainVars.{PlainVar}
use Rattle.hoisting.specs.Stages.{temporary}
use Rattle.typed_hoisting.specs.KnownLocals.{is_optional, seen_of, seen, Alike, Kept, Under, Once, Free, AreVariables, Stands, AtLeast}
use Rattle.typed_hoisting.proofs.LocalLaws.{changed, once_changed, variables_changed, narrowed_more, narrow, narrow_name, narrow_ty, narrowed_seen, read_seen, or_else, one_more, apart, kept_same, kept_on, kept_seen, kept_narrowed, kept_under, under_kept, under_narrowed, under_forgotten, under_unnarrowed, under_both, narrowed_twice, has_either}
use Rattle.typed_hoisting.proofs.KeptTypes.{Near, type_kept}

pub alike_itself : (k : ℕ) (a : List PlainLocal) → Alike k a a
alike_itself k a = record { alike = λ x below. kept_same (seen a x) (seen a x) refl }

pub alike_on : (k n : ℕ) (a b d : List PlainLocal) → k ≤ n → Alike k a b → Alike n b d → Alike k a d
alike_on k n a b d up f g = record { alike = λ x below. kept_on (seen a x) (seen b x) (seen d x) (f.alike x below) (g.alike x (omega (arith, below, up))) }

pub near_by : (c : Context) (limit k : ℕ) (a b : List PlainLocal) → limit ≤ k → Alike k a b → Near limit (env_of c a) (env_of c b)
near_by c limit k a b up f = record { class = refl; locals = λ x below. f.alike x (omega (arith, below, up)) }

pub kept_at : (c : Context) (limit k : ℕ) (a b : List PlainLocal) → limit ≤ k → Alike k a b → (wanted : Option PlainTy) (e : PlainExpr) (t : PlainTy) → ExprNames limit e → type_at c a wanted e ≡ Ok t → type_at c b wanted e ≡ Ok t
kept_at c limit k a b up f wanted e t named h = (type_kept c.tables limit (env_of c a) (env_of c b) (near_by c limit k a b up f) wanted e named).keeps t h

-- One more temporary

or_none : (o : Option PlainLocal) → or_else o None ≡ o
or_none None = refl
or_none (Some l) = refl

differ : (a b : ℕ) → a < b → (a == b) ≡ false
differ a b less = apart a b (λ e. omega (arith, less, e))

differ_back : (a b : ℕ) → b < a → (a == b) ≡ false
differ_back a b less = apart a b (λ e. omega (arith, less, e))

module _ (k : ℕ) (locals : List PlainLocal) (t : PlainTy) where
  pub other_local : (x : ℕ) → (k == x) ≡ false → local_of (locals ++ temporary k t ∷ []) x ≡ local_of locals x
  other_local x e = one_more locals (temporary k t) x ∙ ap (λ b. or_else (local_of locals x) (cond b (Some (temporary k t)) None)) e ∙ or_none (local_of locals x)

  pub more_alike : Alike k locals (locals ++ temporary k t ∷ [])
  more_alike = record { alike = λ x below. kept_same (seen locals x) (seen (locals ++ temporary k t ∷ []) x) (sym (ap seen_of (other_local x (differ_back k x below)))) }

  none_found : (m : PlainLocal) (o : Option PlainLocal) (b : Bool) → cond b (Some m) o ≡ None → b ≡ false
  none_found m o true h = absurd (none-some m (sym h))
  none_found m o false h = refl

  turned : (a b : ℕ) → (a == b) ≡ false → (b == a) ≡ false
  turned a b e = apart b a (λ f. true≢false (sym (eq-eqb a b (sym f)) ∙ e))

  once_more : (ls : List PlainLocal) → Once ls → local_of ls k ≡ None → Once (ls ++ temporary k t ∷ [])
  unfolding local_of
  once_more [] once free = (refl, tt)
  once_more (m ∷ ls) once free =
      let apart_here : (m.name == k) ≡ false = none_found m (local_of ls k) (m.name == k) free in (
        one_more ls (temporary k t) m.name ∙ ap (λ b. or_else (local_of ls m.name) (cond b (Some (temporary k t)) None)) (turned m.name k apart_here) ∙ or_none (local_of ls m.name) ∙ once.0,
        once_more ls once.1 (sym (ap (λ b. cond b (Some m) (local_of ls k)) apart_here) ∙ free),
      )

  module _ (free : Free k locals) where
    pub more_free : Free (k + 1) (locals ++ temporary k t ∷ [])
    more_free = record {
      free = λ x up. other_local x (differ k x (omega (arith, up))) ∙ free.free x (omega (arith, up));
      once = once_more locals free.once (free.free k (omega arith));
    }

    pub temporary_local : local_of (locals ++ temporary k t ∷ []) k ≡ Some (temporary k t)
    temporary_local = one_more locals (temporary k t) k ∙ ap (λ o. or_else o (cond (k == k) (Some (temporary k t)) None)) (free.free k (omega arith)) ∙ ap (λ b. cond b (Some (temporary k t)) None) (eq-eqb k k refl)

    no_less : (u : PlainTy) → is_optional u && false ≡ false
    no_less (TOptional u) = refl
    no_less _ = refl

    pub temporary_seen : seen (locals ++ temporary k t ∷ []) k ≡ Some (record { ty = t; less = false })
    temporary_seen = ap seen_of temporary_local ∙ ap (λ b. Some (record { ty = t; less = b })) (no_less t)

    pub reads_temporary : (c : Context) (there : List PlainLocal) (wanted : Option PlainTy) (at : Place) → Alike (k + 1) (locals ++ temporary k t ∷ []) there → type_at c there wanted (PVar at k) ≡ Ok t
    unfolding type_of
    reads_temporary c there wanted at f = read_seen there at k (record { ty = t; less = false }) (kept_seen (seen (locals ++ temporary k t ∷ []) k) (seen there k) (record { ty = t; less = false }) (f.alike k (omega arith)) temporary_seen)

pub free_later : (k n : ℕ) (locals : List PlainLocal) → k ≤ n → Free k locals → Free n locals
free_later k n locals up free = record { free = λ x later. free.free x (omega (arith, up, later)); once = free.once }

pub free_narrowed : (k n : ℕ) (names : List ℕ) (locals : List PlainLocal) → k ≤ n → Free k locals → Free n (narrowed names locals)
unfolding narrowed
free_narrowed k n names locals up free = record {
  free = λ x later. changed (narrow names) (narrow_name names) locals x ∙ ap (option_map (narrow names)) (free.free x (omega (arith, up, later)));
  once = once_changed (narrow names) (narrow_name names) locals free.once;
}

-- what is found is below
pub found_below : (k x : ℕ) (locals : List PlainLocal) (m : PlainLocal) → Free k locals → local_of locals x ≡ Some m → x < k
found_below k x locals m free e = by (nat_le k x) refl
  where
    by : (b : Bool) → nat_le k x ≡ b → x < k
    by true f = absurd (none-some m (sym (free.free x (leb-true k x f)) ∙ e))
    by false f = leb-false k x f

-- At least as much

module _ (variables : List PlainVar) where
  pub as_least : (k : ℕ) (locals env : List PlainLocal) → Stands variables k locals env → AtLeast variables k locals env
  as_least k locals env s = record { are = s.are; under = λ x below. kept_under (seen locals x) (seen env x) (s.alike.alike x below) }

  pub variables_narrowed : (names : List ℕ) (env : List PlainLocal) → AreVariables variables env → AreVariables variables (narrowed names env)
  unfolding narrowed
  variables_narrowed names env are = variables_changed (narrow names) (narrow_name names) (narrow_ty names) env ∙ are

  -- where at least these names are narrowed
  pub narrowed_least : (k n : ℕ) (names others : List ℕ) (here there env : List PlainLocal) → k ≤ n → ((x : ℕ) → has_name names x ≡ true → has_name others x ≡ true) → Alike k here there → Stands variables n there env
      → AtLeast variables k (narrowed names here) (narrowed others env)
  narrowed_least k n names others here there env up more f s = record {
    are = variables_narrowed others env s.are;
    under = λ x below.
        let same : Kept (seen here x) (seen env x) = kept_on (seen here x) (seen there x) (seen env x) (f.alike x below) (s.alike.alike x (omega (arith, below, up))) in
        let more : Under (seen (narrowed names here) x) (seen (narrowed others here) x) =
        subst (λ o. Under o (seen (narrowed others here) x)) (sym (narrowed_seen names here x))
        (subst (Under (option_map (narrowed_more (has_name names x)) (seen here x))) (sym (narrowed_seen others here x)) (under_both (has_name names x) (has_name others x) (seen here x) (more x))) in
        under_kept (seen (narrowed names here) x) (seen (narrowed others here) x) (seen (narrowed others env) x) more (kept_narrowed others here env x same);
  }

  -- narrowing may be forgotten
  pub forgotten_least : (k n : ℕ) (names : List ℕ) (locals env : List PlainLocal) → k ≤ n → AtLeast variables n (narrowed names locals) env → AtLeast variables k locals env
  forgotten_least k n names locals env up a = record {
    are = a.are;
    under = λ x below. under_forgotten (has_name names x) (seen locals x) (seen env x) (subst (λ o. Under o (seen env x)) (narrowed_seen names locals x) (a.under x (omega (arith, below, up))));
  }

  -- narrowing in turn is narrowing at once
  pub joined_least : (k n : ℕ) (a b : List ℕ) (locals env : List PlainLocal) → k ≤ n → AtLeast variables n (narrowed b (narrowed a locals)) env → AtLeast variables k (narrowed (a ++ b) locals) env
  joined_least k n a b locals env up h = record { are = h.are; under = λ x below. subst (λ o. Under o (seen env x)) (same x) (h.under x (omega (arith, below, up))) }
    where
      same : (x : ℕ) → seen (narrowed b (narrowed a locals)) x ≡ seen (narrowed (a ++ b) locals) x
      same x =
          narrowed_seen b (narrowed a locals) x ∙ ap (option_map (narrowed_more (has_name b x))) (narrowed_seen a locals x) ∙ sym (narrowed_twice (has_name a x) (has_name b x) (seen locals x))
          ∙ ap (λ c. option_map (narrowed_more c) (seen locals x)) (sym (has_either a b x)) ∙ sym (narrowed_seen (a ++ b) locals x)

  pub unnarrowed_least : (k : ℕ) (locals env : List PlainLocal) → AtLeast variables k locals env → AtLeast variables k (narrowed [] locals) env
  unfolding has_name
  unnarrowed_least k locals env a = record { are = a.are; under = λ x below. subst (λ o. Under o (seen env x)) (sym (narrowed_seen [] locals x)) (under_unnarrowed (seen locals x) (seen env x) (a.under x below)) }

  -- what was known before a branch is known at its end
  pub least_behind : (k n m : ℕ) (names : List ℕ) (locals inside env : List PlainLocal) → k ≤ n → n ≤ m → Alike n (narrowed names locals) inside → Stands variables m inside env → AtLeast variables k locals env
  least_behind k n m names locals inside env up on f s = record {
    are = s.are;
    under = λ x below.
        under_kept (seen locals x) (seen (narrowed names locals) x) (seen env x) (subst (Under (seen locals x)) (sym (narrowed_seen names locals x)) (under_narrowed (has_name names x) (seen locals x)))
        (kept_on (seen (narrowed names locals) x) (seen inside x) (seen env x) (f.alike x (omega (arith, below, up))) (s.alike.alike x (omega (arith, below, up, on))));
  }
