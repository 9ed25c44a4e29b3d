-- What has a type has it too where just that type is wanted.
use Rattle.std.proofs.Common.{◌≡◌, Bool, true, false, Option, Some, None, Result, Ok, List, ◌⊎◌, inl, inr, refl, sym, ap, ◌∙◌, subst, true≢false}
use Rattle.std.specs.Prelude.{not, if◌then◌else◌, option_and_then}
use Rattle.std.proofs.lemmas.Option.{same_Some, none-some}
use Rattle.py_tree.specs.declared.names.Place.{Place}
use Rattle.py_tree.specs.declared.rule.Rule.TheVariants.{Mismatch}
use Rattle.py_tree.specs.declared.rule.RuleFault.{RuleFault}
use Rattle.py_tree.specs.PlainTypes.{PlainTy, TNil, TList, TOptional}
use Rattle.py_tree.specs.ClassRules.{PlainTable}
use Rattle.py_tree.specs.FlowEnvironment.{PlainEnv, where_test, has_none}
use Rattle.py_tree.specs.ExpressionTypes.{same_ty, is_held, with_none, join_none, join, element_wanted, refuse_if, with_found, needs, fits, as_condition, place_of, type_of, list_of, elements}
use Rattle.py_tree.specs.PlainExpressions.{PlainExpr, PList, PCond, PlainExprs, PNoExpr, PExpr}
use Rattle.py_tree.proofs.TypeLaws.{same-true, join_none_is}
use Rattle.program_meaning.proofs.TypedParts.{done, err_ok, same_ok, found_ok, needs_ok, either_true, elements_result}
use Rattle.typed_hoisting.proofs.Assignable.{assigned_itself}

-- an element type is wanted of what has this type: none, the one that it has, or any of what is None
pub data AsksFor (o : Option PlainTy) (t : PlainTy) : Type 0 where
  nothing : o ≡ None → AsksFor o t
  its_own : o ≡ element_wanted t → AsksFor o t
  of_none : t ≡ TNil → AsksFor o t

-- of what an Optional holds as of the Optional
of_held : (v : PlainTy) (o : Option PlainTy) → AsksFor o (TOptional v) → AsksFor o v
of_held v o (nothing e) = nothing e
of_held v o (its_own e) = by v e
  where
    by : (v : PlainTy) → o ≡ element_wanted (TOptional v) → AsksFor o v
    by (TList u) e = its_own e
    by _ e = nothing e
of_held v o (of_none e) = absurd cc

of_side : (o : Option PlainTy) (s t : PlainTy) → is_held s t ≡ true → AsksFor o t → AsksFor o s
of_side o s (TOptional v) h a = by (either_true (same_ty s v) (same_ty s TNil) h)
  where
    by : (same_ty s v ≡ true) ⊎ (same_ty s TNil ≡ true) → AsksFor o s
    by (inl e) = subst (AsksFor o) (sym (same-true s v e)) (of_held v o a)
    by (inr e) = of_none (same-true s TNil e)
of_side o s _ h a = absurd (true≢false (sym h))

abbrev OfBoth : Option PlainTy → PlainTy → PlainTy → Type 0
OfBoth o s t = AsksFor o s × AsksFor o t

of_optional : (o : Option PlainTy) (v u : PlainTy) → with_none v ≡ Some u → AsksFor o u → AsksFor o v
of_optional o v u h a = by (has_none v) h
  where
    by : (b : Bool) → (if b then None else Some (TOptional v)) ≡ Some u → AsksFor o v
    by true e = absurd (none-some u e)
    by false e = of_held v o (subst (AsksFor o) (sym (same_Some _ _ e)) a)

of_none_joined : (o : Option PlainTy) (s t u : PlainTy) → join_none s t ≡ Some u → AsksFor o u → OfBoth o s t
of_none_joined o s t u h a = by (same_ty s TNil) refl (same_ty t TNil) refl (sym (join_none_is s t) ∙ h)
  where
    by : (b : Bool) → same_ty s TNil ≡ b → (c : Bool) → same_ty t TNil ≡ c → (if b then with_none t else (if c then with_none s else None)) ≡ Some u → OfBoth o s t
    by true e c f g = (of_none (same-true s TNil e), of_optional o t u g a)
    by false e true f g = (of_optional o s u g a, of_none (same-true t TNil f))
    by false e false f g = absurd (none-some u g)

-- of both sides as of their join
of_joined : (o : Option PlainTy) (s t u : PlainTy) → join s t ≡ Some u → AsksFor o u → OfBoth o s t
unfolding join
of_joined o s t u h a = by (same_ty s t) refl (is_held s t) refl (is_held t s) refl h
  where
    of_first : Some s ≡ Some u → AsksFor o s
    of_first g = subst (AsksFor o) (sym (same_Some _ _ g)) a

    of_second : Some t ≡ Some u → AsksFor o t
    of_second g = subst (AsksFor o) (sym (same_Some _ _ g)) a

    by : (b : Bool) → same_ty s t ≡ b → (c : Bool) → is_held s t ≡ c → (d : Bool) → is_held t s ≡ d → (if b then Some s else (if c then Some t else (if d then Some s else join_none s t))) ≡ Some u → OfBoth o s t
    by true e c f d g h = (of_first h, subst (AsksFor o) (same-true s t e) (of_first h))
    by false e true f d g h = (of_side o s t f (of_second h), of_second h)
    by false e false f true g h = (of_first h, of_side o t s g (of_first h))
    by false e false f false g h = of_none_joined o s t u h a

asked_element : (a u t : PlainTy) → TList u ≡ t → AsksFor (Some a) t → a ≡ u
asked_element a u t e (nothing f) = absurd (none-some a (sym f))
asked_element a u t e (its_own f) = same_Some _ _ (f ∙ ap element_wanted (sym e))
asked_element a u t e (of_none f) = absurd cc

fits_itself : (t : PlainTy) (at : Place) (rest : Result PlainTy RuleFault) → fits t t at rest ≡ rest
fits_itself t at rest = ap (λ b. refuse_if (not b) Mismatch at rest) (assigned_itself t)

module _ (tables : List PlainTable) where
  abbrev wanted_of : Option PlainTy → Option PlainTy
  wanted_of w = option_and_then element_wanted w

  mutual
    unfolding type_of

    still_typed : (env : PlainEnv) (w : Option PlainTy) (e : PlainExpr) (t : PlainTy) → type_of tables env None e ≡ Ok t → AsksFor (wanted_of w) t → type_of tables env w e ≡ Ok t
    still_typed env w (PList at items) t h asks = still_list env (wanted_of w) at items t h asks
    still_typed env w (PCond at test a b) u h asks =
        let yes' : PlainEnv = where_test true test env in
        let no' : PlainEnv = where_test false test env in
        let condition : Result PlainTy RuleFault = as_condition (place_of test) (type_of tables env None test) in
        let both : PlainTy → PlainTy → Result PlainTy RuleFault = λ s t. needs (join s t) Mismatch (place_of b) (λ u. Ok u) in
        let second : Option PlainTy → PlainTy → Result PlainTy RuleFault = λ w s. with_found (type_of tables no' w b) (λ t. both s t) in
        let first : Option PlainTy → Result PlainTy RuleFault = λ w. with_found (type_of tables yes' w a) (λ s. second w s) in
        let p : (c : PlainTy) × (condition ≡ Ok c) × (first None ≡ Ok u) = found_ok condition (λ c. first None) u h in
        let q : (s : PlainTy) × (type_of tables yes' None a ≡ Ok s) × (second None s ≡ Ok u) = found_ok (type_of tables yes' None a) (λ s. second None s) u p.2 in
        let r : (t : PlainTy) × (type_of tables no' None b ≡ Ok t) × (both q.0 t ≡ Ok u) = found_ok (type_of tables no' None b) (λ t. both q.0 t) u q.2 in
        let j : (v : PlainTy) × (join q.0 r.0 ≡ Some v) × (done v ≡ Ok u) = needs_ok (join q.0 r.0) Mismatch (place_of b) (λ u. Ok u) u r.2 in
        let of : OfBoth (wanted_of w) q.0 r.0 = of_joined (wanted_of w) q.0 r.0 u (j.1 ∙ ap Some (same_ok j.0 u j.2)) asks in
        ap (λ o. with_found o (λ c. first w)) p.1 ∙ ap (λ o. with_found o (λ s. second w s)) (still_typed yes' w a q.0 q.1 of.0) ∙ ap (λ o. with_found o (λ t. both q.0 t)) (still_typed no' w b r.0 r.1 of.1) ∙ r.2
    still_typed env w _ t h asks = h

    still_list : (env : PlainEnv) (o : Option PlainTy) (at : Place) (items : PlainExprs) (t : PlainTy) → list_of tables env None at items ≡ Ok t → AsksFor o t → list_of tables env o at items ≡ Ok t
    still_list env o at PNoExpr t h asks = absurd (err_ok _ t h)
    still_list env None at (PExpr x xs) t h asks = h
    still_list env (Some a) at (PExpr x xs) t h asks =
        let p : (u : PlainTy) × (type_of tables env None x ≡ Ok u) × (elements tables env u xs ≡ Ok t) = found_ok (type_of tables env None x) (λ u. elements tables env u xs) t h in
        let is : a ≡ p.0 = asked_element a p.0 t (elements_result tables env p.0 xs t p.2) asks in
        let here : type_of tables env (Some p.0) x ≡ Ok p.0 = still_typed env (Some p.0) x p.0 p.1 (its_own refl) in
        subst (λ a. list_of tables env (Some a) at (PExpr x xs) ≡ Ok t) (sym is)
        (ap (λ r. with_found r (λ u. fits u p.0 (place_of x) (elements tables env p.0 xs))) here ∙ fits_itself p.0 (place_of x) (elements tables env p.0 xs) ∙ p.2)

pub itself_wanted : (tables : List PlainTable) (env : PlainEnv) (e : PlainExpr) (t : PlainTy) → type_of tables env None e ≡ Ok t → type_of tables env (Some t) e ≡ Ok t
itself_wanted tables env e t h = still_typed tables env (Some t) e t h (its_own refl)
