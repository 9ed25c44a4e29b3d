-- What a block begins with where a method is entered, and where it goes on: values for the parameters.
use Rattle.std.proofs.Common.{◌≡◌, ℕ, zero, suc, Bool, true, false, cond, not, Some, List, [], ◌∷◌, ◌++◌, map as over, refl, sym, ap, ◌∙◌, subst, true≢false}
use Rattle.std.specs.Prelude.{◌==◌, ◌||◌, find, filter, slice_get, option_map, option_and_then, is_some}
use Rattle.std.specs.List.{list_any, list_all, flat_map}
use Rattle.std.specs.Cmp.Derive.{both_true as both_hold}
use Rattle.std.proofs.lemmas.Bool.{eqb-true, eq-eqb, not_from_false, false_from_ne_true}
use Rattle.std.proofs.lemmas.Option.{same_Some, none-some}
use Rattle.py_tree.specs.PlainTypes.{PlainTy, TEntity}
use Rattle.py_tree.specs.PlainProgram.{PlainParam}
use Rattle.py_tree.specs.ClassRules.{PlainTable, sig_param, sig_params}
use Rattle.py_tree.specs.FlowEnvironment.{PlainLocal, local_of, has_none}
use Rattle.py_tree.specs.ExpressionTypes.{assignable, inside, read_ty}
use Rattle.py_tree.specs.Flow.{Context, given, with_local, sig_at}
use Rattle.call_graph.specs.SuspendingCode.{Leaving}
use Rattle.sf_value.specs.declared.value.Value.{Value}
use Rattle.program_meaning.specs.declared.vars.Var.{Var}
use Rattle.program_meaning.specs.World.{is_named, assigned}
use Rattle.program_meaning.specs.Calls.{bound}
use Rattle.program_meaning.specs.Fits.{Fits, EachFits, one_more, param_types}
use Rattle.program_meaning.specs.PointFits.{HasValue}
use Rattle.program_meaning.proofs.FitsLaws.{fits_inside, fits_wider}
use Rattle.program_meaning.proofs.Places.{any_at}
use Rattle.program_meaning.proofs.LocalsFit.{has_new, keeps_other}
use Rattle.program_meaning.proofs.LocalShapes.{given_if, new_local, not_none_value}
use Rattle.program_meaning.proofs.TypedParts.{both_true}
use Rattle.block_code.specs.PlainVars.{PlainVar}
use Rattle.block_code.specs.PlainBlocks.{PlainItem, IMark, ISet, IPut, IGive, IFail, ICode, PlainEnd, EJump, EBranch, ELeave, ECall, EMake, PlainBlock}
use Rattle.block_code.specs.GraphFits.{Asked, is_var, is_supplied, each_once, var_of_param, Takes, Leads, ItemFits, ItemsFit, EndFits}
use Rattle.block_code.specs.EventsFit.{item_goes_on, Awaits, awaited, IsKept, awaited_type, result_of_method, entity_of_class}
use Rattle.block_runs.proofs.Variables.{Kept, each_passes, not_among, once_behind}
use Rattle.block_runs.proofs.NamesOnce.{Once}

-- Places in lists

abbrev pub Among : {A : Type 0} → List A → A → Type 0
Among xs x = (k : ℕ) × (slice_get xs k ≡ Some x)

pub among_first : {A : Type 0} (xs ys : List A) (k : ℕ) (x : A) → slice_get xs k ≡ Some x → Among (xs ++ ys) x
among_first [] ys k x is = absurd (none-some x is)
among_first (y ∷ xs) ys zero x is = (0, is)
among_first (y ∷ xs) ys (suc k) x is = let r : Among (xs ++ ys) x = among_first xs ys k x is in (suc r.0, r.1)

pub among_second : {A : Type 0} (xs ys : List A) (k : ℕ) (x : A) → slice_get ys k ≡ Some x → Among (xs ++ ys) x
among_second [] ys k x is = (k, is)
among_second (y ∷ xs) ys k x is = let r : Among (xs ++ ys) x = among_second xs ys k x is in (suc r.0, r.1)

pub among_passing : {A : Type 0} (p : A → Bool) (xs : List A) (k : ℕ) (x : A) → slice_get xs k ≡ Some x → p x ≡ true → Among (filter p xs) x
among_passing p [] k x is h = absurd (none-some x is)
among_passing p (y ∷ xs) zero x is h =
    let here : p y ≡ true = subst (λ z. p z ≡ true) (sym (same_Some _ _ is)) h in
    (0, ap (λ b. slice_get (cond b (y ∷ filter p xs) (filter p xs)) 0) here ∙ is)
among_passing p (y ∷ xs) (suc k) x is h = by (p y) (among_passing p xs k x is h)
  where
    by : (b : Bool) → Among (filter p xs) x → Among (cond b (y ∷ filter p xs) (filter p xs)) x
    by true r = (suc r.0, r.1)
    by false r = r

pub among_flat : {A B : Type 0} (f : A → List B) (xs : List A) (k j : ℕ) (x : A) (y : B) → slice_get xs k ≡ Some x → slice_get (f x) j ≡ Some y → Among (flat_map f xs) y
among_flat f [] k j x y is at = absurd (none-some x is)
among_flat f (z ∷ xs) zero j x y is at = among_first (f z) (flat_map f xs) j y (subst (λ w. slice_get (f w) j ≡ Some y) (sym (same_Some _ _ is)) at)
among_flat f (z ∷ xs) (suc k) j x y is at = let r : Among (flat_map f xs) y = among_flat f xs k j x y is at in among_second (f z) (flat_map f xs) r.0 y r.1

-- Arguments

module _ (tables : List PlainTable) where
  bound_named : (y : ℕ) (ps : List PlainParam) (args : List Value) → list_any (λ (u : Var). u.name.0 == y) (bound ps args) ≡ true → list_any (is_var y) (over var_of_param (sig_params ps)) ≡ true
  unfolding bound
  bound_named y [] args h = h
  bound_named y (p ∷ ps) [] h = absurd (true≢false (sym h))
  bound_named y (p ∷ ps) (v ∷ args) h = by (p.name == y) h (bound_named y ps args)
    where
      by : (b : Bool) → (b || list_any (λ (u : Var). u.name.0 == y) (bound ps args)) ≡ true → (list_any (λ (u : Var). u.name.0 == y) (bound ps args) ≡ true → list_any (is_var y) (over var_of_param (sig_params ps)) ≡ true)
          → (b || list_any (is_var y) (over var_of_param (sig_params ps))) ≡ true
      by true h rest = refl
      by false h rest = rest h

  pub bound_once : (ps : List PlainParam) (args : List Value) → each_once (over var_of_param (sig_params ps)) ≡ true → Once (bound ps args)
  unfolding bound
  bound_once [] args once = refl
  bound_once (p ∷ ps) [] once = refl
  bound_once (p ∷ ps) (v ∷ args) once =
      both_hold
      (not_from_false (list_any (λ (u : Var). u.name.0 == p.name) (bound ps args)) (false_from_ne_true (list_any (λ (u : Var). u.name.0 == p.name) (bound ps args)) (λ e. not_among (var_of_param (sig_param p)) (over var_of_param (sig_params ps)) once (bound_named p.name ps args e))))
      (bound_once ps args (once_behind (var_of_param (sig_param p)) (over var_of_param (sig_params ps)) once))

  -- each parameter has its argument
  pub bound_kept : (ps : List PlainParam) (args : List Value) → each_once (over var_of_param (sig_params ps)) ≡ true → EachFits tables (param_types (sig_params ps)) args → Kept tables (bound ps args) (over var_of_param (sig_params ps))
  unfolding bound
  bound_kept [] args once fit k q is = absurd (none-some q is)
  bound_kept (p ∷ ps) [] once fit k q is = elim fit [ ]
  bound_kept (p ∷ ps) (v ∷ args) once (one_more f fs) zero q is =
      subst (λ (q : PlainVar). IsKept tables (bound (p ∷ ps) (v ∷ args)) q) (same_Some _ _ is)
      (record { value = v; has = record { found = ap (λ b. option_map (λ (a : Var). a.value) (cond b (Some (record { name = record { 0 = p.name }; value = v })) (find (is_named p.name) (bound ps args)))) (eq-eqb p.name p.name refl) }; fits = f })
  bound_kept (p ∷ ps) (v ∷ args) once (one_more f fs) (suc k) q is =
      let r : IsKept tables (bound ps args) q = bound_kept ps args (once_behind (var_of_param (sig_param p)) (over var_of_param (sig_params ps)) once) fs k q is in
      record { value = r.value; has = record { found = ap (λ b. option_map (λ (a : Var). a.value) (cond b (Some (record { name = record { 0 = p.name }; value = v })) (find (is_named q.name) (bound ps args)))) (other (p.name == q.name) refl) ∙ r.has.found }; fits = r.fits }
    where
      other : (b : Bool) → (p.name == q.name) ≡ b → (p.name == q.name) ≡ false
      other true e = absurd (not_among (var_of_param (sig_param p)) (over var_of_param (sig_params ps)) once (any_at (is_var p.name) (over var_of_param (sig_params ps)) k q is (eq-eqb q.name p.name (sym (eqb-true p.name q.name e)))))
      other false e = e

  -- Frames

  found_filtered : (p : Var → Bool) (x : ℕ) (vars : List Var) → ((v : Var) → is_named x v ≡ true → p v ≡ true) → find (is_named x) (filter p vars) ≡ find (is_named x) vars
  found_filtered p x [] h = refl
  found_filtered p x (v ∷ vars) h = by (is_named x v) refl (p v) refl (found_filtered p x vars h)
    where
      by : (b : Bool) → is_named x v ≡ b → (c : Bool) → p v ≡ c → find (is_named x) (filter p vars) ≡ find (is_named x) vars → find (is_named x) (cond c (v ∷ filter p vars) (filter p vars)) ≡ cond b (Some v) (find (is_named x) vars)
      by true e true f rest = ap (λ b. cond b (Some v) (find (is_named x) (filter p vars))) e
      by true e false f rest = absurd (true≢false (sym (h v e) ∙ f))
      by false e true f rest = ap (λ b. cond b (Some v) (find (is_named x) (filter p vars))) e ∙ rest
      by false e false f rest = rest

  -- a frame that keeps these parameters has their values
  pub kept_filtered : (params : List PlainVar) (vars : List Var) → Kept tables vars params → Kept tables (filter (λ v. list_any (λ p. p.name == v.name.0) params) vars) params
  kept_filtered params vars kept k p is =
      let r : IsKept tables vars p = kept k p is in
      let same : find (is_named p.name) (filter (λ v. list_any (λ q. q.name == v.name.0) params) vars) ≡ find (is_named p.name) vars =
      found_filtered (λ v. list_any (λ q. q.name == v.name.0) params) p.name vars (λ v e. any_at (λ q. q.name == v.name.0) params k p is (eq-eqb p.name v.name.0 (sym (eqb-true v.name.0 p.name e)))) in
      record { value = r.value; has = record { found = ap (option_map (λ (a : Var). a.value)) same ∙ r.has.found }; fits = r.fits }

  -- Results

  same_local : (x : ℕ) (ty : PlainTy) (l : PlainLocal) (locals : List PlainLocal) → local_of locals x ≡ Some l → local_of (with_local x ty ty locals) x ≡ Some (given ty l)
  unfolding with_local local_of
  same_local x ty l locals is = ap (λ b. find (λ (m : PlainLocal). m.name == x) (cond b (over (given_if x ty) locals) (locals ++ new_local x ty ty ∷ []))) (ap is_some is) ∙ still locals is
    where
      still : (locals : List PlainLocal) → find (λ (m : PlainLocal). m.name == x) locals ≡ Some l → find (λ (m : PlainLocal). m.name == x) (over (given_if x ty) locals) ≡ Some (given ty l)
      still [] h = absurd (none-some l h)
      still (m ∷ locals) h = by (m.name == x) refl h (still locals)
        where
          by : (b : Bool) → (m.name == x) ≡ b → cond b (Some m) (find (λ (m : PlainLocal). m.name == x) locals) ≡ Some l → (find (λ (m : PlainLocal). m.name == x) locals ≡ Some l → find (λ (m : PlainLocal). m.name == x) (over (given_if x ty) locals) ≡ Some (given ty l))
              → cond ((cond b (given ty m) m).name == x) (Some (cond b (given ty m) m)) (find (λ (m : PlainLocal). m.name == x) (over (given_if x ty) locals)) ≡ Some (given ty l)
          by true e h rest = ap (λ b. cond b (Some (given ty m)) (find (λ (m : PlainLocal). m.name == x) (over (given_if x ty) locals))) e ∙ ap (λ n. Some (given ty n)) (same_Some _ _ h)
          by false e h rest = ap (λ b. cond b (Some m) (find (λ (m : PlainLocal). m.name == x) (over (given_if x ty) locals))) e ∙ rest h

  given_fits : (l : PlainLocal) (ty : PlainTy) (v : Value) → Fits tables ty v → assignable ty l.ty ≡ true → Fits tables (read_ty (given ty l)) v
  given_fits l ty v fit suits = by (has_none ty) refl
    where
      wide : Fits tables l.ty v
      wide = fits_wider tables ty l.ty v suits fit

      by : (b : Bool) → has_none ty ≡ b → Fits tables (cond (not b) (inside l.ty) l.ty) v
      by true e = wide
      by false e = fits_inside tables l.ty v wide (not_none_value tables ty v fit e)

  -- the block behind a call goes on with its result
  pub result_kept : (blocks : List PlainBlock) (into to : ℕ) (ty : PlainTy) (locals : List PlainLocal) (vars : List Var) (v : Value) → (t : Takes locals into ty (Leads blocks to)) → Fits tables ty v
      → Kept tables vars (filter (λ p. not (p.name == into)) t.goes.target.params) → Kept tables (assigned vars into v) t.goes.target.params
  result_kept blocks into to ty locals vars v t fit kept k p is = by (p.name == into) refl
    where
      enough : is_supplied (local_of (with_local into ty ty locals) p.name) p.ty ≡ true
      enough = each_passes (λ (q : PlainVar). is_supplied (local_of (with_local into ty ty locals) q.name) q.ty) t.goes.target.params k p t.goes.enough is

      turned : (b : Bool) → (p.name == into) ≡ b → b ≡ false → (into == p.name) ≡ false
      turned true e f = absurd (true≢false f)
      turned false e f = back (into == p.name) refl
        where
          back : (c : Bool) → (into == p.name) ≡ c → (into == p.name) ≡ false
          back true g = absurd (true≢false (sym (eq-eqb p.name into (sym (eqb-true into p.name g))) ∙ e))
          back false g = g

      by : (b : Bool) → (p.name == into) ≡ b → IsKept tables (assigned vars into v) p
      by true e =
          let named : p.name ≡ into = eqb-true p.name into e in
          let local : local_of (with_local into ty ty locals) p.name ≡ Some (given ty t.local) = ap (local_of (with_local into ty ty locals)) named ∙ same_local into ty t.local locals t.is in
          let suits : assignable (read_ty (given ty t.local)) p.ty ≡ true = (both_true true _ (ap (λ o. is_supplied o p.ty) (sym local) ∙ enough)).1 in
          record { value = v; has = subst (λ x. HasValue (assigned vars into v) x v) (sym named) (has_new vars into v); fits = fits_wider tables _ p.ty v suits (given_fits t.local ty v fit t.suits) }
      by false e =
          let at : Among (filter (λ p. not (p.name == into)) t.goes.target.params) p = among_passing (λ (p : PlainVar). not (p.name == into)) t.goes.target.params k p is (ap not e) in
          let r : IsKept tables vars p = kept at.0 p at.1 in
          record { value = r.value; has = keeps_other vars into v p.name r.value (turned false e refl) r.has; fits = r.fits }

-- Ends that can be reached

pub end_reached : (c : Context) (leaves : Leaving) (is : List PlainItem) (goal : Asked) (locals : List PlainLocal) → ItemsFit c leaves is goal locals → list_all item_goes_on is ≡ true → (after : List PlainLocal) × goal after
unfolding ItemsFit
end_reached c leaves [] goal locals f h = (locals, f)
end_reached c leaves (i ∷ is) goal locals f h =
    let b : (item_goes_on i ≡ true) × (list_all item_goes_on is ≡ true) = both_true (item_goes_on i) (list_all item_goes_on is) h in
    let next : (after : List PlainLocal) × ItemsFit c leaves is goal after = by i f b.0 in
    end_reached c leaves is goal next.0 next.1 b.1
  where
    by : (i : PlainItem) → ItemFits c leaves i (ItemsFit c leaves is goal) locals → item_goes_on i ≡ true → (after : List PlainLocal) × ItemsFit c leaves is goal after
    by IMark f h = (locals, f)
    by (ISet x e) f h = (with_local x f.0 f.0 locals, f.2.goes)
    by (IPut x e) f h = (locals, f.1)
    by (IGive e) f h = absurd (true≢false (sym h))
    by (IFail kind e) f h = absurd (true≢false (sym h))
    by (ICode xs) f h = (f.way.locals, f.goes h)

-- what an end that waits takes
pub end_takes : (c : Context) (leaves : Leaving) (blocks : List PlainBlock) (e : PlainEnd) (for : Awaits) (locals : List PlainLocal) → awaited e ≡ Some for → EndFits c leaves blocks e locals → (ty : PlainTy) × (awaited_type c.tables e ≡ Some ty) × Takes locals for.into ty (Leads blocks for.after)
end_takes c leaves blocks (EJump to) for locals is f = absurd (none-some for is)
end_takes c leaves blocks (EBranch test holds other) for locals is f = absurd (none-some for is)
end_takes c leaves blocks ELeave for locals is f = absurd (none-some for is)
end_takes c leaves blocks (ECall on class method args into to) for locals is f =
    let sig : sig_at c.tables class method ≡ Some f.sig = ap (λ o. option_and_then (λ (t : PlainTable). slice_get t.methods method) o) f.has_table ∙ f.has_method in
    (f.sig.result, ap result_of_method sig, subst (λ (a : Awaits). Takes locals a.into f.sig.result (Leads blocks a.after)) (same_Some _ _ is) f.takes)
end_takes c leaves blocks (EMake class args into to) for locals is f =
    (TEntity f.table.name, ap entity_of_class f.has_table, subst (λ (a : Awaits). Takes locals a.into (TEntity f.table.name) (Leads blocks a.after)) (same_Some _ _ is) f.takes)
