-- Locals that agree on what is surely assigned: at the start of a block, behind an assignment, where a block's parameters are supplied,
-- and where a frame has kept them.
use Rattle.std.proofs.Common.{◌≡◌, ◌∙◌, ℕ, suc, Bool, true, false, not, cond, true≢false, Option, Some, None, List, [], ◌∷◌, refl, sym, ap, subst}
use Rattle.std.specs.Prelude.{◌==◌, slice_get, filter, find, position, option_map, is_some}
use Rattle.std.specs.List.{list_any, flat_map}
use Rattle.std.proofs.lemmas.Bool.{eqb-true, eq-eqb}
use Rattle.std.proofs.lemmas.Option.{same_Some, none-some}
use Rattle.py_tree.specs.PlainTypes.{PlainTy}
use Rattle.py_tree.specs.FlowEnvironment.{PlainLocal, has_name, local_of, known_not_none, narrowed}
use Rattle.py_tree.specs.Flow.{with_local}
use Rattle.sf_value.specs.declared.value.Value.{Value}
use Rattle.program_meaning.specs.declared.vars.Var.{Var}
use Rattle.program_meaning.specs.World.{is_named, var_at, local_value, assigned}
use Rattle.program_meaning.proofs.Places.{position_of_more, found_at, found_passes, any_at}
use Rattle.program_meaning.proofs.SameLocals.{assigned_value}
use Rattle.program_meaning.proofs.TypedParts.{both_true}
use Rattle.block_code.specs.PlainVars.{PlainVar}
use Rattle.block_code.specs.PlainBlocks.{PlainCatch, PlainBlock}
use Rattle.block_code.specs.GraphFits.{is_var, local_at, at_start, is_supplied, supplied}
use Rattle.block_code.specs.EventsFit.{Awaits, params_if_there, kept_params}
use Rattle.block_runs.specs.EventStep.{kept}
use Rattle.block_runs.proofs.Variables.{each_passes, other_local}
use Rattle.block_runs.proofs.Entries.{Among, among_first, among_second, among_passing, among_flat}
use Rattle.assigned_locals.specs.AssignedLocals.{AgreeOnAssigned}

-- each of these parameters has the same value in both
abbrev pub Same : List PlainVar → List Var → List Var → Type 0
Same params us vs = (k : ℕ) (p : PlainVar) → slice_get params k ≡ Some p → local_value us p.name ≡ local_value vs p.name

-- Where a block begins

pub start_agrees : (variables params : List PlainVar) (us vs : List Var) → Same params us vs → AgreeOnAssigned (at_start variables params) us vs
unfolding at_start local_of
start_agrees [] params us vs same x l is on = absurd (none-some l is)
start_agrees (v ∷ variables) params us vs same x l is on = by (find (is_var v.name) params) refl (v.name == x) refl is (λ is. start_agrees variables params us vs same x l is on)
  where
    by : (o : Option PlainVar) → find (is_var v.name) params ≡ o → (b : Bool) → (v.name == x) ≡ b → cond ((local_at v o).name == x) (Some (local_at v o)) (find (λ (l : PlainLocal). l.name == x) (at_start variables params)) ≡ Some l
        → (find (λ (l : PlainLocal). l.name == x) (at_start variables params) ≡ Some l → local_value us x ≡ local_value vs x) → local_value us x ≡ local_value vs x
    by None found true named is rest = absurd (true≢false (sym on ∙ sym (ap (λ (l : PlainLocal). l.assigned) (same_Some _ _ (ap (λ b. cond b (Some (local_at v None)) (find (λ (l : PlainLocal). l.name == x) (at_start variables params))) (sym named) ∙ is)))))
    by None found false named is rest = rest (ap (λ b. cond b (Some (local_at v None)) (find (λ (l : PlainLocal). l.name == x) (at_start variables params))) (sym named) ∙ is)
    by (Some p) found true named is rest =
        let at : (k : ℕ) × (position (is_var v.name) params ≡ Some k) × (slice_get params k ≡ Some p) = found_at (is_var v.name) params p found in
        let name : p.name ≡ x = eqb-true p.name v.name (found_passes (is_var v.name) params p found) ∙ eqb-true v.name x named in
        subst (λ y. local_value us y ≡ local_value vs y) name (same at.0 p at.2)
    by (Some p) found false named is rest = rest (ap (λ b. cond b (Some (local_at v (Some p))) (find (λ (l : PlainLocal). l.name == x) (at_start variables params))) (sym named) ∙ is)

-- Where its parameters are supplied

pub supplied_agree : (locals : List PlainLocal) (params : List PlainVar) (us vs : List Var) → AgreeOnAssigned locals us vs → supplied locals params ≡ true → Same params us vs
supplied_agree locals params us vs agree enough k p is = by (local_of locals p.name) refl (each_passes (λ (p : PlainVar). is_supplied (local_of locals p.name) p.ty) params k p enough is)
  where
    by : (o : Option PlainLocal) → local_of locals p.name ≡ o → is_supplied o p.ty ≡ true → local_value us p.name ≡ local_value vs p.name
    by None found h = absurd (true≢false (sym h))
    by (Some l) found h = agree p.name l found (both_true l.assigned _ h).0

-- Behind an assignment, and under a test

pub given_agree : (x : ℕ) (ty : PlainTy) (v : Value) (locals : List PlainLocal) (us vs : List Var) (m : PlainLocal) → local_of locals x ≡ Some m → AgreeOnAssigned locals us vs → AgreeOnAssigned (with_local x ty ty locals) (assigned us x v) (assigned vs x v)
given_agree x ty v locals us vs m there agree y l is on = assigned_value us x v y ∙ by (x == y) refl ∙ sym (assigned_value vs x v y)
  where
    turned : (c : Bool) → (y == x) ≡ c → (x == y) ≡ false → (y == x) ≡ false
    turned true f e = absurd (true≢false (sym (eq-eqb x y (sym (eqb-true y x f))) ∙ e))
    turned false f e = f

    by : (b : Bool) → (x == y) ≡ b → cond b v (local_value us y) ≡ cond b v (local_value vs y)
    by true e = refl
    by false e = agree y l (sym (other_local x y ty locals (turned (y == x) refl e) (ap is_some there)) ∙ is) on

pub narrowed_agree : (names : List ℕ) (locals : List PlainLocal) (us vs : List Var) → AgreeOnAssigned locals us vs → AgreeOnAssigned (narrowed names locals) us vs
unfolding narrowed local_of
narrowed_agree names locals us vs agree x l is on = let r : (m : PlainLocal) × (local_of locals x ≡ Some m) × (m.assigned ≡ true) = before locals l is on in agree x r.0 r.1 r.2
  where
    before : (locals : List PlainLocal) (l : PlainLocal) → local_of (narrowed names locals) x ≡ Some l → l.assigned ≡ true → (m : PlainLocal) × (local_of locals x ≡ Some m) × (m.assigned ≡ true)
    before [] l is on = absurd (none-some l is)
    before (m ∷ locals) l is on = by (has_name names m.name) (m.name == x) refl is (λ is. before locals l is on)
      where
        by : (c b : Bool) → (m.name == x) ≡ b → cond ((cond c (known_not_none m) m).name == x) (Some (cond c (known_not_none m) m)) (find (λ (l : PlainLocal). l.name == x) (narrowed names locals)) ≡ Some l
            → (find (λ (l : PlainLocal). l.name == x) (narrowed names locals) ≡ Some l → (m : PlainLocal) × (find (λ (l : PlainLocal). l.name == x) locals ≡ Some m) × (m.assigned ≡ true))
            → (k : PlainLocal) × (cond (m.name == x) (Some m) (find (λ (l : PlainLocal). l.name == x) locals) ≡ Some k) × (k.assigned ≡ true)
        by true true e is rest = (m, ap (λ b. cond b (Some m) (find (λ (l : PlainLocal). l.name == x) locals)) e, ap (λ (l : PlainLocal). l.assigned) (same_Some _ _ (ap (λ b. cond b (Some (known_not_none m)) (find (λ (l : PlainLocal). l.name == x) (narrowed names locals))) (sym e) ∙ is)) ∙ on)
        by false true e is rest = (m, ap (λ b. cond b (Some m) (find (λ (l : PlainLocal). l.name == x) locals)) e, ap (λ (l : PlainLocal). l.assigned) (same_Some _ _ (ap (λ b. cond b (Some m) (find (λ (l : PlainLocal). l.name == x) (narrowed names locals))) (sym e) ∙ is)) ∙ on)
        by true false e is rest =
            let r : (k : PlainLocal) × (find (λ (l : PlainLocal). l.name == x) locals ≡ Some k) × (k.assigned ≡ true) = rest (ap (λ b. cond b (Some (known_not_none m)) (find (λ (l : PlainLocal). l.name == x) (narrowed names locals))) (sym e) ∙ is) in
            (r.0, ap (λ b. cond b (Some m) (find (λ (l : PlainLocal). l.name == x) locals)) e ∙ r.1, r.2)
        by false false e is rest =
            let r : (k : PlainLocal) × (find (λ (l : PlainLocal). l.name == x) locals ≡ Some k) × (k.assigned ≡ true) = rest (ap (λ b. cond b (Some m) (find (λ (l : PlainLocal). l.name == x) (narrowed names locals))) (sym e) ∙ is) in
            (r.0, ap (λ b. cond b (Some m) (find (λ (l : PlainLocal). l.name == x) locals)) e ∙ r.1, r.2)

-- What a frame keeps

local_of_more : (a : Var) (vars : List Var) (x : ℕ) → local_value (a ∷ vars) x ≡ cond (is_named x a) a.value (local_value vars x)
unfolding local_value
local_of_more a vars x = ap (var_at (a ∷ vars)) (position_of_more (is_named x) a vars) ∙ by (is_named x a)
  where
    later : (o : Option ℕ) → var_at (a ∷ vars) (option_map suc o) ≡ var_at vars o
    later None = refl
    later (Some k) = refl

    by : (b : Bool) → var_at (a ∷ vars) (cond b (Some 0) (option_map suc (position (is_named x) vars))) ≡ cond b a.value (var_at vars (position (is_named x) vars))
    by true = refl
    by false = later (position (is_named x) vars)

filtered_value : (p : Var → Bool) (x : ℕ) (vars : List Var) → ((v : Var) → is_named x v ≡ true → p v ≡ true) → local_value (filter p vars) x ≡ local_value vars x
filtered_value p x [] h = refl
filtered_value p x (v ∷ vars) h = by (p v) refl (is_named x v) refl (filtered_value p x vars h) ∙ sym (local_of_more v vars x)
  where
    by : (b : Bool) → p v ≡ b → (c : Bool) → is_named x v ≡ c → local_value (filter p vars) x ≡ local_value vars x → local_value (cond b (v ∷ filter p vars) (filter p vars)) x ≡ cond (is_named x v) v.value (local_value vars x)
    by true e c f rest = local_of_more v (filter p vars) x ∙ ap (cond (is_named x v) v.value) rest
    by false e true f rest = absurd (true≢false (sym (h v f) ∙ e))
    by false e false f rest = rest ∙ sym (ap (λ c. cond c v.value (local_value vars x)) f)

pub kept_value : (params : List PlainVar) (vars : List Var) (k : ℕ) (p : PlainVar) → slice_get params k ≡ Some p → local_value (kept params vars) p.name ≡ local_value vars p.name
kept_value params vars k p is =
    filtered_value (λ v. list_any (λ q. q.name == v.name.0) params) p.name vars (λ v e. any_at (λ (q : PlainVar). q.name == v.name.0) params k p is (eq-eqb p.name v.name.0 (sym (eqb-true v.name.0 p.name e))))

module _ (blocks : List PlainBlock) (b : PlainBlock) (for : Awaits) where
  -- the block behind a call goes on alike from what a frame keeps
  pub result_agrees : (target : PlainBlock) → slice_get blocks for.after ≡ Some target → (v : Value) (us vs : List Var) → Same target.params (assigned us for.into v) (assigned vs for.into v)
      → Same target.params (assigned us for.into v) (assigned (kept (kept_params blocks b for) vs) for.into v)
  result_agrees target there v us vs same k p is = same k p is ∙ assigned_value vs for.into v p.name ∙ by (p.name == for.into) refl ∙ sym (assigned_value (kept (kept_params blocks b for) vs) for.into v p.name)
    where
      by : (c : Bool) → (p.name == for.into) ≡ c → cond (for.into == p.name) v (local_value vs p.name) ≡ cond (for.into == p.name) v (local_value (kept (kept_params blocks b for) vs) p.name)
      by true e =
          let turned : (for.into == p.name) ≡ true = eq-eqb for.into p.name (sym (eqb-true p.name for.into e)) in
          ap (λ c. cond c v (local_value vs p.name)) turned ∙ sym (ap (λ c. cond c v (local_value (kept (kept_params blocks b for) vs) p.name)) turned)
      by false e =
          let first : Among (filter (λ (p : PlainVar). not (p.name == for.into)) (params_if_there (slice_get blocks for.after))) p = subst (λ o. Among (filter (λ (p : PlainVar). not (p.name == for.into)) (params_if_there o)) p) (sym there) (among_passing (λ (p : PlainVar). not (p.name == for.into)) target.params k p is (ap not e)) in
          let at : Among (kept_params blocks b for) p = among_first _ _ first.0 p first.1 in
          ap (cond (for.into == p.name) v) (sym (kept_value (kept_params blocks b for) vs at.0 p at.1))

  -- and so does the target of a catch
  pub caught_agrees : (i : ℕ) (by : PlainCatch) (target : PlainBlock) → slice_get b.catches i ≡ Some by → slice_get blocks by.to ≡ Some target → (us vs : List Var) → Same target.params us vs → Same target.params us (kept (kept_params blocks b for) vs)
  caught_agrees i by target is there us vs same k p at =
      let all : PlainCatch → List PlainVar = λ (by : PlainCatch). params_if_there (slice_get blocks by.to) in
      let one : Among (flat_map all b.catches) p = among_flat all b.catches i k by p is (subst (λ o. slice_get (params_if_there o) k ≡ Some p) (sym there) at) in
      let here : Among (kept_params blocks b for) p = among_second _ _ one.0 p one.1 in
      same k p at ∙ sym (kept_value (kept_params blocks b for) vs here.0 p here.1)
