-- Calls and creations, step by step: the step, the depth, the entity, the body.
use Rattle.std.proofs.Common.{◌≡◌, ◌+◌, ℕ, zero, suc, true, false, true≢false, List, [], Option, Some, None, refl, sym, ap, ◌∙◌, subst, add-one, slice_get}
use Rattle.std.specs.Prelude.{is_some}
use Rattle.std.specs.FinMap as map
use Rattle.py_tree.specs.PlainProgram.{PlainMethod}
use Rattle.py_tree.specs.PlainStatements.{stmts_of}
use Rattle.py_tree.specs.ClassRules.{body_of, params_of}
use Rattle.sf_value.specs.Keys.{Key}
use Rattle.sf_value.specs.declared.value.Value.{Value}
use Rattle.program_meaning.specs.declared.vars.Var.{Var}
use Rattle.program_meaning.specs.ClassTables.{Source, methods_of, init_of}
use Rattle.program_meaning.specs.World.{World, Own, Calls, Fell, step, step_limit, recursion_error, no_entity, already_exists, reading, result_of}
use Rattle.program_meaning.specs.Evaluation.{Site}
use Rattle.program_meaning.specs.Execution.{act_all}
use Rattle.program_meaning.specs.Calls.{calls_at, calls_within, enter, create, run_body, bound, in_state, new_key, made, declare_all, if_there}

module _ (src : Source) where
  call_none : (d : ℕ) (at : Key) (k : ℕ) (args : List Value) (w : World) → (calls_at src d).call at k args w 0 ≡ Fell step_limit w 0
  unfolding calls_at
  call_none zero at k args w = refl
  call_none (suc d) at k args w = refl

  make_none : (d class : ℕ) (args : List Value) (w : World) → (calls_at src d).make class args w 0 ≡ Fell step_limit w 0
  unfolding calls_at
  make_none zero class args w = refl
  make_none (suc d) class args w = refl

module _ {W : Type 0} (own : Own W) (src : Source) (me : Key) where
  within_none : (d : ℕ) (at : Key) (k : ℕ) (args : List Value) (w : W) → (calls_within own src me d).call at k args w 0 ≡ Fell step_limit w 0
  unfolding calls_within
  within_none zero at k args w = refl
  within_none (suc d) at k args w = refl

  pub within_zero : (d : ℕ) (at : Key) (k : ℕ) (args : List Value) (w : W) (n : ℕ) → n ≡ 0 → (calls_within own src me d).call at k args w n ≡ Fell step_limit w n
  within_zero d at k args w n none = subst (λ m. (calls_within own src me d).call at k args w m ≡ Fell step_limit w m) (sym none) (within_none d at k args w)

  pub within_deep : (d : ℕ) (at : Key) (k : ℕ) (args : List Value) (w : W) (n m : ℕ) → d ≡ 0 → n ≡ m + 1 → (calls_within own src me d).call at k args w n ≡ Fell recursion_error w m
  unfolding calls_within
  within_deep d at k args w n m deep more = (λ i. (calls_within own src me (deep i)).call at k args w (more i)) ∙ ap (λ j. step j (Fell step_limit w j) (λ j. Fell recursion_error w j)) (add-one m)

  pub within_more : (d e : ℕ) (at : Key) (k : ℕ) (args : List Value) (w : W) (n m : ℕ) → d ≡ suc e → n ≡ m + 1
      → (calls_within own src me d).call at k args w n ≡ run_body (record { src = src; own = own; calls = calls_within own src me e; me = me }) (slice_get (methods_of src me.0) k) args w m
  unfolding calls_within
  within_more d e at k args w n m room more =
      (λ i. (calls_within own src me (room i)).call at k args w (more i))
      ∙ ap (λ j. step j (Fell step_limit w j) (λ j. run_body (record { src = src; own = own; calls = calls_within own src me e; me = me }) (slice_get (methods_of src me.0) k) args w j)) (add-one m)

  within_make : (d class : ℕ) (args : List Value) (w : W) (n : ℕ) → (calls_within own src me d).make class args w n ≡ Fell recursion_error w n
  unfolding calls_within
  within_make zero class args w n = refl
  within_make (suc d) class args w n = refl

  pub nothing_made : (d class : ℕ) (args : List Value) (w : W) (n : ℕ) → (calls_within own src me d).make class args w n ≡ Fell recursion_error w n
  nothing_made = within_make

module _ (src : Source) (d : ℕ) (w : World) (n : ℕ) where
  pub call_zero : (at : Key) (k : ℕ) (args : List Value) → n ≡ 0 → (calls_at src d).call at k args w n ≡ Fell step_limit w n
  call_zero at k args none = subst (λ m. (calls_at src d).call at k args w m ≡ Fell step_limit w m) (sym none) (call_none src d at k args w)

  pub call_deep : (at : Key) (k : ℕ) (args : List Value) (m : ℕ) → d ≡ 0 → n ≡ m + 1 → (calls_at src d).call at k args w n ≡ Fell recursion_error w m
  unfolding calls_at
  call_deep at k args m deep more = (λ i. (calls_at src (deep i)).call at k args w (more i)) ∙ ap (λ j. step j (Fell step_limit w j) (λ j. Fell recursion_error w j)) (add-one m)

  pub call_more : (e : ℕ) (at : Key) (k : ℕ) (args : List Value) (m : ℕ) → d ≡ suc e → n ≡ m + 1 → (calls_at src d).call at k args w n ≡ enter src (calls_at src e) at k args w m
  unfolding calls_at
  call_more e at k args m room more = (λ i. (calls_at src (room i)).call at k args w (more i)) ∙ ap (λ j. step j (Fell step_limit w j) (λ j. enter src (calls_at src e) at k args w j)) (add-one m)

  pub make_zero : (class : ℕ) (args : List Value) → n ≡ 0 → (calls_at src d).make class args w n ≡ Fell step_limit w n
  make_zero class args none = subst (λ m. (calls_at src d).make class args w m ≡ Fell step_limit w m) (sym none) (make_none src d class args w)

  pub make_deep : (class : ℕ) (args : List Value) (m : ℕ) → d ≡ 0 → n ≡ m + 1 → (calls_at src d).make class args w n ≡ Fell recursion_error w m
  unfolding calls_at
  make_deep class args m deep more = (λ i. (calls_at src (deep i)).make class args w (more i)) ∙ ap (λ j. step j (Fell step_limit w j) (λ j. Fell recursion_error w j)) (add-one m)

  pub make_more : (e class : ℕ) (args : List Value) (m : ℕ) → d ≡ suc e → n ≡ m + 1 → (calls_at src d).make class args w n ≡ create src (new_key src class args) args w m
  unfolding calls_at
  make_more e class args m room more = (λ i. (calls_at src (room i)).make class args w (more i)) ∙ ap (λ j. step j (Fell step_limit w j) (λ j. create src (new_key src class args) args w j)) (add-one m)

absent : {A : Type 0} (o : Option (List Value)) (x y : A) → is_some o ≡ false → if_there o x y ≡ x
absent None x y none = refl
absent (Some fields) x y none = absurd (true≢false none)

present : {A : Type 0} (o : Option (List Value)) (x y : A) → is_some o ≡ true → if_there o x y ≡ y
present None x y there = absurd (true≢false (sym there))
present (Some fields) x y there = refl

-- an entity in the world after it is read
module _ (src : Source) (at : Key) (args : List Value) (w after : World) (n : ℕ) (read : after ≡ reading w at) where
  pub enter_missing : (calls : Calls World) (k : ℕ) → is_some (map.get after.state at) ≡ false → enter src calls at k args w n ≡ Fell no_entity after n
  unfolding enter
  enter_missing calls k none =
      absent (map.get w.state at) _ _ (sym (ap (λ x. is_some (map.get x.state at)) read) ∙ none)
      ∙ ap (λ x. Fell no_entity x n) (sym read)

  pub enter_found : (calls : Calls World) (k : ℕ) → is_some (map.get after.state at) ≡ true → enter src calls at k args w n ≡ run_body (in_state src calls at) (slice_get (methods_of src at.0) k) args after n
  unfolding enter
  enter_found calls k there =
      present (map.get w.state at) _ _ (sym (ap (λ x. is_some (map.get x.state at)) read) ∙ there)
      ∙ ap (λ x. run_body (in_state src calls at) (slice_get (methods_of src at.0) k) args x n) (sym read)

  pub create_taken : is_some (map.get after.state at) ≡ true → create src at args w n ≡ Fell already_exists after n
  unfolding create
  create_taken there =
      present (map.get w.state at) _ _ (sym (ap (λ x. is_some (map.get x.state at)) read) ∙ there)
      ∙ ap (λ x. Fell already_exists x n) (sym read)

  pub create_free : is_some (map.get after.state at) ≡ false → create src at args w n ≡ made at after (declare_all src at (body_of (init_of src at.0)) (bound (params_of (init_of src at.0)) args) [] n)
  unfolding create
  create_free none =
      absent (map.get w.state at) _ _ (sym (ap (λ x. is_some (map.get x.state at)) read) ∙ none)
      ∙ ap (λ x. made at x (declare_all src at (body_of (init_of src at.0)) (bound (params_of (init_of src at.0)) args) [] n)) (sym read)

pub body_is : {W : Type 0} (s : Site W) (m : Option PlainMethod) (args : List Value) (vars : List Var) (w : W) (n : ℕ) → vars ≡ bound (params_of m) args → run_body s m args w n ≡ result_of (act_all s (stmts_of (body_of m)) vars w n)
unfolding run_body
body_is s m args vars w n is = ap (λ v. result_of (act_all s (stmts_of (body_of m)) v w n)) (sym is)
