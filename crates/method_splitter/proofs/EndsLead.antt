-- Ends of blocks lead to what they go on at: branches, calls and creations.
use Rattle.std.proofs.Common.{◌≡◌, ℕ, ◌≤◌, arith, Bool, true, false, List, [], Some, if◌then◌else◌, refl, sym, subst}
use Rattle.std.specs.Prelude.{slice_get}
use Rattle.py_tree.specs.PlainExpressions.{PlainExpr, PlainExprs}
use Rattle.sf_value.specs.declared.value.Value.{Value}
use Rattle.program_meaning.specs.declared.vars.Var.{Var}
use Rattle.program_meaning.specs.ClassTables.{methods_of}
use Rattle.program_meaning.specs.World.{Gives, Got, Fell, ◌>>=◌, Ends, with_given, assigned}
use Rattle.program_meaning.specs.Operations.{is_true}
use Rattle.program_meaning.specs.Evaluation.{Site, eval, eval_all, key_in, method_of, class_of}
use Rattle.program_meaning.specs.StepsLeft.{left_in, CallsTakeSteps}
use Rattle.program_meaning.proofs.StepsTaken.{eval_takes}
use Rattle.block_code.specs.PlainBlocks.{ECall, EMake, PlainBlock}
use Rattle.block_runs.specs.BlockRuns.{given_then, parts_of_call, name_if_there, run_items, run_end, run_blocks, recursing}
use Rattle.flat_tree.specs.FlatMeaning.{Way, call_gives, creation_gives, into_local}
use Rattle.method_splitter.specs.Split.{Target, Rest, Jumps, Holds, branch, Caught, Around}
use Rattle.method_splitter.proofs.RestsRun.{falls_on, Runs, After, Leads, WayLeads, AsGood}
use Rattle.method_splitter.proofs.FewerSteps.{then_few, given_few, either_few, all_few}

module _ {W : Type 0} (s : Site W) (calls : CallsTakeSteps s.calls) (g : List PlainBlock) where
  -- from the block that a jump names
  at_block_of : (ks : List Caught) (to : Target) (us : List Var) (v : W) (m : ℕ) (r : Gives W Value) → Runs s g ks (Jumps to) us v m r → (fuel : ℕ) × (run_blocks s (recursing s) g fuel to.number us v m ≡ Some r)
  unfolding run_items run_end
  at_block_of ks to us v m r h = (h.fuel, h.by 0)

  either_runs : (b : Bool) (a : Around) (c : Rest) (holds fails : Target) (us : List Var) (v : W) (m : ℕ) (y o : Ends W) → Leads s g a (Jumps holds) us v m y c → Leads s g a (Jumps fails) us v m o c → (r : Gives W Value) → After s g a c (if b then y else o) r
      → (fuel : ℕ) × ((if b then run_blocks s (recursing s) g fuel holds.number us v m else run_blocks s (recursing s) g fuel fails.number us v m) ≡ Some r)
  either_runs true a c holds fails us v m y o first second r h = at_block_of a.catches holds us v m r (first.by r h)
  either_runs false a c holds fails us v m y o first second r h = at_block_of a.catches fails us v m r (second.by r h)

  pub branch_leads : (a : Around) (e : PlainExpr) (holds fails : Target) (c : Rest) (y o : Way W) (vars : List Var) (w : W) (n : ℕ) → WayLeads s g a (Jumps holds) c y n → WayLeads s g a (Jumps fails) c o n
      → Leads s g a (branch e holds fails) vars w n (with_given vars (eval s e vars w n) (λ v w n. if is_true v then y vars w n else o vars w n)) c
  unfolding run_items run_end
  branch_leads a e holds fails c y o vars w n first second = record {
    by = λ r h. let k = run (eval s e vars w n) (eval_takes s calls e vars w n) r h in record { fuel = k.0; by = λ number. k.1 };
    fewer = given_few vars (eval s e vars w n) _ n (eval_takes s calls e vars w n) (λ x v m le. either_few (is_true x) (y vars v m) (o vars v m) m (first vars v m le).fewer (second vars v m le).fewer);
  }
    where
      run : (x : Gives W Value) → left_in x ≤ n → (r : Gives W Value) → After s g a c (with_given vars x (λ v w n. if is_true v then y vars w n else o vars w n)) r
          → (fuel : ℕ) × (given_then vars x (falls_on s g a.catches fuel) (λ v w n. if is_true v then run_blocks s (recursing s) g fuel holds.number vars w n else run_blocks s (recursing s) g fuel fails.number vars w n) ≡ Some r)
      run (Got x v m) few r h = either_runs (is_true x) a c holds fails vars v m (y vars v m) (o vars v m) (first vars v m few) (second vars v m few) r h
      run (Fell f v m) few r h = (h.fuel, h.by)

  -- a value that a call or a creation gives goes into its variable, and then on at the block behind it
  received : (a : Around) (into : ℕ) (to : Target) (c : Rest) (vars : List Var) (x : Gives W Value) → AsGood s g a.catches c (Jumps to) → (r : Gives W Value) → After s g a c (into_local into vars x) r
      → (fuel : ℕ) × (given_then vars x (falls_on s g a.catches fuel) (λ v w n. run_blocks s (recursing s) g fuel to.number (assigned vars into v) w n) ≡ Some r)
  received a into to c vars (Got y v m) good r h = at_block_of a.catches to (assigned vars into y) v m r (good (assigned vars into y) v m r h)
  received a into to c vars (Fell f v m) good r h = (h.fuel, h.by)

  -- parts first, and then what is called with them
  parts_received : {A : Type 0} (a : Around) (into : ℕ) (to : Target) (c : Rest) (vars : List Var) (parts : Gives W A) (f : A → W → ℕ → Gives W Value) → AsGood s g a.catches c (Jumps to) → (r : Gives W Value) → After s g a c (into_local into vars (parts >>= f)) r
      → (fuel : ℕ) × (given_then vars parts (falls_on s g a.catches fuel) (λ q w n. given_then vars (f q w n) (falls_on s g a.catches fuel) (λ v w n. run_blocks s (recursing s) g fuel to.number (assigned vars into v) w n)) ≡ Some r)
  parts_received a into to c vars (Got q v m) f good r h = received a into to c vars (f q v m) good r h
  parts_received a into to c vars (Fell e v m) f good r h = (h.fuel, h.by)

  abbrev paired : Value → List Value → W → ℕ → Gives W (Value × List Value)
  paired v vs w n = Got (v, vs) w n

  in_parts : (on : PlainExpr) (args : PlainExprs) (f : Value → List Value → W → ℕ → Gives W Value) (vars : List Var) (w : W) (n : ℕ)
      → (parts_of_call s on args vars w n >>= λ q w n. f q.0 q.1 w n) ≡ (eval s on vars w n >>= λ v w n. eval_all s args [] vars w n >>= λ vs w n. f v vs w n)
  in_parts on args f vars w n = by (eval s on vars w n)
    where
      by_args : (x : Value) (xs : Gives W (List Value)) → ((xs >>= λ vs w n. paired x vs w n) >>= λ q w n. f q.0 q.1 w n) ≡ (xs >>= λ vs w n. f x vs w n)
      by_args x (Got vs v m) = refl
      by_args x (Fell e v m) = refl

      by : (x : Gives W Value) → ((x >>= λ v w n. eval_all s args [] vars w n >>= λ vs w n. paired v vs w n) >>= λ q w n. f q.0 q.1 w n) ≡ (x >>= λ v w n. eval_all s args [] vars w n >>= λ vs w n. f v vs w n)
      by (Got x v m) = by_args x (eval_all s args [] vars v m)
      by (Fell e v m) = refl

  pub call_leads : (a : Around) (on : PlainExpr) (class method : ℕ) (args : PlainExprs) (into : ℕ) (to : Target) (c : Rest) (vars : List Var) (w : W) (n : ℕ) → AsGood s g a.catches c (Jumps to)
      → Leads s g a (Holds [] (ECall on class method args into to.number) 0) vars w n (into_local into vars (call_gives s on (name_if_there (slice_get (methods_of s.src class) method)) args vars w n)) c
  unfolding run_items run_end
  call_leads a on class method args into to c vars w n good = record {
    by = λ r h. let k = parts_received a into to c vars (parts_of_call s on args vars w n) (λ q w n. called q.0 q.1 w n) good r (subst (λ x. After s g a c (into_local into vars x) r) (sym (in_parts on args called vars w n)) h) in record { fuel = k.0; by = λ number. k.1 };
    fewer = given_few vars (call_gives s on name args vars w n) _ n (then_few (eval s on vars w n) _ n (eval_takes s calls on vars w n) (λ x v m. then_few (eval_all s args [] vars v m) _ m (all_few s calls args [] vars v m) (λ vs v m. calls.call _ _ vs v m))) (λ x v m le. omega arith);
  }
    where
      name : ℕ
      name = name_if_there (slice_get (methods_of s.src class) method)

      called : Value → List Value → W → ℕ → Gives W Value
      called v vs w n = s.calls.call (key_in v) (method_of s.src (key_in v).0 name) vs w n

  pub make_leads : (a : Around) (name : ℕ) (args : PlainExprs) (into : ℕ) (to : Target) (c : Rest) (vars : List Var) (w : W) (n : ℕ) → AsGood s g a.catches c (Jumps to)
      → Leads s g a (Holds [] (EMake (class_of s.src name) args into to.number) 0) vars w n (into_local into vars (creation_gives s name args vars w n)) c
  unfolding run_items run_end
  make_leads a name args into to c vars w n good = record {
    by = λ r h. let k = parts_received a into to c vars (eval_all s args [] vars w n) (λ vs w n. s.calls.make (class_of s.src name) vs w n) good r h in record { fuel = k.0; by = λ number. k.1 };
    fewer = given_few vars (creation_gives s name args vars w n) _ n (then_few (eval_all s args [] vars w n) _ n (all_few s calls args [] vars w n) (λ vs v m. calls.make _ vs v m)) (λ x v m le. omega arith);
  }
