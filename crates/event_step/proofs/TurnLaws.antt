-- What follows a block, as the code finds it.
use Rattle.std.proofs.Common.{◌≡◌, ℕ, Bool, true, false, Option, Some, None, Ok, Result, List, sym, ap, ◌∙◌, subst}
use Rattle.std.specs.Prelude.{if◌then◌else◌}
use Rattle.std.proofs.lemmas.Option.{same_Some, none-some}
use Rattle.std.specs.declared.alloc.AllocError.{AllocError}
use Rattle.sf_value.specs.Keys.{Key, key_of}
use Rattle.sf_value.specs.declared.Failure.{Failure}
use Rattle.sf_value.specs.declared.value.Value.{Value}
use Rattle.sf_value.specs.declared.value.Value.TheVariants as value
use Rattle.sf_value.specs.declared.value.Ref.{Ref}
use Rattle.py_tree.specs.PlainExpressions.{PlainExpr, PlainExprs}
use Rattle.program_meaning.specs.declared.vars.Var.{Var}
use Rattle.program_meaning.specs.World.{Gives, Got, Fell, Ends, Goes, Returns, Breaks, Continues, Fails}
use Rattle.program_meaning.specs.Operations.{is_true}
use Rattle.program_meaning.specs.Evaluation.{key_in}
use Rattle.program_meaning.specs.Sources.{source_of}
use Rattle.program_meaning.specs.Calls.{Held}
use Rattle.block_code.specs.PlainBlocks.{EJump, EBranch, ELeave, ECall, EMake, PlainCatch, PlainBlock}
use Rattle.block_code.specs.EventsFit.{catch_of}
use Rattle.block_runs.specs.BlockRuns.{Go, given_then, method_called, run_end, fall_at, behind}
use Rattle.block_runs.specs.EventStep.{Part as BlockPart, Asks, Wants, waiting}
use Rattle.source_meaning.specs.declared.here.Ended.TheVariants as ended
use Rattle.event_step.specs.declared.method.Place.{Place}
use Rattle.event_step.specs.declared.method.Running.{Running}
use Rattle.event_step.specs.declared.method.Part.TheVariants as part
use Rattle.event_step.specs.declared.method.Turn.{Turn}
use Rattle.event_step.specs.declared.method.Turn.TheVariants as turn
use Rattle.event_step.specs.Running.{site_of, room_of, held_of}
use Rattle.event_step.specs.Values.{value_at, values_at, parts_at}
use Rattle.event_step.specs.ItemEnds.{EndsSo, EndsNow, items_at}
use Rattle.event_step.specs.Turns.{Goings, exits_of, falling, ending_at, asking_at, wanting_at, block_at, TurnsTo, TurnsAs, FallsAs, Waited}

-- Failures

pub falls_to : (catches : List PlainCatch) (f : Failure) (to : ℕ) → Some to ≡ catch_of catches f.kind → FallsAs (turn.Goes to) catches f
falls_to catches f to is room r go p h = subst (λ o. fall_at (waiting room) o go f r.vars (held_of r) r.steps ≡ Some p) (sym is) h

pub falls_out : (catches : List PlainCatch) (f : Failure) → None ≡ catch_of catches f.kind → FallsAs (turn.Ends (part.Failed f)) catches f
falls_out catches f is room r go p h =
    let out : fall_at (waiting room) None go f r.vars (held_of r) r.steps ≡ Some p = subst (λ o. fall_at (waiting room) o go f r.vars (held_of r) r.steps ≡ Some p) (sym is) h in
    sym (same_Some _ _ out)

module _ (place : Place) (number : ℕ) (catches : List PlainCatch) where
  -- Calls and creations

  module _ (r : Running) (after : ℕ) where
    abbrev later : Running
    later = record { held = r.held; wrote = r.wrote; vars = r.vars; steps = after }

    pub asked : (called : ℕ) (args : List Value) (to : Ref) → Waited None place r.steps after → TurnsAs (Ok (turn.Ends (part.Asks to args number))) later (asking_at place number catches (key_of to) called args r)
    asked called args to waited go p h =
        let comes : Some (Asks (key_of to) called args number r.vars (held_of r) after) ≡ Some p =
        sym (waited (λ f n. falling place catches go f r.vars (held_of r) n) (λ n. Some (Asks (key_of to) called args number r.vars (held_of r) n))) ∙ h in
        (called, sym (same_Some _ _ comes))

    pub ask_fails : (to : Key) (called : ℕ) (args : List Value) (f : Failure) (t : Turn) → Waited (Some f) place r.steps after → FallsAs t catches f → TurnsAs (Ok t) later (asking_at place number catches to called args r)
    ask_fails to called args f t waited falls go p h =
        falls (room_of place) later go p (sym (waited (λ f n. falling place catches go f r.vars (held_of r) n) (λ n. Some (Asks to called args number r.vars (held_of r) n))) ∙ h)

    pub wanted : (class : ℕ) (args : List Value) → Waited None place r.steps after → TurnsAs (Ok (turn.Ends (part.Wants class args number))) later (wanting_at place number catches class args r)
    wanted class args waited go p h =
        let comes : Some (Wants class args number r.vars (held_of r) after) ≡ Some p =
        sym (waited (λ f n. falling place catches go f r.vars (held_of r) n) (λ n. Some (Wants class args number r.vars (held_of r) n))) ∙ h in
        sym (same_Some _ _ comes)

    pub want_fails : (class : ℕ) (args : List Value) (f : Failure) (t : Turn) → Waited (Some f) place r.steps after → FallsAs t catches f → TurnsAs (Ok t) later (wanting_at place number catches class args r)
    want_fails class args f t waited falls go p h =
        falls (room_of place) later go p (sym (waited (λ f n. falling place catches go f r.vars (held_of r) n) (λ n. Some (Wants class args number r.vars (held_of r) n))) ∙ h)

  -- Ends without expressions

  pub jumps : (to : ℕ) (r : Running) → TurnsAs (Ok (turn.Goes to)) r (ending_at place number catches (EJump to) r)
  unfolding run_end
  jumps to r go p h = h

  pub leaves : (r : Running) → TurnsAs (Ok (turn.Ends (part.Gave value.Nil))) r (ending_at place number catches ELeave r)
  unfolding run_end
  leaves r go p h = sym (same_Some _ _ h)

  -- Ends, once their expressions gave something

  module _ (before r : Running) (same : r.vars ≡ before.vars) where
    failed : {A : Type 0} (f : Failure) (t : Turn) (g : Gives Held A) (rest : List Var → A → Held → ℕ → Goings → Option BlockPart) → g ≡ Fell f (held_of r) r.steps → FallsAs t catches f
        → TurnsAs (Ok t) r (λ go. given_then before.vars g (falling place catches go) (λ y w n. rest before.vars y w n go))
    failed f t g rest gives falls go p h =
        falls (room_of place) r go p
        (subst (λ vs. falling place catches go f vs (held_of r) r.steps ≡ Some p) (sym same) (sym (ap (λ y. given_then before.vars y (falling place catches go) (λ y w n. rest before.vars y w n go)) gives) ∙ h))

    passed : {A : Type 0} (y : A) (result : Result Turn AllocError) (after : Running) (g : Gives Held A) (rest : List Var → A → Held → ℕ → Goings → Option BlockPart) → g ≡ Got y (held_of r) r.steps
        → TurnsAs result after (λ go. rest r.vars y (held_of r) r.steps go) → TurnsAs result after (λ go. given_then before.vars g (falling place catches go) (λ y w n. rest before.vars y w n go))
    passed y result after g rest gives turns go p h =
        turns go p (subst (λ vs. rest vs y (held_of r) r.steps go ≡ Some p) (sym same) (sym (ap (λ z. given_then before.vars z (falling place catches go) (λ y w n. rest before.vars y w n go)) gives) ∙ h))

    abbrev branching : ℕ → ℕ → List Var → Value → Held → ℕ → Goings → Option BlockPart
    branching holds other vars v w n go = if is_true v then go holds vars w n else go other vars w n

    branch_to : (b : Bool) (holds other : ℕ) (go : Goings) (p : BlockPart) → (if b then go holds r.vars (held_of r) r.steps else go other r.vars (held_of r) r.steps) ≡ Some p → TurnsTo (turn.Goes (if b then holds else other)) go r p
    branch_to true holds other go p h = h
    branch_to false holds other go p h = h

    pub branched : (test : PlainExpr) (holds other : ℕ) (v : Value) → value_at place test before ≡ Got v (held_of r) r.steps → TurnsAs (Ok (turn.Goes (if is_true v then holds else other))) r (ending_at place number catches (EBranch test holds other) before)
    unfolding run_end
    branched test holds other v gives = passed v (Ok (turn.Goes (if is_true v then holds else other))) r (value_at place test before) (branching holds other) gives (λ go p h. branch_to (is_true v) holds other go p h)

    pub branch_fails : (test : PlainExpr) (holds other : ℕ) (f : Failure) (t : Turn) → value_at place test before ≡ Fell f (held_of r) r.steps → FallsAs t catches f → TurnsAs (Ok t) r (ending_at place number catches (EBranch test holds other) before)
    unfolding run_end
    branch_fails test holds other f t gives falls = failed f t (value_at place test before) (branching holds other) gives falls

    abbrev asking : ℕ → ℕ → List Var → Value × List Value → Held → ℕ → Goings → Option BlockPart
    asking class method vars q w n go =
        (exits_of place).calls number (key_in q.0) (method_called (source_of place.program.now) (key_in q.0).0 class method) q.1 0 0 go (falling place catches go) vars w n

    pub call_given : (on : PlainExpr) (class method : ℕ) (args : PlainExprs) (into to : ℕ) (v : Value) (vs : List Value) (result : Result Turn AllocError) (after : Running) → parts_at place on args before ≡ Got (v, vs) (held_of r) r.steps
        → ((called : ℕ) → TurnsAs result after (asking_at place number catches (key_in v) called vs r)) → TurnsAs result after (ending_at place number catches (ECall on class method args into to) before)
    unfolding run_end
    call_given on class method args into to v vs result after gives turns =
        passed (v, vs) result after (parts_at place on args before) (asking class method) gives (turns (method_called (source_of place.program.now) (key_in v).0 class method))

    pub call_fails : (on : PlainExpr) (class method : ℕ) (args : PlainExprs) (into to : ℕ) (f : Failure) (t : Turn) → parts_at place on args before ≡ Fell f (held_of r) r.steps → FallsAs t catches f → TurnsAs (Ok t) r (ending_at place number catches (ECall on class method args into to) before)
    unfolding run_end
    call_fails on class method args into to f t gives falls = failed f t (parts_at place on args before) (asking class method) gives falls

    abbrev making : ℕ → List Var → List Value → Held → ℕ → Goings → Option BlockPart
    making class vars vs w n go = (exits_of place).makes number class vs 0 0 go (falling place catches go) vars w n

    pub make_given : (class : ℕ) (args : PlainExprs) (into to : ℕ) (vs : List Value) (result : Result Turn AllocError) (after : Running) → values_at place args before ≡ Got vs (held_of r) r.steps
        → TurnsAs result after (wanting_at place number catches class vs r) → TurnsAs result after (ending_at place number catches (EMake class args into to) before)
    unfolding run_end
    make_given class args into to vs result after gives turns = passed vs result after (values_at place args before) (making class) gives turns

    pub make_fails : (class : ℕ) (args : PlainExprs) (into to : ℕ) (f : Failure) (t : Turn) → values_at place args before ≡ Fell f (held_of r) r.steps → FallsAs t catches f → TurnsAs (Ok t) r (ending_at place number catches (EMake class args into to) before)
    unfolding run_end
    make_fails class args into to f t gives falls = failed f t (values_at place args before) (making class) gives falls

-- Blocks

module _ (place : Place) (number : ℕ) (b : PlainBlock) (before r : Running) where
  abbrev last : Goings → Go Held BlockPart
  last go = run_end (site_of place) (exits_of place) number go (falling place b.catches go) b.end

  goes_on : (e : Ends Held) (result : Result Turn AllocError) (after : Running) → EndsSo ended.On r.vars (held_of r) r.steps e → TurnsAs result after (ending_at place number b.catches b.end r)
      → TurnsAs result after (λ go. behind (exits_of place) e (last go) (falling place b.catches go))
  goes_on (Goes us g m) result after so turns go p h = turns go p (subst (λ e. behind (exits_of place) e (last go) (falling place b.catches go) ≡ Some p) so h)
  goes_on (Returns v g m) result after so turns go p h = absurd cc
  goes_on (Breaks us g m) result after so turns go p h = absurd (none-some p h)
  goes_on (Continues us g m) result after so turns go p h = absurd (none-some p h)
  goes_on (Fails f us g m) result after so turns go p h = absurd cc

  returned : (e : Ends Held) (v : Value) → EndsSo (ended.Returned v) r.vars (held_of r) r.steps e → TurnsAs (Ok (turn.Ends (part.Gave v))) r (λ go. behind (exits_of place) e (last go) (falling place b.catches go))
  returned (Goes us g m) v so go p h = absurd cc
  returned (Returns u g m) v so go p h = sym (same_Some _ _ (subst (λ e. behind (exits_of place) e (last go) (falling place b.catches go) ≡ Some p) so h))
  returned (Breaks us g m) v so go p h = absurd (none-some p h)
  returned (Continues us g m) v so go p h = absurd (none-some p h)
  returned (Fails f us g m) v so go p h = absurd cc

  fell : (e : Ends Held) (f : Failure) (t : Turn) → EndsSo (ended.Failed f) r.vars (held_of r) r.steps e → FallsAs t b.catches f → TurnsAs (Ok t) r (λ go. behind (exits_of place) e (last go) (falling place b.catches go))
  fell (Goes us g m) f t so falls go p h = absurd cc
  fell (Returns u g m) f t so falls go p h = absurd cc
  fell (Breaks us g m) f t so falls go p h = absurd (none-some p h)
  fell (Continues us g m) f t so falls go p h = absurd (none-some p h)
  fell (Fails e us g m) f t so falls go p h = falls (room_of place) r go p (subst (λ e. behind (exits_of place) e (last go) (falling place b.catches go) ≡ Some p) so h)

  pub block_goes : (result : Result Turn AllocError) (after : Running) → EndsNow ended.On r (items_at place b.code before) → TurnsAs result after (ending_at place number b.catches b.end r) → TurnsAs result after (block_at place number b before)
  block_goes = goes_on (items_at place b.code before)

  pub block_returns : (v : Value) → EndsNow (ended.Returned v) r (items_at place b.code before) → TurnsAs (Ok (turn.Ends (part.Gave v))) r (block_at place number b before)
  block_returns = returned (items_at place b.code before)

  pub block_fails : (f : Failure) (t : Turn) → EndsNow (ended.Failed f) r (items_at place b.code before) → FallsAs t b.catches f → TurnsAs (Ok t) r (block_at place number b before)
  block_fails = fell (items_at place b.code before)
