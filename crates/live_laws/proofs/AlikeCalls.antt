-- The blocks of a method come to the same part of it from variables that agree on the parameters of the block where they begin.
use Rattle.std.proofs.Common.{◌≡◌, ◌∙◌, ℕ, zero, suc, Bool, true, false, not, cond, Option, Some, None, List, [], ◌∷◌, ◌++◌, if◌then◌else◌, refl, sym, ap, subst}
use Rattle.std.specs.Prelude.{◌==◌, slice_get, filter}
use Rattle.std.specs.List.{All, flat_map}
use Rattle.std.proofs.lemmas.Option.{same_Some, none-some}
use Rattle.py_tree.specs.PlainTypes.{PlainTy, TBool, TEntity}
use Rattle.py_tree.specs.FlowEnvironment.{PlainLocal, shown, narrowed}
use Rattle.py_tree.specs.Flow.{Context, with_local}
use Rattle.call_graph.specs.SuspendingCode.{Leaving}
use Rattle.sf_value.specs.Keys.{Key}
use Rattle.sf_value.specs.declared.Failure.{Failure}
use Rattle.sf_value.specs.declared.value.Value.{Value}
use Rattle.sf_value.specs.declared.value.Value.TheVariants as value
use Rattle.program_meaning.specs.declared.vars.Var.{Var}
use Rattle.program_meaning.specs.World.{Gives, Got, Fell, ◌>>=◌, Ends, step, step_limit, recursion_error, local_value, assigned}
use Rattle.program_meaning.specs.Operations.{is_true}
use Rattle.program_meaning.specs.Calls.{Held}
use Rattle.program_meaning.specs.Evaluation.{Site, eval, eval_all, key_in}
use Rattle.program_meaning.proofs.SameLocals.{assigned_value}
use Rattle.program_meaning.proofs.TableFacts.{all_at}
use Rattle.block_code.specs.PlainVars.{PlainVar}
use Rattle.block_code.specs.PlainBlocks.{PlainEnd, EJump, EBranch, ELeave, ECall, EMake, PlainCatch, PlainBlock}
use Rattle.block_code.specs.GraphFits.{at_start, Takes, Leads, EndFits, CatchFits, BlockFits, AtEachItem}
use Rattle.block_code.specs.EventsFit.{Awaits, awaited, catch_of, params_if_there, kept_params}
use Rattle.block_runs.specs.BlockRuns.{Go, Exits, given_then, parts_of_call, method_called, run_items, run_end, fall_at, fall, behind, at_block, run_blocks}
use Rattle.block_runs.specs.EventStep.{Part, Gave, Failed, Asks, Wants, waiting}
use Rattle.block_runs.proofs.Variables.{Supplied}
use Rattle.block_runs.proofs.Parts.{catch_found}
use Rattle.assigned_locals.specs.AssignedLocals.{AgreeOnAssigned}
use Rattle.assigned_locals.proofs.AssignedLocals.{every_argument}
use Rattle.request_events.proofs.Agreeing.{Same, start_agrees, supplied_agree, given_agree, narrowed_agree}
use Rattle.live_laws.proofs.AlikeLocals.{other_way}
use Rattle.live_laws.proofs.AlikeRuns.{value_same, bound_same, both_go, both_return, both_break, both_continue, both_fail, ItemsMet, items_met}

-- Parameters of which the values are the same

both_same : (ps qs : List PlainVar) (us vs : List Var) → Same ps us vs → Same qs us vs → Same (ps ++ qs) us vs
both_same [] qs us vs first second k q is = second k q is
both_same (p ∷ ps) qs us vs first second zero q is = first 0 q is
both_same (p ∷ ps) qs us vs first second (suc k) q is = both_same ps qs us vs (λ k. first (suc k)) second k q is

all_same : (blocks : List PlainBlock) (ks : List PlainCatch) (us vs : List Var) → ((place : ℕ) (k : PlainCatch) → slice_get ks place ≡ Some k → Same (params_if_there (slice_get blocks k.to)) us vs) → Same (flat_map (λ (k : PlainCatch). params_if_there (slice_get blocks k.to)) ks) us vs
all_same blocks [] us vs same k p is = absurd (none-some p is)
all_same blocks (c ∷ ks) us vs same k p is = both_same (params_if_there (slice_get blocks c.to)) (flat_map (λ (k : PlainCatch). params_if_there (slice_get blocks k.to)) ks) us vs (same 0 c refl) (all_same blocks ks us vs (λ place. same (suc place))) k p is

-- but for the one that is assigned
others_same : (into : ℕ) (v : Value) (ps : List PlainVar) (us vs : List Var) → Same ps (assigned us into v) (assigned vs into v) → Same (filter (λ (p : PlainVar). not (p.name == into)) ps) us vs
others_same into v [] us vs same k p is = absurd (none-some p is)
others_same into v (q ∷ ps) us vs same k p is = by (q.name == into) refl (others_same into v ps us vs (λ k. same (suc k))) k p is
  where
    rest : List PlainVar
    rest = filter (λ (p : PlainVar). not (p.name == into)) ps

    value_in : (ws : List Var) → (q.name == into) ≡ false → local_value (assigned ws into v) q.name ≡ local_value ws q.name
    value_in ws e = assigned_value ws into v q.name ∙ ap (λ b. cond b v (local_value ws q.name)) (other_way q.name into e)

    by : (b : Bool) → (q.name == into) ≡ b → Same rest us vs → Same (cond (not b) (q ∷ rest) rest) us vs
    by true e later k p is = later k p is
    by false e later zero p is = subst (λ (q : PlainVar). local_value us q.name ≡ local_value vs q.name) (same_Some q p is) (sym (value_in us e) ∙ same 0 q refl ∙ value_in vs e)
    by false e later (suc k) p is = later k p is

-- Parts of a method

-- for a frame that waits at the end of the block of this number
abbrev pub SameAt : List PlainBlock → ℕ → List Var → List Var → Type 0
SameAt blocks number us vs = (b : PlainBlock) (for : Awaits) → slice_get blocks number ≡ Some b → awaited b.end ≡ Some for → Same (kept_params blocks b for) us vs

-- the same part, but for variables that no frame keeps
pub data PartAlike (blocks : List PlainBlock) : Option Part → Option Part → Type 0 where
  no_part : PartAlike blocks None None
  gave_alike : {v : Value} {h : Held} {n : ℕ} → PartAlike blocks (Some (Gave v h n)) (Some (Gave v h n))
  failed_alike : {f : Failure} {h : Held} {n : ℕ} → PartAlike blocks (Some (Failed f h n)) (Some (Failed f h n))
  asks_alike : {at : Key} {method : ℕ} {args : List Value} {number : ℕ} {us vs : List Var} {h : Held} {n : ℕ} → SameAt blocks number us vs → PartAlike blocks (Some (Asks at method args number us h n)) (Some (Asks at method args number vs h n))
  wants_alike : {class : ℕ} {args : List Value} {number : ℕ} {us vs : List Var} {h : Held} {n : ℕ} → SameAt blocks number us vs → PartAlike blocks (Some (Wants class args number us h n)) (Some (Wants class args number vs h n))

module _ (s : Site Held) (room : Bool) (c : Context) (leaves : Leaving) (variables : List PlainVar) (blocks : List PlainBlock) (fits : All (BlockFits c leaves variables blocks) blocks) where
  abbrev x : Exits Held Part
  x = waiting room

  -- from each block on
  abbrev GoAlike : (ℕ → Go Held Part) → Type 0
  GoAlike go = (number : ℕ) (b : PlainBlock) (us vs : List Var) (h : Held) (n : ℕ) → slice_get blocks number ≡ Some b → Same b.params us vs → PartAlike blocks (go number us h n) (go number vs h n)

  module _ (go : ℕ → Go Held Part) (alike : GoAlike go) (number : ℕ) (b : PlainBlock) (is : slice_get blocks number ≡ Some b) where
    f : BlockFits c leaves variables blocks b
    f = all_at (BlockFits c leaves variables blocks) blocks number b fits is

    abbrev start : List PlainLocal
    start = at_start variables b.params

    abbrev falls : Failure → Go Held Part
    falls = fall x b.catches go

    catch_fits : (place : ℕ) (k : PlainCatch) → slice_get b.catches place ≡ Some k → CatchFits c blocks b start k
    catch_fits place k k_is = all_at (CatchFits c blocks b start) b.catches place k f.catches k_is

    -- of the parameters where catches go on
    abbrev Caught : List Var → List Var → Type 0
    Caught us vs = (place : ℕ) (k : PlainCatch) → slice_get b.catches place ≡ Some k → Same (params_if_there (slice_get blocks k.to)) us vs

    caught_at : (us vs : List Var) → ((params : List PlainVar) → AtEachItem (Supplied params) c b.code start → Same params us vs) → Caught us vs
    caught_at us vs same place k k_is = let q = catch_fits place k k_is in subst (λ o. Same (params_if_there o) us vs) (sym q.is) (same q.target.params q.always)

    fall_alike : (e : Failure) (us vs : List Var) (h : Held) (n : ℕ) → Caught us vs → PartAlike blocks (falls e us h n) (falls e vs h n)
    fall_alike e us vs h n same = by (catch_of b.catches e.kind) refl
      where
        by : (o : Option ℕ) → catch_of b.catches e.kind ≡ o → PartAlike blocks (fall_at x o go e us h n) (fall_at x o go e vs h n)
        by None none = failed_alike
        by (Some to) some =
            let k : (j : ℕ) × (k : PlainCatch) × (slice_get b.catches j ≡ Some k) × (k.to ≡ to) = catch_found b.catches e.kind to some in
            let q = catch_fits k.0 k.1 k.2 in
            alike to q.target us vs h n (sym (ap (slice_get blocks) k.3) ∙ q.is) (subst (λ o. Same (params_if_there o) us vs) q.is (same k.0 k.1 k.2))

    given_alike : {A : Type 0} (us vs : List Var) (g h : Gives Held A) (k l : A → Held → ℕ → Option Part) → g ≡ h → Caught us vs → ((y : A) (w : Held) (n : ℕ) → PartAlike blocks (k y w n) (l y w n)) → PartAlike blocks (given_then us g falls k) (given_then vs h falls l)
    given_alike us vs g h k l e same rest = subst (λ h. PartAlike blocks (given_then us g falls k) (given_then vs h falls l)) e (by g)
      where
        by : (g : Gives Held _) → PartAlike blocks (given_then us g falls k) (given_then vs g falls l)
        by (Got y w n) = rest y w n
        by (Fell e w n) = fall_alike e us vs w n same

    led_alike : (to : ℕ) (locals : List PlainLocal) (us vs : List Var) (h : Held) (n : ℕ) → Leads blocks to locals → AgreeOnAssigned locals us vs → PartAlike blocks (go to us h n) (go to vs h n)
    led_alike to locals us vs h n l agree = alike to l.target us vs h n l.is (supplied_agree locals l.target.params us vs agree l.enough)

    waits_alike : (into after : ℕ) (ty : PlainTy) (locals : List PlainLocal) (us vs : List Var) → awaited b.end ≡ Some (record { into = into; after = after }) → Takes locals into ty (Leads blocks after) → AgreeOnAssigned locals us vs → Caught us vs → SameAt blocks number us vs
    waits_alike into after ty locals us vs waits t agree same d for d_is d_for =
        let this : b ≡ d = same_Some b d (sym is ∙ d_is) in
        let that : record { into = into; after = after } ≡ for = same_Some _ for (sym waits ∙ ap (λ (b : PlainBlock). awaited b.end) this ∙ d_for) in
        subst (λ (b : PlainBlock). Same (kept_params blocks b for) us vs) this (subst (λ for. Same (kept_params blocks b for) us vs) that
        (both_same _ _ us vs
        (subst (λ o. Same (filter (λ (p : PlainVar). not (p.name == into)) (params_if_there o)) us vs) (sym t.goes.is)
        (others_same into value.Nil t.goes.target.params us vs (supplied_agree (with_local into ty ty locals) t.goes.target.params (assigned us into value.Nil) (assigned vs into value.Nil) (given_agree into ty value.Nil locals us vs t.local t.is agree) t.goes.enough)))
        (all_same blocks b.catches us vs same)))

    end_alike : (e : PlainEnd) → b.end ≡ e → (locals : List PlainLocal) (us vs : List Var) (h : Held) (n : ℕ) → EndFits c leaves blocks e locals → AgreeOnAssigned locals us vs → Caught us vs → PartAlike blocks (run_end s x number go falls e us h n) (run_end s x number go falls e vs h n)
    unfolding run_end
    end_alike (EJump to) is_e locals us vs h n q agree same = led_alike to locals us vs h n q agree
    end_alike (EBranch test holds fails) is_e locals us vs h n q agree same = given_alike us vs _ _ _ _ (value_same s c leaves locals test TBool us vs h n q.0 agree) same (λ v h n. by (is_true v) h n)
      where
        by : (t : Bool) (h : Held) (n : ℕ) → PartAlike blocks (if t then go holds us h n else go fails us h n) (if t then go holds vs h n else go fails vs h n)
        by true h n = led_alike holds (narrowed (shown true test) locals) us vs h n q.1 (narrowed_agree (shown true test) locals us vs agree)
        by false h n = led_alike fails (narrowed (shown false test) locals) us vs h n q.2 (narrowed_agree (shown false test) locals us vs agree)
    end_alike ELeave is_e locals us vs h n q agree same = gave_alike
    end_alike (ECall on class method args into after) is_e locals us vs h n q agree same = given_alike us vs _ _ _ _ parts same (λ y h n. by (key_in y.0) (method_called s.src (key_in y.0).0 class method) y.1 h n room)
      where
        paired : Value → Gives Held (List Value) → Gives Held (Value × List Value)
        paired v g = g >>= λ xs w n. Got (v, xs) w n

        later : (g : Gives Held Value) → (g >>= λ v w n. paired v (eval_all s args [] us w n)) ≡ (g >>= λ v w n. paired v (eval_all s args [] vs w n))
        later (Got v w n) = ap (paired v) (every_argument c locals args q.sig.params q.args_fit.count q.args_fit.typed s us vs agree w n)
        later (Fell e w n) = refl

        parts : parts_of_call s on args us h n ≡ parts_of_call s on args vs h n
        parts = bound_same (eval s on us h n) (eval s on vs h n) _ (value_same s c leaves locals on (TEntity q.table.name) us vs h n q.receiver agree) ∙ later (eval s on vs h n)

        by : (at : Key) (called : ℕ) (xs : List Value) (h : Held) (n : ℕ) (r : Bool) → PartAlike blocks (step n (falls step_limit us h n) (λ n. if r then Some (Asks at called xs number us h n) else falls recursion_error us h n))
            (step n (falls step_limit vs h n) (λ n. if r then Some (Asks at called xs number vs h n) else falls recursion_error vs h n))
        by at called xs h zero r = fall_alike step_limit us vs h zero same
        by at called xs h (suc n) true = asks_alike (waits_alike into after q.sig.result locals us vs (ap awaited is_e) q.takes agree same)
        by at called xs h (suc n) false = fall_alike recursion_error us vs h n same
    end_alike (EMake class args into after) is_e locals us vs h n q agree same =
        given_alike us vs _ _ _ _ (every_argument c locals args q.table.init q.args_fit.count q.args_fit.typed s us vs agree h n) same (λ y h n. by y h n room)
      where
        by : (xs : List Value) (h : Held) (n : ℕ) (r : Bool) → PartAlike blocks (step n (falls step_limit us h n) (λ n. if r then Some (Wants class xs number us h n) else falls recursion_error us h n))
            (step n (falls step_limit vs h n) (λ n. if r then Some (Wants class xs number vs h n) else falls recursion_error vs h n))
        by xs h zero r = fall_alike step_limit us vs h zero same
        by xs h (suc n) true = wants_alike (waits_alike into after (TEntity q.table.name) locals us vs (ap awaited is_e) q.takes agree same)
        by xs h (suc n) false = fall_alike recursion_error us vs h n same

    block_alike : (us vs : List Var) (h : Held) (n : ℕ) → Same b.params us vs → PartAlike blocks (behind x (run_items s b.code us h n) (run_end s x number go falls b.end) falls) (behind x (run_items s b.code vs h n) (run_end s x number go falls b.end) falls)
    block_alike us vs h n same = by (run_items s b.code us h n) (run_items s b.code vs h n) (items_met s c leaves b.code start (EndFits c leaves blocks b.end) us vs h n f.fits (start_agrees variables b.params us vs same))
      where
        by : (e d : Ends Held) → ItemsMet s c leaves b.code start (EndFits c leaves blocks b.end) e d → PartAlike blocks (behind x e (run_end s x number go falls b.end) falls) (behind x d (run_end s x number go falls b.end) falls)
        by _ _ (both_go {us = us} {vs = vs} {w = w} {n = n} after g agree at) = end_alike b.end refl after us vs w n g agree (caught_at us vs (λ params ready. supplied_agree after params us vs agree (at params ready)))
        by _ _ both_return = gave_alike
        by _ _ both_break = no_part
        by _ _ both_continue = no_part
        by _ _ (both_fail {f = e} {us = us} {vs = vs} {w = w} {n = n} same) = fall_alike e us vs w n (caught_at us vs same)

  pub runs_alike : (fuel : ℕ) → GoAlike (run_blocks s x blocks fuel)
  unfolding run_blocks
  runs_alike zero number b us vs h n is same = no_part
  runs_alike (suc fuel) number b us vs h n is same =
      subst (λ o. PartAlike blocks (at_block o (does number) us h n) (at_block o (does number) vs h n)) (sym is) (block_alike (run_blocks s x blocks fuel) (runs_alike fuel) number b is us vs h n same)
    where
      does : ℕ → PlainBlock → Go Held Part
      does number b vars w n = behind x (run_items s b.code vars w n) (run_end s x number (run_blocks s x blocks fuel) (fall x b.catches (run_blocks s x blocks fuel)) b.end) (fall x b.catches (run_blocks s x blocks fuel))
