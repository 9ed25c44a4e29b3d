-- More fuel changes nothing where there is enough.
use Rattle.std.proofs.Common.{◌≡◌, ℕ, zero, suc, arith, ◌≤◌, Option, Some, None, List, [], ◌⊎◌, inl, inr, refl, sym, ap, ◌∙◌}
use Rattle.std.specs.Prelude.{slice_get, if◌then◌else◌, Bool, true, false}
use Rattle.std.proofs.lemmas.Option.{same_Some, none-some}
use Rattle.py_tree.specs.ClassRules.{PlainTable, params_of}
use Rattle.sf_value.specs.declared.Failure.{Failure}
use Rattle.sf_value.specs.declared.value.Value.{Value}
use Rattle.sf_value.specs.declared.value.Ref.{Ref}
use Rattle.sf_value.specs.declared.Outcome.{Outcome}
use Rattle.sf_value.specs.declared.Outcome.TheVariants as outcome
use Rattle.sf_value.specs.Keys.{Key}
use Rattle.program_meaning.specs.declared.vars.Var.{Var}
use Rattle.program_meaning.specs.ClassTables.{Source, methods_of}
use Rattle.program_meaning.specs.World.{Gives, Got, Fell, Ends, Goes, Returns, Breaks, Continues, Fails, step, step_limit, recursion_error, assigned}
use Rattle.program_meaning.specs.Operations.{is_true}
use Rattle.program_meaning.specs.Evaluation.{Site, eval, eval_all}
use Rattle.program_meaning.specs.Calls.{Held, bound}
use Rattle.block_code.specs.declared.event.Frame.{Frame}
use Rattle.block_code.specs.declared.event.EventKind.{EventKind}
use Rattle.block_code.specs.declared.event.EventKind.TheVariants as kind
use Rattle.block_code.specs.PlainBlocks.{PlainEnd, EJump, EBranch, ELeave, ECall, EMake, PlainCatch, PlainBlock}
use Rattle.block_code.specs.Places.{blocks_of}
use Rattle.block_code.specs.EventsFit.{Awaits, catch_of}
use Rattle.block_runs.specs.BlockRuns.{Go, Fall, Exits, given_then, parts_of_call, run_items, run_end, fall_at, fall, behind, at_block, run_blocks, recursing}
use Rattle.block_runs.specs.EventStep.{Part, waiting, has_room, Lasts, lasts, Step, site, finished, from, go_on, catch, resume, step_of, block_of, awaited_by, caught_by}
use Rattle.block_runs.specs.Laws.{StepsAreOne, RunsAreOne}

module _ {W R : Type 0} where
  -- where the first comes to something the second comes to it too
  abbrev Onward : (ℕ → Go W R) → (ℕ → Go W R) → Type 0
  Onward go on = (number : ℕ) (vars : List Var) (w : W) (n : ℕ) (r : R) → go number vars w n ≡ Some r → on number vars w n ≡ Some r

  abbrev FallsOnward : Fall W R → Fall W R → Type 0
  FallsOnward falls on = (f : Failure) (vars : List Var) (w : W) (n : ℕ) (r : R) → falls f vars w n ≡ Some r → on f vars w n ≡ Some r

  -- calls and creations ask no more than what goes on from a block, and where a failure goes on
  pub record Follows (x : Exits W R) : Type 0 where
    pub calls : (number : ℕ) (at : Key) (method : ℕ) (args : List Value) (into after : ℕ) (go on : ℕ → Go W R) (falls falls_on : Fall W R) → Onward go on → FallsOnward falls falls_on
        → (vars : List Var) (w : W) (n : ℕ) (r : R) → x.calls number at method args into after go falls vars w n ≡ Some r → x.calls number at method args into after on falls_on vars w n ≡ Some r
    pub makes : (number class : ℕ) (args : List Value) (into after : ℕ) (go on : ℕ → Go W R) (falls falls_on : Fall W R) → Onward go on → FallsOnward falls falls_on
        → (vars : List Var) (w : W) (n : ℕ) (r : R) → x.makes number class args into after go falls vars w n ≡ Some r → x.makes number class args into after on falls_on vars w n ≡ Some r

  given_onward : {A : Type 0} (vars : List Var) (g : Gives W A) (falls falls_on : Fall W R) (f f_on : A → W → ℕ → Option R) → FallsOnward falls falls_on → ((y : A) (w : W) (n : ℕ) (r : R) → f y w n ≡ Some r → f_on y w n ≡ Some r)
      → (r : R) → given_then vars g falls f ≡ Some r → given_then vars g falls_on f_on ≡ Some r
  given_onward vars (Got y w n) falls falls_on f f_on p q r h = q y w n r h
  given_onward vars (Fell e w n) falls falls_on f f_on p q r h = p e vars w n r h

  fall_at_onward : (x : Exits W R) (to : Option ℕ) (go on : ℕ → Go W R) → Onward go on → FallsOnward (fall_at x to go) (fall_at x to on)
  fall_at_onward x None go on p f vars w n r h = h
  fall_at_onward x (Some to) go on p f vars w n r h = p to vars w n r h

  fall_onward : (x : Exits W R) (catches : List PlainCatch) (go on : ℕ → Go W R) → Onward go on → FallsOnward (fall x catches go) (fall x catches on)
  fall_onward x catches go on p f vars w n r h = fall_at_onward x (catch_of catches f.kind) go on p f vars w n r h

  branch_onward : (b : Bool) (holds other : ℕ) (go on : ℕ → Go W R) → Onward go on → (vars : List Var) (w : W) (n : ℕ) (r : R) → (if b then go holds vars w n else go other vars w n) ≡ Some r → (if b then on holds vars w n else on other vars w n) ≡ Some r
  branch_onward true holds other go on p vars w n r h = p holds vars w n r h
  branch_onward false holds other go on p vars w n r h = p other vars w n r h

  module _ (s : Site W) (x : Exits W R) (follows : Follows x) where
    end_onward : (number : ℕ) (go on : ℕ → Go W R) (falls falls_on : Fall W R) → Onward go on → FallsOnward falls falls_on → (end : PlainEnd) (vars : List Var) (w : W) (n : ℕ) (r : R) → run_end s x number go falls end vars w n ≡ Some r → run_end s x number on falls_on end vars w n ≡ Some r
    unfolding run_end
    end_onward number go on falls falls_on p q (EJump to) vars w n r h = p to vars w n r h
    end_onward number go on falls falls_on p q (EBranch test holds other) vars w n r h =
        given_onward vars (eval s test vars w n) falls falls_on _ _ q (λ v w n r h. branch_onward (is_true v) holds other go on p vars w n r h) r h
    end_onward number go on falls falls_on p q ELeave vars w n r h = h
    end_onward number go on falls falls_on p q (ECall on' class method args into after) vars w n r h =
        given_onward vars (parts_of_call s on' args vars w n) falls falls_on _ _ q (λ y w n r h. follows.calls number _ _ y.1 into after go on falls falls_on p q vars w n r h) r h
    end_onward number go on falls falls_on p q (EMake class args into after) vars w n r h =
        given_onward vars (eval_all s args [] vars w n) falls falls_on _ _ q (λ y w n r h. follows.makes number class y into after go on falls falls_on p q vars w n r h) r h

    behind_onward : (e : Ends W) (last last_on : Go W R) (falls falls_on : Fall W R) → ((vars : List Var) (w : W) (n : ℕ) (r : R) → last vars w n ≡ Some r → last_on vars w n ≡ Some r) → FallsOnward falls falls_on → (r : R) → behind x e last falls ≡ Some r → behind x e last_on falls_on ≡ Some r
    behind_onward (Goes vars w n) last last_on falls falls_on p q r h = p vars w n r h
    behind_onward (Returns v w n) last last_on falls falls_on p q r h = h
    behind_onward (Breaks vars w n) last last_on falls falls_on p q r h = h
    behind_onward (Continues vars w n) last last_on falls falls_on p q r h = h
    behind_onward (Fails f vars w n) last last_on falls falls_on p q r h = q f vars w n r h

    at_onward : (b : Option PlainBlock) (f f_on : PlainBlock → Go W R) → ((c : PlainBlock) (vars : List Var) (w : W) (n : ℕ) (r : R) → f c vars w n ≡ Some r → f_on c vars w n ≡ Some r) → (vars : List Var) (w : W) (n : ℕ) (r : R) → at_block b f vars w n ≡ Some r → at_block b f_on vars w n ≡ Some r
    at_onward None f f_on p vars w n r h = h
    at_onward (Some c) f f_on p vars w n r h = p c vars w n r h

    pub blocks_onward : (blocks : List PlainBlock) (fuel more : ℕ) → fuel ≤ more → Onward (run_blocks s x blocks fuel) (run_blocks s x blocks more)
    unfolding run_blocks
    blocks_onward blocks zero more within number vars w n r h = absurd (none-some r h)
    blocks_onward blocks (suc fuel) zero within number vars w n r h = absurd (omega (arith, within))
    blocks_onward blocks (suc fuel) (suc more) within number vars w n r h =
        let less : fuel ≤ more = omega (arith, within) in
        let p : Onward (run_blocks s x blocks fuel) (run_blocks s x blocks more) = blocks_onward blocks fuel more less in
        at_onward (slice_get blocks number) _ _
        (λ b vars w n r h. behind_onward (run_items s b.code vars w n) _ _ _ _ (λ vars w n r h. end_onward number _ _ _ _ p (fall_onward x b.catches _ _ p) b.end vars w n r h) (fall_onward x b.catches _ _ p) r h) vars w n r h

    -- so two fuels come to one thing
    pub blocks_one : (blocks : List PlainBlock) (fuel other number : ℕ) (vars : List Var) (w : W) (n : ℕ) (r q : R) → run_blocks s x blocks fuel number vars w n ≡ Some r → run_blocks s x blocks other number vars w n ≡ Some q → r ≡ q
    blocks_one blocks fuel other number vars w n r q h k = by (total fuel other)
      where
        total : (a b : ℕ) → (a ≤ b) ⊎ (b ≤ a)
        total zero b = inl (omega arith)
        total (suc a) zero = inr (omega arith)
        total (suc a) (suc b) = elim (total a b) [
          | inl h ↦ inl (omega (arith, h))
          | inr h ↦ inr (omega (arith, h))
        ]

        by : (fuel ≤ other) ⊎ (other ≤ fuel) → r ≡ q
        by (inl less) = same_Some _ _ (sym (blocks_onward blocks fuel other less number vars w n r h) ∙ k)
        by (inr less) = same_Some _ _ (sym h ∙ blocks_onward blocks other fuel less number vars w n q k)

-- The two meanings

pub recursing_follows : {W : Type 0} (s : Site W) → Follows (recursing s)
recursing_follows s = record {
  calls = λ number at method args into after go on falls falls_on p q vars w n r h. given_onward vars (s.calls.call at method args w n) falls falls_on _ _ q (λ v w n r h. p after (assigned vars into v) w n r h) r h;
  makes = λ number class args into after go on falls falls_on p q vars w n r h. given_onward vars (s.calls.make class args w n) falls falls_on _ _ q (λ v w n r h. p after (assigned vars into v) w n r h) r h;
}

waits_onward : (n : ℕ) (falls falls_on : Fall Held Part) (vars : List Var) (h : Held) (room : Bool) (part : ℕ → Part) → FallsOnward falls falls_on → (r : Part)
    → step n (falls step_limit vars h n) (λ n. if room then Some (part n) else falls recursion_error vars h n) ≡ Some r → step n (falls_on step_limit vars h n) (λ n. if room then Some (part n) else falls_on recursion_error vars h n) ≡ Some r
waits_onward zero falls falls_on vars h room part q r e = q step_limit vars h zero r e
waits_onward (suc n) falls falls_on vars h true part q r e = e
waits_onward (suc n) falls falls_on vars h false part q r e = q recursion_error vars h n r e

pub waiting_follows : (room : Bool) → Follows (waiting room)
waiting_follows room = record {
  calls = λ number at method args into after go on falls falls_on p q vars h n r e. waits_onward n falls falls_on vars h room _ q r e;
  makes = λ number class args into after go on falls falls_on p q vars h n r e. waits_onward n falls falls_on vars h room _ q r e;
}

pub runs_are_one : RunsAreOne
runs_are_one s blocks vars w n g h a b = blocks_one s (recursing s) (recursing_follows s) blocks a.fuel b.fuel 0 vars w n g h a.by b.by

module _ (src : Source) (tables : List PlainTable) (graph : List (List PlainBlock)) where
  abbrev From : ℕ → Ref → ℕ → ℕ → List Frame → ℕ → List Var → List Value → ℕ → Option Step
  From = from src tables graph

  finished_one : (at : Ref) (method tx : ℕ) (frames : List Frame) (p q : Option Part) (s t : Step) → ((x y : Part) → p ≡ Some x → q ≡ Some y → x ≡ y) → finished src tables graph at method tx frames p ≡ Some s → finished src tables graph at method tx frames q ≡ Some t → s ≡ t
  finished_one at method tx frames None q s t one h k = absurd (none-some s h)
  finished_one at method tx frames (Some x) None s t one h k = absurd (none-some t k)
  finished_one at method tx frames (Some x) (Some y) s t one h k =
      same_Some _ _ (sym h ∙ ap (λ z. finished src tables graph at method tx frames (Some z)) (one x y refl refl) ∙ k)

  from_one : (fuel other : ℕ) (at : Ref) (method tx : ℕ) (frames : List Frame) (number : ℕ) (vars : List Var) (fields : List Value) (n : ℕ) (s t : Step) → From fuel at method tx frames number vars fields n ≡ Some s → From other at method tx frames number vars fields n ≡ Some t → s ≡ t
  from_one fuel other at method tx frames number vars fields n s t h k =
      finished_one at method tx frames _ _ s t
      (λ x y e f. blocks_one (site src tables graph at frames) (waiting (has_room frames)) (waiting_follows (has_room frames)) (blocks_of tables graph at.class method) fuel other number vars (record { fields = fields; wrote = false }) n x y e f) h k

  go_on_one : (fuel other : ℕ) (a : Option Awaits) (v : Value) (tx : ℕ) (l : Lasts) (fields : List Value) (n : ℕ) (s t : Step) → go_on src tables graph fuel a v tx l fields n ≡ Some s → go_on src tables graph other a v tx l fields n ≡ Some t → s ≡ t
  go_on_one fuel other None v tx l fields n s t h k = absurd (none-some s h)
  go_on_one fuel other (Some a) v tx l fields n s t h k = from_one fuel other l.last.at l.last.method tx l.before a.after (assigned l.last.vars a.into v) fields n s t h k

  catch_one : (fuel other : ℕ) (to : Option ℕ) (tx : ℕ) (l : Lasts) (fields : List Value) (n : ℕ) (s t : Step) → catch src tables graph fuel to tx l fields n ≡ Some s → catch src tables graph other to tx l fields n ≡ Some t → s ≡ t
  catch_one fuel other None tx l fields n s t h k = absurd (none-some s h)
  catch_one fuel other (Some to) tx l fields n s t h k = from_one fuel other l.last.at l.last.method tx l.before to l.last.vars fields n s t h k

  resume_one : (fuel other : ℕ) (o : Outcome) (tx : ℕ) (l : Option Lasts) (n : ℕ) (held : Option (List Value)) (s t : Step) → resume src tables graph fuel o tx l n held ≡ Some s → resume src tables graph other o tx l n held ≡ Some t → s ≡ t
  resume_one fuel other o tx None n held s t h k = absurd (none-some s h)
  resume_one fuel other o tx (Some l) n None s t h k = absurd (none-some s h)
  resume_one fuel other (outcome.Value v) tx (Some l) n (Some fields) s t h k = go_on_one fuel other (awaited_by src tables graph (block_of src tables graph l.last)) v tx l fields n s t h k
  resume_one fuel other (outcome.Failed f) tx (Some l) n (Some fields) s t h k = catch_one fuel other (caught_by src tables graph (block_of src tables graph l.last) f) tx l fields n s t h k

  step_one : (fuel other : ℕ) (k : EventKind) (tx : ℕ) (frames : List Frame) (n : ℕ) (held : Option (List Value)) (s t : Step) → step_of src tables graph fuel k tx frames n held ≡ Some s → step_of src tables graph other k tx frames n held ≡ Some t → s ≡ t
  step_one fuel other (kind.Enter at method args) tx frames n None s t h k = same_Some _ _ (sym h ∙ k)
  step_one fuel other (kind.Enter at method args) tx frames n (Some fields) s t h k = from_one fuel other at method tx frames 0 (bound (params_of (slice_get (methods_of src at.class) method)) args) fields n s t h k
  step_one fuel other (kind.Make at args) tx frames n None s t h k = same_Some _ _ (sym h ∙ k)
  step_one fuel other (kind.Make at args) tx frames n (Some fields) s t h k = same_Some _ _ (sym h ∙ k)
  step_one fuel other (kind.Resume o) tx frames n held s t h k = resume_one fuel other o tx (lasts frames) n held s t h k
  step_one fuel other (kind.Done o) tx frames n held s t h k = absurd (none-some s h)

pub steps_are_one : StepsAreOne
steps_are_one src tables graph e held s t a b = step_one src tables graph a.fuel b.fuel e.kind e.tx e.frames e.steps held s t a.by b.by
