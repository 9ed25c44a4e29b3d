-- Each step of an event makes it lighter: steps never grow, a call and a creation take one, and other results leave fewer frames.
use Rattle.std.proofs.Common.{◌≡◌, ℕ, zero, suc, arith, ◌+◌, ◌*◌, ◌≤◌, ◌<◌, Bool, true, false, Option, Some, None, List, [], ◌∷◌, ◌++◌, length, length-append, refl, sym, ap, ◌∙◌, subst}
use Rattle.std.specs.Prelude.{slice_get, if◌then◌else◌}
use Rattle.std.proofs.lemmas.Option.{same_Some, none-some}
use Rattle.std.proofs.lemmas.Bool.{ltb-true}
use Rattle.py_tree.specs.ClassRules.{PlainTable, body_of, params_of}
use Rattle.sf_value.specs.declared.Failure.{Failure}
use Rattle.sf_value.specs.declared.value.Value.{Value}
use Rattle.sf_value.specs.declared.value.Ref.{Ref}
use Rattle.sf_value.specs.declared.Outcome.{Outcome}
use Rattle.sf_value.specs.declared.Outcome.TheVariants as outcome
use Rattle.program_meaning.specs.declared.vars.Var.{Var}
use Rattle.program_meaning.specs.ClassTables.{Source, init_of, methods_of}
use Rattle.program_meaning.specs.World.{Gives, Got, Fell, Ends, Goes, Returns, Breaks, Continues, Fails, step, step_limit, recursion_error, no_entity, already_exists, assigned}
use Rattle.program_meaning.specs.Operations.{is_true}
use Rattle.program_meaning.specs.Evaluation.{Site, eval, eval_all}
use Rattle.program_meaning.specs.Calls.{Held, bound, made_record}
use Rattle.program_meaning.specs.StepsLeft.{left_in, left_at, CallsTakeSteps}
use Rattle.program_meaning.proofs.StepsTaken.{eval_takes, declares_take, own_calls_take}
use Rattle.block_code.specs.declared.event.Frame.{Frame}
use Rattle.block_code.specs.declared.event.Event.{Event}
use Rattle.block_code.specs.declared.event.EventKind.{EventKind}
use Rattle.block_code.specs.declared.event.EventKind.TheVariants as kind
use Rattle.block_code.specs.PlainBlocks.{PlainEnd, EJump, EBranch, ELeave, ECall, EMake, PlainCatch, PlainBlock}
use Rattle.block_code.specs.Places.{blocks_of}
use Rattle.block_code.specs.EventsFit.{Awaits, catch_of}
use Rattle.block_runs.proofs.Steps.{all_takes, items_take, parts_take}
use Rattle.block_runs.specs.BlockRuns.{Go, Fall, Exits, given_then, parts_of_call, run_items, run_end, fall_at, fall, behind, at_block, run_blocks}
use Rattle.block_runs.specs.EventStep.{Part, Gave, Failed, Asks, Wants, waiting, has_room, behind_it, up_to, Lasts, one_before, lasts, resumed, Step, given, caught, thrown, frame, site, finish, finished, from, created, go_on, catch, resume, step_of, block_of, awaited_by, caught_by}
use Rattle.block_runs.specs.StepFalls.{left_by_frames, weight, FewWait, StepsFall}

-- Parts

-- a result leaves no more steps, and a call or a creation, which has room, fewer
abbrev Falls : Bool → ℕ → Part → Type 0
Falls room n (Gave v h m) = m ≤ n
Falls room n (Failed f h m) = m ≤ n
Falls room n (Asks at method args number vars h m) = (room ≡ true) × (m < n)
Falls room n (Wants class args number vars h m) = (room ≡ true) × (m < n)

from_fewer : (room : Bool) (m n : ℕ) (p : Part) → m ≤ n → Falls room m p → Falls room n p
from_fewer room m n (Gave v h k) less q = omega (arith, less, q)
from_fewer room m n (Failed f h k) less q = omega (arith, less, q)
from_fewer room m n (Asks at method args number vars h k) less q = let few : k < m = q.1 in (q.0, omega (arith, less, few))
from_fewer room m n (Wants class args number vars h k) less q = let few : k < m = q.1 in (q.0, omega (arith, less, few))

module _ (s : Site Held) (calls : CallsTakeSteps s.calls) (room : Bool) where
  abbrev GoFalls : (ℕ → Go Held Part) → Type 0
  GoFalls go = (number : ℕ) (vars : List Var) (h : Held) (n : ℕ) (p : Part) → go number vars h n ≡ Some p → Falls room n p

  abbrev FallFalls : Fall Held Part → Type 0
  FallFalls falls = (f : Failure) (vars : List Var) (h : Held) (n : ℕ) (p : Part) → falls f vars h n ≡ Some p → Falls room n p

  -- what follows a part that gives no steps back
  given_falls : {A : Type 0} (vars : List Var) (g : Gives Held A) (falls : Fall Held Part) (f : A → Held → ℕ → Option Part) (n : ℕ) (p : Part) → left_in g ≤ n → FallFalls falls
      → ((y : A) (h : Held) (m : ℕ) → f y h m ≡ Some p → Falls room m p) → given_then vars g falls f ≡ Some p → Falls room n p
  given_falls vars (Got y h m) falls f n p less q r e = from_fewer room m n p less (r y h m e)
  given_falls vars (Fell x h m) falls f n p less q r e = from_fewer room m n p less (q x vars h m p e)

  fall_falls : (x : Exits Held Part) (catches : List PlainCatch) (go : ℕ → Go Held Part) → ((f : Failure) (h : Held) (n : ℕ) → x.fails f h n ≡ Failed f h n) → GoFalls go → FallFalls (fall x catches go)
  fall_falls x catches go fails q f vars h n p e = by (catch_of catches f.kind) e
    where
      by : (to : Option ℕ) → fall_at x to go f vars h n ≡ Some p → Falls room n p
      by None e = subst (Falls room n) (sym (fails f h n) ∙ same_Some _ _ e) (omega arith)
      by (Some to) e = q to vars h n p e

  -- a call, or a creation, at an end
  waits_fall : (falls : Fall Held Part) (vars : List Var) (h : Held) (n : ℕ) (part : ℕ → Part) (p : Part) → FallFalls falls → ((m : ℕ) → room ≡ true → Falls room (suc m) (part m))
      → step n (falls step_limit vars h n) (λ n. if room then Some (part n) else falls recursion_error vars h n) ≡ Some p → Falls room n p
  waits_fall falls vars h zero part p q r e = q step_limit vars h zero p e
  waits_fall falls vars h (suc n) part p q r e = by room refl e
    where
      by : (b : Bool) → room ≡ b → (if b then Some (part n) else falls recursion_error vars h n) ≡ Some p → Falls room (suc n) p
      by true is e = subst (Falls room (suc n)) (same_Some _ _ e) (r n is)
      by false is e = let less : n ≤ suc n = omega arith in from_fewer room n (suc n) p less (q recursion_error vars h n p e)

  end_falls : (number : ℕ) (go : ℕ → Go Held Part) (falls : Fall Held Part) → GoFalls go → FallFalls falls → (end : PlainEnd) (vars : List Var) (h : Held) (n : ℕ) (p : Part) → run_end s (waiting room) number go falls end vars h n ≡ Some p → Falls room n p
  unfolding run_end
  end_falls number go falls q r (EJump to) vars h n p e = q to vars h n p e
  end_falls number go falls q r (EBranch test holds other) vars h n p e =
      given_falls vars (eval s test vars h n) falls _ n p (eval_takes s calls test vars h n) r (λ v h m e. by (is_true v) h m e) e
    where
      by : (b : Bool) (h : Held) (m : ℕ) → (if b then go holds vars h m else go other vars h m) ≡ Some p → Falls room m p
      by true h m e = q holds vars h m p e
      by false h m e = q other vars h m p e
  end_falls number go falls q r ELeave vars h n p e = subst (Falls room n) (same_Some _ _ e) (omega arith)
  end_falls number go falls q r (ECall on class method args into after) vars h n p e =
      given_falls vars (parts_of_call s on args vars h n) falls _ n p (parts_take s calls on args vars h n) r (λ y h m e. waits_fall falls vars h m _ p r (λ k is. (is, omega arith)) e) e
  end_falls number go falls q r (EMake class args into after) vars h n p e =
      given_falls vars (eval_all s args [] vars h n) falls _ n p (all_takes s calls args [] vars h n) r (λ y h m e. waits_fall falls vars h m _ p r (λ k is. (is, omega arith)) e) e

  behind_falls : (end : Ends Held) (last : Go Held Part) (falls : Fall Held Part) (n : ℕ) (p : Part) → left_at end ≤ n → ((vars : List Var) (h : Held) (m : ℕ) → last vars h m ≡ Some p → Falls room m p) → FallFalls falls → behind (waiting room) end last falls ≡ Some p → Falls room n p
  behind_falls (Goes vars h m) last falls n p less q r e = from_fewer room m n p less (q vars h m e)
  behind_falls (Returns v h m) last falls n p less q r e = subst (Falls room n) (same_Some _ _ e) less
  behind_falls (Breaks vars h m) last falls n p less q r e = absurd (none-some p e)
  behind_falls (Continues vars h m) last falls n p less q r e = absurd (none-some p e)
  behind_falls (Fails f vars h m) last falls n p less q r e = from_fewer room m n p less (r f vars h m p e)

  pub blocks_fall : (blocks : List PlainBlock) (fuel : ℕ) → GoFalls (run_blocks s (waiting room) blocks fuel)
  unfolding run_blocks
  blocks_fall blocks zero number vars h n p e = absurd (none-some p e)
  blocks_fall blocks (suc fuel) number vars h n p e = by (slice_get blocks number) e (blocks_fall blocks fuel)
    where
      by : (b : Option PlainBlock) → at_block b (λ b vars h n. behind (waiting room) (run_items s b.code vars h n) (run_end s (waiting room) number (run_blocks s (waiting room) blocks fuel) (fall (waiting room) b.catches (run_blocks s (waiting room) blocks fuel)) b.end) (fall (waiting room) b.catches (run_blocks s (waiting room) blocks fuel))) vars h n ≡ Some p
          → GoFalls (run_blocks s (waiting room) blocks fuel) → Falls room n p
      by None e q = absurd (none-some p e)
      by (Some b) e q =
          behind_falls (run_items s b.code vars h n) _ _ n p (items_take s calls b.code vars h n)
          (λ vars h m e. end_falls number _ _ q (fall_falls (waiting room) b.catches _ (λ f h n. refl) q) b.end vars h m p e)
          (fall_falls (waiting room) b.catches _ (λ f h n. refl) q) e

-- Frames

fewer_up_to : (passes : Frame → Bool) (fs : List Frame) → length (up_to passes fs) ≤ length fs
unfolding up_to
fewer_up_to passes [] = omega arith
fewer_up_to passes (f ∷ fs) = by (up_to passes fs) (passes f) (fewer_up_to passes fs)
  where
    by : (rest : List Frame) (b : Bool) → length rest ≤ length fs → length (behind_it f rest b) ≤ suc (length fs)
    by [] true h = omega (arith, h)
    by [] false h = omega (arith, h)
    by (g ∷ gs) b h = let more : suc (length gs) ≤ length fs = h in omega (arith, more)

none_left : (fs : List Frame) → lasts fs ≡ None → length fs ≡ 0
unfolding lasts
none_left [] e = refl
none_left (f ∷ fs) e = absurd (by (lasts fs) e)
  where
    by : (o : Option Lasts) → one_before f o ≡ None → ⊥
    by None e = none-some _ (sym e)
    by (Some k) e = none-some _ (sym e)

one_less : (fs : List Frame) (l : Lasts) → lasts fs ≡ Some l → length fs ≡ suc (length l.before)
unfolding lasts
one_less [] l e = absurd (none-some l e)
one_less (f ∷ fs) l e = by (lasts fs) refl e (λ k is. one_less fs k is)
  where
    by : (o : Option Lasts) → lasts fs ≡ o → one_before f o ≡ Some l → ((k : Lasts) → lasts fs ≡ Some k → length fs ≡ suc (length k.before)) → suc (length fs) ≡ suc (length l.before)
    by None is e less = subst (λ (k : Lasts). suc (length fs) ≡ suc (length k.before)) (same_Some _ _ e) (ap suc (none_left fs is))
    by (Some k) is e less = subst (λ (k : Lasts). suc (length fs) ≡ suc (length k.before)) (same_Some _ _ e) (ap suc (less k is))

-- Steps

-- the next event of a transaction with these steps and frames is lighter
record Lighter (tx most frames : ℕ) (next : Event) : Type 0 where
  less : weight next < 65 * most + frames
  few : FewWait next
  same : next.tx ≡ tx

light_result : (frames : List Frame) (o : Outcome) → left_by_frames (resumed frames o) frames ≤ length frames
light_result [] o = omega arith
light_result (f ∷ fs) o = omega arith

module _ (src : Source) (tables : List PlainTable) (graph : List (List PlainBlock)) where
  given_lighter : (tx : ℕ) (frames : List Frame) (v : Value) (m n total : ℕ) → m ≤ n → length frames ≤ 63 → length frames < total → Lighter tx n total (given src tables graph tx frames v m)
  given_lighter tx frames v m n total less few more =
      let light : left_by_frames (resumed frames (outcome.Value v)) frames ≤ length frames = light_result frames (outcome.Value v) in
      record { less = omega (arith, less, light, more); few = few; same = refl }

  thrown_lighter : (tx : ℕ) (frames : List Frame) (f : Failure) (m n total : ℕ) → m ≤ n → length frames ≤ 63 → length frames < total → Lighter tx n total (thrown src tables graph tx frames f m)
  thrown_lighter tx frames f m n total less few more =
      let light : left_by_frames (resumed (caught src tables graph frames f) (outcome.Failed f)) (caught src tables graph frames f) ≤ length (caught src tables graph frames f) = light_result (caught src tables graph frames f) (outcome.Failed f) in
      let fewer : length (caught src tables graph frames f) ≤ length frames = fewer_up_to _ frames in
      record { less = omega (arith, less, light, fewer, more); few = omega (arith, fewer, few); same = refl }

  -- one frame more, and a step less
  one_more : (frames : List Frame) (f : Frame) → length (frames ++ f ∷ []) ≡ length frames + 1
  one_more frames f = length-append frames (f ∷ [])

  room_left : (frames : List Frame) → has_room frames ≡ true → length frames < 63
  room_left frames h = ltb-true (length frames) 63 h

  finish_lighter : (at : Ref) (method tx : ℕ) (frames : List Frame) (n total : ℕ) (p : Part) → length frames ≤ 63 → length frames < total → Falls (has_room frames) n p → Lighter tx n total (finish src tables graph at method tx frames p).next
  finish_lighter at method tx frames n total (Gave v h m) few more q = given_lighter tx frames v m n total q few more
  finish_lighter at method tx frames n total (Failed f h m) few more q = thrown_lighter tx frames f m n total q few more
  finish_lighter at method tx frames n total (Asks to called args number vars h m) few more q =
      let room : length frames < 63 = room_left frames q.0 in
      let less : m < n = q.1 in
      let waits : Frame = frame src tables graph at method number vars in
      let longer : length (frames ++ waits ∷ []) ≡ length frames + 1 = one_more frames waits in
      record { less = omega (arith, room, less, longer, more); few = omega (arith, room, longer); same = refl }
  finish_lighter at method tx frames n total (Wants class args number vars h m) few more q =
      let room : length frames < 63 = room_left frames q.0 in
      let less : m < n = q.1 in
      let waits : Frame = frame src tables graph at method number vars in
      let longer : length (frames ++ waits ∷ []) ≡ length frames + 1 = one_more frames waits in
      record { less = omega (arith, room, less, longer, more); few = omega (arith, room, longer); same = refl }

  from_lighter : (fuel : ℕ) (at : Ref) (method tx : ℕ) (frames : List Frame) (number : ℕ) (vars : List Var) (fields : List Value) (n total : ℕ) (s : Step) → length frames ≤ 63 → length frames < total
      → from src tables graph fuel at method tx frames number vars fields n ≡ Some s → Lighter tx n total s.next
  from_lighter fuel at method tx frames number vars fields n total s few more e =
      by (run_blocks (site src tables graph at frames) (waiting (has_room frames)) (blocks_of tables graph at.class method) fuel number vars (record { fields = fields; wrote = false }) n) refl e
    where
      by : (o : Option Part) → run_blocks (site src tables graph at frames) (waiting (has_room frames)) (blocks_of tables graph at.class method) fuel number vars (record { fields = fields; wrote = false }) n ≡ o
          → finished src tables graph at method tx frames o ≡ Some s → Lighter tx n total s.next
      by None is e = absurd (none-some s e)
      by (Some p) is e =
          subst (λ (s : Step). Lighter tx n total s.next) (same_Some _ _ e)
          (finish_lighter at method tx frames n total p few more (blocks_fall (site src tables graph at frames) (own_calls_take _ src _ _) (has_room frames) (blocks_of tables graph at.class method) fuel number vars _ n p is))

  created_lighter : (at : Ref) (tx : ℕ) (frames : List Frame) (n total : ℕ) (g : Gives (List Value) Value) → left_in g ≤ n → length frames ≤ 63 → length frames < total → Lighter tx n total (created src tables graph at tx frames g).next
  created_lighter at tx frames n total (Got v fields m) less few more = given_lighter tx frames _ m n total less few more
  created_lighter at tx frames n total (Fell f fields m) less few more = thrown_lighter tx frames f m n total less few more

  resume_lighter : (fuel : ℕ) (o : Outcome) (tx : ℕ) (l : Option Lasts) (n frames : ℕ) (held : Option (List Value)) (s : Step) → ((k : Lasts) → l ≡ Some k → frames ≡ suc (length k.before)) → frames ≤ 63
      → resume src tables graph fuel o tx l n held ≡ Some s → Lighter tx n frames s.next
  resume_lighter fuel o tx None n frames held s is few e = absurd (none-some s e)
  resume_lighter fuel o tx (Some l) n frames None s is few e = absurd (none-some s e)
  resume_lighter fuel (outcome.Value v) tx (Some l) n frames (Some fields) s is few e = by (awaited_by src tables graph (block_of src tables graph l.last)) e
    where
      by : (a : Option Awaits) → go_on src tables graph fuel a v tx l fields n ≡ Some s → Lighter tx n frames s.next
      by None e = absurd (none-some s e)
      by (Some a) e =
          let long : frames ≡ suc (length l.before) = is l refl in
          from_lighter fuel l.last.at l.last.method tx l.before a.after (assigned l.last.vars a.into v) fields n frames s (omega (arith, long, few)) (omega (arith, long)) e
  resume_lighter fuel (outcome.Failed f) tx (Some l) n frames (Some fields) s is few e = by (caught_by src tables graph (block_of src tables graph l.last) f) e
    where
      by : (to : Option ℕ) → catch src tables graph fuel to tx l fields n ≡ Some s → Lighter tx n frames s.next
      by None e = absurd (none-some s e)
      by (Some to) e =
          let long : frames ≡ suc (length l.before) = is l refl in
          from_lighter fuel l.last.at l.last.method tx l.before to l.last.vars fields n frames s (omega (arith, long, few)) (omega (arith, long)) e

  step_lighter : (fuel : ℕ) (k : EventKind) (tx : ℕ) (frames : List Frame) (n : ℕ) (held : Option (List Value)) (s : Step) → length frames ≤ 63 → step_of src tables graph fuel k tx frames n held ≡ Some s → Lighter tx n (left_by_frames k frames) s.next
  step_lighter fuel (kind.Enter at method args) tx frames n None s few e =
      subst (λ (s : Step). Lighter tx n (length frames + 1) s.next) (same_Some _ _ e) (thrown_lighter tx frames no_entity n n (length frames + 1) (omega arith) few (omega arith))
  step_lighter fuel (kind.Enter at method args) tx frames n (Some fields) s few e = from_lighter fuel at method tx frames 0 (bound (params_of (slice_get (methods_of src at.class) method)) args) fields n (length frames + 1) s few (omega arith) e
  step_lighter fuel (kind.Make at args) tx frames n None s few e =
      subst (λ (s : Step). Lighter tx n (length frames + 1) s.next) (same_Some _ _ e)
      (created_lighter at tx frames n (length frames + 1) (made_record src (at.class, at.key) args n) (declares_take src (at.class, at.key) (body_of (init_of src at.class)) (bound (params_of (init_of src at.class)) args) [] n) few (omega arith))
  step_lighter fuel (kind.Make at args) tx frames n (Some fields) s few e =
      subst (λ (s : Step). Lighter tx n (length frames + 1) s.next) (same_Some _ _ e) (thrown_lighter tx frames already_exists n n (length frames + 1) (omega arith) few (omega arith))
  step_lighter fuel (kind.Resume o) tx frames n held s few e = resume_lighter fuel o tx (lasts frames) n (length frames) held s (λ l is. one_less frames l is) few e
  step_lighter fuel (kind.Done o) tx frames n held s few e = absurd (none-some s e)

pub steps_fall : StepsFall
steps_fall src tables graph e held s few t =
    let l : Lighter e.tx e.steps (left_by_frames e.kind e.frames) s.next = step_lighter src tables graph t.fuel e.kind e.tx e.frames e.steps held s few t.by in
    (l.less, l.few, l.same)
