-- One event: what is meant, and what the code finds.
use Rattle.std.proofs.Common.{◌≡◌, ◌-◌, ℕ, false, Option, Some, None, Result, List, [], ◌∷◌, ◌++◌, length, refl, sym, ap, ◌∙◌, subst}
use Rattle.std.specs.Prelude.{nat_lt, IfOk}
use Rattle.std.specs.declared.alloc.AllocError.{AllocError}
use Rattle.std.proofs.lemmas.Option.{same_Some, none-some}
use Rattle.sf_value.specs.Keys.{key_of}
use Rattle.sf_value.specs.declared.Failure.{Failure}
use Rattle.sf_value.specs.declared.Outcome.{Outcome}
use Rattle.sf_value.specs.declared.Outcome.TheVariants as outcome
use Rattle.sf_value.specs.declared.value.Record.{Record}
use Rattle.sf_value.specs.declared.value.Ref.{Ref}
use Rattle.sf_value.specs.declared.value.Value.{Value}
use Rattle.program_meaning.specs.declared.vars.Var.{Var}
use Rattle.program_meaning.specs.World.{assigned}
use Rattle.program_meaning.specs.Calls.{on_record}
use Rattle.program_meaning.specs.RequestRun.{depth_limit}
use Rattle.program_meaning.specs.Sources.{source_of}
use Rattle.source_meaning.proofs.HereAnswers.{mapped_ok}
use Rattle.block_code.specs.declared.event.Frame.{Frame}
use Rattle.block_code.specs.declared.event.EventKind.TheVariants as kind
use Rattle.block_code.specs.Places.{blocks_of, block_at}
use Rattle.block_code.specs.PlainBlocks.{PlainBlock}
use Rattle.block_code.specs.EventsFit.{Awaits, awaited, catch_of, CallsIt, WaitsSo, EventFits}
use Rattle.block_runs.specs.BlockRuns.{run_blocks}
use Rattle.block_runs.specs.EventStep.{Part as BlockPart, Asks, lasts, Step, waiting, has_room, finished, site, go_on, awaited_by, catch, caught_by, resume}
use Rattle.block_runs.proofs.Frames.{last_holds}
use Rattle.event_step.specs.declared.method.Place.{Place}
use Rattle.event_step.specs.declared.method.Running.{Running}
use Rattle.event_step.specs.declared.method.Part.{Part}
use Rattle.event_step.specs.declared.method.Part.TheVariants as part
use Rattle.event_step.specs.declared.handling.Handled.{Handled}
use Rattle.event_step.specs.declared.entered.Code.{Code}
use Rattle.event_step.specs.declared.entered.Entered.{Entered}
use Rattle.event_step.specs.Running.{held_of}
use Rattle.event_step.specs.Turns.{ComesAs, Runs, CanRun}
use Rattle.event_step.specs.Steps.{as_step, source_in, tables_in, blocks_in, frame_in, handled_waiting, Meant, from_in, finish_in, going_on_in, catching_in, resuming_in, ComesTo, Due, DueToResume, CallsThere, FinishFits, FinishesAs}
use Rattle.event_step.proofs.FrameLaws.{lasts_behind}

-- what a method comes to from a block on
pub record Came (code : Code) (entered : Entered) (place : Place) (number : ℕ) (running : Running) (s : Step) : Type 0 where
  pub part : BlockPart
  pub runs : Runs place (blocks_of (tables_in code) (blocks_in code) entered.at.class entered.method) number running part
  pub is : finish_in code entered part ≡ s

came_by : (code : Code) (entered : Entered) (o : Option BlockPart) (s : Step) → finished (source_in code) (tables_in code) (blocks_in code) entered.at entered.method entered.tx entered.frames o ≡ Some s → (p : BlockPart) × (o ≡ Some p) × (finish_in code entered p ≡ s)
came_by code entered None s is = absurd (none-some s is)
came_by code entered (Some p) s is = (p, refl, same_Some _ _ is)

pub came : (code : Code) (entered : Entered) (place : Place) (number : ℕ) (running : Running) (s : Step) (fuel : ℕ) → place.program.now ≡ code.program.now → key_of place.me.now ≡ (entered.at.class, entered.at.key)
    → depth_limit - place.depth ≡ 63 - length entered.frames → nat_lt place.depth depth_limit ≡ nat_lt (length entered.frames) 63 → running.wrote ≡ false → from_in code entered number running fuel ≡ Some s → Came code entered place number running s
came code entered place number running s fuel program me left room unwritten is =
    let blocks : List PlainBlock = blocks_of (tables_in code) (blocks_in code) entered.at.class entered.method in
    let c : (p : BlockPart) × (run_blocks (site (source_in code) (tables_in code) (blocks_in code) entered.at entered.frames) (waiting (has_room entered.frames)) blocks fuel number running.vars (record { fields = running.held.fields; wrote = false }) running.steps ≡ Some p) × (finish_in code entered p ≡ s) =
    came_by code entered _ s is in
    record {
      part = c.0;
      runs = record {
        fuel = fuel;
        by = (λ i. run_blocks (on_record (source_of (program i)) (me i) (left i)) (waiting (room i)) blocks fuel number running.vars (record { fields = running.held.fields; wrote = unwritten i }) running.steps) ∙ c.1;
      };
      is = c.2;
    }

-- A method that is due

module _ (code : Code) (entered : Entered) (place : Place) (number : ℕ) (running : Running) (blocks : List PlainBlock)
    (program : place.program.now ≡ code.program.now) (me : key_of place.me.now ≡ (entered.at.class, entered.at.key))
    (left : depth_limit - place.depth ≡ 63 - length entered.frames) (room : nat_lt place.depth depth_limit ≡ nat_lt (length entered.frames) 63)
    (unwritten : running.wrote ≡ false) (same : blocks ≡ blocks_of (tables_in code) (blocks_in code) entered.at.class entered.method)
    (due : Due code entered.at.class entered.method (from_in code entered number running)) where
  here : Came code entered place number running due.step
  here = came code entered place number running due.step due.comes.fuel program me left room unwritten due.comes.by

  runs : Runs place blocks number running here.part
  runs = subst (λ bs. Runs place bs number running here.part) (sym same) here.runs

  pub can_run : CanRun place blocks number running
  can_run = record { part = here.part; runs = runs }

  module _ (x : Part) (after : Running) (comes : (p : BlockPart) → Runs place blocks number running p → ComesAs x after p) where
    fits : EventFits (tables_in code) (blocks_in code) (finish_in code entered here.part).next
    fits = subst (λ (s : Step). EventFits (tables_in code) (blocks_in code) s.next) (sym here.is) due.next_fits

    pub finish_fits : FinishFits code entered after x
    finish_fits = record { part = here.part; is = comes here.part runs; fits = fits }

    pub run_comes : (result : Result Handled AllocError) → FinishesAs result code entered after x → IfOk result (λ h. ComesTo (from_in code entered number running) (as_step h))
    run_comes result finishes =
        mapped_ok result (λ h. as_step h ≡ finish_in code entered here.part) (λ h. ComesTo (from_in code entered number running) (as_step h))
        (λ h is. subst (ComesTo (from_in code entered number running)) (sym (is ∙ here.is)) due.comes) (finishes here.part (comes here.part runs) fits)

-- A call

-- a method that waits for a call, and goes on in an event that fits, waits at an end that calls that method
pub record CallsIn (code : Code) (entered : Entered) (running : Running) (to : Ref) (args : List Value) (number : ℕ) (p : BlockPart) : Type 0 where
  pub there : CallsThere (tables_in code) (blocks_in code) entered.at.class entered.method number
  pub is : p ≡ Asks (key_of to) there.called args number running.vars (held_of running) running.steps

pub calls_in : (code : Code) (entered : Entered) (running : Running) (to : Ref) (args : List Value) (number : ℕ) (p : BlockPart) → ComesAs (part.Asks to args number) running p → EventFits (tables_in code) (blocks_in code) (finish_in code entered p).next → CallsIn code entered running to args number p
calls_in code entered running to args number p comes fits =
    let asks : BlockPart = Asks (key_of to) comes.0 args number running.vars (held_of running) running.steps in
    let here : EventFits (tables_in code) (blocks_in code) (finish_in code entered asks).next = subst (λ q. EventFits (tables_in code) (blocks_in code) (finish_in code entered q).next) comes.1 fits in
    let one : Frame = frame_in code entered number running.vars in
    let waits : WaitsSo (tables_in code) (blocks_in code) (λ b. CallsIt b.end to.class comes.0) one =
    last_holds (tables_in code) (blocks_in code) (WaitsSo (tables_in code) (blocks_in code) (λ b. CallsIt b.end to.class comes.0)) (entered.frames ++ one ∷ []) (record { before = entered.frames; last = one }) (lasts_behind entered.frames one) here.kind.1 in
    record { there = record { waits = waits.waits; is_block = waits.is_block; to = to.class; called = comes.0; calls = waits.so }; is = comes.1 }

pub call_finishes : (code : Code) (entered : Entered) (running : Running) (to : Ref) (args : List Value) (number method : ℕ) (result : Result Handled AllocError)
    → ((c : CallsThere (tables_in code) (blocks_in code) entered.at.class entered.method number) → method ≡ c.called)
    → IfOk result (λ h. h ≡ handled_waiting code entered running number (kind.Enter to method args)) → FinishesAs result code entered running (part.Asks to args number)
call_finishes code entered running to args number method result called waits p comes fits =
    let c : CallsIn code entered running to args number p = calls_in code entered running to args number p comes fits in
    mapped_ok result (λ h. h ≡ handled_waiting code entered running number (kind.Enter to method args)) (λ h. as_step h ≡ finish_in code entered p)
    (λ h is.
    ap as_step is
    ∙ ap (λ m. as_step (handled_waiting code entered running number (kind.Enter to m args))) (called c.there)
    ∙ ap (finish_in code entered) (sym c.is)) waits

-- A frame that goes on

pub comes_as : (o q : Meant) (s : Step) → ((fuel : ℕ) → o fuel ≡ q fuel) → ComesTo o s → ComesTo q s
comes_as o q s same c = record { fuel = c.fuel; by = sym (same c.fuel) ∙ c.by }

pub ok_comes_as : (result : Result Handled AllocError) (o q : Meant) → ((fuel : ℕ) → o fuel ≡ q fuel) → IfOk result (λ h. ComesTo o (as_step h)) → IfOk result (λ h. ComesTo q (as_step h))
ok_comes_as result o q same ok = mapped_ok result (λ h. ComesTo o (as_step h)) (λ h. ComesTo q (as_step h)) (λ h c. comes_as o q (as_step h) same c) ok

module _ (code : Code) (last : Frame) (tx : ℕ) (frames : List Frame) (n : ℕ) (held : Record) where
  abbrev behind : Entered
  behind = record { at = last.at; method = last.method; tx = tx; frames = frames }

  abbrev going : List Var → Running
  going vars = record { held = held; wrote = false; vars = vars; steps = n }

  pub goes_on_from : (v : Value) (vars : List Var) (b : PlainBlock) (w : Awaits) → Some b ≡ block_at (tables_in code) (blocks_in code) last.at.class last.method last.block → Some w ≡ awaited b.end → vars ≡ assigned last.vars w.into v
      → (fuel : ℕ) → from_in code behind w.after (going vars) fuel ≡ going_on_in code last v tx frames n held.fields fuel
  goes_on_from v vars b w there waits put fuel =
      let from_here : Option PlainBlock → Option Step = λ o. go_on (source_in code) (tables_in code) (blocks_in code) fuel (awaited_by (source_in code) (tables_in code) (blocks_in code) o) v tx (record { before = frames; last = last }) held.fields n in
      (λ i. from_in code behind w.after (going (put i)) fuel)
      ∙ ap (λ o. go_on (source_in code) (tables_in code) (blocks_in code) fuel o v tx (record { before = frames; last = last }) held.fields n) waits
      ∙ ap from_here there

  pub caught_from : (f : Failure) (b : PlainBlock) (to : ℕ) → Some b ≡ block_at (tables_in code) (blocks_in code) last.at.class last.method last.block → Some to ≡ catch_of b.catches f.kind
      → (fuel : ℕ) → from_in code behind to (going last.vars) fuel ≡ catching_in code last f tx frames n held.fields fuel
  caught_from f b to there catches fuel =
      let from_here : Option PlainBlock → Option Step = λ o. catch (source_in code) (tables_in code) (blocks_in code) fuel (caught_by (source_in code) (tables_in code) (blocks_in code) o f) tx (record { before = frames; last = last }) held.fields n in
      ap (λ o. catch (source_in code) (tables_in code) (blocks_in code) fuel o tx (record { before = frames; last = last }) held.fields n) catches
      ∙ ap from_here there

  module _ (o : Outcome) (all : List Frame) (is : lasts all ≡ Some (record { before = frames; last = last })) where
    pub resumes_value : (v : Value) → o ≡ outcome.Value v → (fuel : ℕ) → resuming_in code o tx all n (Some held.fields) fuel ≡ going_on_in code last v tx frames n held.fields fuel
    resumes_value v value fuel = λ i. resume (source_in code) (tables_in code) (blocks_in code) fuel (value i) tx (is i) n (Some held.fields)

    pub resumes_failure : (f : Failure) → o ≡ outcome.Failed f → (fuel : ℕ) → resuming_in code o tx all n (Some held.fields) fuel ≡ catching_in code last f tx frames n held.fields fuel
    resumes_failure f failure fuel = λ i. resume (source_in code) (tables_in code) (blocks_in code) fuel (failure i) tx (is i) n (Some held.fields)

    pub last_is_due : (q : Meant) → ((fuel : ℕ) → resuming_in code o tx all n (Some held.fields) fuel ≡ q fuel) → DueToResume code all (resuming_in code o tx all n (Some held.fields)) → Due code last.at.class last.method q
    last_is_due q same due = record { step = due.step; comes = comes_as _ q due.step same due.comes; next_fits = due.next_fits; fall = due.fall (record { before = frames; last = last }) is }
