-- A flight goes on as its transaction does.
use Rattle.std.proofs.Common.{◌≡◌, ◌∙◌, ◌<◌, Bool, true, false, ◌||◌, cond, Option, Some, None, List, refl, sym, ap, subst}
use Rattle.std.specs.Prelude.{is_some, if◌then◌else◌}
use Rattle.std.specs.Option.{option_or}
use Rattle.std.specs.Ordering.{eq_by_cmp}
use Rattle.std.specs.FinMap as map
use Rattle.std.specs.FinSet as set
use Rattle.std.proofs.lemmas.Option.{same_Some}
use Rattle.py_tree.specs.ClassRules.{PlainTable}
use Rattle.sf_value.specs.Keys.{Key, key_cmp, key_of}
use Rattle.sf_value.proofs.Maps.{key_total, key_exact, tied_key}
use Rattle.sf_value.specs.declared.value.Value.{Value}
use Rattle.sf_value.specs.declared.value.Ref.{Ref}
use Rattle.program_meaning.specs.ClassTables.{Source}
use Rattle.program_meaning.specs.World.{State, World}
use Rattle.program_meaning.specs.NothingGoesWrong.{IsKnownAccepted}
use Rattle.program_meaning.proofs.Soundness.{checked_are_known}
use Rattle.keyed_state.specs.declared.Work.{Work}
use Rattle.keyed_state.specs.Works.{no_work}
use Rattle.block_code.specs.declared.event.Event.{Event}
use Rattle.block_code.specs.PlainBlocks.{PlainBlock}
use Rattle.block_code.specs.EventsFit.{EventFits}
use Rattle.block_runs.specs.EventStep.{Step, StepsTo, lasts, target_of}
use Rattle.block_runs.specs.StepFits.{IsReady}
use Rattle.block_runs.specs.StepFalls.{weight}
use Rattle.block_runs.proofs.FuelLaws.{steps_are_one}
use Rattle.quiet_methods.specs.MarksKeepWithin.{source}
use Rattle.request_events.specs.RequestEvents.{with_left, behind}
use Rattle.block_step.specs.declared.compiled.Compiled.{Compiled}
use Rattle.block_step.specs.CompiledViews.{compiled_program, compiled_names, compiled_tables, compiled_blocks, IsWhole}
use Rattle.transaction_buffers.specs.Buffered.{Buffered, seen, noted}
use Rattle.transaction_steps.specs.Transactions.{Transaction, handled, is_done}
use Rattle.transaction_steps.specs.GoingOn.{TransactionFits, GoesOn}
use Rattle.transaction_steps.proofs.FramesLeft.{stays_there, is_left}
use Rattle.transaction_steps.proofs.GoingOn.{transactions_go_on, targets_are_of_few_classes}
use Rattle.operator_graph.specs.declared.flight.Flight.{Flight}
use Rattle.operator_graph.specs.Stepping.{CanStep, HasStepped, IsSettled, HasGoneOn}
use Rattle.operator_graph.specs.Flights.{IsBuffered, IsTransaction}
use Rattle.operator_graph.proofs.WorkLaws.{work_has_it}

-- What is noted

-- the record that is seen behind an event
seen_then : (s own snapshot : State) (at : Key) (left : Option (List Value)) (q : Key) → map.get s q ≡ option_or (map.get own q) (map.get snapshot q) → map.get (with_left s at left) q ≡ option_or (map.get (with_left own at left) q) (map.get snapshot q)
seen_then s own snapshot at None q is = is
seen_then s own snapshot at (Some fields) q is = by (eq_by_cmp key_cmp q at) (map.get-insert key_total s at fields q) (map.get-insert key_total own at fields q)
  where
    by : (b : Bool) → map.get (map.insert s at fields) q ≡ cond b (Some fields) (map.get s q) → map.get (map.insert own at fields) q ≡ cond b (Some fields) (map.get own q)
        → map.get (map.insert s at fields) q ≡ option_or (map.get (map.insert own at fields) q) (map.get snapshot q)
    by true there here = there ∙ ap (λ o. option_or o (map.get snapshot q)) (sym here)
    by false there here = there ∙ is ∙ ap (λ o. option_or o (map.get snapshot q)) (sym here)

-- each entity that was written keeps a record of its own
own_then : (b : Buffered) (at : Key) (left : Option (List Value)) (wrote : Bool) → ((q : Key) → set.contains b.writes q ≡ true → is_some (map.get b.own q) ≡ true) → (wrote ≡ true → is_some left ≡ true)
    → (q : Key) → set.contains (noted b at left wrote).writes q ≡ true → is_some (map.get (with_left b.own at left) q) ≡ true
own_then b at left false own there q is = stays_there b.own at left q (own q is)
own_then b at left true own there q is = by (eq_by_cmp key_cmp q at) refl (set.contains-insert key_total b.writes at q)
  where
    by : (t : Bool) → eq_by_cmp key_cmp q at ≡ t → set.contains (set.insert b.writes at) q ≡ (t || set.contains b.writes q) → is_some (map.get (with_left b.own at left) q) ≡ true
    by true tie same = subst (λ k. is_some (map.get (with_left b.own at left) k) ≡ true) (sym (tied_key q at tie)) (is_left b.own at left (there refl))
    by false tie same = stays_there b.own at left q (own q (sym same ∙ is))

noted_so : (snapshot : State) (w : World) (b : Buffered) (at : Key) (s : Step) → IsBuffered snapshot w b → (s.wrote ≡ true → is_some s.held ≡ true) → IsBuffered snapshot (behind w at s) (noted b at s.held s.wrote)
noted_so snapshot w b at s is there = record {
  state = λ q. seen_then w.state b.own snapshot at s.held q (is.state q);
  reads = ap (λ keys. set.insert keys at) is.reads;
  writes = ap (λ keys. if s.wrote then set.insert keys at else keys) is.writes;
  own = own_then b at s.held s.wrote is.own there;
}

-- Steps

module _ (c : Compiled) (whole : IsWhole c) (snapshot : State) where
  abbrev src : Source
  src = source (compiled_names c) (compiled_program c)

  abbrev tables : List PlainTable
  tables = compiled_tables c

  abbrev blocks : List (List PlainBlock)
  blocks = compiled_blocks c

  accepted : IsKnownAccepted (compiled_names c) (compiled_program c)
  accepted = checked_are_known c.program

  pub goes_on : (t : Transaction) → TransactionFits tables blocks t → is_done t.next.kind ≡ false → GoesOn src tables blocks t
  goes_on =
      subst (λ (ts : List PlainTable). (t : Transaction) → TransactionFits ts blocks t → is_done t.next.kind ≡ false → GoesOn src ts blocks t) (sym whole.has_tables)
      (transactions_go_on (compiled_names c) (compiled_program c) accepted blocks whole.fits)

  pub few_classes : (e : Event) → EventFits tables blocks e → (target : Ref) → target_of e.kind (lasts e.frames) ≡ Some target → target.class < 256
  few_classes =
      subst (λ (ts : List PlainTable). (e : Event) → EventFits ts blocks e → (target : Ref) → target_of e.kind (lasts e.frames) ≡ Some target → target.class < 256) (sym whole.has_tables)
      (targets_are_of_few_classes (compiled_names c) (compiled_program c) accepted blocks)

  pub can_step : (t : Transaction) (f : Flight) → t.next ≡ f.next → IsBuffered snapshot t.world f.buffers → GoesOn src tables blocks t → CanStep c snapshot f
  can_step t f next own g = record {
    target = g.target;
    is_target = ap (λ (e : Event). target_of e.kind (lasts e.frames)) (sym next) ∙ g.is_target;
    ready = subst (λ (e : Event). IsReady tables blocks e (seen snapshot f.buffers (key_of g.target))) next (subst (IsReady tables blocks t.next) (own.state (key_of g.target)) g.ready);
  }

  -- a flight that has handled its event is its transaction behind this
  record Follows (t : Transaction) (f : Flight) : Type 0 where
    next : t.next ≡ f.next
    own : IsBuffered snapshot t.world f.buffers

  stepped : (t : Transaction) (f between : Flight) → t.next ≡ f.next → IsBuffered snapshot t.world f.buffers → GoesOn src tables blocks t → HasStepped c snapshot f between → Follows (handled src tables blocks t) between
  stepped t f between next own g h =
      let target : g.target ≡ h.target = same_Some _ _ (sym g.is_target ∙ ap (λ (e : Event). target_of e.kind (lasts e.frames)) next ∙ h.is_target) in
      let held : map.get t.world.state (key_of g.target) ≡ seen snapshot f.buffers (key_of h.target) = own.state (key_of g.target) ∙ ap (λ (at : Ref). seen snapshot f.buffers (key_of at)) target in
      let by : StepsTo src tables blocks t.next (map.get t.world.state (key_of g.target)) h.handled.step =
      subst (λ (o : Option (List Value)). StepsTo src tables blocks t.next o h.handled.step) (sym held)
      (subst (λ (e : Event). StepsTo src tables blocks e (seen snapshot f.buffers (key_of h.target)) h.handled.step) (sym next) h.handled.by) in
      let step : g.step ≡ h.handled.step = steps_are_one src tables blocks t.next (map.get t.world.state (key_of g.target)) g.step h.handled.step g.by by in
      let after : Transaction = record { world = behind t.world (key_of h.target) h.handled.step; next = h.handled.step.next } in
      let is : handled src tables blocks t ≡ after = g.is ∙ (λ i. record { world = behind t.world (key_of (target i)) (step i); next = (step i).next }) in
      let there : h.handled.step.wrote ≡ true → is_some h.handled.step.held ≡ true = subst (λ (s : Step). s.wrote ≡ true → is_some s.held ≡ true) step g.written_is_there in
      subst (λ (u : Transaction). Follows u between) (sym is) (record {
        next = sym h.handled.is_next;
        own = subst (IsBuffered snapshot after.world) (sym h.handled.buffers) (noted_so snapshot t.world f.buffers (key_of h.target) h.handled.step own there);
      })

  settled : (t : Transaction) (between new : Flight) (before after : Work) → Follows t between → before ≡ no_work → IsSettled between new before after → IsTransaction snapshot t new after
  settled t between new before after f empty s =
      let kind : is_done new.next.kind ≡ is_done between.next.kind = ap (λ (e : Event). is_done e.kind) s.next in
      record {
        next = f.next ∙ sym s.next;
        goes_on = λ runs. let same = s.goes_on (sym kind ∙ runs) in (subst (IsBuffered snapshot t.world) (sym same.0) f.own, same.1 ∙ empty);
        is_over = λ over. work_has_it snapshot t between.buffers between.next.kind after (ap (λ (e : Event). e.kind) f.next) f.own (s.is_over (sym kind ∙ over));
      }

  pub gone_on : (t : Transaction) (f new : Flight) (before after : Work) → IsTransaction snapshot t f before → is_done f.next.kind ≡ false → GoesOn src tables blocks t → HasGoneOn c snapshot f new before after
      → IsTransaction snapshot (handled src tables blocks t) new after
  gone_on t f new before after is runs g h =
      let own = is.goes_on runs in
      settled (handled src tables blocks t) h.between new before after (stepped t f h.between is.next own.0 g h.stepped) own.1 h.settled

  -- and it weighs less
  pub is_lighter : (t : Transaction) (f new : Flight) (before after : Work) → IsTransaction snapshot t f before → is_done f.next.kind ≡ false → GoesOn src tables blocks t → HasGoneOn c snapshot f new before after → weight new.next < weight f.next
  is_lighter t f new before after is runs g h =
      let moved : IsTransaction snapshot (handled src tables blocks t) new after = gone_on t f new before after is runs g h in
      let next : g.step.next ≡ new.next = ap (λ (u : Transaction). u.next) (sym g.is) ∙ moved.next in
      subst (λ (e : Event). weight e < weight f.next) next (subst (λ (e : Event). weight g.step.next < weight e) is.next g.lighter)

  -- two transactions that are what a flight is that goes on are one
  pub is_one : (t u : Transaction) (f : Flight) (work : Work) → IsTransaction snapshot t f work → IsTransaction snapshot u f work → is_done f.next.kind ≡ false → t ≡ u
  is_one t u f work a b runs =
      let one : IsBuffered snapshot t.world f.buffers = (a.goes_on runs).0 in
      let other : IsBuffered snapshot u.world f.buffers = (b.goes_on runs).0 in
      let state : t.world.state ≡ u.world.state = map.same_map key_total key_exact _ _ (λ q. one.state q ∙ sym (other.state q)) in
      λ i. record { world = record { state = state i; reads = (one.reads ∙ sym other.reads) i; writes = (one.writes ∙ sym other.writes) i }; next = (a.next ∙ sym b.next) i }
