-- What a line comes to, from what it comes to once it was taken.
use Rattle.std.proofs.Common.{◌≡◌, ℕ, ◌+◌, ◌-◌, ◌<◌, ◌≤◌, ◌^◌, inl, inr, Bool, true, false, true≢false, List, [], ◌∷◌, ◌++◌, length, Option, Some, None, Ok, Err, sym, ap, ◌∙◌, subst, arith}
use Rattle.std.proofs.lemmas.Bool.{ltb-true, leb-false}
use Rattle.std.proofs.lemmas.List.{length-append}
use Rattle.std.specs.Prelude.{OnOk, is_err}
use Rattle.std.specs.declared.result.Result.{Result}
use Rattle.std.specs.Io.KnownBytes.{Appends}
use Rattle.std.proofs.KnownBytes.{Appends-trans}
use Rattle.sf_value.specs.declared.Request.{Request}
use Rattle.sf_outside.specs.Bytes.{AppendsPrefix}
use Rattle.sf_outside.specs.DiskModel.{DiskFacts}
use Rattle.sf_outside.specs.declared.gains.WriteStop.TheVariants as write
use Rattle.sf_outside.specs.Gains.{joined}
use Rattle.sf_outside.proofs.GainLaws.{Wrote-after, joined-append}
use Rattle.serial_order.specs.ConflictFree.{Access}
use Rattle.reservations.specs.CommitRules.{Chosen}
use Rattle.request_json.specs.Actions.{Line, Action, Skip, Refuse, Ask, action_of}
use Rattle.block_step.specs.declared.compiled.Compiled.{Compiled}
use Rattle.operator_graph.specs.Turns.{Outside}
use Rattle.batch_replies.specs.Vocabulary.{StoreSettings, logged_of}
use Rattle.engine.specs.declared.arrival.Arrival.{Arrival}
use Rattle.engine.specs.declared.arrival.Arrival.TheVariants as arrival
use Rattle.engine.specs.declared.engine.Engine.{Engine}
use Rattle.engine.specs.Cores.{Core}
use Rattle.engine.specs.EngineViews.{core_of, source_of, compiled_of, limit_of, RunsProgram}
use Rattle.engine.specs.Arrivals.{joined as joins, arrival_of}
use Rattle.batch_replies.specs.Vocabulary.{Standing, answer, taken, fills, is_due, batch_lines, IsLawfulRule}
use Rattle.batch_replies.specs.Moments.{Logs}
use Rattle.batch_replies.proofs.MomentLaws.{Logs-same}
use Rattle.batch_replies.proofs.Vocabulary.{fewer_wait, same_source}
use Rattle.batch_replies.specs.declared.counting.BatchCounts.{BatchCounts}
use Rattle.batch_replies.specs.declared.stops.Stop.{Stop}
use Rattle.batch_replies.specs.declared.stops.Stop.TheVariants.{HistoryFull, NoMemory, DiskFault, WriteFault}
use Rattle.batch_replies.specs.Stops.{disk_failed}
use Rattle.batch_replies.specs.BatchAnswers.{core_behind, Answers, TellsBatch}
use Rattle.line_answers.specs.Services.{Service, program_of, limits_of, service_of}
use Rattle.line_answers.specs.LineAnswers.{before, Moment, Move, move_at, ran_by, Moves, AnswersLine, batch_on, line_result}

-- an engine that runs the same program serves the same
pub same_service : (old new : Engine) → RunsProgram new (compiled_of old) (limit_of old) → (rule : List Access → Chosen) (size parts : ℕ) → service_of new rule size parts ≡ service_of old rule size parts
same_service old new runs rule size parts =
    ap (λ (c : Compiled). let v : Service = record { compiled = c; parts = parts; rule = rule; limits = limits_of size (limit_of new) } in v) runs.compiled_is
    ∙ ap (λ (n : ℕ). let v : Service = record { compiled = compiled_of old; parts = parts; rule = rule; limits = limits_of size n } in v) runs.limit_is

-- what holds of a call that didn't fail
pub where_ok : {T E : Type 0} (result : Result T E) (P : Type 0) → false ≡ is_err result → OnOk result P → P
where_ok (Ok value) P fine holds = holds
where_ok (Err error) P fine holds = absurd (true≢false (sym fine))

-- the disk failed at a line where it did at its batch
pub fails_so : (result : Result BatchCounts Stop) (told : Result (Option BatchCounts) Stop) → told ≡ line_result result → disk_failed result ≡ disk_failed told
fails_so (Ok counts) told is = ap disk_failed (sym is)
fails_so (Err stop) told is = ap disk_failed (sym is)

-- Behind lines that were written

whole_then : (start between end : Option (List ℕ)) (lines more : List (List ℕ)) → Appends start between (joined lines) → Appends between end (joined more) → Appends start end (joined (lines ++ more))
whole_then start between end lines more first rest = subst (Appends start end) (sym (joined-append lines more)) (Appends-trans start between end (joined lines) (joined more) first rest)

part_then : (start between end : Option (List ℕ)) (lines more : List (List ℕ)) → Appends start between (joined lines) → AppendsPrefix between end (joined more) → AppendsPrefix start end (joined (lines ++ more))
part_then start between end lines more first rest = Wrote-after {T = Unit {0}} {U = Unit {0}} tt (Err write.WriteFault) start between end lines more first rest

module _ (v : Service) where
  -- a batch was due, and came to this behind what was written at once
  pub batch_moved : (result : Result BatchCounts Stop) (m : Move) (old new : Moment) (between : Option (List ℕ)) → m.is_due ≡ true
      → Appends old.held between (joined m.answer) → Answers (program_of v) v.rule v.limits result m.core new.core between new.held → TellsBatch (batch_on v.compiled m.core) v.parts result old.outside new.outside
      → Moves v (line_result result) m old new
  batch_moved (Ok counts) m old new between due first a told = record {
    due = due;
    place = a.0;
    ran = record { counted = a.1; told = told };
    core = a.2;
    wrote = whole_then old.held between new.held m.answer (batch_lines (program_of v) v.rule v.limits m.core) first a.3;
  }
  batch_moved (Err HistoryFull) m old new between due first a told = record {
    due = due;
    full = a.0;
    core = a.1;
    wrote = subst (λ h. Appends old.held h (joined m.answer)) (sym a.2) first;
    untold = told;
  }
  batch_moved (Err NoMemory) m old new between due first a told = record {
    due = due;
    place = a.0;
    core = a.1;
    wrote = subst (λ h. Appends old.held h (joined m.answer)) (sym a.2) first;
    begun = told;
  }
  batch_moved (Err DiskFault) m old new between due first a told = record {
    due = due;
    place = a.0;
    core = a.1;
    wrote = subst (λ h. Appends old.held h (joined m.answer)) (sym a.2) first;
    events = told.0;
    told = told.1;
  }
  batch_moved (Err WriteFault) m old new between due first a told =
      inr (record {
        due = due;
        place = a.0;
        events = told.0;
        told = told.1;
        core = a.1;
        part = part_then old.held between new.held m.answer (batch_lines (program_of v) v.rule v.limits m.core) first a.2;
      })

  -- A line

  -- what a line that was taken does
  taken_move : (core next : Core) (number : ℕ) (line : Line) (lines : List (List ℕ)) (due : Bool) → 1 ≤ number → next ≡ taken core (action_of (program_of v) line)
      → lines ≡ answer core number (action_of (program_of v) line) → due ≡ is_due (program_of v) v.rule v.limits core (action_of (program_of v) line)
      → record { answer = lines; core = next; is_due = due } ≡ move_at v (before core number) line
  taken_move core next number line lines due from_one next_is lines_are due_is =
      let action : Action = action_of (program_of v) line in
      let numbered : number - 1 + 1 ≡ number = omega arith in
      ap (λ (l : List (List ℕ)). let m : Move = record { answer = l; core = next; is_due = due } in m) (lines_are ∙ sym (ap (λ n. answer core n action) numbered))
      ∙ ap (λ (c : Core). let m : Move = record { answer = answer core (number - 1 + 1) action; core = c; is_due = due } in m) next_is
      ∙ ap (λ (d : Bool). let m : Move = record { answer = answer core (number - 1 + 1) action; core = taken core action; is_due = d } in m) due_is

  -- which core there was before is of no account any more
  pub line_moved : (result : Result (Option BatchCounts) Stop) (s : Standing) (line : Line) (core next : Core) (held : Option (List ℕ)) (outside : Outside) (new : Moment)
      → Moves v result (move_at v s line) (record { core = next; held = held; outside = outside }) new → AnswersLine v result s line (record { core = core; held = held; outside = outside }) new
  line_moved (Ok None) s line core next held outside new m = record { undue = m.undue; core = m.core; wrote = m.wrote; untold = m.untold }
  line_moved (Ok (Some counts)) s line core next held outside new m = record { due = m.due; place = m.place; ran = record { counted = m.ran.counted; told = m.ran.told }; core = m.core; wrote = m.wrote }
  line_moved (Err HistoryFull) s line core next held outside new m = record { due = m.due; full = m.full; core = m.core; wrote = m.wrote; untold = m.untold }
  line_moved (Err NoMemory) s line core next held outside new m = inr (record { due = m.due; place = m.place; core = m.core; wrote = m.wrote; begun = m.begun })
  line_moved (Err DiskFault) s line core next held outside new m = record { due = m.due; place = m.place; core = m.core; wrote = m.wrote; events = m.events; told = m.told }
  line_moved (Err WriteFault) s line core next held outside new (inl m) = inl (record { core = m.core; part = m.part; untold = m.untold })
  line_moved (Err WriteFault) s line core next held outside new (inr m) =
      inr (record { due = m.due; place = m.place; events = m.events; told = m.told; core = m.core; part = m.part })

  -- How many wait

  joins_one : (core : Core) (r : Request) (a : Arrival) → length (joins core r a).pending ≤ length core.pending + 1
  joins_one core r arrival.New = let count = length-append core.pending (r ∷ []) in omega arith
  joins_one core r (arrival.Again place) = omega arith
  joins_one core r arrival.Waiting = omega arith
  joins_one core r arrival.Reused = omega arith

  takes_one : (core : Core) (action : Action) → length (taken core action).pending ≤ length core.pending + 1
  takes_one core Skip = omega arith
  takes_one core (Refuse cause) = omega arith
  takes_one core (Ask r) = joins_one core r (arrival_of core r)

  module _ (most : v.limits.batch ≤ 256) where
    joined_few : (core : Core) (r : Request) (a : Arrival) → length core.pending < 256 → fills (program_of v) v.rule v.limits core a ≡ false → length (joins core r a).pending < 256
    joined_few core r arrival.New few undue =
        let below : length core.pending + 1 < v.limits.batch = leb-false v.limits.batch (length core.pending + 1) undue in
        let count = length-append core.pending (r ∷ []) in
        omega arith
    joined_few core r (arrival.Again place) few undue = few
    joined_few core r arrival.Waiting few undue = few
    joined_few core r arrival.Reused few undue = few

    undue_few : (core : Core) (action : Action) → length core.pending < 256 → is_due (program_of v) v.rule v.limits core action ≡ false → length (taken core action).pending < 256
    undue_few core Skip few undue = few
    undue_few core (Refuse cause) few undue = few
    undue_few core (Ask r) few undue = joined_few core r (arrival_of core r) few undue

  filled_waits : (core : Core) (r : Request) (a : Arrival) → fills (program_of v) v.rule v.limits core a ≡ true → 0 < length (joins core r a).pending
  filled_waits core r arrival.New due = let count = length-append core.pending (r ∷ []) in omega arith
  filled_waits core r (arrival.Again place) due = absurd (true≢false (sym due))
  filled_waits core r arrival.Waiting due = absurd (true≢false (sym due))
  filled_waits core r arrival.Reused due = absurd (true≢false (sym due))

  due_waits : (core : Core) (action : Action) → is_due (program_of v) v.rule v.limits core action ≡ true → 0 < length (taken core action).pending
  due_waits core Skip due = ltb-true 0 (length core.pending) due
  due_waits core (Refuse cause) due = absurd (true≢false (sym due))
  due_waits core (Ask r) due = filled_waits core r (arrival_of core r) due

  -- so it is behind what was taken
  pub taken_waits : (core next : Core) (action : Action) (due : Bool) → next ≡ taken core action → due ≡ is_due (program_of v) v.rule v.limits core action → due ≡ true → 0 < length next.pending
  taken_waits core next action due next_is due_is is = subst (λ (c : Core). 0 < length c.pending) (sym next_is) (due_waits core action (sym due_is ∙ is))

  below : (n m k l : ℕ) → n ≡ m → m < k → k ≤ l + 1 → l < 256 → n < 256
  below n m k l same fewer more few = omega arith

  in_range : (k l : ℕ) → k ≤ l + 1 → l < 256 → k < 2 ^ 32
  in_range k l more few = omega arith

  -- fewer than 256 wait behind a line
  pub few_behind : IsLawfulRule v.rule → v.limits.batch ≤ 256 → (core : Core) (number : ℕ) (line : Line) → length core.pending < 256 → (result : Result (Option BatchCounts) Stop) (old new : Moment)
      → Moves v result (move_at v (before core number) line) old new → OnOk result (length new.core.pending < 256)
  few_behind lawful most core number line few (Ok None) old new m =
      subst (λ (c : Core). length c.pending < 256) (sym m.core) (undue_few most core (action_of (program_of v) line) few m.undue)
  few_behind lawful most core number line few (Ok (Some counts)) old new m =
      let next = taken core (action_of (program_of v) line) in
      let more = takes_one core (action_of (program_of v) line) in
      let some = due_waits core (action_of (program_of v) line) m.due in
      let fewer = fewer_wait (program_of v) v.rule v.limits lawful next (in_range (length next.pending) (length core.pending) more few) some in
      below (length new.core.pending) (length (core_behind (program_of v) v.rule v.limits next).pending) (length next.pending) (length core.pending) (ap (λ (c : Core). length c.pending) m.core) fewer more few
  few_behind lawful most core number line few (Err stop) old new m = tt

-- so it is for what an engine took
pub engine_moved : (e next : Engine) → RunsProgram next (compiled_of e) (limit_of e) → (rule : List Access → Chosen) (size parts number : ℕ) (line : Line) (lines : List (List ℕ)) (due : Bool) → 1 ≤ number
    → core_of next ≡ taken (core_of e) (action_of (source_of e) line) → lines ≡ answer (core_of e) number (action_of (source_of e) line)
    → due ≡ is_due (source_of e) rule (limits_of size (limit_of e)) (core_of e) (action_of (source_of e) line) → (result : Result (Option BatchCounts) Stop) (old new : Moment)
    → Moves (service_of next rule size parts) result (record { answer = lines; core = core_of next; is_due = due }) old new
    → Moves (service_of e rule size parts) result (move_at (service_of e rule size parts) (before (core_of e) number) line) old new
engine_moved e next runs rule size parts number line lines due from_one next_is lines_are due_is result old new moves =
    let v : Service = service_of e rule size parts in
    let m : Move = record { answer = lines; core = core_of next; is_due = due } in
    subst (λ n. Moves v result n old new) (taken_move v (core_of e) (core_of next) number line lines due from_one next_is lines_are due_is)
    (subst (λ w. Moves w result m old new) (same_service e next runs rule size parts) moves)

-- and so is what its store may be left with
pub engine_logs : (e next : Engine) → RunsProgram next (compiled_of e) (limit_of e) → (rule : List Access → Chosen) (size parts number : ℕ) (line : Line) (lines : List (List ℕ)) (due : Bool) → 1 ≤ number
    → core_of next ≡ taken (core_of e) (action_of (source_of e) line) → lines ≡ answer (core_of e) number (action_of (source_of e) line)
    → due ≡ is_due (source_of e) rule (limits_of size (limit_of e)) (core_of e) (action_of (source_of e) line) → logged_of next ≡ logged_of e
    → (settings : Option StoreSettings) (last : Core) (old new : DiskFacts)
    → Logs (source_of next) rule settings (ran_by (service_of next rule size parts) (record { answer = lines; core = core_of next; is_due = due })) (logged_of next) last old new
    → Logs (source_of e) rule settings (ran_by (service_of e rule size parts) (move_at (service_of e rule size parts) (before (core_of e) number) line)) (logged_of e) last old new
engine_logs e next runs rule size parts number line lines due from_one next_is lines_are due_is logged settings last old new l =
    let v : Service = service_of e rule size parts in
    let m : Move = record { answer = lines; core = core_of next; is_due = due } in
    let same : m ≡ move_at v (before (core_of e) number) line = taken_move v (core_of e) (core_of next) number line lines due from_one next_is lines_are due_is in
    Logs-same (source_of next) (source_of e) rule settings (ran_by (service_of next rule size parts) m) (ran_by v (move_at v (before (core_of e) number) line)) (logged_of next) (logged_of e) last old new
    (sym (same_source e next runs)) (λ i. ran_by (same_service e next runs rule size parts i) (same i)) logged l
