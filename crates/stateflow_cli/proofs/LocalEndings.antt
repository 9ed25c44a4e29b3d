-- How a session of the direct interpreter ends, by its status.
use Rattle.std.proofs.Common.{◌≡◌, ℕ, ◌<◌, ◌⊎◌, inl, inr, List, [], ◌∷◌, Some, Ok, Err, refl, sym, ap, ◌∙◌, subst, arith}
use Rattle.std.proofs.lemmas.Option.{none-some}
use Rattle.std.specs.declared.result.Result.{Result}
use Rattle.std.specs.Io.KnownBytes.{Appends}
use Rattle.sf_outside.specs.DiskModel.{DiskFacts}
use Rattle.program_meaning.specs.ClassTables.{Source}
use Rattle.engine.specs.Cores.{empty_core}
use Rattle.session.specs.declared.feeding.InputEnd.{InputEnd}
use Rattle.session.specs.declared.feeding.InputEnd.TheVariants as input
use Rattle.session.specs.declared.stopping.SessionStop.{SessionStop}
use Rattle.session.specs.declared.stopping.SessionStop.TheVariants as local
use Rattle.batch_run.specs.Vocabulary.{SessionFault}
use Rattle.batch_run.specs.SessionFaultVariants as stop
use Rattle.batch_run.specs.RunTexts.{AnswersSome, fills_history}
use Rattle.batch_run.proofs.FullLaws.{run_fits, run_exceeds, run_fills}
use Rattle.stateflow_cli.proofs.ReportEndings.{still_idle}
use Rattle.stateflow_cli.proofs.LocalSessions.{PrintsAs, LocalRan, ran_serially, local_ran}
use Rattle.stateflow_cli.specs.Devices.{Devices, Output, with_err, IsStill}
use Rattle.stateflow_cli.specs.Loading.{source_in}
use Rattle.stateflow_cli.specs.Endings.{LocalEnds, Interprets, local_ending, settings_for}
use Rattle.stateflow_cli.specs.StatusLines.{status_of, line_of}
use Rattle.stateflow_cli.specs.Answers.{TellsFault, TellsStatus}
use Rattle.stateflow_cli.specs.Causes.{IsFault, WasUnread, WasUnwritten, WantedMemory, ServedRose, HasNoProgram, HasProgram, OfInput, ServesAll, TakesNoMore, KeepsNoMore}
use Rattle.stateflow_cli.specs.Session.{IsOneOf}
use Rattle.stateflow_cli.specs.SessionText.{PrintsText}
use Rattle.stateflow_cli.specs.RunPromise.{RunCause, Begins, IsUnbegun}
use Rattle.stateflow_cli.specs.LocalPromise.{at_once, LocalSession, LocalHeadline}
use Rattle.stateflow_cli.specs.declared.ending.Ending.{Ending}
use Rattle.stateflow_cli.specs.declared.ending.Ending.TheVariants.{Misused, Refused, FileFault, NoMemory, Printed, Unprinted, Served, Stopped, Unopened, Found}

-- no stop has a status below
pub no_stop : (stopped : SessionFault) (n : ℕ) → n < 3 → status_of (Stopped stopped) ≡ n → ⊥
no_stop stop.ReadFault n small s = omega (arith, small, s)
no_stop stop.DiskFault n small s = omega (arith, small, s)
no_stop stop.WriteFault n small s = omega (arith, small, s)
no_stop stop.InputTooLong n small s = omega (arith, small, s)
no_stop stop.HistoryFull n small s = omega (arith, small, s)
no_stop stop.NoMemory n small s = omega (arith, small, s)

-- a session's result is how it ends
came_to : (limit : ℕ) (file : List ℕ) (before after : Devices) (result : Result InputEnd SessionStop) → Interprets limit file before after result → LocalEnds limit file before after (local_ending result)
came_to limit file before after (Ok input.End) i = i
came_to limit file before after (Ok input.ReadFault) i = i
came_to limit file before after (Ok input.TooLong) i = i
came_to limit file before after (Err local.HistoryFull) i = i
came_to limit file before after (Err local.NoMemory) i = i
came_to limit file before after (Err local.WriteFault) i = i

pub local_ends : (limit : ℕ) (file : List ℕ) (before after : Devices) (result : Result InputEnd SessionStop) (e : Ending) → e ≡ local_ending result → Interprets limit file before after result
    → LocalEnds limit file before after e
local_ends limit file before after result e is i = subst (LocalEnds limit file before after) (sym is) (came_to limit file before after result i)

module _ (limit : ℕ) (before after : Devices) (behind : Output) (file : List ℕ) where
  abbrev mid : Devices
  mid = with_err behind after

  abbrev LocalEnded : Ending → Type 0
  LocalEnded e = LocalEnds limit file before mid e

  abbrev pub Came : Result InputEnd SessionStop → Type 0
  Came result = Interprets limit file before mid result

  abbrev pub source_for : (result : Result InputEnd SessionStop) → Came result → Source
  source_for result i = source_in (before.content file) i.holds

  abbrev pub Ran : (result : Result InputEnd SessionStop) → Came result → Type 0
  Ran result i = LocalRan limit (source_for result i) before.input.left after.input.left before.out.held after.out.held result

  pub ran : (result : Result InputEnd SessionStop) (i : Came result) → Ran result i
  ran result i = local_ran limit (source_for result i) before.input.left after.input.left before.out.held after.out.held result i.served

  -- Where no session began

  pub local_told : (e : Ending) → LocalEnded e → Appends behind.held after.err.held (line_of file e) → status_of e ≡ 1 → TellsFault file before after
  local_told (Refused f) ends wrote s = record {
    fault = f;
    refused = ends.refused;
    line = subst (λ (o : Output). Appends o.held after.err.held (line_of file (Refused f))) ends.still.err wrote;
  }
  local_told (Stopped stopped) ends wrote s = absurd (no_stop stopped 1 (omega arith) s)
  local_told (Unopened stopped) ends wrote s = absurd ends
  local_told (Found finding) ends wrote s = absurd ends
  local_told e ends wrote s = absurd (omega (arith, s))

  no_stop_at_six : (stopped : SessionFault) → status_of (Stopped stopped) ≡ 6 → ⊥
  no_stop_at_six stop.ReadFault s = omega (arith, s)
  no_stop_at_six stop.DiskFault s = omega (arith, s)
  no_stop_at_six stop.WriteFault s = omega (arith, s)
  no_stop_at_six stop.InputTooLong s = omega (arith, s)
  no_stop_at_six stop.HistoryFull s = omega (arith, s)
  no_stop_at_six stop.NoMemory s = omega (arith, s)

  never_bad : (e : Ending) → LocalEnded e → status_of e ≡ 6 → ⊥
  never_bad (Stopped stopped) ends s = no_stop_at_six stopped s
  never_bad (Unopened stopped) ends s = absurd ends
  never_bad (Found finding) ends s = absurd ends
  never_bad e ends s = omega (arith, s)

  -- no store is named
  unnamed : {P : Type 0} (dir : List ℕ) → at_once.store ≡ Some dir → P
  unnamed dir named = absurd (none-some dir named)

  pub local_err : (e : Ending) → LocalEnded e → behind ≡ before.err
  local_err (Refused f) ends = ends.still.err
  local_err FileFault ends = ends.still.err
  local_err NoMemory ends = ends.err
  local_err Misused ends = absurd ends
  local_err Printed ends = absurd ends
  local_err Unprinted ends = absurd ends
  local_err Served ends = ends.err
  local_err (Stopped stop.ReadFault) ends = ends.err
  local_err (Stopped stop.DiskFault) ends = absurd ends
  local_err (Stopped stop.WriteFault) ends = ends.err
  local_err (Stopped stop.InputTooLong) ends = ends.err
  local_err (Stopped stop.HistoryFull) ends = ends.err
  local_err (Stopped stop.NoMemory) ends = ends.err
  local_err (Unopened stopped) ends = absurd ends
  local_err (Found finding) ends = absurd ends

  -- Why it has its status

  module _ (status : ℕ) where
    abbrev Comes : Type 0
    Comes = RunCause limit file at_once before status ⊎ IsFault (ServedRose file before after) ⊥ before after status

    session_comes : (result : Result InputEnd SessionStop) (i : Came result)
        → OfInput limit (fills_history (source_for result i) (settings_for limit at_once) empty_core) before status → Comes
    session_comes result i input = inl (HasProgram i.holds (Begins empty_core refl input))

    pub local_cause : (e : Ending) → LocalEnded e → status ≡ status_of e → Comes
    local_cause Misused ends n = absurd ends
    local_cause (Refused f) ends n = inl (HasNoProgram f n ends.refused)
    local_cause FileFault ends n = inr (WasUnread n (inl ends.file_cause))
    local_cause NoMemory ends n = inr (WantedMemory n)
    local_cause Printed ends n = absurd ends
    local_cause Unprinted ends n = absurd ends
    local_cause Served ends n =
        let r = ran (Ok input.End) ends in
        session_comes (Ok input.End) ends (ServesAll n (run_fits (source_for (Ok input.End) ends) (settings_for limit at_once) empty_core before.input.left after.input.left before.out.held after.out.held r.taken r.wrote.last r.consumed r.prints))
    local_cause (Stopped stop.ReadFault) ends n = inr (WasUnread n (inr (ends.input_cause refl)))
    local_cause (Stopped stop.WriteFault) ends n = inr (WasUnwritten n (inl (ends.out_cause refl)))
    local_cause (Stopped stop.DiskFault) ends n = absurd ends
    local_cause (Stopped stop.NoMemory) ends n = inr (WantedMemory n)
    local_cause (Stopped stop.InputTooLong) ends n =
        let r = ran (Ok input.TooLong) ends in
        session_comes (Ok input.TooLong) ends (TakesNoMore n (run_exceeds (source_for (Ok input.TooLong) ends) (settings_for limit at_once) empty_core before.input.left after.input.left before.out.held after.out.held r.taken r.wrote.last r.consumed r.prints))
    local_cause (Stopped stop.HistoryFull) ends n =
        let r = ran (Err local.HistoryFull) ends in
        session_comes (Err local.HistoryFull) ends (KeepsNoMore n (run_fills (source_for (Err local.HistoryFull) ends) (settings_for limit at_once) empty_core before.input.left after.input.left before.out.held after.out.held r.taken r.wrote.last r.consumed r.prints))
    local_cause (Unopened stopped) ends n = absurd ends
    local_cause (Found finding) ends n = absurd ends

  -- A session, by its result

  module _ (status : ℕ) (result : Result InputEnd SessionStop) (own : (n : ℕ) → status ≡ n → (4 ≡ n → ⊥) → status_of (local_ending result) ≡ n)
      (one : (status ≡ status_of (local_ending result)) ⊎ (status ≡ 4)) (i : Came result) where
    abbrev src : Source
    src = source_for result i

    abbrev r : Ran result i
    r = ran result i

    abbrev PrintedAs : Result InputEnd SessionStop → Type 0
    PrintedAs x = PrintsAs limit src before.input.left after.input.left before.out.held after.out.held x r.taken r.wrote.last

    unwritten : result ≡ Err local.WriteFault → status ≡ 4
    unwritten same = by one
      where
        by : (status ≡ status_of (local_ending result)) ⊎ (status ≡ 4) → status ≡ 4
        by (inl n) = n ∙ ap (λ (x : Result InputEnd SessionStop). status_of (local_ending x)) same
        by (inr n) = n

    pub among : IsOneOf status (0 ∷ 3 ∷ 4 ∷ 8 ∷ 9 ∷ 10 ∷ [])
    among = by one
      where
        of_result : (x : Result InputEnd SessionStop) → status ≡ status_of (local_ending x) → IsOneOf status (0 ∷ 3 ∷ 4 ∷ 8 ∷ 9 ∷ 10 ∷ [])
        of_result (Ok input.End) n = inl n
        of_result (Ok input.ReadFault) n = inr (inl n)
        of_result (Ok input.TooLong) n = inr (inr (inr (inr (inl n))))
        of_result (Err local.HistoryFull) n = inr (inr (inr (inr (inr (inl n)))))
        of_result (Err local.NoMemory) n = inr (inr (inr (inl n)))
        of_result (Err local.WriteFault) n = inr (inr (inl n))

        by : (status ≡ status_of (local_ending result)) ⊎ (status ≡ 4) → IsOneOf status (0 ∷ 3 ∷ 4 ∷ 8 ∷ 9 ∷ 10 ∷ [])
        by (inl n) = of_result result n
        by (inr n) = inr (inr (inl n))

    abbrev pub session : LocalSession limit file before after status
    session = record {
      one_of = among;
      holds = i.holds;
      taken = r.taken;
      consumed = r.consumed;
      lines = r.lines;
      of_taken = r.of_taken;
      answered = r.wrote.behind.count;
      last = r.wrote.last;
      reached = r.wrote.behind.core;
    }

    -- what it came to, by the status
    end_is : (x : Result InputEnd SessionStop) → status_of (local_ending x) ≡ 0 → x ≡ Ok input.End
    end_is (Ok input.End) n = refl
    end_is (Ok input.ReadFault) n = absurd (omega (arith, n))
    end_is (Ok input.TooLong) n = absurd (omega (arith, n))
    end_is (Err local.HistoryFull) n = absurd (omega (arith, n))
    end_is (Err local.NoMemory) n = absurd (omega (arith, n))
    end_is (Err local.WriteFault) n = absurd (omega (arith, n))

    unread_is : (x : Result InputEnd SessionStop) → status_of (local_ending x) ≡ 3 → x ≡ Ok input.ReadFault
    unread_is (Ok input.End) n = absurd (omega (arith, n))
    unread_is (Ok input.ReadFault) n = refl
    unread_is (Ok input.TooLong) n = absurd (omega (arith, n))
    unread_is (Err local.HistoryFull) n = absurd (omega (arith, n))
    unread_is (Err local.NoMemory) n = absurd (omega (arith, n))
    unread_is (Err local.WriteFault) n = absurd (omega (arith, n))

    too_long_is : (x : Result InputEnd SessionStop) → status_of (local_ending x) ≡ 9 → x ≡ Ok input.TooLong
    too_long_is (Ok input.End) n = absurd (omega (arith, n))
    too_long_is (Ok input.ReadFault) n = absurd (omega (arith, n))
    too_long_is (Ok input.TooLong) n = refl
    too_long_is (Err local.HistoryFull) n = absurd (omega (arith, n))
    too_long_is (Err local.NoMemory) n = absurd (omega (arith, n))
    too_long_is (Err local.WriteFault) n = absurd (omega (arith, n))

    full_is : (x : Result InputEnd SessionStop) → status_of (local_ending x) ≡ 10 → x ≡ Err local.HistoryFull
    full_is (Ok input.End) n = absurd (omega (arith, n))
    full_is (Ok input.ReadFault) n = absurd (omega (arith, n))
    full_is (Ok input.TooLong) n = absurd (omega (arith, n))
    full_is (Err local.HistoryFull) n = refl
    full_is (Err local.NoMemory) n = absurd (omega (arith, n))
    full_is (Err local.WriteFault) n = absurd (omega (arith, n))

    wanting_is : (x : Result InputEnd SessionStop) → status_of (local_ending x) ≡ 8 → x ≡ Err local.NoMemory
    wanting_is (Ok input.End) n = absurd (omega (arith, n))
    wanting_is (Ok input.ReadFault) n = absurd (omega (arith, n))
    wanting_is (Ok input.TooLong) n = absurd (omega (arith, n))
    wanting_is (Err local.HistoryFull) n = absurd (omega (arith, n))
    wanting_is (Err local.NoMemory) n = refl
    wanting_is (Err local.WriteFault) n = absurd (omega (arith, n))

    never_unlogged : (x : Result InputEnd SessionStop) → status_of (local_ending x) ≡ 5 → ⊥
    never_unlogged (Ok input.End) n = omega (arith, n)
    never_unlogged (Ok input.ReadFault) n = omega (arith, n)
    never_unlogged (Ok input.TooLong) n = omega (arith, n)
    never_unlogged (Err local.HistoryFull) n = omega (arith, n)
    never_unlogged (Err local.NoMemory) n = omega (arith, n)
    never_unlogged (Err local.WriteFault) n = omega (arith, n)

    prints_so : (x : Result InputEnd SessionStop) → result ≡ x → PrintedAs x
    prints_so x same = subst (λ y. PrintedAs y) same r.prints

    some_text : IsOneOf status (5 ∷ 8 ∷ []) → AnswersSome src (settings_for limit at_once) empty_core after.input.left before.out.held after.out.held r.taken
    some_text (inl n) = absurd (never_unlogged result (own 5 n (λ z. omega (arith, z))))
    some_text (inr (inl n)) = prints_so (Err local.NoMemory) (wanting_is result (own 8 n (λ z. omega (arith, z))))
    some_text (inr (inr none)) = absurd none

    text : PrintsText src (settings_for limit at_once) empty_core r.wrote.last before.out.held after.out.held status after.input.left r.taken
    text = record {
      part = r.part;
      all = λ n. prints_so (Ok input.End) (end_is result (own 0 n (λ z. omega (arith, z))));
      unread = λ n. prints_so (Ok input.ReadFault) (unread_is result (own 3 n (λ z. omega (arith, z))));
      too_long = λ n. prints_so (Ok input.TooLong) (too_long_is result (own 9 n (λ z. omega (arith, z))));
      full = λ n. prints_so (Err local.HistoryFull) (full_is result (own 10 n (λ z. omega (arith, z))));
      some = some_text;
    }

    pub headline : TellsStatus file before.err after.err status → LocalHeadline session
    headline said = record {
      serial = ran_serially limit src before.input.left after.input.left before.out.held after.out.held result (status ≡ 4) unwritten r.lines r.wrote;
      text = text;
      untold = i.outside;
      line = said;
      flushed = λ written. i.handed (λ same. written (unwritten same));
    }

-- Whatever the ending, no session began, or there is one, of which the headline holds

module _ (limit : ℕ) (before after : Devices) (was now : DiskFacts) (behind : Output) (file : List ℕ) (status : ℕ) where
  abbrev Did : Type 0
  Did = IsUnbegun file at_once before after was now status ⊎ ((it : LocalSession limit file before after status) × LocalHeadline it)

  abbrev IsOwn : Ending → Type 0
  IsOwn e = (n : ℕ) → status ≡ n → (4 ≡ n → ⊥) → status_of e ≡ n

  still_unbegun : (e : Ending) → IsOwn e → ((n : ℕ) → status ≡ n → (4 ≡ n → ⊥) → Appends behind.held after.err.held (line_of file e))
      → LocalEnds limit file before (with_err behind after) e → TellsStatus file before.err after.err status → IsOneOf status (1 ∷ 3 ∷ 4 ∷ 5 ∷ 6 ∷ 7 ∷ 8 ∷ [])
      → IsStill before (with_err behind after) → Did
  still_unbegun e own line ends said among still = inl (record {
    one_of = among;
    idle = still_idle before after behind still;
    outside = still.outside;
    line = said;
    told = λ n. local_told limit before after behind file e ends (line 1 n (λ z. omega (arith, z))) (own 1 n (λ z. omega (arith, z)));
    bad = λ n. absurd (never_bad limit before after behind file e ends (own 6 n (λ z. omega (arith, z))));
    store = λ dir named. unnamed limit before after behind file dir named;
  })

  served : (result : Result InputEnd SessionStop) → IsOwn (local_ending result) → (status ≡ status_of (local_ending result)) ⊎ (status ≡ 4)
      → Interprets limit file before (with_err behind after) result → TellsStatus file before.err after.err status → Did
  served result own one i said =
      inr (session limit before after behind file status result own one i, headline limit before after behind file status result own one i said)

  pub local_does : (e : Ending) → IsOwn e → ((n : ℕ) → status ≡ n → (4 ≡ n → ⊥) → Appends behind.held after.err.held (line_of file e))
      → (status ≡ status_of e) ⊎ (status ≡ 4) → LocalEnds limit file before (with_err behind after) e → TellsStatus file before.err after.err status → Did
  local_does Misused own line one ends said = absurd ends
  local_does (Refused f) own line one ends said = still_unbegun (Refused f) own line ends said (elim one [ inl n ↦ inl n | inr n ↦ inr (inr (inl n)) ]) ends.still
  local_does FileFault own line one ends said = still_unbegun FileFault own line ends said (elim one [ inl n ↦ inr (inl n) | inr n ↦ inr (inr (inl n)) ]) ends.still
  local_does NoMemory own line one ends said =
      still_unbegun NoMemory own line ends said (elim one [ inl n ↦ inr (inr (inr (inr (inr (inr (inl n)))))) | inr n ↦ inr (inr (inl n)) ]) ends
  local_does Printed own line one ends said = absurd ends
  local_does Unprinted own line one ends said = absurd ends
  local_does Served own line one ends said = served (Ok input.End) own one ends said
  local_does (Stopped stop.ReadFault) own line one ends said = served (Ok input.ReadFault) own one ends said
  local_does (Stopped stop.InputTooLong) own line one ends said = served (Ok input.TooLong) own one ends said
  local_does (Stopped stop.HistoryFull) own line one ends said = served (Err local.HistoryFull) own one ends said
  local_does (Stopped stop.NoMemory) own line one ends said = served (Err local.NoMemory) own one ends said
  local_does (Stopped stop.DiskFault) own line one ends said = absurd ends
  local_does (Stopped stop.WriteFault) own line one ends said = served (Err local.WriteFault) own one ends said
  local_does (Unopened stopped) own line one ends said = absurd ends
  local_does (Found finding) own line one ends said = absurd ends
