-- From what a session in batches came to, to what a run printed.
use Rattle.std.proofs.Common.{◌≡◌, ℕ, ◌≤◌, ◌⊎◌, inl, inr, List, [], length, take, Ok, Err, refl, sym, ap, ◌∙◌, subst, append-nil, arith}
use Rattle.std.proofs.lemmas.List.{take_at, take_all}
use Rattle.std.specs.declared.option.Option.{Option}
use Rattle.std.specs.declared.result.Result.{Result}
use Rattle.std.specs.Io.KnownBytes.{Appends, IsAtEnd}
use Rattle.sf_outside.specs.Bytes.{AppendsPrefix}
use Rattle.sf_outside.specs.DiskModel.{DiskFacts}
use Rattle.sf_outside.specs.Gains.{joined}
use Rattle.request_json.specs.Actions.{whole_lines}
use Rattle.block_step.specs.declared.compiled.Compiled.{Compiled}
use Rattle.operator_graph.specs.Turns.{Outside}
use Rattle.aria_batch.specs.BatchRun.{source_of}
use Rattle.engine.specs.Cores.{Core}
use Rattle.batch_output.specs.BatchOutput.{begun, Standing, all_replies}
use Rattle.batch_session.specs.Vocabulary.{Tally, Step, whole_steps, all_steps, standing_after, printed, WroteAs, HasBegun, Stop, Service, StoreSettings, Point, Comes}
use Rattle.batch_session.specs.StopVariants as stop
use Rattle.batch_session.specs.declared.serving.SessionFault.{SessionFault}
use Rattle.batch_session.specs.declared.serving.SessionFault.TheVariants.{ReadFault, WriteFault, DiskFault, InputTooLong, HistoryFull, NoMemory}
use Rattle.batch_session.specs.Served.{View, first_point, point_at, AreWhole, AreAll, AreFirst, Served}
use Rattle.batch_run.specs.RunViews.{run_limits, run_service, rule_of}
use Rattle.batch_run.specs.RunTexts.{stands_behind, stands_at_end, whole_replies, whole_text, all_text, AnswersAll, AnswersWhole, AnswersFirst, FillsAtLine, FillsAtEnd, AnswersSome, AnswersInPart, Prints}
use Rattle.batch_run.specs.declared.running.RunSettings.{RunSettings}
use Rattle.batch_session.proofs.Vocabulary.{steps_print, comes_begin}
use Rattle.batch_session.proofs.ServeLaws.{EndedAt, ended_at, some_steps}
use Rattle.batch_run.proofs.LastCores.{full_core}

-- all of it is a prefix
pub whole_is_prefix : (a b : Option (List ℕ)) (xs : List ℕ) → Appends a b xs → AppendsPrefix a b xs
whole_is_prefix a b xs p = (length xs, subst (Appends a b) (sym (take_at xs [] (length xs) refl) ∙ ap (take (length xs)) (append-nil xs)) p)

-- whatever the result a prefix of the text was written
written_prefix : (result : Result (Unit {0}) Stop) (a b : Option (List ℕ)) (text : List ℕ) → WroteAs result a b text → AppendsPrefix a b text
written_prefix (Ok value) a b text w = whole_is_prefix a b text w
written_prefix (Err stop.HistoryFull) a b text w = whole_is_prefix a b text w
written_prefix (Err stop.NoMemory) a b text w = w
written_prefix (Err stop.DiskFault) a b text w = w
written_prefix (Err stop.WriteFault) a b text w = w

-- a session at its begin, with this core
abbrev pub at_begin : Core → Option (List ℕ) → Option (List ℕ) → Option (List ℕ) → Option (List ℕ) → Outside → View
at_begin start left held handed said outside = record { core = start; left = left; held = held; handed = handed; traced = said; outside = outside }

module _ (compiled : Compiled) (s : RunSettings) (start : Core) where
  -- what the steps of bytes print, and where they lead
  whole_lines_printed : (bytes : List ℕ) → printed (run_service compiled s) (begun start) (whole_steps bytes) ≡ whole_replies (source_of compiled) s start bytes
  whole_lines_printed bytes = ((steps_print (run_service compiled s)).0 (begun start) (whole_lines bytes)).prints

  all_lines_printed : (bytes : List ℕ) → printed (run_service compiled s) (begun start) (all_steps (run_service compiled s) start bytes)
      ≡ all_replies (source_of compiled) (rule_of s) (run_limits s) start bytes
  all_lines_printed bytes = ((steps_print (run_service compiled s)).1 start bytes).prints

  whole_printed : (bytes : List ℕ) → joined (printed (run_service compiled s) (begun start) (whole_steps bytes)) ≡ whole_text (source_of compiled) s start bytes
  whole_printed bytes = ap joined (whole_lines_printed bytes)

  all_printed : (bytes : List ℕ) → joined (printed (run_service compiled s) (begun start) (all_steps (run_service compiled s) start bytes)) ≡ all_text (source_of compiled) s start bytes
  all_printed bytes = ap joined (all_lines_printed bytes)

  whole_stands : (bytes : List ℕ) → stands_behind (source_of compiled) s start bytes ≡ standing_after (run_service compiled s) (begun start) (whole_steps bytes)
  whole_stands bytes = sym ((steps_print (run_service compiled s)).0 (begun start) (whole_lines bytes)).stands

  all_stands : (bytes : List ℕ) → stands_at_end (source_of compiled) s start bytes ≡ standing_after (run_service compiled s) (begun start) (all_steps (run_service compiled s) start bytes)
  all_stands bytes = sym ((steps_print (run_service compiled s)).1 start bytes).stands

  module _ (store : Option StoreSettings) (left held handed said : Option (List ℕ)) (started : Outside) (new : View) (logged logged' : Core) (f g : DiskFacts)
      (result : Result Tally SessionFault)
      (t : Served (run_service compiled s) s.trace store s.limit result (at_begin start left held handed said started) new logged logged' f g) where
    abbrev old : View
    old = at_begin start left held handed said started

    abbrev v : Service
    v = run_service compiled s

    abbrev end : Point
    end = point_at new t.lines t.tally

    -- what its steps came to
    came_as : (stopped : Result (Unit {0}) Stop) (steps : List Step) → t.stop ≡ stopped → t.steps ≡ steps → Comes v s.trace stopped steps (first_point old) end
    came_as stopped steps is same =
        subst (λ (l : List Step). Comes v s.trace stopped l (first_point old) end) same
        (subst (λ (r : Result (Unit {0}) Stop). Comes v s.trace r t.steps (first_point old) end) is t.came)

    begun_as : (stopped : Result (Unit {0}) Stop) (steps : List Step) → t.stop ≡ stopped → t.steps ≡ steps
        → HasBegun {T = Unit {0}} v s.trace stopped steps (first_point old) end
    begun_as stopped steps is same = comes_begin v s.trace stopped steps (first_point old) end (came_as stopped steps is same)

    all_answered : AreAll v s.limit start t.taken new.left t.steps → t.stop ≡ Ok (tt {0}) → new.core.pending ≡ []
        → AnswersAll (source_of compiled) s start new.left held new.held t.taken new.core
    all_answered a is none =
        let h = begun_as (Ok (tt {0})) (all_steps v start t.taken) is a.2 in
        record {
          within = a.0;
          ended = a.1;
          wrote = subst (Appends held new.held) (all_printed t.taken) h.wrote;
          goes_on = ap (λ (x : Standing). x.is_full) (all_stands t.taken ∙ h.stands);
          core = ap (λ (x : Standing). x.core) (all_stands t.taken ∙ h.stands);
          none_waits = none;
        }

    whole_answered : AreWhole v s.limit t.taken t.steps → t.stop ≡ Ok (tt {0}) → AnswersWhole (source_of compiled) s start new.left held new.held t.taken new.core
    whole_answered w is =
        let h = begun_as (Ok (tt {0})) (whole_steps t.taken) is w.1 in
        record {
          within = w.0;
          wrote = subst (Appends held new.held) (whole_printed t.taken) h.wrote;
          goes_on = ap (λ (x : Standing). x.is_full) (whole_stands t.taken ∙ h.stands);
          core = ap (λ (x : Standing). x.core) (whole_stands t.taken ∙ h.stands);
        }

    first_answered : AreFirst v s.limit t.taken t.steps → t.stop ≡ Ok (tt {0}) → AnswersFirst (source_of compiled) s start new.left held new.held t.taken new.core
    first_answered w is =
        let h = begun_as (Ok (tt {0})) (whole_steps (take s.limit t.taken)) is w.1 in
        record {
          full = w.0;
          wrote = subst (Appends held new.held) (whole_printed (take s.limit t.taken)) h.wrote;
          goes_on = ap (λ (x : Standing). x.is_full) (whole_stands (take s.limit t.taken) ∙ h.stands);
          core = ap (λ (x : Standing). x.core) (whole_stands (take s.limit t.taken) ∙ h.stands);
        }

    -- the history came to be full
    filled : AreWhole v s.limit t.taken t.steps ⊎ AreAll v s.limit start t.taken new.left t.steps → t.stop ≡ Err stop.HistoryFull
        → FillsAtLine (source_of compiled) s start new.left held new.held t.taken new.core ⊎ FillsAtEnd (source_of compiled) s start new.left held new.held t.taken new.core
    filled (inl w) is =
        let h = begun_as (Err stop.HistoryFull) (whole_steps t.taken) is w.1 in
        inl (record {
          within = w.0;
          wrote = subst (Appends held new.held) (whole_printed t.taken) h.wrote;
          full = ap (λ (x : Standing). x.is_full) (whole_stands t.taken) ∙ h.stands;
          core = ap (λ (x : Standing). x.core) (whole_stands t.taken)
              ∙ full_core v s.trace (whole_steps t.taken) (first_point old) end (came_as (Err stop.HistoryFull) (whole_steps t.taken) is w.1);
        })
    filled (inr a) is =
        let h = begun_as (Err stop.HistoryFull) (all_steps v start t.taken) is a.2 in
        inr (record {
          within = a.0;
          ended = a.1;
          wrote = subst (Appends held new.held) (all_printed t.taken) h.wrote;
          full = ap (λ (x : Standing). x.is_full) (all_stands t.taken) ∙ h.stands;
          core = ap (λ (x : Standing). x.core) (all_stands t.taken)
              ∙ full_core v s.trace (all_steps v start t.taken) (first_point old) end (came_as (Err stop.HistoryFull) (all_steps v start t.taken) is a.2);
        })

    -- some first lines were written
    some_lines : length t.taken ≤ s.limit → (k : ℕ) × Appends held new.held (joined (take k (printed v (begun start) (whole_steps t.taken))))
        → AnswersSome (source_of compiled) s start new.left held new.held t.taken
    some_lines within h =
        record { within = within; count = h.0; wrote = inl (subst (λ lines. Appends held new.held (joined (take h.0 lines))) (whole_lines_printed t.taken) h.1) }

    some_of_all : length t.taken ≤ s.limit → IsAtEnd new.left → (k : ℕ) × Appends held new.held (joined (take k (printed v (begun start) (all_steps v start t.taken))))
        → AnswersSome (source_of compiled) s start new.left held new.held t.taken
    some_of_all within ended h = record {
      within = within;
      count = h.0;
      wrote = inr (ended, subst (λ lines. Appends held new.held (joined (take h.0 lines))) (all_lines_printed t.taken) h.1);
    }

    no_memory : AreWhole v s.limit t.taken t.steps ⊎ AreAll v s.limit start t.taken new.left t.steps → t.stop ≡ Err stop.NoMemory
        → AnswersSome (source_of compiled) s start new.left held new.held t.taken
    no_memory (inl w) is = some_lines w.0 (begun_as (Err stop.NoMemory) (whole_steps t.taken) is w.1).whole
    no_memory (inr a) is = some_of_all a.0 a.1 (begun_as (Err stop.NoMemory) (all_steps v start t.taken) is a.2).whole

    disk_fault : AreWhole v s.limit t.taken t.steps ⊎ AreAll v s.limit start t.taken new.left t.steps → t.stop ≡ Err stop.DiskFault
        → AnswersSome (source_of compiled) s start new.left held new.held t.taken
    disk_fault (inl w) is = some_lines w.0 (begun_as (Err stop.DiskFault) (whole_steps t.taken) is w.1).whole
    disk_fault (inr a) is = some_of_all a.0 a.1 (begun_as (Err stop.DiskFault) (all_steps v start t.taken) is a.2).whole

    -- a part of the text of what was taken, whatever the result
    part_written : (steps : List Step) → t.steps ≡ steps → AppendsPrefix held new.held (joined (printed v (begun start) steps))
    part_written steps same = written_prefix t.stop held new.held _ (begun_as t.stop steps refl same).wrote

    in_part : AreFirst v s.limit t.taken t.steps ⊎ (AreWhole v s.limit t.taken t.steps ⊎ AreAll v s.limit start t.taken new.left t.steps)
        → AnswersInPart (source_of compiled) s start new.left held new.held t.taken
    in_part (inl w) = record {
      within = omega (arith, w.0);
      wrote = inl (subst (AppendsPrefix held new.held) (whole_printed (take s.limit t.taken)) (part_written (whole_steps (take s.limit t.taken)) w.1));
    }
    in_part (inr (inl w)) = record {
      within = omega (arith, w.0);
      wrote =
          inl (subst (AppendsPrefix held new.held) (whole_printed (take s.limit t.taken))
          (part_written (whole_steps (take s.limit t.taken)) (w.1 ∙ ap whole_steps (sym (take_all s.limit t.taken w.0)))));
    }
    in_part (inr (inr a)) = record {
      within = omega (arith, a.0);
      wrote = inr (a.0, a.1, subst (AppendsPrefix held new.held) (all_printed t.taken) (part_written (all_steps v start t.taken) a.2));
    }

    pub served_in_part : AnswersInPart (source_of compiled) s start new.left held new.held t.taken
    served_in_part = in_part (some_steps v s.limit t.ended start t.taken new.left t.steps t.of_taken)

    abbrev Known : Result (Unit {0}) SessionFault → Type 0
    Known e = EndedAt v s.trace store s.limit result old new logged logged' f g t e

    known : (e : Result (Unit {0}) SessionFault) → t.ended ≡ e → Known e
    known e same = ended_at v s.trace store s.limit result old new logged logged' f g t e same

-- By the result

module _ (compiled : Compiled) (s : RunSettings) (start : Core) (store : Option StoreSettings) (left held handed said : Option (List ℕ)) (started : Outside) (new : View)
    (logged logged' : Core) (f g : DiskFacts) where
  abbrev ServedBy : Result Tally SessionFault → Type 0
  ServedBy result = Served (run_service compiled s) s.trace store s.limit result (at_begin start left held handed said started) new logged logged' f g

  pub served_prints : (result : Result Tally SessionFault) (t : ServedBy result) → Prints (source_of compiled) s start new.left held new.held t.taken new.core result
  served_prints (Ok tally) t =
      let k = known compiled s start store left held handed said started new logged logged' f g (Ok tally) t (Ok (tt {0})) t.ends in
      all_answered compiled s start store left held handed said started new logged logged' f g (Ok tally) t k.of_taken k.is_stop k.none_waits
  served_prints (Err ReadFault) t =
      let k = known compiled s start store left held handed said started new logged logged' f g (Err ReadFault) t (Err ReadFault) t.ends in
      whole_answered compiled s start store left held handed said started new logged logged' f g (Err ReadFault) t k.of_taken k.is_stop
  served_prints (Err InputTooLong) t =
      let k = known compiled s start store left held handed said started new logged logged' f g (Err InputTooLong) t (Err InputTooLong) t.ends in
      first_answered compiled s start store left held handed said started new logged logged' f g (Err InputTooLong) t k.of_taken k.is_stop
  served_prints (Err HistoryFull) t =
      let k = known compiled s start store left held handed said started new logged logged' f g (Err HistoryFull) t (Err HistoryFull) t.ends in
      filled compiled s start store left held handed said started new logged logged' f g (Err HistoryFull) t k.of_taken k.is_stop
  served_prints (Err NoMemory) t =
      let k = known compiled s start store left held handed said started new logged logged' f g (Err NoMemory) t (Err NoMemory) t.ends in
      no_memory compiled s start store left held handed said started new logged logged' f g (Err NoMemory) t k.of_taken k.is_stop
  served_prints (Err DiskFault) t =
      let k = known compiled s start store left held handed said started new logged logged' f g (Err DiskFault) t (Err DiskFault) t.ends in
      disk_fault compiled s start store left held handed said started new logged logged' f g (Err DiskFault) t k.of_taken k.is_stop
  served_prints (Err WriteFault) t = served_in_part compiled s start store left held handed said started new logged logged' f g (Err WriteFault) t
