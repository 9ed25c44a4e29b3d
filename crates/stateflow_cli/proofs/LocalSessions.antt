-- What a session of the direct interpreter did, as one that serves its input in batches of one request.
use Rattle.std.proofs.Common.{◌≡◌, ℕ, ◌⊎◌, inl, inr, Bool, true, false, List, [], ◌∷◌, ◌++◌, take, Ok, Err, refl, sym, ap, ◌∙◌, subst, append-nil, arith}
use Rattle.std.proofs.lemmas.List.{take_all, take_at, length-append}
use Rattle.std.proofs.KnownBytes.{Consumes-trans}
use Rattle.std.specs.declared.option.Option.{Option}
use Rattle.std.specs.declared.result.Result.{Result}
use Rattle.std.specs.Io.KnownBytes.{Appends, Consumes, IsAtEnd}
use Rattle.sf_outside.specs.Bytes.{AppendsPrefix}
use Rattle.sf_outside.specs.Gains.{joined}
use Rattle.program_meaning.specs.ClassTables.{Source}
use Rattle.request_json.specs.Actions.{Line, whole_lines, all_lines}
use Rattle.engine.specs.Cores.{Core, IsSoundCore, empty_core}
use Rattle.engine.specs.Growth.{GoesOnSerially}
use Rattle.engine.proofs.EmptyLaws.{empty_sound}
use Rattle.session.specs.declared.feeding.InputEnd.{InputEnd}
use Rattle.session.specs.declared.feeding.InputEnd.TheVariants as input
use Rattle.session.specs.declared.stopping.SessionStop.{SessionStop}
use Rattle.session.specs.declared.stopping.SessionStop.TheVariants as local
use Rattle.session.specs.OutputText.{start}
use Rattle.session.specs.OutputText as at_once
use Rattle.session.specs.Stops as once
use Rattle.session.specs.Served.{Answered, AnsweredOver, OfWhole, OfAll, OfLimit, Served}
use Rattle.session.proofs.StopLaws.{prefix_written}
use Rattle.batch_run.specs.RunViews.{rule_of, run_limits}
use Rattle.batch_run.specs.RuleLaws.{rule_is_lawful}
use Rattle.batch_run.specs.RunTexts.{stands_behind, stands_at_end, whole_text, all_text, AnswersAll, AnswersWhole, AnswersFirst, FillsAtLine, FillsAtEnd, AnswersSome, AnswersInPart}
use Rattle.batch_run.specs.declared.running.RunSettings.{RunSettings}
use Rattle.batch_of_one.specs.Vocabulary.{Standing, IsLawfulRule, all_replies, begun, replies}
use Rattle.batch_of_one.specs.BatchOfOne.{in_batches, StandAlike, IsLocal}
use Rattle.batch_of_one.specs.WrittenAtOnce.{WroteBatches}
use Rattle.batch_of_one.proofs.OneRequest.{batch_of_one_is_local}
use Rattle.batch_of_one.proofs.WrittenLaws.{writes_batches}
use Rattle.stateflow_cli.specs.Endings.{settings_for, local_history}
use Rattle.stateflow_cli.specs.SessionText.{IsSerial}
use Rattle.stateflow_cli.specs.LocalPromise.{AreLinesOf}
use Rattle.stateflow_cli.specs.LocalPromise as promise

abbrev NotSame : Result InputEnd SessionStop → Result InputEnd SessionStop → Type 0
NotSame r other = r ≡ other → ⊥

ended_well : (end : InputEnd) (stop : SessionStop) → NotSame (Ok end) (Err stop)
ended_well end stop same = cc

full_not_wanting : NotSame (Err local.HistoryFull) (Err local.NoMemory)
full_not_wanting same = cc

full_not_unwritten : NotSame (Err local.HistoryFull) (Err local.WriteFault)
full_not_unwritten same = cc

wanting_not_unwritten : NotSame (Err local.NoMemory) (Err local.WriteFault)
wanting_not_unwritten same = cc

not_unwritten : local.HistoryFull ≡ local.WriteFault → ⊥
not_unwritten same = cc

no_memory_not_unwritten : local.NoMemory ≡ local.WriteFault → ⊥
no_memory_not_unwritten same = cc

lawful_rule : (s : RunSettings) → IsLawfulRule (rule_of s)
lawful_rule s batch few = rule_is_lawful s.reorder batch

module _ (limit : ℕ) (src : Source) where
  abbrev pub s : RunSettings
  s = settings_for limit promise.at_once

  is_local : IsLocal src (rule_of s) (run_limits s)
  is_local = batch_of_one_is_local src (rule_of s) (lawful_rule s) (run_limits s) refl

  alike : (lines : List Line) → StandAlike src (rule_of s) (run_limits s) lines
  alike lines = is_local.lines lines

  abbrev lines_text : List Line → List ℕ
  lines_text lines = joined (replies src (rule_of s) (run_limits s) (begun empty_core) lines)

  abbrev once_text : List Line → List ℕ
  once_text lines = joined (at_once.replies src local_history start lines)

  -- What a session came to, on these devices

  module _ (left left' held held' : Option (List ℕ)) where
    abbrev Wrote : Result InputEnd SessionStop → List Line → Type 0
    Wrote result lines = WroteBatches src (rule_of s) (run_limits s) lines held held' result

    -- what it printed, by its result
    abbrev pub PrintsAs : Result InputEnd SessionStop → List ℕ → Core → Type 0
    PrintsAs (Ok input.End) taken last = AnswersAll src s empty_core left' held held' taken last
    PrintsAs (Ok input.ReadFault) taken last = AnswersWhole src s empty_core left' held held' taken last
    PrintsAs (Ok input.TooLong) taken last = AnswersFirst src s empty_core left' held held' taken last
    PrintsAs (Err local.HistoryFull) taken last =
        FillsAtLine src s empty_core left' held held' taken last ⊎ FillsAtEnd src s empty_core left' held held' taken last
    PrintsAs (Err local.NoMemory) taken last = AnswersSome src s empty_core left' held held' taken
    PrintsAs (Err local.WriteFault) taken last = Unit {0}

    pub record LocalRan (result : Result InputEnd SessionStop) : Type 0 where
      pub taken : List ℕ
      pub consumed : Consumes left left' taken
      pub lines : List Line
      pub of_taken : AreLinesOf limit taken left' lines
      pub wrote : Wrote result lines
      pub part : AnswersInPart src s empty_core left' held held' taken
      pub prints : PrintsAs result taken wrote.last

    -- Serially

    goes_on : (last : Core) → IsSoundCore src last → GoesOnSerially src empty_core last last.history
    goes_on last sound = record {
      history = refl;
      outcomes = sound.committed.run.outcomes;
      state = sound.committed.run.state;
      requests = λ fits. sound.committed.requests;
      pending = λ fits. sound.pending;
    }

    pub ran_serially : (result : Result InputEnd SessionStop) (unwritten : Type 0) → (result ≡ Err local.WriteFault → unwritten) → (lines : List Line) (w : Wrote result lines)
        → IsSerial src s empty_core w.last held held' w.last.history unwritten
    ran_serially result unwritten follows lines w = record {
      added = goes_on w.last w.behind.run.sound;
      empty = λ same. empty_sound src;
      lines = λ sound. record { lines = w.behind.came; texts = replies src (rule_of s) (run_limits s) (begun empty_core) (take w.behind.count lines); serial = w.behind.run; front = w.behind.front };
      replies = λ sound. record {
        before = w.behind.before;
        lines = w.behind.number;
        texts = w.behind.texts;
        serial = w.behind.serial;
        more = w.behind.more;
        wrote = w.behind.wrote;
        last_is = elim w.behind.last_is [ inl same ↦ inl same | inr next ↦ inr (follows next.0, next.1) ];
      };
    }

    -- Of some lines

    module _ (result : Result InputEnd SessionStop) where
      came : (lines : List Line) → once.Wrote result held held' (at_once.replies src local_history start lines) → Wrote result lines
      came lines wrote = writes_batches src (rule_of s) (lawful_rule s) (run_limits s) refl lines held held' result wrote

      front : (lines : List Line) → once.Wrote result held held' (at_once.replies src local_history start lines) → AppendsPrefix held held' (lines_text lines)
      front lines wrote = subst (AppendsPrefix held held') (sym (alike lines).text) (prefix_written result held held' (at_once.replies src local_history start lines) wrote)

      of_whole : (a : Answered src limit local_history {T = InputEnd} whole_lines result left left' held held') → PrintsAs result a.taken (came (whole_lines a.taken) a.wrote).last
          → LocalRan result
      of_whole a prints =
          let same : take limit a.taken ≡ a.taken = take_all limit a.taken a.within in
          record {
            taken = a.taken;
            consumed = a.consumed;
            lines = whole_lines a.taken;
            of_taken = inl (ap whole_lines (sym same));
            wrote = came (whole_lines a.taken) a.wrote;
            part = record {
              within = omega (arith, a.within);
              wrote = inl (subst (λ bytes. AppendsPrefix held held' (whole_text src s empty_core bytes)) (sym same) (front (whole_lines a.taken) a.wrote));
            };
            prints = prints;
          }

      -- at the end of the input nothing more is printed
      all_text_is : (bytes : List ℕ) → all_text src s empty_core bytes ≡ lines_text (all_lines bytes)
      all_text_is bytes =
          ap (λ end. joined (replies src (rule_of s) (run_limits s) (begun empty_core) (all_lines bytes) ++ end)) (alike (all_lines bytes)).end
          ∙ ap joined (append-nil (replies src (rule_of s) (run_limits s) (begun empty_core) (all_lines bytes)))

      of_all : (a : Answered src limit local_history {T = InputEnd} all_lines result left left' held held') → IsAtEnd left'
          → PrintsAs result a.taken (came (all_lines a.taken) a.wrote).last → LocalRan result
      of_all a end prints = record {
        taken = a.taken;
        consumed = a.consumed;
        lines = all_lines a.taken;
        of_taken = inr (a.within, end, refl);
        wrote = came (all_lines a.taken) a.wrote;
        part = record {
          within = omega (arith, a.within);
          wrote = inr (a.within, end, subst (AppendsPrefix held held') (sym (all_text_is a.taken)) (front (all_lines a.taken) a.wrote));
        };
        prints = prints;
      }

      of_over : (a : AnsweredOver src limit local_history result left left' held held')
          → PrintsAs result (a.answered.taken ++ a.next ∷ []) (came (whole_lines a.answered.taken) a.answered.wrote).last → LocalRan result
      of_over a prints =
          let first : List ℕ = a.answered.taken in
          let same : take limit (first ++ a.next ∷ []) ≡ first = take_at first (a.next ∷ []) limit a.full in
          record {
            taken = first ++ a.next ∷ [];
            consumed = Consumes-trans left a.before left' first (a.next ∷ []) a.answered.consumed a.beyond;
            lines = whole_lines first;
            of_taken = inl (ap whole_lines (sym same));
            wrote = came (whole_lines first) a.answered.wrote;
            part = record {
              within = omega (arith, a.full, length-append first (a.next ∷ []));
              wrote = inl (subst (λ bytes. AppendsPrefix held held' (whole_text src s empty_core bytes)) (sym same) (front (whole_lines first) a.answered.wrote));
            };
            prints = prints;
          }

    -- By the result

    goes : (lines : List Line) (full : Bool) → (at_once.after src local_history start lines).is_full ≡ full
        → (in_batches src (rule_of s) (run_limits s) lines).is_full ≡ full
    goes lines full is = (alike lines).full ∙ is

    at_end_is : (bytes : List ℕ) → stands_at_end src s empty_core bytes ≡ in_batches src (rule_of s) (run_limits s) (all_lines bytes)
    at_end_is bytes = (alike (all_lines bytes)).over

    written : (lines : List Line) → Appends held held' (once_text lines) → Appends held held' (lines_text lines)
    written lines wrote = subst (Appends held held') (sym (alike lines).text) wrote

    all_answered : (a : Answered src limit local_history {T = InputEnd} all_lines (Ok input.End) left left' held held') → IsAtEnd left'
        → AnswersAll src s empty_core left' held held' a.taken (came (Ok input.End) (all_lines a.taken) a.wrote).last
    all_answered a end =
        let lines : List Line = all_lines a.taken in
        let w = came (Ok input.End) lines a.wrote in
        let open' = goes lines false a.full in
        let core : (in_batches src (rule_of s) (run_limits s) lines).core ≡ w.last = w.whole (ended_well input.End local.NoMemory) (ended_well input.End local.WriteFault) in
        record {
          within = a.within;
          ended = end;
          wrote = subst (Appends held held') (sym (all_text_is (Ok input.End) a.taken)) (written lines a.wrote);
          goes_on = ap (λ (t : Standing). t.is_full) (at_end_is a.taken) ∙ open';
          core = ap (λ (t : Standing). t.core) (at_end_is a.taken) ∙ core;
          none_waits = ap (λ (c : Core). c.pending) (sym core) ∙ (alike lines).none open';
        }

    -- what is said of the whole lines of these bytes
    abbrev WholeSo : List ℕ → Bool → Core → Type 0
    WholeSo bytes full last =
        Appends held held' (whole_text src s empty_core bytes) × ((stands_behind src s empty_core bytes).is_full ≡ full) × ((stands_behind src s empty_core bytes).core ≡ last)

    whole_so : (result : Result InputEnd SessionStop) (bytes : List ℕ) (full : Bool) (wrote : once.Wrote result held held' (at_once.replies src local_history start (whole_lines bytes)))
        → (result ≡ Err local.NoMemory → ⊥) → (result ≡ Err local.WriteFault → ⊥) → Appends held held' (once_text (whole_lines bytes))
        → (at_once.after src local_history start (whole_lines bytes)).is_full ≡ full → WholeSo bytes full (came result (whole_lines bytes) wrote).last
    whole_so result bytes full wrote p q all is = (written (whole_lines bytes) all, goes (whole_lines bytes) full is, (came result (whole_lines bytes) wrote).whole p q)

    whole_answered : (a : Answered src limit local_history {T = InputEnd} whole_lines (Ok input.ReadFault) left left' held held')
        → AnswersWhole src s empty_core left' held held' a.taken (came (Ok input.ReadFault) (whole_lines a.taken) a.wrote).last
    whole_answered a =
        let so = whole_so (Ok input.ReadFault) a.taken false a.wrote (ended_well input.ReadFault local.NoMemory) (ended_well input.ReadFault local.WriteFault) a.wrote a.full in
        record { within = a.within; wrote = so.0; goes_on = so.1; core = so.2 }

    first_answered : (a : AnsweredOver src limit local_history (Ok input.TooLong) left left' held held')
        → AnswersFirst src s empty_core left' held held' (a.answered.taken ++ a.next ∷ []) (came (Ok input.TooLong) (whole_lines a.answered.taken) a.answered.wrote).last
    first_answered a =
        let first : List ℕ = a.answered.taken in
        let last : Core = (came (Ok input.TooLong) (whole_lines first) a.answered.wrote).last in
        let so : WholeSo (take limit (first ++ a.next ∷ [])) false last =
        subst (λ bytes. WholeSo bytes false last) (sym (take_at first (a.next ∷ []) limit a.full))
        (whole_so (Ok input.TooLong) first false a.answered.wrote (ended_well input.TooLong local.NoMemory) (ended_well input.TooLong local.WriteFault) a.answered.wrote a.answered.full) in
        record { full = omega (arith, a.full, length-append first (a.next ∷ [])); wrote = so.0; goes_on = so.1; core = so.2 }

    filled_at_line : (a : Answered src limit local_history {T = InputEnd} whole_lines (Err local.HistoryFull) left left' held held')
        → FillsAtLine src s empty_core left' held held' a.taken (came (Err local.HistoryFull) (whole_lines a.taken) a.wrote).last
    filled_at_line a =
        let so = whole_so (Err local.HistoryFull) a.taken true a.wrote full_not_wanting full_not_unwritten a.wrote a.full in
        record { within = a.within; wrote = so.0; full = so.1; core = so.2 }

    filled_at_end : (a : Answered src limit local_history {T = InputEnd} all_lines (Err local.HistoryFull) left left' held held') → IsAtEnd left'
        → FillsAtEnd src s empty_core left' held held' a.taken (came (Err local.HistoryFull) (all_lines a.taken) a.wrote).last
    filled_at_end a end =
        let lines : List Line = all_lines a.taken in
        let w = came (Err local.HistoryFull) lines a.wrote in
        record {
          within = a.within;
          ended = end;
          wrote = subst (Appends held held') (sym (all_text_is (Err local.HistoryFull) a.taken)) (written lines a.wrote);
          full = ap (λ (t : Standing). t.is_full) (at_end_is a.taken) ∙ goes lines true a.full;
          core = ap (λ (t : Standing). t.core) (at_end_is a.taken) ∙ w.whole full_not_wanting full_not_unwritten;
        }

    some_whole : (a : Answered src limit local_history {T = InputEnd} whole_lines (Err local.NoMemory) left left' held held') → AnswersSome src s empty_core left' held held' a.taken
    some_whole a =
        let some = (came (Err local.NoMemory) (whole_lines a.taken) a.wrote).some wanting_not_unwritten in
        record { within = a.within; count = some.0; wrote = inl some.1 }

    all_replies_are : (bytes : List ℕ)
        → all_replies src (rule_of s) (run_limits s) empty_core bytes ≡ replies src (rule_of s) (run_limits s) (begun empty_core) (all_lines bytes)
    all_replies_are bytes =
        ap (λ end. replies src (rule_of s) (run_limits s) (begun empty_core) (all_lines bytes) ++ end) (alike (all_lines bytes)).end
        ∙ append-nil (replies src (rule_of s) (run_limits s) (begun empty_core) (all_lines bytes))

    some_all : (a : Answered src limit local_history {T = InputEnd} all_lines (Err local.NoMemory) left left' held held') → IsAtEnd left'
        → AnswersSome src s empty_core left' held held' a.taken
    some_all a end =
        let some = (came (Err local.NoMemory) (all_lines a.taken) a.wrote).some wanting_not_unwritten in
        record {
          within = a.within;
          count = some.0;
          wrote = inr (end, subst (λ l. Appends held held' (joined (take some.0 l))) (sym (all_replies_are a.taken)) some.1);
        }

    pub local_ran : (result : Result InputEnd SessionStop) → Served src limit local_history left left' held held' result → LocalRan result
    local_ran (Ok input.End) p = of_all (Ok input.End) p.0 p.1 (all_answered p.0 p.1)
    local_ran (Ok input.ReadFault) p = of_whole (Ok input.ReadFault) p (whole_answered p)
    local_ran (Ok input.TooLong) p = of_over (Ok input.TooLong) p (first_answered p)
    local_ran (Err local.HistoryFull) (OfWhole a) = of_whole (Err local.HistoryFull) a (inl (filled_at_line a))
    local_ran (Err local.HistoryFull) (OfAll a end) = of_all (Err local.HistoryFull) a end (inr (filled_at_end a end))
    local_ran (Err local.HistoryFull) (OfLimit fault a) = absurd (not_unwritten fault)
    local_ran (Err local.NoMemory) (OfWhole a) = of_whole (Err local.NoMemory) a (some_whole a)
    local_ran (Err local.NoMemory) (OfAll a end) = of_all (Err local.NoMemory) a end (some_all a end)
    local_ran (Err local.NoMemory) (OfLimit fault a) = absurd (no_memory_not_unwritten fault)
    local_ran (Err local.WriteFault) (OfWhole a) = of_whole (Err local.WriteFault) a (tt {0})
    local_ran (Err local.WriteFault) (OfAll a end) = of_all (Err local.WriteFault) a end (tt {0})
    local_ran (Err local.WriteFault) (OfLimit fault a) = of_over (Err local.WriteFault) a (tt {0})
