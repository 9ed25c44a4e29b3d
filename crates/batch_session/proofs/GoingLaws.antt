-- From the lines that a reader gave to what is served.
use Rattle.std.proofs.Common.{◌≡◌, ℕ, ◌+◌, ◌≤◌, inl, inr, Bool, List, [], ◌∷◌, ◌++◌, length, Option, Ok, Err, refl, sym, ap, ◌∙◌, subst, arith}
use Rattle.std.specs.Prelude.{OnOk, IfOk}
use Rattle.std.proofs.lemmas.List.{take_at, length-append}
use Rattle.std.proofs.KnownBytes.{Consumes-trans}
use Rattle.std.specs.declared.result.Result.{Result}
use Rattle.std.specs.Io.KnownBytes.{IsAtEnd}
use Rattle.sf_outside.specs.DiskModel.{DiskFacts}
use Rattle.request_json.specs.RequestLines.{longest}
use Rattle.request_json.specs.Actions.{Line, Ended, last_line, rest_from}
use Rattle.input_lines.specs.declared.lines.Lines.{Lines}
use Rattle.input_lines.specs.Reads.{IsStart, IsNew, Joins, EndsLine, JoinsAll, GoesPast}
use Rattle.input_lines.specs.Given.{Given}
use Rattle.input_lines.proofs.GivenLaws.{Given-new, Given-line, Given-none, Given-stop, Given-all}
use Rattle.engine.specs.Cores.{Core}
use Rattle.session_store.specs.declared.store.Store.{Store}
use Rattle.session_store.specs.Cycles.{IsInCycle}
use Rattle.session_steps.specs.Vocabulary.{Stop, cut, Service, StoreSettings}
use Rattle.session_steps.specs.StopVariants as stops
use Rattle.session_steps.specs.declared.tally.Tally.{Tally}
use Rattle.session_steps.specs.Steps.{Step, Answer, answers, last_steps, whole_steps, all_steps}
use Rattle.session_steps.specs.Doings.{Point, going, Comes, LogsSteps}
use Rattle.session_steps.proofs.Composing.{Does-none}
use Rattle.session_steps.proofs.Endings.{Comes-all, answers-append}
use Rattle.session_steps.proofs.LoggedSteps.{Logged-all}
use Rattle.batch_session.specs.declared.serving.SessionFault.{SessionFault}
use Rattle.batch_session.specs.declared.serving.SessionFault.TheVariants as fault
use Rattle.batch_session.specs.Faults.{fault_of, finished}
use Rattle.batch_session.specs.InTurn.{IsInTurnAt}
use Rattle.batch_session.specs.Served.{View, point_at, first_point, AreWhole, AreAll, AreStepsBy, CameTo, EndsWith, Served, ServedInTurn}
use Rattle.batch_session.proofs.TurnLaws.{in_turn_stopped, in_turn_finished}
use Rattle.batch_session.proofs.Reaching.{Reaches, Reaches-of, Reaches-then, Reaches-cut, Reaches-wanted}

-- all lines that the reader gave were answered, and it goes on
pub record Going (v : Service) (traces : Bool) (settings : Option StoreSettings) (limit : ℕ) (left left' : Option (List ℕ)) (reader : Lines) (old now : Point)
    (first last : Core) (facts facts' : DiskFacts) : Type 0 where
  pub given : List Line
  pub read : Given limit longest left left' reader given
  pub did : Reaches v traces settings {T = Unit {0}} (Ok (tt {0})) (answers given) old now first last facts facts'

module _ (v : Service) (traces : Bool) (settings : Option StoreSettings) (limit : ℕ) where
  pub Going-new : {reader : Lines} (l : Option (List ℕ)) (p q : Point) (core : Core) (facts : DiskFacts) → IsNew limit longest reader → q ≡ p
      → LogsSteps v settings p.core p.lines [] core core facts facts → Going v traces settings limit l l reader p q core core facts facts
  Going-new l p q core facts new same still = record {
    given = [];
    read = Given-new l new;
    did = record { came = subst (Comes v traces {T = Unit {0}} (Ok (tt {0})) [] p) (sym same) (Does-none v traces p); logs = still };
  }

  module _ {left l₁ l₂ : Option (List ℕ)} {old new : Lines} {p q : Point} {a b : Core} {f g : DiskFacts}
      (w : Going v traces settings limit left l₁ old p q a b f g) where
    -- the next line was answered, or as far as it went
    next_reached : {T : Type 0} (r : Result T Stop) (e : EndsLine old new l₁ l₂) (z : Point) (c : Core) (h : DiskFacts)
        → ((whole : List ℕ) → IsStart longest new.line whole → Reaches v traces settings r (Answer (cut new.ended whole) ∷ []) q z b c g h)
        → Reaches v traces settings r (answers (w.given ++ Ended (Given-line w.read e).line ∷ [])) p z a c f h
    next_reached r e z c h answered =
        let more = Given-line w.read e in
        let one : Reaches v traces settings r (Answer (Ended more.line) ∷ []) q z b c g h =
        subst (λ ended. Reaches v traces settings r (Answer (cut ended more.line) ∷ []) q z b c g h) e.ended (answered more.line more.start) in
        Reaches-of v traces settings r (answers w.given ++ Answer (Ended more.line) ∷ []) (answers (w.given ++ Ended more.line ∷ []))
        (sym (answers-append w.given (Ended more.line ∷ [])))
        (Reaches-then v traces settings r (answers w.given) (Answer (Ended more.line) ∷ []) w.did one)

    pub Going-line : (e : EndsLine old new l₁ l₂) (now : Lines) (z : Point) (c : Core) (h : DiskFacts) → now ≡ new
        → ((whole : List ℕ) → IsStart longest new.line whole
        → Reaches v traces settings {T = Unit {0}} (Ok (tt {0})) (Answer (cut new.ended whole) ∷ []) q z b c g h)
        → Going v traces settings limit left l₂ now p z a c f h
    Going-line e now z c h same answered =
        let more = Given-line w.read e in
        record {
          given = w.given ++ Ended more.line ∷ [];
          read = subst (λ reader. Given limit longest left l₂ reader (w.given ++ Ended more.line ∷ [])) (sym same) more.now;
          did = next_reached {T = Unit {0}} (Ok (tt {0})) e z c h answered;
        }

    -- it stopped at the next line
    line_stopped : (stop : Stop) (e : EndsLine old new l₁ l₂) (z : Point) (c : Core) (h : DiskFacts)
        → ((whole : List ℕ) → IsStart longest new.line whole → Reaches v traces settings {T = Unit {0}} (Err stop) (Answer (cut new.ended whole) ∷ []) q z b c g h)
        → Reaches v traces settings {T = Unit {0}} (Err stop) (whole_steps (Given-stop (Given-line w.read e).now).taken) p z a c f h
    line_stopped stop e z c h answered =
        let given = w.given ++ Ended (Given-line w.read e).line ∷ [] in
        let taken = Given-stop (Given-line w.read e).now in
        Reaches-of v traces settings {T = Unit {0}} (Err stop) (answers given ++ answers taken.more) (whole_steps taken.taken)
        (sym (answers-append given taken.more) ∙ ap answers (sym taken.whole))
        (Reaches-cut v traces settings {T = Unit {0}} (Err stop) (answers given) (answers taken.more) refl (next_reached {T = Unit {0}} (Err stop) e z c h answered))

    -- the reader wanted memory for it
    line_wanted : (j : Joins old new l₁ l₂) → Reaches v traces settings {T = Unit {0}} (Err stops.NoMemory) (whole_steps (Given-stop (Given-none w.read j)).taken) p q a b f g
    line_wanted j =
        let taken = Given-stop (Given-none w.read j) in
        Reaches-of v traces settings {T = Unit {0}} (Err stops.NoMemory) (answers w.given ++ answers taken.more) (whole_steps taken.taken)
        (sym (answers-append w.given taken.more) ∙ ap answers (sym taken.whole))
        (Reaches-wanted v traces settings (answers w.given) (answers taken.more) w.did)

    -- no line ends any more
    no_more : (j : JoinsAll old new l₁ l₂) → Reaches v traces settings {T = Unit {0}} (Ok (tt {0})) (whole_steps (Given-all w.read j).taken) p q a b f g
    no_more j =
        let all = Given-all w.read j in
        Reaches-of v traces settings {T = Unit {0}} (Ok (tt {0})) (answers w.given) (whole_steps all.taken) (ap answers (sym all.whole)) w.did

  -- ---- the exits

  -- it stopped among the whole lines, or among all and the batches at the end
  whole_stopped : (stop : Stop) (core : Core) (taken : List ℕ) (left : Option (List ℕ)) (steps : List Step) → AreWhole v limit taken steps
      → AreStepsBy v limit (Err (fault_of stop)) core taken left steps
  whole_stopped stops.HistoryFull core taken left steps w = inl w
  whole_stopped stops.NoMemory core taken left steps w = inl w
  whole_stopped stops.DiskFault core taken left steps w = inl w
  whole_stopped stops.WriteFault core taken left steps w = inl w

  all_stopped : (stop : Stop) (core : Core) (taken : List ℕ) (left : Option (List ℕ)) (steps : List Step) → AreAll v limit core taken left steps
      → AreStepsBy v limit (Err (fault_of stop)) core taken left steps
  all_stopped stops.HistoryFull core taken left steps a = inr a
  all_stopped stops.NoMemory core taken left steps a = inr a
  all_stopped stops.DiskFault core taken left steps a = inr a
  all_stopped stops.WriteFault core taken left steps a = inr a

  came_stopped : (stop : Stop) → CameTo (Err (fault_of stop)) (Err stop)
  came_stopped stops.HistoryFull = refl
  came_stopped stops.NoMemory = refl
  came_stopped stops.DiskFault = refl
  came_stopped stops.WriteFault = refl

  ends_stopped : (stop : Stop) → EndsWith (Err (fault_of stop)) (Err (fault_of stop))
  ends_stopped stops.HistoryFull = refl
  ends_stopped stops.NoMemory = refl
  ends_stopped stops.DiskFault = refl
  ends_stopped stops.WriteFault = tt

  -- what it came to at the end of the input
  abbrev ended_by : Result (Unit {0}) Stop → Result (Unit {0}) SessionFault
  ended_by (Ok value) = Ok (tt {0})
  ended_by (Err stop) = Err (fault_of stop)

  all_ended : (r : Result (Unit {0}) Stop) (core : Core) (taken : List ℕ) (left : Option (List ℕ)) (steps : List Step) → AreAll v limit core taken left steps
      → AreStepsBy v limit (ended_by r) core taken left steps
  all_ended (Ok value) core taken left steps a = a
  all_ended (Err stop) core taken left steps a = all_stopped stop core taken left steps a

  came_ended : (r : Result (Unit {0}) Stop) → CameTo (ended_by r) r
  came_ended (Ok value) = refl
  came_ended (Err stop) = came_stopped stop

  ends_ended : (r : Result (Unit {0}) Stop) (tally : Tally) → EndsWith (finished r tally) (ended_by r)
  ends_ended (Ok value) tally = refl
  ends_ended (Err stop) tally = ends_stopped stop

  counted_ended : (r : Result (Unit {0}) Stop) (tally : Tally) → IfOk (finished r tally) (λ (count : Tally). tally ≡ count)
  counted_ended (Ok value) tally = refl
  counted_ended (Err stop) tally = tt

  none_ended : (r : Result (Unit {0}) Stop) (core : Core) → OnOk r (core.pending ≡ []) → IfOk (ended_by r) (λ (value : Unit {0}). core.pending ≡ [])
  none_ended (Ok value) core none = none
  none_ended (Err stop) core none = tt

  module _ (old new : View) {l₁ : Option (List ℕ)} {reader next : Lines} {q : Point} {a b c : Core} {f g h : DiskFacts}
      (w : Going v traces settings limit old.left l₁ reader (first_point old) q a b f g) (count : ℕ) (tally : Tally) (store : Option Store) where
    -- it stopped at a line
    pub At-a-line : (e : EndsLine reader next l₁ new.left) (stop : Stop) (result : Result Tally SessionFault) → result ≡ Err (fault_of stop)
        → ((whole : List ℕ) → IsStart longest next.line whole
        → Reaches v traces settings {T = Unit {0}} (Err stop) (Answer (cut next.ended whole) ∷ []) q (point_at new count tally) b c g h)
        → IsInTurnAt traces {T = Unit {0}} (Err stop) store tally.batches → ServedInTurn v traces settings limit result old new a c f h store
    At-a-line e stop result same answered turn =
        let taken = Given-stop (Given-line w.read e).now in
        let m = line_stopped w stop e (point_at new count tally) c h answered in
        let s : Served v traces settings limit (Err (fault_of stop)) old new a c f h = record {
          taken = taken.taken;
          consumed = taken.consumed;
          ended = Err (fault_of stop);
          ends = ends_stopped stop;
          steps = whole_steps taken.taken;
          of_taken = whole_stopped stop old.core taken.taken new.left (whole_steps taken.taken) (taken.within, refl);
          stop = Err stop;
          is_stop = came_stopped stop;
          lines = count;
          tally = tally;
          came = m.came;
          counted = tt;
          none_waits = tt;
          logs = m.logs;
        } in
        let t : ServedInTurn v traces settings limit (Err (fault_of stop)) old new a c f h store = record {
          served = s;
          in_turn = in_turn_stopped traces stop store tally.batches turn;
        } in
        subst (λ x. ServedInTurn v traces settings limit x old new a c f h store) (sym same) t

    -- the input ended: a last line was answered, and then batches ran
    pub At-the-end : (j : JoinsAll reader next l₁ new.left × IsAtEnd new.left) (r : Result (Unit {0}) Stop) (result : Result Tally SessionFault) → result ≡ finished r tally
        → OnOk r (new.core.pending ≡ [])
        → ((whole : List ℕ) → IsStart longest next.line whole → Reaches v traces settings r (last_steps v (going q) (last_line whole)) q (point_at new count tally) b c g h)
        → IsInTurnAt traces r store tally.batches → ServedInTurn v traces settings limit result old new a c f h store
    At-the-end j r result same none ended turn =
        let all = Given-all w.read j.0 in
        let whole = no_more w j.0 in
        let end = ended (rest_from [] all.taken) all.start in
        let within : length all.taken ≤ limit = omega (arith, all.counted) in
        let s : Served v traces settings limit (finished r tally) old new a c f h = record {
          taken = all.taken;
          consumed = all.consumed;
          ended = ended_by r;
          ends = ends_ended r tally;
          steps = all_steps v old.core all.taken;
          of_taken = all_ended r old.core all.taken new.left (all_steps v old.core all.taken) (within, j.1, refl);
          stop = r;
          is_stop = came_ended r;
          lines = count;
          tally = tally;
          came = Comes-all v traces r all.taken (first_point old) q (point_at new count tally) refl whole.came end.came;
          counted = counted_ended r tally;
          none_waits = none_ended r new.core none;
          logs = Logged-all v settings traces all.taken (first_point old) q a b c f g h refl whole.came whole.logs end.logs;
        } in
        let t : ServedInTurn v traces settings limit (finished r tally) old new a c f h store = record {
          served = s;
          in_turn = in_turn_finished traces r tally store tally.batches turn;
        } in
        subst (λ x. ServedInTurn v traces settings limit x old new a c f h store) (sym same) t

  module _ (old new : View) {l₁ : Option (List ℕ)} {reader next : Lines} (count : ℕ) (tally : Tally) {a b : Core} {f g : DiskFacts}
      (w : Going v traces settings limit old.left l₁ reader (first_point old) (point_at new count tally) a b f g) (store : Option Store) where
    -- memory was wanted for a line
    pub At-no-memory : Joins reader next l₁ new.left → IsInCycle store tally.batches → ServedInTurn v traces settings limit (Err fault.NoMemory) old new a b f g store
    At-no-memory j in_cycle =
        let taken = Given-stop (Given-none w.read j) in
        let m = line_wanted w j in
        let s : Served v traces settings limit (Err fault.NoMemory) old new a b f g = record {
          taken = taken.taken;
          consumed = taken.consumed;
          ended = Err fault.NoMemory;
          ends = refl;
          steps = whole_steps taken.taken;
          of_taken = inl (taken.within, refl);
          stop = Err stops.NoMemory;
          is_stop = refl;
          lines = count;
          tally = tally;
          came = m.came;
          counted = tt;
          none_waits = tt;
          logs = m.logs;
        } in
        record { served = s; in_turn = in_cycle }

    -- the input couldn't be read
    pub At-a-fault : JoinsAll reader next l₁ new.left → IsInCycle store tally.batches → ServedInTurn v traces settings limit (Err fault.ReadFault) old new a b f g store
    At-a-fault j in_cycle =
        let all = Given-all w.read j in
        let within : length all.taken ≤ limit = omega (arith, all.counted) in
        let s : Served v traces settings limit (Err fault.ReadFault) old new a b f g = record {
          taken = all.taken;
          consumed = all.consumed;
          ended = Err fault.ReadFault;
          ends = refl;
          steps = whole_steps all.taken;
          of_taken = (within, refl);
          stop = Ok (tt {0});
          is_stop = refl;
          lines = count;
          tally = tally;
          came = (no_more w j).came;
          counted = tt;
          none_waits = tt;
          logs = (no_more w j).logs;
        } in
        record { served = s; in_turn = in_cycle }

    -- it was too long
    pub At-the-limit : GoesPast reader next l₁ new.left → IsInCycle store tally.batches → ServedInTurn v traces settings limit (Err fault.InputTooLong) old new a b f g store
    At-the-limit past in_cycle =
        let all = Given-all w.read past.all in
        let full : length all.taken ≡ limit = omega (arith, all.counted, past.full) in
        let one_more : length (all.taken ++ past.next ∷ []) ≡ limit + 1 = omega (arith, full, length-append all.taken (past.next ∷ [])) in
        let s : Served v traces settings limit (Err fault.InputTooLong) old new a b f g = record {
          taken = all.taken ++ past.next ∷ [];
          consumed = Consumes-trans old.left past.before new.left all.taken (past.next ∷ []) all.consumed past.beyond;
          ended = Err fault.InputTooLong;
          ends = refl;
          steps = whole_steps all.taken;
          of_taken = (one_more, ap whole_steps (sym (take_at all.taken (past.next ∷ []) limit full)));
          stop = Ok (tt {0});
          is_stop = refl;
          lines = count;
          tally = tally;
          came = (no_more w past.all).came;
          counted = tt;
          none_waits = tt;
          logs = (no_more w past.all).logs;
        } in
        record { served = s; in_turn = in_cycle }
