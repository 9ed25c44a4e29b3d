-- What a session that serves each request at once has written is what one with batches of one request writes, up to there.
use Rattle.std.proofs.Common.{◌≡◌, ℕ, zero, suc, ◌+◌, ◌-◌, ◌≤◌, ◌<◌, ◌^◌, ◌⊎◌, inl, inr, Bool, true, false, Option, None, Some, List, [], ◌∷◌, ◌++◌, length, take, drop, Ok, Err, if◌then◌else◌, refl, sym, ap, ◌∙◌, subst, append-nil, append_assoc, arith}
use Rattle.std.proofs.Math.Seq.{take-length, take-nil}
use Rattle.std.proofs.lemmas.List.{take_at, take-append-drop, take-append-le}
use Rattle.std.specs.declared.result.Result.{Result}
use Rattle.std.specs.Io.KnownBytes.{Appends}
use Rattle.sf_outside.specs.Bytes.{AppendsPrefix}
use Rattle.sf_outside.specs.Gains.{joined}
use Rattle.sf_outside.proofs.Fronts.{take_past, take_into}
use Rattle.sf_outside.proofs.GainLaws.{joined-nil, joined-append}
use Rattle.sf_value.specs.declared.Request.{Request}
use Rattle.program_meaning.specs.ClassTables.{Source}
use Rattle.program_meaning.specs.Serial as serial
use Rattle.serial_order.specs.ConflictFree.{Access}
use Rattle.reservations.specs.CommitRules.{Chosen}
use Rattle.request_history.specs.Repeats.{Kept, kept_of}
use Rattle.request_json.specs.Actions.{Line, Action, Skip, Refuse, Ask, cause_text, action_of}
use Rattle.request_json.specs.ReplyLines.{bad_line}
use Rattle.request_json.proofs.LinesFit.{ask_fits}
use Rattle.engine.specs.declared.arrival.Arrival.{Arrival}
use Rattle.engine.specs.declared.arrival.Arrival.TheVariants as arrival
use Rattle.engine.specs.Cores.{Core, IsSoundCore, empty_core}
use Rattle.engine.specs.Arrivals as engine
use Rattle.engine.specs.Batches.{after_batch}
use Rattle.engine.proofs.EmptyLaws.{empty_sound}
use Rattle.session.specs.declared.feeding.InputEnd.{InputEnd}
use Rattle.session.specs.declared.stopping.SessionStop.{SessionStop}
use Rattle.session.specs.declared.stopping.SessionStop.TheVariants.{HistoryFull, NoMemory, WriteFault}
use Rattle.session.specs.OutputText as local
use Rattle.session.specs.Stops.{Wrote}
use Rattle.session.proofs.LineLaws.{replies-full}
use Rattle.batch_output.specs.BatchOutput.{Limits, Standing, begun, taken, is_due, committed, has_no_place, step, reply, after, replies}
use Rattle.batch_output.specs.SerialBatches.{IsLawfulRule, MayBegin, PrintsSerially, printed_texts}
use Rattle.batch_output.proofs.SessionLaws.{serial_batches, answered}
use Rattle.batch_of_one.specs.BatchOfOne.{in_batches}
use Rattle.batch_of_one.specs.WrittenAtOnce.{ComesBehind, WroteBatches, WritesBatches}
use Rattle.batch_of_one.proofs.OneRequest.{stand_alike}

-- what was written whole is a part
part_of_whole : (a b : Option (List ℕ)) (xs : List ℕ) → Appends a b xs → AppendsPrefix a b xs
part_of_whole a b xs p = (length xs, subst (Appends a b) (sym (take-length xs)) p)

-- A session that serves each request at once: each line is answered one text, up to the one that finds the history full

module _ (src : Source) (most : ℕ) where
  -- a line is answered one text, and the session goes on; or none, and it has stopped
  abbrev IsOneOrStops : local.Standing → List (List ℕ) → Type 0
  IsOneOrStops next texts = ((text : List ℕ) × (texts ≡ text ∷ []) × (next.is_full ≡ false)) ⊎ ((texts ≡ []) × (next.is_full ≡ true))

  module _ (t : local.Standing) where
    by_room : (core : serial.Core) (r : Request) (full : Bool)
        → IsOneOrStops (record { core = core; lines = t.lines + 1; is_full = full }) (if full then [] else local.new_line src t.core r ∷ [])
    by_room core r true = inr (refl, refl)
    by_room core r false = inl (local.new_line src t.core r, refl, refl)

    by_kept : (r : Request) (kept : Option Kept)
        → IsOneOrStops (record { core = local.after_ask src most t.core r kept; lines = t.lines + 1; is_full = local.ask_stops src most t.core kept })
        (local.answer_to src most t.core (t.lines + 1) r kept)
    by_kept r (Some kept) = inl (local.answer_again (t.lines + 1) r.act kept, refl, refl)
    by_kept r None = by_room (local.after_new src most t.core r) r (local.has_no_place src most t.core)

    by_action : (a : Action) → IsOneOrStops (local.behind src most t a) (local.reply_to src most t.core (t.lines + 1) a)
    unfolding local.after_action local.reply_to local.stops
    by_action Skip = inl ([], refl, refl)
    by_action (Refuse cause) = inl (bad_line (cause_text cause) (t.lines + 1), refl, refl)
    by_action (Ask r) = by_kept r (kept_of t.core.history r.id)

  taken_on : (texts : List (List ℕ)) (next : local.Standing) (k : ℕ) (lines : List Line) → IsOneOrStops next texts
      → ((next.is_full ≡ false) → take k (local.replies src most next lines) ≡ local.replies src most next (take k lines))
      → take (suc k) (texts ++ local.replies src most next lines) ≡ texts ++ local.replies src most next (take k lines)
  taken_on texts next k lines (inl o) later =
      ap (λ l. take (suc k) (l ++ local.replies src most next lines)) o.1
      ∙ ap (λ l. o.0 ∷ l) (later o.2)
      ∙ ap (λ l. l ++ local.replies src most next (take k lines)) (sym o.1)
  taken_on texts next k lines (inr none) later =
      ap (take (suc k)) (ap (λ l. l ++ local.replies src most next lines) none.0 ∙ replies-full src most lines next none.1)
      ∙ sym (ap (λ l. l ++ local.replies src most next (take k lines)) none.0 ∙ replies-full src most (take k lines) next none.1)

  reply_is : (t : local.Standing) (line : Line) → t.is_full ≡ false → IsOneOrStops (local.step src most t line) (local.reply src most t line)
  reply_is t line goes =
      subst (λ full. IsOneOrStops (if full then t else local.behind src most t (action_of src line))
      (if full then [] else local.reply_to src most t.core (t.lines + 1) (action_of src line))) (sym goes) (by_action t (action_of src line))

  -- so the first replies are those to the first lines
  open_replies : (k : ℕ) (lines : List Line) (t : local.Standing) → t.is_full ≡ false
      → take k (local.replies src most t lines) ≡ local.replies src most t (take k lines)
  unfolding local.replies
  open_replies zero lines t goes = refl
  open_replies (suc k) [] t goes = refl
  open_replies (suc k) (line ∷ lines) t goes =
      taken_on (local.reply src most t line) (local.step src most t line) k lines (reply_is t line goes)
      (open_replies k lines (local.step src most t line))

-- A session in batches

module _ (src : Source) (rule : List Access → Chosen) (limits : Limits) where
  replies_both : (xs ys : List Line) (s : Standing)
      → replies src rule limits s (xs ++ ys) ≡ replies src rule limits s xs ++ replies src rule limits (after src rule limits s xs) ys
  unfolding replies after
  replies_both [] ys s = refl
  replies_both (x ∷ xs) ys s =
      ap (λ l. reply src rule limits s x ++ l) (replies_both xs ys (step src rule limits s x))
      ∙ sym (append_assoc (reply src rule limits s x) (replies src rule limits (step src rule limits s x) xs)
      (replies src rule limits (after src rule limits (step src rule limits s x) xs) ys))

  after_both : (xs ys : List Line) (s : Standing) → after src rule limits s (xs ++ ys) ≡ after src rule limits (after src rule limits s xs) ys
  unfolding after
  after_both [] ys s = refl
  after_both (x ∷ xs) ys s = after_both xs ys (step src rule limits s x)

  -- the replies to some first lines are some first replies
  first_replies : (k : ℕ) (lines : List Line) (s : Standing)
      → replies src rule limits s (take k lines) ≡ take (length (replies src rule limits s (take k lines))) (replies src rule limits s lines)
  first_replies k lines s =
      let first : List (List ℕ) = replies src rule limits s (take k lines) in
      let rest : List (List ℕ) = replies src rule limits (after src rule limits s (take k lines)) (drop k lines) in
      sym (ap (take (length first)) (ap (replies src rule limits s) (sym (take-append-drop k lines)) ∙ replies_both (take k lines) (drop k lines) s)
      ∙ take_at first rest (length first) refl)

  -- A front of the text of replies ends behind those to a line, or within those to the next one.
  record IsCut (s : Standing) (lines : List Line) (n : ℕ) : Type 0 where
    count : ℕ
    line : Line
    more : ℕ
    next : take (suc count) lines ≡ take count lines ++ line ∷ []
    text : take n (joined (replies src rule limits s lines))
        ≡ joined (replies src rule limits s (take count lines)) ++ take more (joined (reply src rule limits (after src rule limits s (take count lines)) line))

  record IsUncut (s : Standing) (lines : List Line) (n : ℕ) : Type 0 where
    text : take n (joined (replies src rule limits s lines)) ≡ joined (replies src rule limits s lines)

  cut_first : (s : Standing) (line : Line) (lines : List Line) (n : ℕ) → n ≤ length (joined (reply src rule limits s line)) → IsCut s (line ∷ lines) n
  unfolding replies after
  cut_first s line lines n low = record {
    count = 0;
    line = line;
    more = n;
    next = refl;
    text =
        ap (take n) (joined-append (reply src rule limits s line) (replies src rule limits (step src rule limits s line) lines))
        ∙ take-append-le n (joined (reply src rule limits s line)) (joined (replies src rule limits (step src rule limits s line) lines)) low
        ∙ ap (λ l. l ++ take n (joined (reply src rule limits s line))) (sym joined-nil);
  }

  past_first : (s : Standing) (line : Line) (lines : List Line) (n : ℕ) → length (joined (reply src rule limits s line)) ≤ n
      → take n (joined (replies src rule limits s (line ∷ lines)))
      ≡ joined (reply src rule limits s line)
      ++ take (n - length (joined (reply src rule limits s line))) (joined (replies src rule limits (step src rule limits s line) lines))
  unfolding replies
  past_first s line lines n high =
      ap (take n) (joined-append (reply src rule limits s line) (replies src rule limits (step src rule limits s line) lines))
      ∙ take_past (joined (reply src rule limits s line)) (joined (replies src rule limits (step src rule limits s line) lines)) n high

  cut_later : (s : Standing) (line : Line) (lines : List Line) (n : ℕ) → length (joined (reply src rule limits s line)) ≤ n
      → IsCut (step src rule limits s line) lines (n - length (joined (reply src rule limits s line))) → IsCut s (line ∷ lines) n
  unfolding replies after
  cut_later s line lines n high c =
      let next : Standing = step src rule limits s line in
      let first : List ℕ = joined (reply src rule limits s line) in
      let some : List ℕ = joined (replies src rule limits next (take c.count lines)) in
      let part : List ℕ = take c.more (joined (reply src rule limits (after src rule limits next (take c.count lines)) c.line)) in
      record {
        count = suc c.count;
        line = c.line;
        more = c.more;
        next = ap (λ l. line ∷ l) c.next;
        text =
            past_first s line lines n high
            ∙ ap (λ l. first ++ l) c.text
            ∙ sym (append_assoc first some part)
            ∙ ap (λ l. l ++ part) (sym (joined-append (reply src rule limits s line) (replies src rule limits next (take c.count lines))));
      }

  uncut_later : (s : Standing) (line : Line) (lines : List Line) (n : ℕ) → length (joined (reply src rule limits s line)) ≤ n
      → IsUncut (step src rule limits s line) lines (n - length (joined (reply src rule limits s line))) → IsUncut s (line ∷ lines) n
  unfolding replies
  uncut_later s line lines n high u = record {
    text =
        past_first s line lines n high
        ∙ ap (λ l. joined (reply src rule limits s line) ++ l) u.text
        ∙ sym (joined-append (reply src rule limits s line) (replies src rule limits (step src rule limits s line) lines));
  }

  low_or_high : (n m : ℕ) → (n ≤ m) ⊎ (m ≤ n)
  low_or_high zero m = inl (omega arith)
  low_or_high (suc n) zero = inr (omega arith)
  low_or_high (suc n) (suc m) = elim (low_or_high n m) [ inl low ↦ inl (omega (arith, low)) | inr high ↦ inr (omega (arith, high)) ]

  cut_at : (lines : List Line) (s : Standing) (n : ℕ) → IsCut s lines n ⊎ IsUncut s lines n
  unfolding replies
  cut_at [] s n = inr (record { text = ap (take n) joined-nil ∙ take-nil n ∙ sym joined-nil })
  cut_at (line ∷ lines) s n =
      let next : Standing = step src rule limits s line in
      let size : ℕ = length (joined (reply src rule limits s line)) in
      elim (low_or_high n size) [
        | inl low ↦ inl (cut_first s line lines n low)
        | inr high ↦ elim (cut_at lines next (n - size)) [
          | inl cut ↦ inl (cut_later s line lines n high cut)
          | inr uncut ↦ inr (uncut_later s line lines n high uncut)
        ]
      ]

-- A request that arrives commits nothing

joined_history : (core : Core) (r : Request) (a : Arrival) → (engine.joined core r a).history ≡ core.history
joined_history core r arrival.New = refl
joined_history core r (arrival.Again place) = refl
joined_history core r arrival.Waiting = refl
joined_history core r arrival.Reused = refl

taken_history : (core : Core) (action : Action) → (taken core action).history ≡ core.history
taken_history core Skip = refl
taken_history core (Refuse cause) = refl
taken_history core (Ask r) = joined_history core r (engine.arrival_of core r)

-- Behind some first lines, from nothing committed on

module _ (src : Source) (rule : List Access → Chosen) (lawful : IsLawfulRule rule) (limits : Limits) (one : limits.batch ≡ 1) where
  may_begin : MayBegin src rule limits empty_core
  may_begin = record { lawful = lawful; batch = omega (arith, one); sound = empty_sound src; few = omega arith }

  runs : (lines : List Line)
      → PrintsSerially src empty_core (in_batches src rule limits lines).core (length lines) (replies src rule limits (begun empty_core) lines)
  runs lines = (serial_batches src rule limits empty_core may_begin lines).between

  -- another core with the same history, by a request that waits
  same_run : (core other : Core) (number : ℕ) (texts : List (List ℕ)) → other.history ≡ core.history → IsSoundCore src other → PrintsSerially src empty_core core number texts
      → PrintsSerially src empty_core other number texts
  same_run core other number texts same sound p = record {
    sound = sound;
    added = p.added;
    printed = p.printed;
    report = record { history = same ∙ p.report.history; counted = p.report.counted; repeats = p.report.repeats; numbered = p.report.numbered };
    texts_are = subst (λ h. texts ≡ printed_texts h p.printed) (sym same) p.texts_are;
  }

  taken_sound : (core : Core) (line : Line) → IsSoundCore src core → IsSoundCore src (taken core (action_of src line))
  taken_sound core line sound = (answered src core sound 0 (action_of src line) (λ r is. ask_fits src line r is)).sound

  -- the core before what the next line commits, and the one behind it
  record IsNext (t : Standing) (last : Core) : Type 0 where
    before : Core
    same : before.history ≡ t.core.history
    sound : IsSoundCore src before
    last_is : (last ≡ before) ⊎ (last ≡ after_batch src before (committed src rule limits before))

  abbrev moved_by : Standing → Line → Core
  moved_by t line = taken t.core (action_of src line)

  -- behind the line, by whether the session has stopped, whether a batch is due, and whether the history has no place for it
  abbrev stepped : Standing → Line → Bool → Bool → Bool → Standing
  stepped t line full due none =
      if full
      then t
      else (if due
      then (if none
      then record { core = moved_by t line; lines = t.lines + 1; is_full = true }
      else record { core = after_batch src (moved_by t line) (committed src rule limits (moved_by t line)); lines = t.lines + 1; is_full = false })
      else record { core = moved_by t line; lines = t.lines + 1; is_full = false })

  next_by : (t : Standing) (line : Line) → IsSoundCore src t.core → (full due none : Bool) → IsNext t (stepped t line full due none).core
  next_by t line sound true due none = record { before = t.core; same = refl; sound = sound; last_is = inl refl }
  next_by t line sound false false none =
      record { before = moved_by t line; same = taken_history t.core (action_of src line); sound = taken_sound t.core line sound; last_is = inl refl }
  next_by t line sound false true true =
      record { before = moved_by t line; same = taken_history t.core (action_of src line); sound = taken_sound t.core line sound; last_is = inl refl }
  next_by t line sound false true false =
      record { before = moved_by t line; same = taken_history t.core (action_of src line); sound = taken_sound t.core line sound; last_is = inr refl }

  next_core : (t : Standing) (line : Line) → IsSoundCore src t.core → IsNext t (step src rule limits t line).core
  next_core t line sound = next_by t line sound t.is_full (is_due src rule limits t.core (action_of src line)) (has_no_place src rule limits (moved_by t line))

  module _ (lines : List Line) (held held' : Option (List ℕ)) where
    abbrev Behind : Type 0 → Core → Type 0
    Behind cut last = ComesBehind src rule limits lines held held' cut last

    abbrev texts_of : List Line → List (List ℕ)
    texts_of some = replies src rule limits (begun empty_core) some

    -- all replies to some first lines were written
    all_behind : (cut : Type 0) (count : ℕ) → Appends held held' (joined (texts_of (take count lines))) → Behind cut (in_batches src rule limits (take count lines)).core
    all_behind cut count wrote = record {
      count = count;
      core = refl;
      came = length (take count lines);
      run = runs (take count lines);
      front = part_of_whole held held' (joined (texts_of (take count lines))) wrote;
      before = (in_batches src rule limits (take count lines)).core;
      number = length (take count lines);
      texts = texts_of (take count lines);
      serial = runs (take count lines);
      more = [];
      wrote = subst (Appends held held') (sym (append-nil (joined (texts_of (take count lines))))) wrote;
      last_is = inl refl;
    }

    -- the reply to the next one was cut
    module _ (cut : Type 0) (was_cut : cut) (n : ℕ) (wrote : Appends held held' (take n (joined (texts_of lines)))) (c : IsCut src rule limits (begun empty_core) lines n) where
      abbrev t : Standing
      t = in_batches src rule limits (take c.count lines)

      abbrev first : List ℕ
      first = joined (texts_of (take c.count lines))

      abbrev next : List ℕ
      next = joined (reply src rule limits t c.line)

      one_step : (s : Standing) → after src rule limits s (c.line ∷ []) ≡ step src rule limits s c.line
      unfolding after
      one_step s = refl

      one_reply : (s : Standing) → replies src rule limits s (c.line ∷ []) ≡ reply src rule limits s c.line
      unfolding replies
      one_reply s = append-nil (reply src rule limits s c.line)

      step_is : in_batches src rule limits (take (suc c.count) lines) ≡ step src rule limits t c.line
      step_is =
          ap (in_batches src rule limits) c.next
          ∙ after_both src rule limits (take c.count lines) (c.line ∷ []) (begun empty_core)
          ∙ one_step t

      text_is : joined (texts_of (take (suc c.count) lines)) ≡ first ++ next
      text_is =
          ap (λ l. joined (texts_of l)) c.next
          ∙ ap joined (replies_both src rule limits (take c.count lines) (c.line ∷ []) (begun empty_core))
          ∙ joined-append (texts_of (take c.count lines)) (replies src rule limits t (c.line ∷ []))
          ∙ ap (λ l. first ++ joined l) (one_reply t)

      written : Appends held held' (first ++ take c.more next)
      written = subst (Appends held held') c.text wrote

      front_is : AppendsPrefix held held' (first ++ next)
      front_is = (length first + c.more, subst (Appends held held') (sym (take_into first next c.more)) written)

      cut_behind : Behind cut (step src rule limits t c.line).core
      cut_behind =
          let at = next_core t c.line (runs (take c.count lines)).sound in
          record {
            count = suc c.count;
            core = ap (λ (s : Standing). s.core) step_is;
            came = length (take (suc c.count) lines);
            run =
                subst (λ (s : Standing). PrintsSerially src empty_core s.core (length (take (suc c.count) lines)) (texts_of (take (suc c.count) lines))) step_is
                (runs (take (suc c.count) lines));
            front = subst (AppendsPrefix held held') (sym text_is) front_is;
            before = at.before;
            number = length (take c.count lines);
            texts = texts_of (take c.count lines);
            serial = same_run t.core at.before (length (take c.count lines)) (texts_of (take c.count lines)) at.same at.sound (runs (take c.count lines));
            more = take c.more next;
            wrote = written;
            last_is = elim at.last_is [ inl same ↦ inl same | inr later ↦ inr (was_cut, later) ];
          }

    -- By the result

    abbrev at_once_texts : List Line → List (List ℕ)
    at_once_texts some = local.replies src limits.history local.start some

    same_text : (some : List Line) → joined (at_once_texts some) ≡ joined (texts_of some)
    same_text some = sym (stand_alike src rule lawful limits one some).text

    all_taken : take (length lines) lines ≡ lines
    all_taken = take-length lines

    whole_written : (result : Result InputEnd SessionStop) → Appends held held' (joined (at_once_texts lines)) → WroteBatches src rule limits lines held held' result
    whole_written result wrote =
        let all : Appends held held' (joined (texts_of lines)) = subst (Appends held held') (same_text lines) wrote in
        record {
          last = (in_batches src rule limits (take (length lines) lines)).core;
          behind = all_behind (result ≡ Err WriteFault) (length lines) (subst (λ l. Appends held held' (joined (texts_of l))) (sym all_taken) all);
          whole = λ p q. ap (λ l. (in_batches src rule limits l).core) (sym all_taken);
          some = λ p. (length (texts_of lines), subst (λ l. Appends held held' (joined l)) (sym (take-length (texts_of lines))) all);
        }

    some_written : (k : ℕ) → Appends held held' (joined (take k (at_once_texts lines))) → WroteBatches src rule limits lines held held' (Err NoMemory)
    some_written k wrote =
        let some : Appends held held' (joined (texts_of (take k lines))) =
        subst (Appends held held') (ap joined (open_replies src limits.history k lines local.start refl) ∙ same_text (take k lines)) wrote in
        record {
          last = (in_batches src rule limits (take k lines)).core;
          behind = all_behind _ k some;
          whole = λ p q. absurd (p refl);
          some = λ p. (
            length (texts_of (take k lines)),
            subst (λ l. Appends held held' (joined l)) (first_replies src rule limits k lines (begun empty_core)) some,
          );
        }

    cut_written : (n : ℕ) → Appends held held' (take n (joined (at_once_texts lines))) → WroteBatches src rule limits lines held held' (Err WriteFault)
    cut_written n wrote =
        let part : Appends held held' (take n (joined (texts_of lines))) = subst (λ text. Appends held held' (take n text)) (same_text lines) wrote in
        elim (cut_at src rule limits lines (begun empty_core) n) [
          | inl c ↦ record {
            last = (step src rule limits (in_batches src rule limits (take c.count lines)) c.line).core;
            behind = cut_behind _ refl n part c;
            whole = λ p q. absurd (q refl);
            some = λ p. absurd (p refl);
          }
          | inr u ↦ record {
            last = (in_batches src rule limits (take (length lines) lines)).core;
            behind =
                all_behind _ (length lines)
                (subst (λ l. Appends held held' (joined (texts_of l))) (sym all_taken) (subst (Appends held held') u.text part));
            whole = λ p q. absurd (q refl);
            some = λ p. absurd (p refl);
          }
        ]

pub writes_batches : WritesBatches
writes_batches src rule lawful limits one lines held held' (Ok end) wrote = whole_written src rule lawful limits one lines held held' (Ok end) wrote
writes_batches src rule lawful limits one lines held held' (Err HistoryFull) wrote =
    whole_written src rule lawful limits one lines held held' (Err HistoryFull) wrote
writes_batches src rule lawful limits one lines held held' (Err NoMemory) wrote = some_written src rule lawful limits one lines held held' wrote.0 wrote.1
writes_batches src rule lawful limits one lines held held' (Err WriteFault) wrote = cut_written src rule lawful limits one lines held held' wrote.0 wrote.1
