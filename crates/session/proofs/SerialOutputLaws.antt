-- What a session prints is what one serial run prints.
use Rattle.std.proofs.Common.{◌≡◌, ◌≤◌, ℕ, suc, ◌+◌, Bool, true, false, true≢false, cond, if◌then◌else◌, nat_lt, List, [], ◌∷◌, ◌++◌, length, None, Some, Ok, Err, refl, sym, ap, ◌∙◌, subst, append_assoc, append-nil, arith}
use Rattle.std.proofs.lemmas.List.{length-append}
use Rattle.std.proofs.lemmas.Bool.Decides.{nat_tests}
use Rattle.std.specs.Bool.{Decides}
use Rattle.std.specs.List.{slice_get, range_with_len}
use Rattle.std.specs.declared.option.Option.{Option}
use Rattle.std.specs.declared.result.Result.{Result}
use Rattle.sf_value.specs.declared.Entry.{Entry}
use Rattle.sf_value.specs.declared.Request.{Request}
use Rattle.sf_outside.specs.Bytes.{AppendsPrefix}
use Rattle.sf_outside.specs.Gains.{joined}
use Rattle.program_meaning.specs.ClassTables.{Source}
use Rattle.program_meaning.specs.Serial.{Core, IsSound}
use Rattle.program_meaning.proofs.SerialLaws.{IsSound-empty, IsSound-more}
use Rattle.request_history.specs.Repeats.{Kept, kept_of, entry_at, same_act}
use Rattle.request_history.proofs.RepeatLaws.{Stands, stands, still_at, not_committed, same_act-Decides}
use Rattle.request_json.specs.Actions.{Line, Action, Skip, Refuse, Ask, cause_text, action_of}
use Rattle.request_json.specs.ReplyLines.{reply_line, bad_line}
use Rattle.session.specs.declared.feeding.InputEnd.{InputEnd}
use Rattle.session.specs.declared.feeding.InputEnd.TheVariants.{End, ReadFault, TooLong}
use Rattle.session.specs.declared.stopping.SessionStop.{SessionStop}
use Rattle.session.specs.OutputText.{Standing, has_no_place, replies, after, start, empty_core, commit, entry_of, line_of_kept, new_line, reused, after_ask, ask_stops, answer_to, after_action, stops, reply_to, behind}
use Rattle.session.specs.Stops.{Wrote}
use Rattle.session.specs.Served.{OfWhole, OfAll, OfLimit, Served}
use Rattle.session.specs.SerialOutput.{Printed, Nothing, Refused, Reply, Again, text_of_entry, printed_text, printed_texts, places, IsNumbered, IsRefused, Fits, SerialLines, SerialRun}
use Rattle.session.proofs.LineLaws.{after-full, replies-full}
use Rattle.session.proofs.RequestLaws.{requests_fit}
use Rattle.session.proofs.StopLaws.{prefix_written}

-- the look-up of the entry that stands behind these
seam : (es : List Entry) (e : Entry) (more : List Entry) → slice_get (es ++ e ∷ more) (length es) ≡ Some e
seam [] e more = refl
seam (x ∷ es) e more = seam es e more

reply_there : (es : List Entry) (e : Entry) (more : List Entry)
    → printed_text (es ++ e ∷ more) (Reply (length es + 1)) ≡ reply_line e.request.id e.outcome (length es + 1)
reply_there es e more =
    let place : length es + 1 ≡ suc (length es) = omega arith in
    ap (λ k. text_of_entry (entry_at (es ++ e ∷ more) k) (length es + 1)) place ∙ ap (λ o. text_of_entry o (length es + 1)) (seam es e more)

-- these lines are answered from this core on, the first of them with this number: how the history grows, and what is printed
record Goes (src : Source) (most : ℕ) (old new : Core) (number : ℕ) (lines : List Line) (texts : List (List ℕ)) : Type 0 where
  sound : IsSound src new
  added : List Entry
  history : new.history ≡ old.history ++ added
  few : length new.history ≤ most
  printed : List Printed
  counted : places printed ≡ range_with_len (length old.history + 1) (length added)
  numbered : IsNumbered number printed
  fits : Fits src most old.history lines printed added
  printed_are : texts ≡ printed_texts new.history printed

module _ (src : Source) (most : ℕ) (core : Core) (number : ℕ) where
  Goes-none : IsSound src core → length core.history ≤ most → Goes src most core core number [] []
  Goes-none s few = record {
    sound = s;
    added = [];
    history = sym (append-nil core.history);
    few = few;
    printed = [];
    counted = refl;
    numbered = tt;
    fits = tt;
    printed_are = refl;
  }

  -- a new request found the history full
  Goes-stopped : (line : Line) (lines : List Line) (r : Request) → action_of src line ≡ Ask r → kept_of core.history r.id ≡ None
      → has_no_place src most core ≡ true → IsSound src core → length core.history ≤ most
      → Goes src most core core number (line ∷ lines) []
  Goes-stopped line lines r is new none s few = record {
    sound = s;
    added = [];
    history = sym (append-nil core.history);
    few = few;
    printed = [];
    counted = refl;
    numbered = tt;
    fits = record { request = r; asks = is; new = not_committed core.history r.id new; full = as_many none };
    printed_are = refl;
  }
    where
      as_many : nat_lt most (length core.history + 1) ≡ true → length core.history ≡ most
      as_many past = grind (arith, nat_tests)

module _ (src : Source) (most : ℕ) (core new : Core) (number : ℕ) (line : Line) (lines : List Line) (texts : List (List ℕ)) where
  Goes-nothing : action_of src line ≡ Skip → Goes src most core new (number + 1) lines texts → Goes src most core new number (line ∷ lines) ([] ∷ texts)
  Goes-nothing is g = record {
    sound = g.sound;
    added = g.added;
    history = g.history;
    few = g.few;
    printed = Nothing ∷ g.printed;
    counted = g.counted;
    numbered = g.numbered;
    fits = (is, g.fits);
    printed_are = ap (λ ts. [] ∷ ts) g.printed_are;
  }

  Goes-refused : (what : List ℕ) → IsRefused core.history (action_of src line) what → Goes src most core new (number + 1) lines texts
      → Goes src most core new number (line ∷ lines) (bad_line what number ∷ texts)
  Goes-refused what is g = record {
    sound = g.sound;
    added = g.added;
    history = g.history;
    few = g.few;
    printed = Refused number what ∷ g.printed;
    counted = g.counted;
    numbered = (refl, g.numbered);
    fits = (is, g.fits);
    printed_are = ap (λ ts. bad_line what number ∷ ts) g.printed_are;
  }

  Goes-again : (kept : Kept) → entry_at core.history kept.place ≡ Some kept.entry → action_of src line ≡ Ask kept.entry.request
      → Goes src most core new (number + 1) lines texts
      → Goes src most core new number (line ∷ lines) (line_of_kept kept ∷ texts)
  Goes-again kept at is g =
      let still : entry_at new.history kept.place ≡ Some kept.entry =
      ap (λ h. entry_at h kept.place) g.history ∙ still_at core.history g.added kept.place kept.entry at in
      record {
        sound = g.sound;
        added = g.added;
        history = g.history;
        few = g.few;
        printed = Again kept.place ∷ g.printed;
        counted = g.counted;
        numbered = g.numbered;
        fits = (record { entry = kept.entry; stands = at; asks = is }, g.fits);
        printed_are = (λ i. text_of_entry (sym still i) kept.place ∷ g.printed_are i);
      }

  Goes-reply : (r : Request) → action_of src line ≡ Ask r → Goes src most (commit src core r) new (number + 1) lines texts
      → Goes src most core new number (line ∷ lines) (reply_line r.id (entry_of src core r).outcome (length core.history + 1) ∷ texts)
  Goes-reply r is g =
      let e : Entry = entry_of src core r in
      let longer : length (core.history ++ e ∷ []) ≡ length core.history + 1 = length-append core.history (e ∷ []) in
      let grown : new.history ≡ core.history ++ e ∷ g.added = g.history ∙ append_assoc core.history (e ∷ []) g.added in
      record {
        sound = g.sound;
        added = e ∷ g.added;
        history = grown;
        few = g.few;
        printed = Reply (length core.history + 1) ∷ g.printed;
        counted = ap (λ ps. (length core.history + 1) ∷ ps) (g.counted ∙ ap (λ n. range_with_len (n + 1) (length g.added)) longer);
        numbered = g.numbered;
        fits = (is, g.fits);
        printed_are = (λ i. sym (ap (λ h. printed_text h (Reply (length core.history + 1))) grown ∙ reply_there core.history e g.added) i ∷ g.printed_are i);
      }

  -- what a request of a kept id does, by whether it asks for the same
  repeated : (same : Bool) (r : Request) (kept : Kept) → action_of src line ≡ Ask r → Stands core.history r.id kept
      → Decides same (kept.entry.request.act ≡ r.act) → Goes src most core new (number + 1) lines texts
      → Goes src most core new number (line ∷ lines) (cond same (line_of_kept kept) (bad_line reused number) ∷ texts)
  repeated true r kept asks at same g =
      let act : kept.entry.request.act ≡ r.act = same.0 refl in
      let request : r ≡ kept.entry.request = λ i. record { id = sym at.id_is i; act = sym act i } in
      Goes-again kept at.at (asks ∙ ap Ask request) g
  repeated false r kept asks at same g =
      let other = λ (is : kept.entry.request ≡ r). true≢false (sym (same.1 (ap (λ (q : Request). q.act) is))) in
      let refused : IsRefused core.history (Ask r) reused =
      (refl, record { place = kept.place; entry = kept.entry; stands = at.at; id = at.id_is; other = other }) in
      Goes-refused reused (subst (λ a. IsRefused core.history a reused) (sym asks) refused) g

-- a session that goes on
abbrev going : Core → ℕ → Standing
going core n = record { core = core; lines = n; is_full = false }

module _ (src : Source) (most : ℕ) where
  -- these lines are answered from this standing on
  abbrev GoesFrom : Core → ℕ → List Line → List (List ℕ) → Standing → List Line → Type 0
  GoesFrom core n lines texts s rest = Goes src most core (after src most s rest).core (n + 1) lines (texts ++ replies src most s rest)

  module _ (core : Core) (n : ℕ) (line : Line) (lines : List Line) (s : IsSound src core) (few : length core.history ≤ most)
      (go : (core' : Core) → IsSound src core' → length core'.history ≤ most → GoesFrom core' (n + 1) lines [] (going core' (n + 1)) lines) where
    -- what a new request does, by whether it has a place
    newly : (r : Request) → action_of src line ≡ Ask r → kept_of core.history r.id ≡ None → (full : Bool) → has_no_place src most core ≡ full
        → GoesFrom core n (line ∷ lines) (if full then [] else new_line src core r ∷ [])
        (record { core = if full then core else commit src core r; lines = n + 1; is_full = full }) lines
    newly r asks new true place =
        let st : Standing = record { core = core; lines = n + 1; is_full = true } in
        subst (λ (t : Standing). Goes src most core t.core (n + 1) (line ∷ lines) (replies src most st lines)) (sym (after-full src most lines st refl))
        (subst (Goes src most core core (n + 1) (line ∷ lines)) (sym (replies-full src most lines st refl))
        (Goes-stopped src most core (n + 1) line lines r asks new place s few))
    newly r asks new false place =
        let e : Entry = entry_of src core r in
        let longer : length (core.history ++ e ∷ []) ≡ length core.history + 1 = length-append core.history (e ∷ []) in
        Goes-reply src most core _ (n + 1) line lines _ r asks
        (go (commit src core r) (IsSound-more src core e s (not_committed core.history r.id new) refl) (room place longer))
      where
        room : nat_lt most (length core.history + 1) ≡ false → length (core.history ++ entry_of src core r ∷ []) ≡ length core.history + 1
            → length (core.history ++ entry_of src core r ∷ []) ≤ most
        room within longer = grind (arith, nat_tests)

    -- what a request does, by whether its id has an entry
    asked : (o : Option Kept) (r : Request) → action_of src line ≡ Ask r → kept_of core.history r.id ≡ o
        → GoesFrom core n (line ∷ lines) (answer_to src most core (n + 1) r o)
        (record { core = after_ask src most core r o; lines = n + 1; is_full = ask_stops src most core o }) lines
    asked (Some kept) r asks is =
        repeated src most core _ (n + 1) line lines _ (same_act kept.entry.request.act r.act) r kept asks (stands core.history r.id kept is)
        (same_act-Decides kept.entry.request.act r.act) (go core s few)
    asked None r asks is = newly r asks is (has_no_place src most core) refl

    acted : (action : Action) → action_of src line ≡ action
        → GoesFrom core n (line ∷ lines) (reply_to src most core (n + 1) action) (behind src most (going core n) action) lines
    unfolding after_action reply_to stops
    acted Skip asks = Goes-nothing src most core _ (n + 1) line lines _ asks (go core s few)
    acted (Refuse cause) asks =
        Goes-refused src most core _ (n + 1) line lines _ (cause_text cause) (subst (λ a. IsRefused core.history a (cause_text cause)) (sym asks) refl)
        (go core s few)
    acted (Ask r) asks = asked (kept_of core.history r.id) r asks refl

  goes : (lines : List Line) (core : Core) (n : ℕ) → IsSound src core → length core.history ≤ most → GoesFrom core n lines [] (going core n) lines
  unfolding replies after
  goes [] core n sound few = Goes-none src most core (n + 1) sound few
  goes (line ∷ lines) core n sound few = acted core n line lines sound few (λ core' sound' few'. goes lines core' (n + 1) sound' few') (action_of src line) refl

  -- the lines of every input are answered as one serial run
  pub SerialLines-all : (lines : List Line) → SerialLines src most lines
  SerialLines-all lines =
      let g = goes lines empty_core 0 (IsSound-empty src) (omega arith) in
      let fits : Fits src most [] lines g.printed (after src most start lines).core.history = subst (Fits src most [] lines g.printed) (sym g.history) g.fits in
      record {
        core = (after src most start lines).core;
        sound = record { run = g.sound; requests = requests_fit src most [] lines g.printed (after src most start lines).core.history fits };
        few = g.few;
        printed = g.printed;
        report = record { counted = g.counted ∙ ap (λ h. range_with_len 1 (length h)) (sym g.history); numbered = g.numbered };
        fits = fits;
        texts = g.printed_are;
      }

module _ (src : Source) (limit most : ℕ) (left left' held held' : Option (List ℕ)) where
  run_of : (result : Result InputEnd SessionStop) (lines : List Line) → Wrote result held held' (replies src most start lines) → SerialRun src held held'
  run_of result lines w =
      let s = SerialLines-all src most lines in
      record {
        core = s.core;
        sound = s.sound;
        printed = s.printed;
        report = s.report;
        wrote = subst (λ texts. AppendsPrefix held held' (joined texts)) s.texts (prefix_written result held held' (replies src most start lines) w);
      }

  -- what is served is what one serial run prints
  pub Served-serial : (result : Result InputEnd SessionStop) → Served src limit most left left' held held' result → SerialRun src held held'
  Served-serial (Ok End) p = run_of (Ok End) _ p.0.wrote
  Served-serial (Ok ReadFault) p = run_of (Ok ReadFault) _ p.wrote
  Served-serial (Ok TooLong) p = run_of (Ok TooLong) _ p.answered.wrote
  Served-serial (Err stop) (OfWhole a) = run_of (Err stop) _ a.wrote
  Served-serial (Err stop) (OfAll a end) = run_of (Err stop) _ a.wrote
  Served-serial (Err stop) (OfLimit fault over) = run_of (Err stop) _ over.answered.wrote
