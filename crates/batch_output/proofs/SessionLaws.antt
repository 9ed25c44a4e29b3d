-- A session that serves in batches: its lines, and the end of its input.
use Rattle.std.proofs.Common.{◌≡◌, ℕ, zero, suc, ◌+◌, ◌<◌, ◌≤◌, ◌^◌, Bool, true, false, true≢false, not, ◌||◌, Option, None, Some, List, [], ◌∷◌, ◌++◌, length, if◌then◌else◌, refl, sym, ap, ◌∙◌, subst, append-nil, arith}
use Rattle.std.specs.List.{slice_get}
use Rattle.std.specs.Option.{option_map}
use Rattle.std.proofs.lemmas.Bool.{ltb-true, ltb-false, leb-false}
use Rattle.std.proofs.lemmas.List.{length-append}
use Rattle.std.proofs.lemmas.Option.{none-some}
use Rattle.py_tree.specs.ClassRules.{tables_of}
use Rattle.sf_value.specs.declared.Entry.{Entry}
use Rattle.sf_value.specs.declared.Request.{Request}
use Rattle.program_meaning.specs.ClassTables.{Source}
use Rattle.serial_order.specs.ConflictFree.{Access}
use Rattle.reservations.specs.CommitRules.{Chosen}
use Rattle.request_history.specs.Repeats.{placed, entry_at}
use Rattle.request_history.specs.SoundHistory.{RequestFits}
use Rattle.request_json.specs.Actions.{Line, Action, Skip, Refuse, Ask, cause_text, action_of}
use Rattle.request_json.specs.ReplyLines.{bad_line}
use Rattle.request_json.proofs.LinesFit.{ask_fits}
use Rattle.engine.specs.declared.arrival.Arrival.{Arrival}
use Rattle.engine.specs.declared.arrival.Arrival.TheVariants as arrival
use Rattle.engine.specs.Cores.{Core, IsSoundCore}
use Rattle.engine.specs.Arrivals.{arrival_of, joined, Says}
use Rattle.engine.specs.Batches.{batch_entries, after_batch}
use Rattle.engine.proofs.ArrivalLaws.{arrivals_say, arrival_grows}
use Rattle.engine.proofs.GrowthLaws.{grows_sound}
use Rattle.batch_output.specs.BatchOutput.{Limits, Standing, begun, waits, entry_lines, kept_line, reused, answer_on, answer, taken, fills, is_due, committed, has_no_place, settled, batch_lines, with_line, settled_if, lines_if, step, reply, after, replies, ended, last_replies, at_end, end_replies}
use Rattle.batch_output.specs.SerialBatches.{Refused, Again, text_of_entry, IsLawfulRule, PrintsSerially, SerialBatches}
use Rattle.batch_output.specs.BatchesEnd.{BatchesEnd}
use Rattle.batch_output.proofs.LawfulBatches.{stays_sound, fewer_wait}
use Rattle.batch_output.proofs.ReportLaws.{Goes, Goes-none, Goes-then, Goes-batch, numbered_later}

-- An answer

kept_text : (place : ℕ) (o : Option Entry) (e : Entry) → o ≡ Some e → kept_line (option_map (placed place) o) ≡ text_of_entry o place ∷ []
kept_text place None e is = absurd (none-some e is)
kept_text place (Some x) e is = refl

there : (es : List Entry) (i : ℕ) (e : Entry) → slice_get es i ≡ Some e → i < length es
there [] i e is = absurd (none-some e is)
there (x ∷ es) zero e is = omega arith
there (x ∷ es) (suc i) e is = let later = there es i e is in omega arith

place_there : (es : List Entry) (place : ℕ) (e : Entry) → entry_at es place ≡ Some e → (1 ≤ place) × (place ≤ length es)
place_there es zero e is = absurd (none-some e is)
place_there es (suc i) e is = let below = there es i e is in (omega arith, omega arith)

module _ (src : Source) (core : Core) (sound : IsSoundCore src core) (number : ℕ) where
  nothing : Goes src core core number (number + 1) []
  nothing = Goes-none src core number (number + 1) (omega arith) sound

  refused : (what : List ℕ) → Goes src core core number (number + 1) (bad_line what (number + 1) ∷ [])
  refused what = record {
    sound = sound;
    added = [];
    printed = Refused (number + 1) what ∷ [];
    history = sym (append-nil core.history);
    counted = refl;
    repeats = tt;
    rises = omega arith;
    numbered = (omega arith, omega arith, tt);
    texts_are = refl;
  }

  again : (place : ℕ) (e : Entry) → entry_at core.history place ≡ Some e → Goes src core core number (number + 1) (kept_line (option_map (placed place) (entry_at core.history place)))
  again place e is =
      let within = place_there core.history place e is in
      record {
        sound = sound;
        added = [];
        printed = Again place ∷ [];
        history = sym (append-nil core.history);
        counted = refl;
        repeats = (within.0, within.1, tt);
        rises = omega arith;
        numbered = tt;
        texts_are = kept_text place (entry_at core.history place) e is;
      }

  joins : (r : Request) → IsSoundCore src (joined core r arrival.New) → Goes src core (joined core r arrival.New) number (number + 1) []
  joins r grown = record {
    sound = grown;
    added = [];
    printed = [];
    history = sym (append-nil core.history);
    counted = refl;
    repeats = tt;
    rises = omega arith;
    numbered = tt;
    texts_are = refl;
  }

  met : (r : Request) (a : Arrival) → Says core r a → IsSoundCore src (joined core r a) → Goes src core (joined core r a) number (number + 1) (answer_on core (number + 1) a)
  met r arrival.New says grown = joins r grown
  met r (arrival.Again place) says grown = again place says.entry says.stands
  met r arrival.Waiting says grown = nothing
  met r arrival.Reused says grown = refused reused

  pub answered : (action : Action) → ((r : Request) → action ≡ Ask r → RequestFits (tables_of src.names src.program) r) → Goes src core (taken core action) number (number + 1) (answer core (number + 1) action)
  answered Skip fits = nothing
  answered (Refuse cause) fits = refused (cause_text cause)
  answered (Ask r) fits = met r (arrival_of core r) (arrivals_say core r) (grows_sound src core (joined core r (arrival_of core r)) sound (arrival_grows src core r (fits r refl)))

-- How many wait

one_more : (core : Core) (r : Request) (a : Arrival) → length (joined core r a).pending ≤ length core.pending + 1
one_more core r arrival.New = let count = length-append core.pending (r ∷ []) in omega arith
one_more core r (arrival.Again place) = omega arith
one_more core r arrival.Waiting = omega arith
one_more core r arrival.Reused = omega arith

pub at_most_one_more : (core : Core) (action : Action) → length (taken core action).pending ≤ length core.pending + 1
at_most_one_more core Skip = omega arith
at_most_one_more core (Refuse cause) = omega arith
at_most_one_more core (Ask r) = one_more core r (arrival_of core r)

module _ (src : Source) (rule : List Access → Chosen) (limits : Limits) where
  filled_waits : (core : Core) (r : Request) (a : Arrival) → fills src rule limits core a ≡ true → 0 < length (joined core r a).pending
  filled_waits core r arrival.New due = let count = length-append core.pending (r ∷ []) in omega arith
  filled_waits core r (arrival.Again place) due = absurd (true≢false (sym due))
  filled_waits core r arrival.Waiting due = absurd (true≢false (sym due))
  filled_waits core r arrival.Reused due = absurd (true≢false (sym due))

  due_waits : (core : Core) (action : Action) → is_due src rule limits core action ≡ true → 0 < length (taken core action).pending
  due_waits core Skip due = ltb-true 0 (length core.pending) due
  due_waits core (Refuse cause) due = absurd (true≢false (sym due))
  due_waits core (Ask r) due = filled_waits core r (arrival_of core r) due

  unfilled_few : limits.batch ≤ 256 → (core : Core) (r : Request) (a : Arrival) → length core.pending < 256 → fills src rule limits core a ≡ false → length (joined core r a).pending < 256
  unfilled_few most core r arrival.New few due =
      let below : length core.pending + 1 < limits.batch = leb-false limits.batch (length core.pending + 1) due in
      let count = length-append core.pending (r ∷ []) in
      omega arith
  unfilled_few most core r (arrival.Again place) few due = few
  unfilled_few most core r arrival.Waiting few due = few
  unfilled_few most core r arrival.Reused few due = few

  undue_few : limits.batch ≤ 256 → (core : Core) (action : Action) → length core.pending < 256 → is_due src rule limits core action ≡ false → length (taken core action).pending < 256
  undue_few most core Skip few due = few
  undue_few most core (Refuse cause) few due = few
  undue_few most core (Ask r) few due = unfilled_few most core r (arrival_of core r) few due

  -- A batch

  -- after a batch, or where the history has no place for it
  abbrev pub by_room : Bool → Standing → Standing
  by_room full s =
      if full
      then record { core = s.core; lines = s.lines; is_full = true }
      else record { core = after_batch src s.core (committed src rule limits s.core); lines = s.lines; is_full = false }

  settled_lines : (s : Standing) → (settled src rule limits s).lines ≡ s.lines
  settled_lines s = by (has_no_place src rule limits s.core)
    where
      by : (full : Bool) → (by_room full s).lines ≡ s.lines
      by true = refl
      by false = refl

  step_lines : (s : Standing) (line : Line) → (step src rule limits s line).lines ≤ s.lines + 1
  step_lines s line = by s.is_full (is_due src rule limits s.core (action_of src line))
    where
      by : (full due : Bool) → (if full then s else settled_if src rule limits due (with_line src rule limits s (action_of src line))).lines ≤ s.lines + 1
      by true due = omega arith
      by false true = let same = settled_lines (with_line src rule limits s (action_of src line)) in omega arith
      by false false = omega arith

  -- no line counts twice
  after_count : (lines : List Line) (s : Standing) → (after src rule limits s lines).lines ≤ s.lines + length lines
  unfolding after
  after_count [] s = omega arith
  after_count (line ∷ lines) s =
      let one = step_lines s line in
      let more = after_count lines (step src rule limits s line) in
      omega arith

  -- A session that has stopped

  pub stopped : (lines : List Line) (s : Standing) → s.is_full ≡ true → (after src rule limits s lines).is_full ≡ true
  unfolding after
  stopped [] s is = is
  stopped (line ∷ lines) s is =
      stopped lines (step src rule limits s line)
      (ap (λ full. (if full then s else settled_if src rule limits (is_due src rule limits s.core (action_of src line)) (with_line src rule limits s (action_of src line))).is_full) is ∙ is)

  pub stopped_at_end : (n : ℕ) (s : Standing) → s.is_full ≡ true → (ended src rule limits n s).is_full ≡ true
  unfolding ended
  stopped_at_end zero s is = is
  stopped_at_end (suc n) s is = ap (λ full. (if full || not (waits s.core) then s else ended src rule limits n (settled src rule limits s)).is_full) is ∙ is

  -- one that goes on behind lines, or at the end, has gone on before
  pub open_before : (lines : List Line) (s : Standing) → (after src rule limits s lines).is_full ≡ false → s.is_full ≡ false
  open_before lines s goes = by s.is_full refl
    where
      by : (full : Bool) → s.is_full ≡ full → s.is_full ≡ false
      by true is = absurd (true≢false (sym (stopped lines s is) ∙ goes))
      by false is = is

  pub open_at_end : (s : Standing) → (at_end src rule limits s).is_full ≡ false → s.is_full ≡ false
  open_at_end s goes = by s.is_full refl
    where
      by : (full : Bool) → s.is_full ≡ full → s.is_full ≡ false
      by true is = absurd (true≢false (sym (stopped_at_end (length s.core.pending) s is) ∙ goes))
      by false is = is

  module _ (lawful : IsLawfulRule rule) where
    settled_goes : (s : Standing) (first last : ℕ) → first ≤ last → IsSoundCore src s.core → length s.core.pending < 2 ^ 32 → Goes src s.core (settled src rule limits s).core first last (batch_lines src rule limits s.core)
    settled_goes s first last rises sound few = by (has_no_place src rule limits s.core)
      where
        by : (full : Bool) → Goes src s.core (by_room full s).core first last (if full then [] else entry_lines (length s.core.history + 1) (batch_entries src s.core (committed src rule limits s.core)))
        by true = Goes-none src s.core first last rises sound
        by false = Goes-batch src s.core (after_batch src s.core (committed src rule limits s.core)) (batch_entries src s.core (committed src rule limits s.core)) first last rises (stays_sound src rule limits lawful s.core few sound) refl

    settled_fewer : (s : Standing) → 0 < length s.core.pending → length s.core.pending < 2 ^ 32 → (settled src rule limits s).is_full ≡ false → length (settled src rule limits s).core.pending < length s.core.pending
    settled_fewer s some few = by (has_no_place src rule limits s.core)
      where
        by : (full : Bool) → (by_room full s).is_full ≡ false → length (by_room full s).core.pending < length s.core.pending
        by true more = absurd (true≢false more)
        by false more = fewer_wait src rule limits lawful s.core few some

    -- Lines

    -- what holds between two lines: the core is sound, and where the session goes on, fewer than 256 requests wait
    pub record Holds (s : Standing) : Type 0 where
      pub sound : IsSoundCore src s.core
      pub few : s.is_full ≡ false → length s.core.pending < 256

    -- what a line does
    pub record Steps (s next : Standing) (texts : List (List ℕ)) : Type 0 where
      pub goes : Goes src s.core next.core s.lines next.lines texts
      pub few : next.is_full ≡ false → length next.core.pending < 256

    module _ (most : limits.batch ≤ 256) where
      if_due : (s : Standing) (action : Action) (due : Bool) → is_due src rule limits s.core action ≡ due → IsSoundCore src (taken s.core action) → length s.core.pending < 256
          → Goes src s.core (taken s.core action) s.lines (s.lines + 1) (answer s.core (s.lines + 1) action)
          → Steps s (settled_if src rule limits due (with_line src rule limits s action)) (answer s.core (s.lines + 1) action ++ lines_if src rule limits due (taken s.core action))
      if_due s action true due sound few first =
          let more = at_most_one_more s.core action in
          let bounded : length (taken s.core action).pending < 2 ^ 32 = omega arith in
          let some : 0 < length (taken s.core action).pending = due_waits s.core action due in
          let next : Standing = with_line src rule limits s action in
          let batch = settled_goes next (s.lines + 1) (s.lines + 1) (omega arith) sound bounded in
          record {
            goes =
                subst (λ n. Goes src s.core (settled src rule limits next).core s.lines n (answer s.core (s.lines + 1) action ++ batch_lines src rule limits (taken s.core action))) (sym (settled_lines next))
                (Goes-then src s.core (taken s.core action) (settled src rule limits next).core s.lines (s.lines + 1) (s.lines + 1) (answer s.core (s.lines + 1) action) (batch_lines src rule limits (taken s.core action)) first batch);
            few = λ more'. let fewer = settled_fewer next some bounded more' in omega arith;
          }
      if_due s action false due sound few first = record {
        goes =
            Goes-then src s.core (taken s.core action) (taken s.core action) s.lines (s.lines + 1) (s.lines + 1) (answer s.core (s.lines + 1) action) [] first
            (Goes-none src (taken s.core action) (s.lines + 1) (s.lines + 1) (omega arith) sound);
        few = λ more. undue_few most s.core action few due;
      }

      pub stepped : (s : Standing) (line : Line) → Holds s → Steps s (step src rule limits s line) (reply src rule limits s line)
      stepped s line holds = by s.is_full refl
        where
          by : (full : Bool) → s.is_full ≡ full
              → Steps s (if full then s else settled_if src rule limits (is_due src rule limits s.core (action_of src line)) (with_line src rule limits s (action_of src line)))
              (if full then [] else answer s.core (s.lines + 1) (action_of src line) ++ lines_if src rule limits (is_due src rule limits s.core (action_of src line)) (taken s.core (action_of src line)))
          by true is = record { goes = Goes-none src s.core s.lines s.lines (omega arith) holds.sound; few = holds.few }
          by false is =
              let first = answered src s.core holds.sound s.lines (action_of src line) (ask_fits src line) in
              if_due s (action_of src line) (is_due src rule limits s.core (action_of src line)) refl first.sound (holds.few is) first

      pub after_lines : (lines : List Line) (s : Standing) → Holds s → Steps s (after src rule limits s lines) (replies src rule limits s lines)
      unfolding after replies
      after_lines [] s holds = record { goes = Goes-none src s.core s.lines s.lines (omega arith) holds.sound; few = holds.few }
      after_lines (line ∷ lines) s holds =
          let first = stepped s line holds in
          let later = after_lines lines (step src rule limits s line) (record { sound = first.goes.sound; few = first.few }) in
          record {
            goes =
                Goes-then src s.core (step src rule limits s line).core (after src rule limits (step src rule limits s line) lines).core s.lines (step src rule limits s line).lines
                (after src rule limits (step src rule limits s line) lines).lines (reply src rule limits s line) (replies src rule limits (step src rule limits s line) lines) first.goes later.goes;
            few = later.few;
          }

      -- The end

      pub settled_holds : (s : Standing) → Holds s → s.is_full ≡ false → waits s.core ≡ true → Holds (settled src rule limits s)
      settled_holds s holds goes some =
          let few : length s.core.pending < 256 = holds.few goes in
          let bounded : length s.core.pending < 2 ^ 32 = omega arith in
          record {
            sound = (settled_goes s 0 0 (omega arith) holds.sound bounded).sound;
            few = λ more. let fewer = settled_fewer s (ltb-true 0 (length s.core.pending) some) bounded more in omega arith;
          }

      batch_at_end : (s rest : Standing) (m : ℕ) (texts : List (List ℕ)) → Holds s → (full waiting : Bool) → s.is_full ≡ full → waits s.core ≡ waiting
          → (Holds (settled src rule limits s) → Goes src (settled src rule limits s).core rest.core m m texts)
          → Goes src s.core (if full || not waiting then s else rest).core m m (if full || not waiting then [] else batch_lines src rule limits s.core ++ texts)
      batch_at_end s rest m texts holds true waiting is some later = Goes-none src s.core m m (omega arith) holds.sound
      batch_at_end s rest m texts holds false false is some later = Goes-none src s.core m m (omega arith) holds.sound
      batch_at_end s rest m texts holds false true is some later =
          let few : length s.core.pending < 256 = holds.few is in
          let bounded : length s.core.pending < 2 ^ 32 = omega arith in
          Goes-then src s.core (settled src rule limits s).core rest.core m m m (batch_lines src rule limits s.core) texts (settled_goes s m m (omega arith) holds.sound bounded) (later (settled_holds s holds is some))

      ended_goes : (n : ℕ) (s : Standing) (m : ℕ) → Holds s → Goes src s.core (ended src rule limits n s).core m m (last_replies src rule limits n s)
      unfolding ended last_replies
      ended_goes zero s m holds = Goes-none src s.core m m (omega arith) holds.sound
      ended_goes (suc n) s m holds =
          batch_at_end s (ended src rule limits n (settled src rule limits s)) m (last_replies src rule limits n (settled src rule limits s)) holds s.is_full (waits s.core) refl refl
          (ended_goes n (settled src rule limits s) m)

    none_left : (requests : List Request) → length requests ≤ 0 → requests ≡ []
    none_left [] low = refl
    none_left (r ∷ rs) low = absurd (omega arith)

    -- each batch leaves fewer
    left_at_end : (s rest : Standing) (n : ℕ) → length s.core.pending ≤ suc n → length s.core.pending < 2 ^ 32 → (full waiting : Bool) → s.is_full ≡ full → waits s.core ≡ waiting
        → (length (settled src rule limits s).core.pending ≤ n → length (settled src rule limits s).core.pending < 2 ^ 32 → rest.is_full ≡ false → rest.core.pending ≡ [])
        → ((settled src rule limits s).is_full ≡ true → rest.is_full ≡ true) → (if full || not waiting then s else rest).is_full ≡ false → (if full || not waiting then s else rest).core.pending ≡ []
    left_at_end s rest n low few true waiting is some later stays goes = absurd (true≢false (sym is ∙ goes))
    left_at_end s rest n low few false false is some later stays goes = none_left s.core.pending (ltb-false 0 (length s.core.pending) some)
    left_at_end s rest n low few false true is some later stays goes = by (settled src rule limits s).is_full refl
      where
        by : (full : Bool) → (settled src rule limits s).is_full ≡ full → rest.core.pending ≡ []
        by true stopped = absurd (true≢false (sym (stays stopped) ∙ goes))
        by false open' =
            let fewer = settled_fewer s (ltb-true 0 (length s.core.pending) some) few open' in
            later (omega arith) (omega arith) goes

    ended_empty : (n : ℕ) (s : Standing) → length s.core.pending ≤ n → length s.core.pending < 2 ^ 32 → (ended src rule limits n s).is_full ≡ false → (ended src rule limits n s).core.pending ≡ []
    unfolding ended
    ended_empty zero s low few goes = none_left s.core.pending low
    ended_empty (suc n) s low few goes =
        left_at_end s (ended src rule limits n (settled src rule limits s)) n low few s.is_full (waits s.core) refl refl (ended_empty n (settled src rule limits s)) (stopped_at_end n (settled src rule limits s)) goes

-- Whole sessions

prints : (src : Source) (old new : Core) (last lines : ℕ) (texts : List (List ℕ)) → last ≤ lines → Goes src old new 0 last texts → PrintsSerially src old new lines texts
prints src old new last lines texts low g = record {
  sound = g.sound;
  added = g.added;
  printed = g.printed;
  report = record { history = g.history; counted = g.counted; repeats = g.repeats; numbered = numbered_later 0 last lines g.printed low g.numbered };
  texts_are = g.texts_are;
}

pub serial_batches : SerialBatches
serial_batches src rule limits core may lines =
    let done = after_lines src rule limits may.lawful may.batch lines (begun core) (record { sound = may.sound; few = λ goes. may.few }) in
    let behind : Standing = after src rule limits (begun core) lines in
    let count : behind.lines ≤ length lines = omega (arith, after_count src rule limits lines (begun core)) in
    let end = ended_goes src rule limits may.lawful may.batch (length behind.core.pending) behind behind.lines (record { sound = done.goes.sound; few = done.few }) in
    record {
      between = prints src core behind.core behind.lines (length lines) (replies src rule limits (begun core) lines) count done.goes;
      over =
          prints src core (at_end src rule limits behind).core behind.lines (length lines) (replies src rule limits (begun core) lines ++ end_replies src rule limits behind) count
          (Goes-then src core behind.core (at_end src rule limits behind).core 0 behind.lines behind.lines (replies src rule limits (begun core) lines) (end_replies src rule limits behind) done.goes end);
    }

pub batches_end : BatchesEnd
batches_end src rule limits core may lines goes =
    let done = after_lines src rule limits may.lawful may.batch lines (begun core) (record { sound = may.sound; few = λ more. may.few }) in
    let behind : Standing = after src rule limits (begun core) lines in
    let few : length behind.core.pending < 256 = done.few (open_at_end src rule limits behind goes) in
    ended_empty src rule limits may.lawful (length behind.core.pending) behind (omega arith) (omega arith) goes
