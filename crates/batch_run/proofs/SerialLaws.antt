-- Whatever a run printed is what one serial run prints, or a prefix of it; and all but the replies to one batch was written.
use Rattle.std.proofs.Common.{◌≡◌, ℕ, ◌+◌, ◌≤◌, ◌<◌, ◌^◌, ◌⊎◌, inl, inr, Bool, true, false, not, ◌||◌, List, [], ◌∷◌, ◌++◌, length, take, Err, if◌then◌else◌, refl, sym, ◌∙◌, subst, append-nil, arith}
use Rattle.std.specs.declared.option.Option.{Option}
use Rattle.std.specs.declared.result.Result.{Result}
use Rattle.std.specs.Io.KnownBytes.{Appends}
use Rattle.std.proofs.KnownBytes.{Appends-nil, Appends-trans}
use Rattle.sf_outside.specs.Bytes.{AppendsPrefix}
use Rattle.sf_outside.specs.Gains.{joined}
use Rattle.sf_outside.proofs.GainLaws.{joined-nil, joined-append}
use Rattle.py_tree.specs.ClassRules.{tables_of}
use Rattle.sf_value.specs.declared.Request.{Request}
use Rattle.program_meaning.specs.ClassTables.{Source}
use Rattle.request_json.specs.Actions.{action_of}
use Rattle.block_step.specs.declared.compiled.Compiled.{Compiled}
use Rattle.aria_batch.specs.BatchRun.{source_of}
use Rattle.engine.specs.Cores.{Core, IsSoundCore}
use Rattle.engine.specs.Batches.{batch_entries, after_batch}
use Rattle.batch_output.specs.BatchOutput.{Standing, waits, committed, has_no_place, settled, batch_lines, entry_lines}
use Rattle.batch_output.specs.SerialBatches.{IsLawfulRule, PrintsSerially}
use Rattle.batch_output.proofs.LawfulBatches.{stays_sound}
use Rattle.batch_output.proofs.ReportLaws.{Goes, Goes-none, Goes-then, Goes-batch}
use Rattle.batch_output.proofs.SessionLaws.{Holds, Steps, answered, stepped, settled_holds}
use Rattle.batch_session.specs.Vocabulary.{next_core, Step, Answer, RunWaiting, move_of, behind, printed_at, standing_after, printed, Point, going, Does, Comes, Stop, ActionFits, Service}
use Rattle.batch_session.specs.StopVariants as stop
use Rattle.batch_session.proofs.Vocabulary.{prefix_whole, prefix_after, printed_placed, line_fits}
use Rattle.batch_run.specs.RunViews.{run_limits, run_service, rule_of}
use Rattle.batch_run.specs.RuleLaws.{rule_is_lawful}
use Rattle.batch_run.specs.RunTexts.{PrintsOneRun, RepliesAllButOne}
use Rattle.batch_run.specs.declared.running.RunSettings.{RunSettings}
use Rattle.batch_run.proofs.LastCores.{HasMoved, HasRun, EndsAt, Ends, ends, move_history, run_core}

module _ (compiled : Compiled) (s : RunSettings) (few : s.batch ≤ 256) where
  abbrev src : Source
  src = source_of compiled

  abbrev v : Service
  v = run_service compiled s

  pub lawful : IsLawfulRule (rule_of s)
  lawful batch few = rule_is_lawful s.reorder batch

  abbrev pub Stands : Standing → Type 0
  Stands t = Holds src (rule_of s) (run_limits s) lawful t

  -- What each step prints

  abbrev pub Prints : Standing → Standing → List (List ℕ) → Type 0
  Prints t next texts = Steps src (rule_of s) (run_limits s) lawful t next texts

  -- the batch that runs where a request waits, or the end where the history is full
  abbrev settled_by : Bool → Standing → Standing
  settled_by full t =
      if full
      then record { core = t.core; lines = t.lines; is_full = true }
      else record { core = after_batch src t.core (committed src (rule_of s) (run_limits s) t.core); lines = t.lines; is_full = false }

  abbrev lines_by : Bool → Core → List (List ℕ)
  lines_by full core =
      if full then [] else entry_lines (length core.history + 1) (batch_entries src core (committed src (rule_of s) (run_limits s) core))

  settles : (full : Bool) (t : Standing) → IsSoundCore src t.core → length t.core.pending < 2 ^ 32
      → Goes src t.core (settled_by full t).core t.lines (settled_by full t).lines (lines_by full t.core)
  settles true t sound few = Goes-none src t.core t.lines t.lines (omega arith) sound
  settles false t sound few =
      let places : List ℕ = committed src (rule_of s) (run_limits s) t.core in
      Goes-batch src t.core (after_batch src t.core places) (batch_entries src t.core places) t.lines t.lines (omega arith)
      (stays_sound src (rule_of s) (run_limits s) lawful t.core few sound) refl

  waited_by : (full some : Bool) (t : Standing) → t.is_full ≡ full → waits t.core ≡ some → Stands t
      → Prints t (if full || not some then t else settled src (rule_of s) (run_limits s) t)
      (if full || not some then [] else batch_lines src (rule_of s) (run_limits s) t.core)
  waited_by true some t is waiting h = record { goes = Goes-none src t.core t.lines t.lines (omega arith) h.sound; few = h.few }
  waited_by false false t is waiting h = record { goes = Goes-none src t.core t.lines t.lines (omega arith) h.sound; few = h.few }
  waited_by false true t is waiting h = record {
    goes = settles (has_no_place src (rule_of s) (run_limits s) t.core) t h.sound (omega (arith, h.few is));
    few = (settled_holds src (rule_of s) (run_limits s) lawful few t h is waiting).few;
  }

  pub one : (step : Step) (t : Standing) → Stands t → Prints t (behind v t step) (printed_at v t step)
  one (Answer line) t h = stepped src (rule_of s) (run_limits s) lawful few t line h
  one RunWaiting t h = waited_by t.is_full (waits t.core) t refl refl h

  pub next_stands : (t next : Standing) (texts : List (List ℕ)) → Prints t next texts → Stands next
  next_stands t next texts p = record { sound = p.goes.sound; few = p.few }

  all : (steps : List Step) (t : Standing) → Stands t → Prints t (standing_after v t steps) (printed v t steps)
  unfolding standing_after printed
  all [] t h = record { goes = Goes-none src t.core t.lines t.lines (omega arith) h.sound; few = h.few }
  all (step ∷ steps) t h =
      let next : Standing = behind v t step in
      let end : Standing = standing_after v next steps in
      let first = one step t h in
      let later = all steps next (next_stands t next (printed_at v t step) first) in
      record {
        goes = Goes-then src t.core next.core end.core t.lines next.lines end.lines (printed_at v t step) (printed v next steps) first.goes later.goes;
        few = later.few;
      }

  -- what is written of a step at once, and that nothing is committed by it
  pub begins : (step : Step) (t : Standing) → Stands t → Goes src t.core (move_of v t step).core t.lines (t.lines + 1) (move_of v t step).answer
  begins (Answer line) t h =
      answered src t.core h.sound t.lines (action_of src line)
      (λ (r : Request) is. subst (ActionFits (tables_of src.names src.program)) is (line_fits src line))
  begins RunWaiting t h = Goes-none src t.core t.lines (t.lines + 1) (omega arith) h.sound

  begins_quietly : (step : Step) (t : Standing) → Stands t → Goes src t.core (move_of v t step).core t.lines t.lines []
  begins_quietly step t h = record {
    sound = (begins step t h).sound;
    added = [];
    printed = [];
    history = move_history v s.trace t step ∙ sym (append-nil t.core.history);
    counted = refl;
    repeats = tt;
    rises = omega arith;
    numbered = tt;
    texts_are = refl;
  }

  -- From the first step on

  module _ (p q : Point) (none : p.lines ≡ 0) (stands : Stands (going p)) where
    abbrev Serial : Core → ℕ → List (List ℕ) → Type 0
    Serial last lines texts = Goes src p.core last 0 lines texts

    serially : (last : Core) (lines : ℕ) (texts : List (List ℕ)) → Serial last lines texts → PrintsSerially src p.core last lines texts
    serially last lines texts g = record {
      sound = g.sound;
      added = g.added;
      printed = g.printed;
      report = record { history = g.history; counted = g.counted; repeats = g.repeats; numbered = g.numbered };
      texts_are = g.texts_are;
    }

    -- the first steps print so
    firsts : (first : List Step) (between : Point) → Does v s.trace first p between → Serial between.core between.lines (printed v (going p) first)
    firsts first between d =
        let end : Standing = standing_after v (going p) first in
        let goes : Goes src p.core end.core 0 end.lines (printed v (going p) first) =
        subst (λ n. Goes src p.core end.core n end.lines (printed v (going p) first)) none (all first (going p) stands).goes in
        subst (λ (t : Standing). Serial t.core t.lines (printed v (going p) first)) d.stands goes

    between_stands : (first : List Step) (between : Point) → Does v s.trace first p between → Stands (going between)
    between_stands first between d =
        subst (λ t. Stands t) d.stands
        (next_stands (going p) (standing_after v (going p) first) (printed v (going p) first) (all first (going p) stands))

    -- all that was written is a prefix of what these print, behind the first steps
    one_run : (first : List Step) (between : Point) → Does v s.trace first p between → (lines : ℕ) (more : List (List ℕ))
        → Goes src between.core q.core between.lines lines more → AppendsPrefix between.held q.held (joined more) → PrintsOneRun src p.core q.core p.held q.held
    one_run first between d lines more goes part = record {
      lines = lines;
      texts = printed v (going p) first ++ more;
      serial =
          serially q.core lines (printed v (going p) first ++ more)
          (Goes-then src p.core between.core q.core 0 between.lines lines (printed v (going p) first) more (firsts first between d) goes);
      front =
          subst (AppendsPrefix p.held q.held) (sym (joined-append (printed v (going p) first) more))
          (prefix_after p.held between.held q.held (joined (printed v (going p) first)) (joined more) d.wrote part);
    }

    -- what the first steps print was written, and then these bytes
    but_one : (unwritten : Type 0) (first : List Step) (between : Point) → Does v s.trace first p between → (before : Core) → Goes src between.core before between.lines between.lines []
        → (more : List ℕ) → Appends between.held q.held more → (q.core ≡ before) ⊎ (unwritten × (q.core ≡ next_core (rule_of s) src before))
        → RepliesAllButOne src p.core q.core p.held q.held s unwritten
    but_one unwritten first between d before goes more wrote last_is = record {
      before = before;
      lines = between.lines;
      texts = printed v (going p) first ++ [];
      serial =
          serially before between.lines (printed v (going p) first ++ [])
          (Goes-then src p.core between.core before 0 between.lines between.lines (printed v (going p) first) [] (firsts first between d) goes);
      more = more;
      wrote =
          subst (λ texts. Appends p.held q.held (joined texts ++ more)) (sym (append-nil (printed v (going p) first)))
          (Appends-trans p.held between.held q.held (joined (printed v (going p) first)) more d.wrote wrote);
      last_is = last_is;
    }

    -- By where it ends

    nothing_more : (first : List Step) (between : Point) → Does v s.trace first p between → Goes src between.core between.core between.lines between.lines []
    nothing_more first between d = Goes-none src between.core between.lines between.lines (omega arith) (firsts first between d).sound

    none_gained : (a b : Option (List ℕ)) → b ≡ a → Appends a b []
    none_gained a b same = subst (λ c. Appends a c []) (sym same) (Appends-nil a)

    no_part : (a b : Option (List ℕ)) → b ≡ a → AppendsPrefix a b (joined [])
    no_part a b same = subst (AppendsPrefix a b) (sym joined-nil) (prefix_whole a b [] (none_gained a b same))

    abbrev RunsSerially : Type 0 → Type 0
    RunsSerially unwritten = PrintsOneRun src p.core q.core p.held q.held × RepliesAllButOne src p.core q.core p.held q.held s unwritten

    still : (unwritten : Type 0) (first : List Step) (between : Point) → Does v s.trace first p between → q.core ≡ between.core → q.held ≡ between.held → RunsSerially unwritten
    still unwritten first between d core held = (
      one_run first between d between.lines []
          (subst (λ c. Goes src between.core c between.lines between.lines []) (sym core) (nothing_more first between d)) (no_part between.held q.held held),
      but_one unwritten first between d between.core (nothing_more first between d) [] (none_gained between.held q.held held) (inl core),
    )

    moved : (unwritten : Type 0) (first : List Step) (step : Step) (between : Point) → Does v s.trace first p between → HasMoved v s.trace step between q → RunsSerially unwritten
    moved unwritten first step between d h =
        let m = move_of v (going between) step in
        let there = between_stands first between d in (
          one_run first between d (between.lines + 1) m.answer
              (subst (λ c. Goes src between.core c between.lines (between.lines + 1) m.answer) (sym h.core) (begins step (going between) there)) h.part,
          but_one unwritten first between d m.core (begins_quietly step (going between) there) (take h.part.0 (joined m.answer)) h.part.1 (inl h.core),
        )

    ran : (unwritten : Type 0) → unwritten → (first : List Step) (step : Step) (between : Point) → Does v s.trace first p between → HasRun v s.trace step between q → RunsSerially unwritten
    ran unwritten fault first step between d h =
        let m = move_of v (going between) step in
        let there = between_stands first between d in
        let next : Standing = behind v (going between) step in
        let texts : List (List ℕ) = printed_at v (going between) step in
        let is : texts ≡ m.answer ++ batch_lines src (rule_of s) (run_limits s) m.core = printed_placed v between.core between.lines step h.due in (
          one_run first between d next.lines texts
              (subst (λ c. Goes src between.core c between.lines next.lines texts) (sym (run_core v s.trace step between q h)) (one step (going between) there).goes)
              (subst (λ l. AppendsPrefix between.held q.held (joined l)) (sym is) h.part),
          but_one unwritten first between d m.core (begins_quietly step (going between) there)
              (take h.part.0 (joined (m.answer ++ batch_lines src (rule_of s) (run_limits s) m.core))) h.part.1 (inr (fault, h.core)),
        )

    runs_serially : (r : Result (Unit {0}) Stop) (steps : List Step) → Ends v s.trace r steps p q → RunsSerially (r ≡ Err stop.WriteFault)
    runs_serially r steps (inl e) = still (r ≡ Err stop.WriteFault) e.first q e.did refl refl
    runs_serially r steps (inr e) = by e.at
      where
        by : EndsAt v s.trace r e.step e.between q → RunsSerially (r ≡ Err stop.WriteFault)
        by (inl h) = still (r ≡ Err stop.WriteFault) e.first e.between e.did h.core h.held
        by (inr (inl h)) = moved (r ≡ Err stop.WriteFault) e.first e.step e.between e.did h
        by (inr (inr h)) = ran (r ≡ Err stop.WriteFault) h.0 e.first e.step e.between e.did h.1

  -- a session that began with a sound core, of which fewer than 256 requests wait
  pub serial_session : (r : Result (Unit {0}) Stop) (steps : List Step) (p q : Point) → Comes v s.trace r steps p q → p.lines ≡ 0 → IsSoundCore src p.core
      → length p.core.pending < 256 → PrintsOneRun src p.core q.core p.held q.held × RepliesAllButOne src p.core q.core p.held q.held s (r ≡ Err stop.WriteFault)
  serial_session r steps p q came none sound few =
      runs_serially p q none (record { sound = sound; few = λ goes. few }) r steps (ends v s.trace r steps p q came)

-- where that can be seen from outside
pub replies_by : (src : Source) (s : RunSettings) (start last : Core) (held held' : Option (List ℕ)) (unwritten shown : Type 0) → (unwritten → shown)
    → RepliesAllButOne src start last held held' s unwritten → RepliesAllButOne src start last held held' s shown
replies_by src s start last held held' unwritten shown follows r = record {
  before = r.before;
  lines = r.lines;
  texts = r.texts;
  serial = r.serial;
  more = r.more;
  wrote = r.wrote;
  last_is = elim r.last_is [ inl same ↦ inl same | inr next ↦ inr (follows next.0, next.1) ];
}
