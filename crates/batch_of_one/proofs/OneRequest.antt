-- A batch of one request commits it, as a session does that serves each request at once.
use Rattle.std.proofs.Common.{◌≡◌, ℕ, ◌+◌, Bool, true, false, true≢false, not, ◌||◌, nat_eq, nat_le, Option, None, Some, List, [], ◌∷◌, ◌++◌, length, if◌then◌else◌, refl, sym, ap, ◌∙◌, subst, append-nil, arith}
use Rattle.std.specs.List.{list_any, range_with_len}
use Rattle.std.specs.Option.{option_map}
use Rattle.std.proofs.lemmas.Bool.{eqb-true}
use Rattle.std.proofs.lemmas.List.Sorted.{length_permutation}
use Rattle.sf_value.specs.declared.Entry.{Entry}
use Rattle.sf_value.specs.declared.Request.{Request}
use Rattle.sf_outside.specs.Gains.{joined}
use Rattle.sf_outside.proofs.GainLaws.{joined-append}
use Rattle.program_meaning.specs.ClassTables.{Source}
use Rattle.program_meaning.specs.Serial.{serial_state}
use Rattle.program_meaning.specs.Serial as serial
use Rattle.serial_order.specs.ConflictFree.{Access}
use Rattle.reservations.specs.CommitRules.{Chosen, IsLawful}
use Rattle.request_history.specs.Repeats.{Kept, kept_of, placed, entry_at, same_act}
use Rattle.request_history.proofs.RepeatLaws.{Stands, stands}
use Rattle.request_json.specs.Actions.{Line, Action, Skip, Refuse, Ask, action_of, all_lines}
use Rattle.request_json.specs.ReplyLines.{bad_line}
use Rattle.engine.specs.declared.arrival.Arrival.{Arrival}
use Rattle.engine.specs.declared.arrival.Arrival.TheVariants as arrival
use Rattle.engine.specs.Cores.{Core, empty_core}
use Rattle.engine.specs.Arrivals.{meets, arrival_of}
use Rattle.engine.specs.Arrivals as engine
use Rattle.engine.specs.Batches.{batch_entries, after_batch}
use Rattle.engine.specs.RanBatches.{accesses_on}
use Rattle.session.specs.OutputText as local
use Rattle.session.proofs.LineLaws.{after-full, replies-full}
use Rattle.batch_output.specs.BatchOutput.{Limits, Standing, begun, waits, kept_line, entry_lines, answer_on, answer, taken, fills, is_due, committed, has_no_place, with_line, settled, settled_if, lines_if, batch_lines, step, reply, after, replies, ended, at_end, last_replies, end_replies}
use Rattle.batch_output.specs.SerialBatches.{IsLawfulRule}
use Rattle.batch_of_one.specs.BatchOfOne.{committed_of, at_once, StandAlike, BatchOfOneIsLocal}

-- What is committed of one

only_place : (xs ys : List ℕ) → length (xs ++ ys) ≡ 1 → list_any (nat_eq 0) xs ≡ true → xs ≡ 0 ∷ []
only_place [] ys one first = absurd (true≢false (sym first))
only_place (x ∷ []) ys one first =
    let is : 0 ≡ x = eqb-true 0 x (or_none (nat_eq 0 x) first) in
    ap (λ place. place ∷ []) (sym is)
  where
    or_none : (b : Bool) → (b || false) ≡ true → b ≡ true
    or_none true h = refl
    or_none false h = h
only_place (x ∷ y ∷ xs) ys one first = absurd (omega arith)

-- a history with its state, while these requests wait
abbrev waiting : serial.Core → List Request → Core
waiting core pending = record { history = core.history; state = core.state; pending = pending }

-- a session in batches that stands as one that serves each request at once, while these requests wait
abbrev paired : local.Standing → List Request → Standing
paired t pending = record { core = waiting t.core pending; lines = t.lines; is_full = t.is_full }

abbrev standing : serial.Core → ℕ → Bool → local.Standing
standing core n full = record { core = core; lines = n; is_full = full }

-- a session in batches goes on as one that serves at once, and prints the same
record IsSame (next : Standing) (texts : List (List ℕ)) (also : local.Standing) (text : List (List ℕ)) : Type 0 where
  pending : List Request
  next_is : next ≡ paired also pending
  none : also.is_full ≡ false → pending ≡ []
  printed : joined texts ≡ joined text

none_printed : joined [] ≡ joined ([] ∷ [])
unfolding joined
none_printed = refl

-- a session in batches that has stopped
module _ (src : Source) (rule : List Access → Chosen) (limits : Limits) where
  after_full : (lines : List Line) (s : Standing) → s.is_full ≡ true → after src rule limits s lines ≡ s
  unfolding after
  after_full [] s is = refl
  after_full (line ∷ lines) s is =
      let act = action_of src line in
      ap (λ full. after src rule limits (if full then s else settled_if src rule limits (is_due src rule limits s.core act)
      (with_line src rule limits s act)) lines) is
      ∙ after_full lines s is

  replies_full : (lines : List Line) (s : Standing) → s.is_full ≡ true → replies src rule limits s lines ≡ []
  unfolding replies
  replies_full [] s is = refl
  replies_full (line ∷ lines) s is =
      let act = action_of src line in
      ap (λ full. (if full then [] else answer s.core (s.lines + 1) act ++ lines_if src rule limits (is_due src rule limits s.core act)
      (taken s.core act)) ++ replies src rule limits (step src rule limits s line) lines) is
      ∙ ap (λ full. replies src rule limits (if full then s else settled_if src rule limits (is_due src rule limits s.core act)
      (with_line src rule limits s act)) lines) is
      ∙ replies_full lines s is

  -- at the end of the input nothing more is printed
  none_at_end : (t : local.Standing) (pending : List Request) → (t.is_full ≡ false → pending ≡ []) → end_replies src rule limits (paired t pending) ≡ []
  unfolding last_replies
  none_at_end t [] none = refl
  none_at_end t (r ∷ rs) none = by t.is_full refl
    where
      by : (full : Bool) → t.is_full ≡ full → end_replies src rule limits (paired t (r ∷ rs)) ≡ []
      by true is =
          let s : Standing = paired t (r ∷ rs) in
          ap (λ full. if full || not (waits s.core) then [] else batch_lines src rule limits s.core ++ last_replies src rule limits (length rs)
          (settled src rule limits s)) is
      by false is = let empty : r ∷ rs ≡ [] = none is in absurd (omega (arith, ap length empty))

  -- and nothing more is done
  over_at_end : (t : local.Standing) (pending : List Request) → (t.is_full ≡ false → pending ≡ []) → at_end src rule limits (paired t pending) ≡ paired t pending
  unfolding ended
  over_at_end t [] none = refl
  over_at_end t (r ∷ rs) none = by t.is_full refl
    where
      by : (full : Bool) → t.is_full ≡ full → at_end src rule limits (paired t (r ∷ rs)) ≡ paired t (r ∷ rs)
      by true is =
          let s : Standing = paired t (r ∷ rs) in
          ap (λ full. if full || not (waits s.core) then s else ended src rule limits (length rs) (settled src rule limits s)) is
      by false is = let empty : r ∷ rs ≡ [] = none is in absurd (omega (arith, ap length empty))

-- the core to which one request has come
abbrev with_one : serial.Core → Request → Core
with_one core r = waiting core (r ∷ [])

module _ (src : Source) (rule : List Access → Chosen) (lawful : IsLawfulRule rule) (limits : Limits) where
  -- One request

  one_committed : (core : serial.Core) (r : Request) → committed src rule limits (with_one core r) ≡ 0 ∷ []
  one_committed core r =
      let chosen : Chosen = rule (accesses_on src (with_one core r)) in
      let law : IsLawful (accesses_on src (with_one core r)) chosen = lawful (accesses_on src (with_one core r)) (omega arith) in
      let count : length (chosen.committed ++ chosen.carried) ≡ 1 = length_permutation (range_with_len 0 1) (chosen.committed ++ chosen.carried) law.once in
      only_place chosen.committed chosen.carried count (law.first (omega arith))

  one_behind : (core : serial.Core) (r : Request) → after_batch src (with_one core r) (0 ∷ []) ≡ waiting (local.commit src core r) []
  unfolding serial_state
  one_behind core r = refl

  one_line : (core : serial.Core) (r : Request)
      → entry_lines (length core.history + 1) (batch_entries src (with_one core r) (0 ∷ [])) ≡ local.new_line src core r ∷ []
  one_line core r = refl

  -- the batch of a new request, or where the history has no place for it
  abbrev by_room : serial.Core → ℕ → Request → Bool → List ℕ → Standing
  by_room core n r full places =
      if full
      then record { core = with_one core r; lines = n; is_full = true }
      else record { core = after_batch src (with_one core r) places; lines = n; is_full = false }

  abbrev room_lines : serial.Core → Request → Bool → List ℕ → List (List ℕ)
  room_lines core r full places = if full then [] else entry_lines (length core.history + 1) (batch_entries src (with_one core r) places)

  one_runs : (core : serial.Core) (n : ℕ) (r : Request) (full : Bool) (places : List ℕ) → places ≡ 0 ∷ []
      → IsSame (by_room core n r full places) (room_lines core r full places)
      (standing (if full then core else local.commit src core r) n full) (if full then [] else local.new_line src core r ∷ [])
  one_runs core n r true places is = record { pending = r ∷ []; next_is = refl; none = λ goes. absurd (true≢false goes); printed = refl }
  one_runs core n r false places is = record {
    pending = [];
    next_is =
        ap (λ ps. by_room core n r false ps) is
        ∙ ap (λ (c : Core). let s : Standing = record { core = c; lines = n; is_full = false } in s) (one_behind core r);
    none = λ goes. refl;
    printed = ap (λ ps. joined (room_lines core r false ps)) is ∙ ap joined (one_line core r);
  }

  new_runs : (core : serial.Core) (n : ℕ) (r : Request) (due : Bool) → due ≡ true
      → IsSame (settled_if src rule limits due (record { core = with_one core r; lines = n; is_full = false })) (lines_if src rule limits due (with_one core r))
      (standing (local.after_new src limits.history core r) n (local.has_no_place src limits.history core)) (local.new_lines src limits.history core r)
  new_runs core n r false due = absurd (true≢false (sym due))
  new_runs core n r true due =
      one_runs core n r (has_no_place src rule limits (with_one core r)) (committed src rule limits (with_one core r)) (one_committed core r)

  kept_again : (kept : Kept) (o : Option Entry) → o ≡ Some kept.entry → kept_line (option_map (placed kept.place) o) ≡ local.line_of_kept kept ∷ []
  kept_again kept o is = ap (λ o. kept_line (option_map (placed kept.place) o)) is

  module _ (one : limits.batch ≡ 1) where
    -- by what a request meets
    abbrev arrives : serial.Core → ℕ → Request → Arrival → Standing
    arrives core n r a =
        settled_if src rule limits (fills src rule limits (waiting core []) a)
        (record { core = engine.joined (waiting core []) r a; lines = n + 1; is_full = false })

    abbrev arrives_lines : serial.Core → ℕ → Request → Arrival → List (List ℕ)
    arrives_lines core n r a =
        answer_on (waiting core []) (n + 1) a ++ lines_if src rule limits (fills src rule limits (waiting core []) a) (engine.joined (waiting core []) r a)

    meets_kept : (core : serial.Core) (n : ℕ) (r : Request) (kept : Kept) → Stands core.history r.id kept → (same : Bool)
        → IsSame (arrives core n r (if same then arrival.Again kept.place else arrival.Reused))
        (arrives_lines core n r (if same then arrival.Again kept.place else arrival.Reused))
        (standing core (n + 1) false)
        ((if same then local.line_of_kept kept else bad_line local.reused (n + 1)) ∷ [])
    meets_kept core n r kept at true = record {
      pending = [];
      next_is = refl;
      none = λ goes. refl;
      printed = ap (λ l. joined (l ++ [])) (kept_again kept (entry_at core.history kept.place) at.at);
    }
    meets_kept core n r kept at false = record { pending = []; next_is = refl; none = λ goes. refl; printed = refl }

    asked : (core : serial.Core) (n : ℕ) (r : Request) (kept : Option Kept) → kept_of core.history r.id ≡ kept
        → IsSame (arrives core n r (meets kept None r.act)) (arrives_lines core n r (meets kept None r.act))
        (standing (local.after_ask src limits.history core r kept) (n + 1) (local.ask_stops src limits.history core kept))
        (local.answer_to src limits.history core (n + 1) r kept)
    asked core n r (Some kept) is = meets_kept core n r kept (stands core.history r.id kept is) (same_act kept.entry.request.act r.act)
    asked core n r None is = new_runs core (n + 1) r (nat_le limits.batch 1) (ap (λ n. nat_le n 1) one)

    acted : (core : serial.Core) (n : ℕ) (a : Action)
        → IsSame (settled_if src rule limits (is_due src rule limits (waiting core []) a) (with_line src rule limits (paired (standing core n false) []) a))
        (answer (waiting core []) (n + 1) a ++ lines_if src rule limits (is_due src rule limits (waiting core []) a) (taken (waiting core []) a))
        (local.behind src limits.history (standing core n false) a) (local.reply_to src limits.history core (n + 1) a)
    unfolding local.after_action local.reply_to local.stops arrival_of
    acted core n Skip = record { pending = []; next_is = refl; none = λ goes. refl; printed = none_printed }
    acted core n (Refuse cause) = record { pending = []; next_is = refl; none = λ goes. refl; printed = refl }
    acted core n (Ask r) = asked core n r (kept_of core.history r.id) refl

    -- All lines

    abbrev SameOver : local.Standing → List Request → List Line → Type 0
    SameOver t pending lines =
        IsSame (after src rule limits (paired t pending) lines) (replies src rule limits (paired t pending) lines) (local.after src limits.history t lines)
        (local.replies src limits.history t lines)

    -- behind the first line both go on, or both have stopped
    go_on : (core : serial.Core) (n : ℕ) (full : Bool) (pending : List Request) → (full ≡ false → pending ≡ []) → (lines : List Line)
        → SameOver (standing core n false) [] lines → SameOver (standing core n full) pending lines
    go_on core n true pending none lines later =
        let t : local.Standing = standing core n true in
        record {
          pending = pending;
          next_is = after_full src rule limits lines (paired t pending) refl ∙ ap (λ t. paired t pending) (sym (after-full src limits.history lines t refl));
          none = λ goes. absurd (true≢false (sym (ap (λ (t : local.Standing). t.is_full) (after-full src limits.history lines t refl)) ∙ goes));
          printed = ap joined (replies_full src rule limits lines (paired t pending) refl ∙ sym (replies-full src limits.history lines t refl));
        }
    go_on core n false pending none lines later = subst (λ ps. SameOver (standing core n false) ps lines) (sym (none refl)) later

    all_same : (lines : List Line) (core : serial.Core) (n : ℕ) → SameOver (standing core n false) [] lines
    unfolding after replies local.after local.replies
    all_same [] core n = record { pending = []; next_is = refl; none = λ goes. refl; printed = refl }
    all_same (line ∷ lines) core n =
        let t : local.Standing = standing core n false in
        let s : Standing = paired t [] in
        let next : local.Standing = local.behind src limits.history t (action_of src line) in
        let first = acted core n (action_of src line) in
        let later = go_on next.core (n + 1) next.is_full first.pending first.none lines (all_same lines next.core (n + 1)) in
        record {
          pending = later.pending;
          next_is = ap (λ s. after src rule limits s lines) first.next_is ∙ later.next_is;
          none = later.none;
          printed =
              joined-append (reply src rule limits s line) (replies src rule limits (step src rule limits s line) lines)
              ∙ (λ i. first.printed i ++ (ap (λ s. joined (replies src rule limits s lines)) first.next_is ∙ later.printed) i)
              ∙ sym (joined-append (local.reply src limits.history t line) (local.replies src limits.history next lines));
        }

    pub stand_alike : (lines : List Line) → StandAlike src rule limits lines
    stand_alike lines =
        let same = all_same lines local.empty_core 0 in
        record {
          core = ap (λ (s : Standing). committed_of s.core) same.next_is;
          full = ap (λ (s : Standing). s.is_full) same.next_is;
          text = same.printed;
          none = λ goes. ap (λ (s : Standing). s.core.pending) same.next_is ∙ same.none (sym (ap (λ (s : Standing). s.is_full) same.next_is) ∙ goes);
          end = ap (end_replies src rule limits) same.next_is ∙ none_at_end src rule limits (at_once src limits lines) same.pending same.none;
          over =
              ap (at_end src rule limits) same.next_is
              ∙ over_at_end src rule limits (at_once src limits lines) same.pending same.none
              ∙ sym same.next_is;
        }

pub batch_of_one_is_local : BatchOfOneIsLocal
batch_of_one_is_local src rule lawful limits one =
    let alike = stand_alike src rule lawful limits one in
    record {
      lines = alike;
      text = λ bytes.
          let at = alike (all_lines bytes) in
          ap (λ end. joined (replies src rule limits (begun empty_core) (all_lines bytes) ++ end)) at.end
          ∙ ap joined (append-nil (replies src rule limits (begun empty_core) (all_lines bytes)))
          ∙ at.text;
    }
