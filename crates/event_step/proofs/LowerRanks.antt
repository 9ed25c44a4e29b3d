-- A block goes on only where less is left: fewer steps, or else a smaller rank.
use Rattle.std.proofs.Common.{◌≡◌, ℕ, zero, suc, arith, ◌+◌, ◌*◌, ◌≤◌, ◌<◌, Bool, true, false, Option, Some, None, List, [], refl, sym, subst, true≢false}
use Rattle.std.specs.Prelude.{nat_lt, slice_get, if◌then◌else◌}
use Rattle.std.specs.List.{list_any}
use Rattle.std.proofs.lemmas.Bool.{lt-ltb, ltb-true}
use Rattle.std.proofs.lemmas.Option.{none-some}
use Rattle.sf_value.specs.declared.Failure.{Failure}
use Rattle.program_meaning.specs.declared.vars.Var.{Var}
use Rattle.program_meaning.specs.World.{Gives, Got, Fell, Ends, Goes, Returns, Breaks, Continues, Fails, step, step_limit, recursion_error}
use Rattle.program_meaning.specs.Operations.{is_true}
use Rattle.program_meaning.specs.Evaluation.{Site, eval, eval_all}
use Rattle.program_meaning.specs.Calls.{Held}
use Rattle.program_meaning.specs.StepsLeft.{left_in, left_at, CallsTakeSteps}
use Rattle.program_meaning.proofs.StepsTaken.{eval_takes}
use Rattle.program_meaning.proofs.TableFacts.{all_at}
use Rattle.block_code.specs.PlainBlocks.{PlainEnd, EJump, EBranch, ELeave, ECall, EMake, PlainCatch, PlainBlock}
use Rattle.block_code.specs.GraphFits.{takes_step, BelowRank, NextAreBelow}
use Rattle.block_code.specs.EventsFit.{catch_of}
use Rattle.block_runs.specs.BlockRuns.{Go, Fall, Exits, given_then, parts_of_call, run_items, run_end, fall_at, fall, behind, at_block, run_blocks}
use Rattle.block_runs.specs.EventStep.{Part, waiting}
use Rattle.block_runs.proofs.Steps.{Went, all_takes, items_take, parts_take, items_went}
use Rattle.block_runs.proofs.Ranks.{above, rank_below, lower, lower_rank}
use Rattle.block_runs.proofs.Parts.{catch_found}
use Rattle.event_step.specs.Turns.{RankFalls, RanksFall}

abbrev pub rank_of : Option PlainBlock → ℕ
rank_of None = 0
rank_of (Some b) = b.rank

-- what is left at the block of this number
abbrev pub left : List PlainBlock → ℕ → ℕ → ℕ
left blocks number n = n * above blocks + rank_of (slice_get blocks number)

abbrev pub Goings : Type 0
Goings = ℕ → Go Held Part

-- what goes on only where less is left than this
abbrev pub guarded : List PlainBlock → ℕ → Goings → Goings
guarded blocks most go to vars h m = if nat_lt (left blocks to m) most then go to vars h m else None

guard_tells : (b : Bool) (o : Option Part) (p : Part) → (if b then o else None) ≡ Some p → (b ≡ true) × (o ≡ Some p)
guard_tells true o p h = (refl, h)
guard_tells false o p h = absurd (none-some p h)

pub less_left : (blocks : List PlainBlock) (most to : ℕ) (go : Goings) (vars : List Var) (h : Held) (m : ℕ) (p : Part) → guarded blocks most go to vars h m ≡ Some p → (left blocks to m < most) × (go to vars h m ≡ Some p)
less_left blocks most to go vars h m p is =
    let g : (nat_lt (left blocks to m) most ≡ true) × (go to vars h m ≡ Some p) = guard_tells (nat_lt (left blocks to m) most) (go to vars h m) p is in
    (ltb-true (left blocks to m) most g.0, g.1)

opened : (b : Bool) (o : Option Part) (p : Part) → b ≡ true → o ≡ Some p → (if b then o else None) ≡ Some p
opened true o p is h = h
opened false o p is h = absurd (true≢false (sym is))

module _ (s : Site Held) (takes : CallsTakeSteps s.calls) (room : Bool) (blocks : List PlainBlock) (ranks : RanksFall blocks) (go : Goings)
    (there : (to : ℕ) (vars : List Var) (h : Held) (m : ℕ) (p : Part) → go to vars h m ≡ Some p → (target : PlainBlock) × (slice_get blocks to ≡ Some target)) where
  abbrev x : Exits Held Part
  x = waiting room

  module _ (k : ℕ) (b : PlainBlock) (is : slice_get blocks k ≡ Some b) (n : ℕ) where
    abbrev most : ℕ
    most = n * above blocks + b.rank

    abbrev go_less : Goings
    go_less = guarded blocks most go

    abbrev falls : Fall Held Part
    falls = fall x b.catches go

    abbrev falls_less : Fall Held Part
    falls_less = fall x b.catches go_less

    f : RankFalls blocks b
    f = all_at (RankFalls blocks) blocks k b ranks is

    opens : (to : ℕ) (target : PlainBlock) (vars : List Var) (h : Held) (m : ℕ) (p : Part) → slice_get blocks to ≡ Some target → m * above blocks + target.rank < most → go to vars h m ≡ Some p → go_less to vars h m ≡ Some p
    opens to target vars h m p is_target less goes =
        opened (nat_lt (left blocks to m) most) (go to vars h m) p
        (lt-ltb (left blocks to m) most (subst (λ o. m * above blocks + rank_of o < most) (sym is_target) less)) goes

    falls_too : (e : Failure) (vars : List Var) (h : Held) (m : ℕ) (p : Part) → m ≤ n → falls e vars h m ≡ Some p → falls_less e vars h m ≡ Some p
    falls_too e vars h m p less = by (catch_of b.catches e.kind) refl
      where
        by : (to : Option ℕ) → catch_of b.catches e.kind ≡ to → fall_at x to go e vars h m ≡ Some p → fall_at x to go_less e vars h m ≡ Some p
        by None none h' = h'
        by (Some to) some h' =
            let found : (j : ℕ) × (catch : PlainCatch) × (slice_get b.catches j ≡ Some catch) × (catch.to ≡ to) = catch_found b.catches e.kind to some in
            let below : BelowRank blocks b.rank found.1.to = all_at (λ (c : PlainCatch). BelowRank blocks b.rank c.to) b.catches found.0 found.1 f.catches found.2 in
            let t : (target : PlainBlock) × (slice_get blocks to ≡ Some target) = there to vars h m p h' in
            let smaller : t.0.rank < b.rank = below t.0 (subst (λ i. slice_get blocks i ≡ Some t.0) (sym found.3) t.1) in
            opens to t.0 vars h m p t.1 (lower_rank (above blocks) n m b.rank t.0.rank most less smaller (omega arith)) h'

    given_too : {A : Type 0} (vars : List Var) (g : Gives Held A) (rest rest_less : A → Held → ℕ → Option Part) (m : ℕ) (p : Part) → m ≤ n → left_in g ≤ m
        → ((y : A) (h : Held) (q : ℕ) → q ≤ m → rest y h q ≡ Some p → rest_less y h q ≡ Some p) → given_then vars g falls rest ≡ Some p → given_then vars g falls_less rest_less ≡ Some p
    given_too vars (Got y h q) rest rest_less m p few less then_too h' = then_too y h q less h'
    given_too vars (Fell e h q) rest rest_less m p few less then_too h' = falls_too e vars h q p (omega (arith, few, less)) h'

    waits_too : (vars : List Var) (h : Held) (m : ℕ) (part : ℕ → Part) (p : Part) → m ≤ n
        → step m (falls step_limit vars h m) (λ m. if room then Some (part m) else falls recursion_error vars h m) ≡ Some p
        → step m (falls_less step_limit vars h m) (λ m. if room then Some (part m) else falls_less recursion_error vars h m) ≡ Some p
    waits_too vars h zero part p few h' = falls_too step_limit vars h zero p few h'
    waits_too vars h (suc m) part p few h' = by room h'
      where
        by : (r : Bool) → (if r then Some (part m) else falls recursion_error vars h m) ≡ Some p → (if r then Some (part m) else falls_less recursion_error vars h m) ≡ Some p
        by true h' = h'
        by false h' = falls_too recursion_error vars h m p (omega (arith, few)) h'

    -- The end

    module _ (vars : List Var) (before : Held) (m : ℕ) (few : m ≤ n) (went : Went (list_any takes_step b.code) n (Goes vars before m)) where
      leads_too : (to : ℕ) (h : Held) (q : ℕ) (p : Part) → q ≤ m → (list_any takes_step b.code ≡ false → BelowRank blocks b.rank to) → go to vars h q ≡ Some p → go_less to vars h q ≡ Some p
      leads_too to h q p less below h' =
          let t : (target : PlainBlock) × (slice_get blocks to ≡ Some target) = there to vars h q p h' in
          opens to t.0 vars h q p t.1
          (lower (list_any takes_step b.code) (above blocks) n m q b.rank t.0.rank most vars before went less (λ e. below e t.0 t.1) (rank_below blocks to t.0 t.1) (omega arith)) h'

      end_too : (end : PlainEnd) (h : Held) (p : Part) → (list_any takes_step b.code ≡ false → NextAreBelow blocks b.rank end) → run_end s x k go falls end vars h m ≡ Some p → run_end s x k go_less falls_less end vars h m ≡ Some p
      unfolding run_end
      end_too (EJump to) h p below h' = leads_too to h m p (omega arith) below h'
      end_too (EBranch test holds other) h p below h' = given_too vars (eval s test vars h m) _ _ m p few (eval_takes s takes test vars h m) (λ v h q less. by (is_true v) h q less) h'
        where
          by : (t : Bool) (h : Held) (q : ℕ) → q ≤ m → (if t then go holds vars h q else go other vars h q) ≡ Some p → (if t then go_less holds vars h q else go_less other vars h q) ≡ Some p
          by true h q less h' = leads_too holds h q p less (λ none. (below none).0) h'
          by false h q less h' = leads_too other h q p less (λ none. (below none).1) h'
      end_too ELeave h p below h' = h'
      end_too (ECall on class method args into to) h p below h' =
          given_too vars (parts_of_call s on args vars h m) _ _ m p few (parts_take s takes on args vars h m) (λ y h q less h'. waits_too vars h q _ p (omega (arith, few, less)) h') h'
      end_too (EMake class args into to) h p below h' =
          given_too vars (eval_all s args [] vars h m) _ _ m p few (all_takes s takes args [] vars h m) (λ y h q less h'. waits_too vars h q _ p (omega (arith, few, less)) h') h'

    items_too : (e : Ends Held) (p : Part) → left_at e ≤ n → Went (list_any takes_step b.code) n e → behind x e (run_end s x k go falls b.end) falls ≡ Some p → behind x e (run_end s x k go_less falls_less b.end) falls_less ≡ Some p
    items_too (Goes vars h m) p less went h' = end_too vars h m less went b.end h p f.ends h'
    items_too (Returns v h m) p less went h' = h'
    items_too (Breaks vars h m) p less went h' = h'
    items_too (Continues vars h m) p less went h' = h'
    items_too (Fails e vars h m) p less went h' = falls_too e vars h m p less h'

    -- a block that comes to something does so where it goes on only with less
    pub block_too : (vars : List Var) (h : Held) (p : Part) → behind x (run_items s b.code vars h n) (run_end s x k go falls b.end) falls ≡ Some p → behind x (run_items s b.code vars h n) (run_end s x k go_less falls_less b.end) falls_less ≡ Some p
    block_too vars h p h' = items_too (run_items s b.code vars h n) p (items_take s takes b.code vars h n) (items_went s takes b.code vars h n) h'

-- blocks that come to something begin with one that is there
pub begins : (s : Site Held) (room : Bool) (blocks : List PlainBlock) (fuel to : ℕ) (vars : List Var) (h : Held) (m : ℕ) (p : Part) → run_blocks s (waiting room) blocks fuel to vars h m ≡ Some p → (target : PlainBlock) × (slice_get blocks to ≡ Some target)
unfolding run_blocks
begins s room blocks zero to vars h m p is = absurd (none-some p is)
begins s room blocks (suc fuel) to vars h m p is = by (slice_get blocks to) refl is
  where
    by : (o : Option PlainBlock) → slice_get blocks to ≡ o
        → at_block o (λ b vars w n. behind (waiting room) (run_items s b.code vars w n) (run_end s (waiting room) to (run_blocks s (waiting room) blocks fuel) (fall (waiting room) b.catches (run_blocks s (waiting room) blocks fuel)) b.end) (fall (waiting room) b.catches (run_blocks s (waiting room) blocks fuel))) vars h m ≡ Some p
        → (target : PlainBlock) × (slice_get blocks to ≡ Some target)
    by None none h' = absurd (none-some p h')
    by (Some b) some h' = (b, some)
