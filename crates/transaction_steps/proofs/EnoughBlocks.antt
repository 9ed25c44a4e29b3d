-- From block to block a step is taken, or the rank falls: so where blocks come to a part with some fuel they come to it with a block for
-- each step and rank that are left.
use Rattle.std.proofs.Common.{◌≡◌, ◌∙◌, ℕ, zero, suc, arith, ◌+◌, ◌*◌, ◌≤◌, ◌<◌, Bool, true, false, true≢false, Option, Some, None, List, [], ◌∷◌, refl, sym, ap, subst}
use Rattle.std.specs.Prelude.{slice_get, slice_index_or, is_some, if◌then◌else◌, option_and_then}
use Rattle.std.specs.List.{All, list_any}
use Rattle.std.proofs.Math.Nat.{suc-mul}
use Rattle.std.proofs.lemmas.Option.{same_Some, none-some}
use Rattle.py_tree.specs.PlainProgram.{PlainProgram}
use Rattle.py_tree.specs.ClassRules.{PlainSig, PlainTable, params_of, tables_of}
use Rattle.py_tree.specs.Flow.{Context}
use Rattle.call_graph.specs.SuspendingCode.{Leaving, leaving}
use Rattle.sf_value.specs.declared.Failure.{Failure}
use Rattle.sf_value.specs.declared.value.Value.{Value}
use Rattle.sf_value.specs.declared.value.Ref.{Ref}
use Rattle.sf_value.specs.declared.Outcome.{Outcome}
use Rattle.sf_value.specs.declared.Outcome.TheVariants as outcome
use Rattle.program_meaning.specs.declared.vars.Var.{Var}
use Rattle.program_meaning.specs.ClassTables.{Source, methods_of}
use Rattle.program_meaning.specs.World.{Gives, Got, Fell, Ends, Goes, Returns, Breaks, Continues, Fails, step, step_limit, recursion_error, assigned}
use Rattle.program_meaning.specs.Operations.{is_true}
use Rattle.program_meaning.specs.Evaluation.{Site, eval, eval_all, key_in}
use Rattle.program_meaning.specs.Calls.{Held, own_held, bound}
use Rattle.program_meaning.specs.Fits.{HasTable}
use Rattle.program_meaning.specs.StepsLeft.{left_in, left_at, CallsTakeSteps}
use Rattle.program_meaning.specs.NothingGoesWrong.{IsKnownAccepted}
use Rattle.program_meaning.proofs.StepsTaken.{eval_takes, own_calls_take}
use Rattle.program_meaning.proofs.TableFacts.{all_at}
use Rattle.block_code.specs.declared.event.Frame.{Frame}
use Rattle.block_code.specs.declared.event.EventKind.{EventKind}
use Rattle.block_code.specs.declared.event.EventKind.TheVariants as kind
use Rattle.block_code.specs.PlainVars.{PlainVar}
use Rattle.block_code.specs.PlainBlocks.{PlainEnd, EJump, EBranch, ELeave, ECall, EMake, PlainCatch, PlainBlock}
use Rattle.block_code.specs.Places.{blocks_of, method_place}
use Rattle.block_code.specs.GraphFits.{takes_step, BelowRank, NextAreBelow, CatchFits, BlockFits, MethodFits, GraphFits, at_start}
use Rattle.block_code.specs.EventsFit.{Awaits, catch_of, FrameFits, FramesFit, KindFits}
use Rattle.block_runs.specs.BlockRuns.{Go, Fall, given_then, parts_of_call, method_called, run_items, run_end, fall_at, fall, behind, at_block, run_blocks}
use Rattle.block_runs.specs.EventStep.{Part, Asks, Wants, waiting, has_room, Lasts, lasts, Step, site, finished, from, go_on, catch, resume, step_of, block_of, awaited_by, caught_by}
use Rattle.block_runs.proofs.Steps.{Went, all_takes, items_take, parts_take, items_went}
use Rattle.block_runs.proofs.Ranks.{lower, lower_rank}
use Rattle.block_runs.proofs.Parts.{catch_found}
use Rattle.program_meaning.proofs.NamesApart.{IsMethod, method_is}
use Rattle.block_runs.proofs.Frames.{LastFits, lasts_fit}
use Rattle.interleaving.specs.AsAlone.{sum_of}
use Rattle.transaction_steps.specs.Transactions.{above_ranks, enough}
use Rattle.transaction_steps.specs.EnoughBlocks.{EnoughBlocks}

-- Ranks

-- where a block goes on without a step, and where a failure goes on, the rank falls
record RankFalls (blocks : List PlainBlock) (b : PlainBlock) : Type 0 where
  next : list_any takes_step b.code ≡ false → NextAreBelow blocks b.rank b.end
  catches : (kind to : ℕ) → catch_of b.catches kind ≡ Some to → BelowRank blocks b.rank to

abbrev RanksFall : List PlainBlock → Type 0
RanksFall blocks = (k : ℕ) (b : PlainBlock) → slice_get blocks k ≡ Some b → RankFalls blocks b

-- each rank is below this one
abbrev AllBelow : ℕ → List PlainBlock → Type 0
AllBelow top blocks = (k : ℕ) (b : PlainBlock) → slice_get blocks k ≡ Some b → b.rank < top

-- Blocks

module _ (s : Site Held) (calls : CallsTakeSteps s.calls) (room : Bool) (blocks : List PlainBlock) (falls_in : RanksFall blocks) (top : ℕ) (under : AllBelow top blocks) where
  -- so much fuel is enough from the block of this number on
  abbrev IsEnough : ℕ → ℕ → ℕ → Type 0
  IsEnough fuel to n = (b : PlainBlock) → slice_get blocks to ≡ Some b → n * top + b.rank < fuel

  -- what goes on from a block with some fuel does so with enough
  abbrev GoesToo : ℕ → (ℕ → Go Held Part) → (ℕ → Go Held Part) → Type 0
  GoesToo fuel go on = (to : ℕ) (vars : List Var) (h : Held) (m : ℕ) (r : Part) → IsEnough fuel to m → go to vars h m ≡ Some r → on to vars h m ≡ Some r

  module _ (fuel : ℕ) (go on : ℕ → Go Held Part) (too : GoesToo fuel go on) (k : ℕ) (b : PlainBlock) (is : slice_get blocks k ≡ Some b) (n : ℕ) (low : n * top + b.rank < suc fuel) where
    abbrev falls : Fall Held Part
    falls = fall (waiting room) b.catches go

    abbrev falls_on : Fall Held Part
    falls_on = fall (waiting room) b.catches on

    falls_too : (e : Failure) (vars : List Var) (h : Held) (m : ℕ) (r : Part) → m ≤ n → falls e vars h m ≡ Some r → falls_on e vars h m ≡ Some r
    falls_too e vars h m r less = by (catch_of b.catches e.kind) refl
      where
        by : (to : Option ℕ) → catch_of b.catches e.kind ≡ to → fall_at (waiting room) to go e vars h m ≡ Some r → fall_at (waiting room) to on e vars h m ≡ Some r
        by None none went = went
        by (Some to) some went = too to vars h m r (λ t there. lower_rank top n m b.rank t.rank fuel less ((falls_in k b is).catches e.kind to some t there) low) went

    given_too : {A : Type 0} (vars : List Var) (g : Gives Held A) (rest rest_on : A → Held → ℕ → Option Part) (m : ℕ) (r : Part) → m ≤ n → left_in g ≤ m
        → ((y : A) (h : Held) (p : ℕ) → p ≤ m → rest y h p ≡ Some r → rest_on y h p ≡ Some r) → given_then vars g falls rest ≡ Some r → given_then vars g falls_on rest_on ≡ Some r
    given_too vars (Got y h p) rest rest_on m r few less then_too went = then_too y h p less went
    given_too vars (Fell e h p) rest rest_on m r few less then_too went = falls_too e vars h p r (omega (arith, few, less)) went

    -- a call or a creation goes on from no block, but where it fails
    waits_too : (vars : List Var) (h : Held) (m : ℕ) (part : ℕ → Part) (r : Part) → m ≤ n → step m (falls step_limit vars h m) (λ m. if room then Some (part m) else falls recursion_error vars h m) ≡ Some r
        → step m (falls_on step_limit vars h m) (λ m. if room then Some (part m) else falls_on recursion_error vars h m) ≡ Some r
    waits_too vars h zero part r few went = falls_too step_limit vars h zero r few went
    waits_too vars h (suc m) part r few went = by room went
      where
        by : (free : Bool) → (if free then Some (part m) else falls recursion_error vars h m) ≡ Some r → (if free then Some (part m) else falls_on recursion_error vars h m) ≡ Some r
        by true went = went
        by false went = falls_too recursion_error vars h m r (omega (arith, few)) went

    -- The end

    module _ (vars : List Var) (before : Held) (m : ℕ) (few : m ≤ n) (took : Went (list_any takes_step b.code) n (Goes vars before m)) where
      leads_too : (to : ℕ) (h : Held) (p : ℕ) (r : Part) → p ≤ m → (list_any takes_step b.code ≡ false → BelowRank blocks b.rank to) → go to vars h p ≡ Some r → on to vars h p ≡ Some r
      leads_too to h p r less below went =
          too to vars h p r (λ t there. lower (list_any takes_step b.code) top n m p b.rank t.rank fuel vars before took less (λ none. below none t there) (under to t there) low) went

      end_too : (end : PlainEnd) (h : Held) (r : Part) → (list_any takes_step b.code ≡ false → NextAreBelow blocks b.rank end) → run_end s (waiting room) k go falls end vars h m ≡ Some r → run_end s (waiting room) k on falls_on end vars h m ≡ Some r
      unfolding run_end
      end_too (EJump to) h r below went = leads_too to h m r (omega arith) below went
      end_too (EBranch test holds other) h r below went =
          given_too vars (eval s test vars h m) _ _ m r few (eval_takes s calls test vars h m) (λ v h p less went. by (is_true v) h p less went) went
        where
          by : (t : Bool) (h : Held) (p : ℕ) → p ≤ m → (if t then go holds vars h p else go other vars h p) ≡ Some r → (if t then on holds vars h p else on other vars h p) ≡ Some r
          by true h p less went = leads_too holds h p r less (λ none. (below none).0) went
          by false h p less went = leads_too other h p r less (λ none. (below none).1) went
      end_too ELeave h r below went = went
      end_too (ECall receiver class method args into after) h r below went =
          given_too vars (parts_of_call s receiver args vars h m) _ _ m r few (parts_take s calls receiver args vars h m)
          (λ q h p less went. waits_too vars h p (λ m. Asks (key_in q.0) (method_called s.src (key_in q.0).0 class method) q.1 k vars h m) r (omega (arith, few, less)) went) went
      end_too (EMake class args into after) h r below went =
          given_too vars (eval_all s args [] vars h m) _ _ m r few (all_takes s calls args [] vars h m) (λ vs h p less went. waits_too vars h p (λ m. Wants class vs k vars h m) r (omega (arith, few, less)) went) went

    behind_too : (e : Ends Held) (r : Part) → left_at e ≤ n → Went (list_any takes_step b.code) n e → behind (waiting room) e (run_end s (waiting room) k go falls b.end) falls ≡ Some r → behind (waiting room) e (run_end s (waiting room) k on falls_on b.end) falls_on ≡ Some r
    behind_too (Goes vars h m) r less took went = end_too vars h m less took b.end h r (falls_in k b is).next went
    behind_too (Returns v h m) r less took went = went
    behind_too (Breaks vars h m) r less took went = went
    behind_too (Continues vars h m) r less took went = went
    behind_too (Fails f vars h m) r less took went = falls_too f vars h m r less went

    block_too : (vars : List Var) (h : Held) (r : Part) → behind (waiting room) (run_items s b.code vars h n) (run_end s (waiting room) k go falls b.end) falls ≡ Some r → behind (waiting room) (run_items s b.code vars h n) (run_end s (waiting room) k on falls_on b.end) falls_on ≡ Some r
    block_too vars h r went = behind_too (run_items s b.code vars h n) r (items_take s calls b.code vars h n) (items_went s calls b.code vars h n) went

  abbrev one_block : ℕ → ℕ → PlainBlock → Go Held Part
  one_block fuel number b vars h n =
      behind (waiting room) (run_items s b.code vars h n) (run_end s (waiting room) number (run_blocks s (waiting room) blocks fuel) (fall (waiting room) b.catches (run_blocks s (waiting room) blocks fuel)) b.end) (fall (waiting room) b.catches (run_blocks s (waiting room) blocks fuel))

  -- blocks that come to a part with some fuel come to it with enough
  blocks_too : (some fuel : ℕ) → GoesToo fuel (run_blocks s (waiting room) blocks some) (run_blocks s (waiting room) blocks fuel)
  unfolding run_blocks
  blocks_too zero fuel to vars h n r low went = absurd (none-some r went)
  blocks_too (suc some) zero to vars h n r low went = by (slice_get blocks to) refl went
    where
      by : (o : Option PlainBlock) → slice_get blocks to ≡ o → at_block o (one_block some to) vars h n ≡ Some r → None ≡ Some r
      by None none went = went
      by (Some b) there went = let less : n * top + b.rank < 0 = low b there in absurd (omega (arith, less))
  blocks_too (suc some) (suc fuel) to vars h n r low went = by (slice_get blocks to) refl went (blocks_too some fuel)
    where
      by : (o : Option PlainBlock) → slice_get blocks to ≡ o → at_block o (one_block some to) vars h n ≡ Some r → GoesToo fuel (run_blocks s (waiting room) blocks some) (run_blocks s (waiting room) blocks fuel) → at_block o (one_block fuel to) vars h n ≡ Some r
      by None none went rest = went
      by (Some b) there went rest = block_too fuel (run_blocks s (waiting room) blocks some) (run_blocks s (waiting room) blocks fuel) rest to b there n (low b there) vars h r went

-- The ranks of a graph

rank_below_sum : (bs : List PlainBlock) (k : ℕ) (b : PlainBlock) → slice_get bs k ≡ Some b → b.rank < sum_of (λ (b : PlainBlock). suc b.rank) bs
unfolding sum_of
rank_below_sum [] k b is = absurd (none-some b is)
rank_below_sum (a ∷ bs) zero b is = let same : a.rank ≡ b.rank = ap (λ (c : PlainBlock). c.rank) (same_Some _ _ is) in omega (arith, same)
rank_below_sum (a ∷ bs) (suc k) b is = let less : b.rank < sum_of (λ (b : PlainBlock). suc b.rank) bs = rank_below_sum bs k b is in omega (arith, less)

below_ranks : (graph : List (List PlainBlock)) (place : ℕ) → AllBelow (above_ranks graph) (slice_index_or graph place [])
unfolding sum_of
below_ranks [] place k b is = absurd (none-some b is)
below_ranks (bs ∷ graph) zero k b is = let less : b.rank < sum_of (λ (b : PlainBlock). suc b.rank) bs = rank_below_sum bs k b is in omega (arith, less)
below_ranks (bs ∷ graph) (suc place) k b is = let less : b.rank < above_ranks graph = below_ranks graph place k b is in omega (arith, less)

enough_steps : (n top rank : ℕ) → rank < top → n * top + rank < suc n * top
enough_steps n top rank less = subst (λ k. n * top + rank < k) (sym (suc-mul n top)) (by (n * top))
  where
    by : (a : ℕ) → a + rank < a + top
    by a = omega (arith, less)

module _ (names : List (List ℕ)) (program : PlainProgram) (accepted : IsKnownAccepted names program) (graph : List (List PlainBlock)) (fits : GraphFits names program graph) where
  abbrev src : Source
  src = record { program = program; names = names }

  abbrev tables : List PlainTable
  tables = tables_of names program

  abbrev HasSig : ℕ → ℕ → Type 0
  HasSig class method = (table : PlainTable) × HasTable tables class table × (sig : PlainSig) × (slice_get table.methods method ≡ Some sig)

  ranks_fall : (class method : ℕ) → HasSig class method → RanksFall (blocks_of tables graph class method)
  ranks_fall class method has k b is =
      let m : IsMethod names program accepted.rules.classes accepted.rules.flow class method has.2 = method_is names program accepted.rules.classes accepted.rules.flow class method has.0 has.2 has.1 has.3 in
      let f : MethodFits names program (leaving names program fits.marks class) class method m.is (blocks_of tables graph class method) = fits.methods class method m.is m.at in
      falls_at _ _ _ _ k b is f.each
    where
      falls_at : (c : Context) (leaves : Leaving) (variables : List PlainVar) (blocks : List PlainBlock) (k : ℕ) (b : PlainBlock) → slice_get blocks k ≡ Some b → All (BlockFits c leaves variables blocks) blocks → RankFalls blocks b
      falls_at c leaves variables blocks k b is each =
          let f : BlockFits c leaves variables blocks b = all_at (BlockFits c leaves variables blocks) blocks k b each is in
          record {
            next = f.ranks;
            catches = λ kind to some target there.
                let found : (j : ℕ) × (catch : PlainCatch) × (slice_get b.catches j ≡ Some catch) × (catch.to ≡ to) = catch_found b.catches kind to some in
                let t : CatchFits c blocks b (at_start variables b.params) found.1 = all_at (CatchFits c blocks b (at_start variables b.params)) b.catches found.0 found.1 f.catches found.2 in
                subst (λ (u : PlainBlock). u.rank < b.rank) (same_Some _ _ (sym t.is ∙ ap (slice_get blocks) found.3 ∙ there)) t.below;
          }

  finished_too : (at : Ref) (method tx : ℕ) (frames : List Frame) (o p : Option Part) (s : Step) → ((x : Part) → o ≡ Some x → p ≡ Some x) → finished src tables graph at method tx frames o ≡ Some s → finished src tables graph at method tx frames p ≡ Some s
  finished_too at method tx frames None p s too h = absurd (none-some s h)
  finished_too at method tx frames (Some x) p s too h = ap (finished src tables graph at method tx frames) (too x refl) ∙ h

  from_too : (fuel : ℕ) (at : Ref) (method tx : ℕ) (frames : List Frame) (number : ℕ) (vars : List Var) (fields : List Value) (n : ℕ) (s : Step) → HasSig at.class method → from src tables graph fuel at method tx frames number vars fields n ≡ Some s
      → from src tables graph (enough graph n) at method tx frames number vars fields n ≡ Some s
  from_too fuel at method tx frames number vars fields n s has h =
      finished_too at method tx frames _ _ s
      (λ x went. blocks_too (site src tables graph at frames) (own_calls_take own_held src (at.class, at.key) _) (has_room frames) (blocks_of tables graph at.class method) (ranks_fall at.class method has) (above_ranks graph) (below_ranks graph (method_place tables at.class method))
      fuel (enough graph n) number vars (record { fields = fields; wrote = false }) n x (λ b there. enough_steps n (above_ranks graph) b.rank (below_ranks graph (method_place tables at.class method) number b there)) went) h

  go_on_too : (fuel : ℕ) (a : Option Awaits) (v : Value) (tx : ℕ) (l : Lasts) (fields : List Value) (n : ℕ) (s : Step) → HasSig l.last.at.class l.last.method → go_on src tables graph fuel a v tx l fields n ≡ Some s → go_on src tables graph (enough graph n) a v tx l fields n ≡ Some s
  go_on_too fuel None v tx l fields n s has h = h
  go_on_too fuel (Some a) v tx l fields n s has h = from_too fuel l.last.at l.last.method tx l.before a.after (assigned l.last.vars a.into v) fields n s has h

  catch_too : (fuel : ℕ) (to : Option ℕ) (tx : ℕ) (l : Lasts) (fields : List Value) (n : ℕ) (s : Step) → HasSig l.last.at.class l.last.method → catch src tables graph fuel to tx l fields n ≡ Some s → catch src tables graph (enough graph n) to tx l fields n ≡ Some s
  catch_too fuel None tx l fields n s has h = h
  catch_too fuel (Some to) tx l fields n s has h = from_too fuel l.last.at l.last.method tx l.before to l.last.vars fields n s has h

  resume_too : (fuel : ℕ) (o : Outcome) (tx : ℕ) (l : Option Lasts) (n : ℕ) (held : Option (List Value)) (s : Step) → ((k : Lasts) → l ≡ Some k → HasSig k.last.at.class k.last.method) → resume src tables graph fuel o tx l n held ≡ Some s → resume src tables graph (enough graph n) o tx l n held ≡ Some s
  resume_too fuel o tx None n held s has h = absurd (none-some s h)
  resume_too fuel o tx (Some l) n None s has h = absurd (none-some s h)
  resume_too fuel (outcome.Value v) tx (Some l) n (Some fields) s has h = go_on_too fuel (awaited_by src tables graph (block_of src tables graph l.last)) v tx l fields n s (has l refl) h
  resume_too fuel (outcome.Failed f) tx (Some l) n (Some fields) s has h = catch_too fuel (caught_by src tables graph (block_of src tables graph l.last) f) tx l fields n s (has l refl) h

  -- the method of a frame that fits
  sig_of_frame : (f : Frame) → FrameFits tables graph f → HasSig f.at.class f.method
  sig_of_frame f fit = by (slice_get tables f.at.class) refl fit.has_method
    where
      by_sig : (t : PlainTable) → slice_get tables f.at.class ≡ Some t → (o : Option PlainSig) → slice_get t.methods f.method ≡ o → is_some o ≡ true → HasSig f.at.class f.method
      by_sig t has None none h = absurd (true≢false (sym h))
      by_sig t has (Some sig) some h = (t, has, sig, some)

      by : (o : Option PlainTable) → slice_get tables f.at.class ≡ o → is_some (option_and_then (λ (t : PlainTable). slice_get t.methods f.method) o) ≡ true → HasSig f.at.class f.method
      by None none h = absurd (true≢false (sym h))
      by (Some t) some h = by_sig t some (slice_get t.methods f.method) refl h

  step_too : (fuel : ℕ) (k : EventKind) (tx : ℕ) (frames : List Frame) (n : ℕ) (held : Option (List Value)) (s : Step) → FramesFit tables graph frames → KindFits tables graph k frames → step_of src tables graph fuel k tx frames n held ≡ Some s
      → step_of src tables graph (enough graph n) k tx frames n held ≡ Some s
  step_too fuel (kind.Enter at method args) tx frames n None s fit asked h = h
  step_too fuel (kind.Enter at method args) tx frames n (Some fields) s fit asked h =
      from_too fuel at method tx frames 0 (bound (params_of (slice_get (methods_of src at.class) method)) args) fields n s (asked.0.table, asked.0.has_table, asked.0.sig, asked.0.has_method) h
  step_too fuel (kind.Make at args) tx frames n None s fit asked h = h
  step_too fuel (kind.Make at args) tx frames n (Some fields) s fit asked h = h
  step_too fuel (kind.Resume o) tx frames n held s fit asked h = resume_too fuel o tx (lasts frames) n held s (λ l is. let last : LastFits tables graph frames l = lasts_fit tables graph frames l is fit in sig_of_frame l.last last.last) h
  step_too fuel (kind.Done o) tx frames n held s fit asked h = absurd (none-some s h)

pub enough_blocks : EnoughBlocks
enough_blocks names program accepted graph fits e fit held s t = step_too names program accepted graph fits t.fuel e.kind e.tx e.frames e.steps held s fit.frames fit.kind t.by
