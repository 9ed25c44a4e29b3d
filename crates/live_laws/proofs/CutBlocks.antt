-- Blocks that fit their method fit it again where their parameters are cut to what is live.
use Rattle.std.proofs.Common.{◌≡◌, ◌⊎◌, inl, inr, ◌<◌, arith, ℕ, zero, suc, true, false, Some, List, [], refl, sym, ap, ◌∙◌, subst}
use Rattle.std.specs.Prelude.{find, slice_get, is_some}
use Rattle.std.specs.List.{All}
use Rattle.py_tree.specs.PlainTypes.{TBool, TEntity}
use Rattle.py_tree.specs.ClassRules.{PlainTable}
use Rattle.py_tree.specs.FlowEnvironment.{PlainLocal, shown}
use Rattle.py_tree.specs.Flow.{Context}
use Rattle.call_graph.specs.SuspendingCode.{Leaving}
use Rattle.program_meaning.proofs.TableFacts.{all_at}
use Rattle.block_code.specs.PlainVars.{PlainVar}
use Rattle.block_code.specs.PlainBlocks.{PlainEnd, EJump, EBranch, ELeave, ECall, EMake, PlainCatch, PlainBlock}
use Rattle.block_code.specs.GraphFits.{is_var, is_param_of, at_start, supplied, Leads, EndFits, HasBlock, NamesAreThere, BelowRank, NextAreBelow, CatchFits, BlockFits}
use Rattle.block_runs.proofs.Variables.{all_of_each}
use Rattle.live_laws.specs.Reads.{reads, any_read}
use Rattle.live_laws.specs.Live.{items_read, items_spare, end_reads, GoesOn, Live, here, behind, at_catch}
use Rattle.live_laws.specs.Cut.{Keeps, Stays, with_params, IsCut, GoesForth, BlockGoesForth, NeverGoesBack}
use Rattle.live_laws.proofs.AlikeLocals.{Names, Alike, fewer, turned, alike_narrowed}
use Rattle.live_laws.proofs.AlikeTypes.{or_left, or_right}
use Rattle.live_laws.proofs.AlikeWays.{by_reading, by_behind, by_break, by_always, and_true}
use Rattle.live_laws.proofs.AlikeItems.{OfItems, has_alike, takes_alike, args_alike, items_alike, each_item_alike}
use Rattle.live_laws.proofs.SameRuns.{CutOf, cut_found, CutFrom, cut_came}
use Rattle.live_laws.proofs.KeptParams.{kept_all, kept_once, kept_found, kept_at, kept_supplied, start_alike}

-- What stays at a block

pub live_stays : (blocks : List PlainBlock) (n x : ℕ) → Live blocks x n → Stays blocks n x
live_stays blocks zero x live = tt
live_stays blocks (suc n) x live = live

pub stays_live : (blocks : List PlainBlock) (n x : ℕ) → 0 < n → Stays blocks n x → Live blocks x n
stays_live blocks zero x forth stays = absurd (omega (arith, forth))
stays_live blocks (suc n) x forth stays = stays

none_behind : (x : ℕ) → items_spare [] x ≡ true
unfolding items_spare
none_behind x = refl

module _ (c : Context) (leaves : Leaving) (before after : List PlainBlock) (cut : IsCut before after) where
  -- Ends

  -- what an end reads, and what is live where it goes on
  abbrev OfEnd : PlainEnd → Names
  OfEnd e x = (end_reads e x ≡ true) ⊎ ((next : ℕ) × GoesOn e x next × Live before x next)

  found_cut : (n : ℕ) (b : PlainBlock) → slice_get before n ≡ Some b → CutOf (Stays before n) b (slice_get after n)
  found_cut n b is = cut_found (Stays before n) (slice_get before n) (slice_get after n) (cut.at n) b is

  leads_alike : {P : Names} {here there : List PlainLocal} → Alike P here there → (to : ℕ) → 0 < to → ((x : ℕ) → Live before x to → P x) → Leads before to here → Leads after to there
  leads_alike a to forth among l =
      let t : CutOf (Stays before to) l.target (slice_get after to) = found_cut to l.target l.is in
      record { target = with_params l.target t.params; is = t.is; enough = kept_supplied a (λ x s. among x (stays_live before to x forth s)) t.keeps l.enough }

  end_alike : (e : PlainEnd) {here there : List PlainLocal} → GoesForth e → Alike (OfEnd e) here there → EndFits c leaves before e here → EndFits c leaves after e there
  end_alike (EJump to) forth a f = leads_alike a to forth (λ x l. inr (to, refl, l)) f
  end_alike (EBranch test holds fails) forth a f = (
    has_alike c leaves a test TBool (λ x r. inl r) f.0,
    leads_alike (alike_narrowed (shown true test) a) holds forth.0 (λ x l. inr (holds, inl refl, l)) f.1,
    leads_alike (alike_narrowed (shown false test) a) fails forth.1 (λ x l. inr (fails, inr refl, l)) f.2,
  )
  end_alike ELeave forth a f = f
  end_alike (ECall on class method args into next) forth a f = record {
    table = f.table;
    has_table = f.has_table;
    sig = f.sig;
    has_method = f.has_method;
    receiver = has_alike c leaves a on (TEntity f.table.name) (λ x r. inl (or_left (reads on x) (any_read args x) r)) f.receiver;
    args_fit = args_alike c leaves a args f.sig.params (λ x r. inl (or_right (reads on x) (any_read args x) r)) f.args_fit;
    takes = takes_alike c leaves (λ x. Live before x next) (Leads before next) (Leads after next) a into f.sig.result (λ x l other. inr (next, (refl, other), l)) (λ here there b l. leads_alike b next forth (λ x k. k) l) f.takes;
  }
  end_alike (EMake class args into next) forth a f = record {
    table = f.table;
    has_table = f.has_table;
    args_fit = args_alike c leaves a args f.table.init (λ x r. inl r) f.args_fit;
    takes = takes_alike c leaves (λ x. Live before x next) (Leads before next) (Leads after next) a into (TEntity f.table.name) (λ x l other. inr (next, (refl, other), l)) (λ here there b l. leads_alike b next forth (λ x k. k) l) f.takes;
  }

  -- Numbers and ranks

  is_there : (to : ℕ) → HasBlock before to → HasBlock after to
  is_there to less = subst (λ n. to < n) (sym cut.as_many) less

  are_there : (tables : List PlainTable) (e : PlainEnd) → NamesAreThere tables before e → NamesAreThere tables after e
  are_there tables (EJump to) h = is_there to h
  are_there tables (EBranch test holds fails) h = (is_there holds h.0, is_there fails h.1)
  are_there tables ELeave h = h
  are_there tables (ECall on class method args into next) h = (h.0, is_there next h.1)
  are_there tables (EMake class args into next) h = (h.0, is_there next h.1)

  below : (rank to : ℕ) → BelowRank before rank to → BelowRank after rank to
  below rank to h target is =
      let t : CutFrom (Stays before to) (slice_get before to) target = cut_came (Stays before to) (slice_get before to) (slice_get after to) (cut.at to) target is in
      subst (λ (b : PlainBlock). b.rank < rank) t.same (h t.whole t.is)

  all_below : (rank : ℕ) (e : PlainEnd) → NextAreBelow before rank e → NextAreBelow after rank e
  all_below rank (EJump to) h = below rank to h
  all_below rank (EBranch test holds fails) h = (below rank holds h.0, below rank fails h.1)
  all_below rank ELeave h = h
  all_below rank (ECall on class method args into next) h = h
  all_below rank (EMake class args into next) h = h

  -- Blocks

  module _ (variables : List PlainVar) (number : ℕ) (b : PlainBlock) (is : slice_get before number ≡ Some b) (forth : BlockGoesForth b) (fits : BlockFits c leaves variables before b) (params : List PlainVar) (keeps : Keeps (Stays before number) b.params params) where
    abbrev L : Names
    L = Stays before number

    start : Alike L (at_start variables b.params) (at_start variables params)
    start = start_alike keeps variables

    -- what the block needs is live there
    needed : (x : ℕ) → OfItems L (OfEnd b.end) b.code x → L x
    needed x (by_reading r) = live_stays before number x (here is (or_left (items_read b.code x) _ r))
    needed x (by_behind e (inl r)) = live_stays before number x (here is (or_right (items_read b.code x) _ (and_true (items_spare b.code x) (end_reads b.end x) e r)))
    needed x (by_behind e (inr on)) = live_stays before number x (behind is e on.1 on.2)
    needed x (by_break e out) = absurd out
    needed x (by_always l) = l

    code_start : Alike (OfItems L (OfEnd b.end) b.code) (at_start variables b.params) (at_start variables params)
    code_start = fewer needed start

    catch_alike : (place : ℕ) (k : PlainCatch) → slice_get b.catches place ≡ Some k → CatchFits c before b (at_start variables b.params) k → CatchFits c after (with_params b params) (at_start variables params) k
    catch_alike place k k_is f =
        let to_forth : 0 < k.to = all_at (λ (k : PlainCatch). 0 < k.to) b.catches place k forth.1 k_is in
        let t : CutOf (Stays before k.to) f.target (slice_get after k.to) = found_cut k.to f.target f.is in
        let stays_here : (x : ℕ) → Stays before k.to x → L x = λ x s. live_stays before number x (at_catch place is k_is (stays_live before k.to x to_forth s)) in
        record {
          kinds = f.kinds;
          target = with_params f.target t.params;
          is = t.is;
          below = f.below;
          params = all_of_each (λ (q : PlainVar). is_some (find (is_var q.name) params) ≡ true) t.params (λ i q q_is.
              let from = kept_at t.keeps i q q_is in
              ap is_some (kept_found q.name (stays_here q.name from.2) keeps) ∙ all_at (λ (q : PlainVar). is_some (find (is_var q.name) b.params) ≡ true) f.target.params from.0 q f.params from.1);
          always = each_item_alike c leaves L (OfEnd b.end) (λ locals. supplied locals f.target.params ≡ true) (λ locals. supplied locals t.params ≡ true) (λ here there a h. kept_supplied (turned a) stays_here t.keeps h) b.code (turned code_start) f.always;
        }

    pub block_alike : BlockFits c leaves variables after (with_params b params)
    block_alike = record {
      params = kept_all (is_param_of variables) keeps fits.params;
      once = kept_once keeps fits.once;
      fits = items_alike c leaves L (OfEnd b.end) (EndFits c leaves before b.end) (EndFits c leaves after b.end) (λ here there a f. end_alike b.end forth.0 (fewer (λ x n. by_behind (none_behind x) n) a) f) b.code code_start fits.fits;
      names = are_there c.tables b.end fits.names;
      ranks = λ h. all_below b.rank b.end (fits.ranks h);
      catches = all_of_each (CatchFits c after (with_params b params) (at_start variables params)) b.catches (λ place k k_is. catch_alike place k k_is (all_at (CatchFits c before b (at_start variables b.params)) b.catches place k fits.catches k_is));
    }

  pub blocks_alike : (variables : List PlainVar) → NeverGoesBack before → All (BlockFits c leaves variables before) before → All (BlockFits c leaves variables after) after
  blocks_alike variables forth fits = all_of_each (BlockFits c leaves variables after) after (λ n a is.
      let t : CutFrom (Stays before n) (slice_get before n) a = cut_came (Stays before n) (slice_get before n) (slice_get after n) (cut.at n) a is in
      subst (BlockFits c leaves variables after) t.same
      (block_alike variables n t.whole t.is (all_at BlockGoesForth before n t.whole forth t.is) (all_at (BlockFits c leaves variables before) before n t.whole fits t.is) a.params t.keeps))
