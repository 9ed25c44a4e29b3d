-- A method from one of its blocks on, with values for the block's parameters: it comes to a part, whose value, failure or call fits.
use Rattle.std.proofs.Common.{◌≡◌, ℕ, zero, suc, arith, ◌+◌, ◌*◌, ◌≤◌, ◌<◌, Bool, true, false, not, Option, Some, None, List, [], ◌∷◌, refl, sym, ap, ◌∙◌, subst}
use Rattle.std.specs.Prelude.{◌==◌, slice_get, filter, is_some, nat_eq, if◌then◌else◌}
use Rattle.std.specs.List.{All, list_all, list_any, flat_map}
use Rattle.std.proofs.lemmas.Bool.{not-true}
use Rattle.std.proofs.lemmas.Option.{same_Some, none-some}
use Rattle.py_tree.specs.PlainTypes.{PlainTy, TNil, TEntity}
use Rattle.py_tree.specs.PlainProgram.{PlainProgram}
use Rattle.py_tree.specs.ClassRules.{PlainTable, tables_of}
use Rattle.py_tree.specs.FlowEnvironment.{PlainLocal, local_of, shown, narrowed}
use Rattle.py_tree.specs.Flow.{Context, in_method, result_at, with_local}
use Rattle.call_graph.specs.SuspendingCode.{Leaving}
use Rattle.sf_value.specs.Keys.{Key}
use Rattle.sf_value.specs.declared.Failure.{Failure}
use Rattle.sf_value.specs.declared.value.Value.{Value}
use Rattle.sf_value.specs.declared.value.Value.TheVariants as value
use Rattle.program_meaning.specs.declared.vars.Var.{Var}
use Rattle.program_meaning.specs.ClassTables.{Source}
use Rattle.program_meaning.specs.World.{Gives, Got, Fell, Ends, Goes, step, step_limit, recursion_error}
use Rattle.program_meaning.specs.Operations.{is_true}
use Rattle.program_meaning.specs.Evaluation.{Site, eval, eval_all, key_in}
use Rattle.program_meaning.specs.Calls.{Held, on_record, own_held}
use Rattle.program_meaning.specs.StepsLeft.{left_in, left_at, CallsTakeSteps}
use Rattle.program_meaning.specs.Fits.{HasTable, Fits, nil, EachFits, param_types, RecordFits, CallFits, NewFits, FailureFits}
use Rattle.program_meaning.specs.PointFits as point
use Rattle.program_meaning.specs.PointFits.{VarsFit, GivesFit}
use Rattle.program_meaning.specs.NothingGoesWrong.{IsKnownAccepted}
use Rattle.program_meaning.specs.HereInState.{KeepsWithin}
use Rattle.program_meaning.specs.HereFits.{HeldFits}
use Rattle.program_meaning.proofs.FitsLaws.{fits_wider}
use Rattle.program_meaning.proofs.LocalsFit.{narrowed_fits}
use Rattle.program_meaning.proofs.StepsTaken.{eval_takes, own_calls_take}
use Rattle.program_meaning.proofs.TableFacts.{all_at, filtered_at}
use Rattle.program_meaning.proofs.ValuesFit.{failure_fits}
use Rattle.block_code.specs.PlainVars.{PlainVar}
use Rattle.block_code.specs.PlainBlocks.{PlainEnd, EJump, EBranch, ELeave, ECall, EMake, PlainCatch, PlainBlock}
use Rattle.block_code.specs.GraphFits.{at_start, is_supplied, each_once, takes_step, Leads, Takes, EndFits, BelowRank, NextAreBelow, AtEachItem, CatchFits, BlockFits}
use Rattle.block_code.specs.EventsFit.{item_goes_on, Awaits, awaited, catch_of, params_if_there, kept_params, CallsIt, MakesIt}
use Rattle.block_runs.specs.BlockRuns.{Go, Fall, Exits, given_then, parts_of_call, method_called, run_items, run_end, fall_at, fall, behind, at_block, run_blocks}
use Rattle.block_runs.specs.EventStep.{Part, Gave, Failed, Asks, Wants, waiting}
use Rattle.block_runs.proofs.Variables.{Kept, Supplied, start_sound, start_fits, each_passes, one_kept, supplied_kept, kept_both, filter_passes, other_local}
use Rattle.block_runs.proofs.NamesOnce.{Once, once_stays}
use Rattle.block_runs.proofs.Assigning.{LocalsHold, items_hold as items_of_block_hold}
use Rattle.block_runs.proofs.Steps.{Went, all_takes, items_take, parts_take, items_went}
use Rattle.block_runs.proofs.Ranks.{above, rank_below, lower, lower_rank}
use Rattle.block_runs.proofs.EndValues.{called_is, all_args_fit, parts_fit, Tested, tested}
use Rattle.block_runs.proofs.Items.{ItemsEnd, go, return, fail, items_end}

-- Catches

pub catch_found : (cs : List PlainCatch) (kind to : ℕ) → catch_of cs kind ≡ Some to → (j : ℕ) × (k : PlainCatch) × (slice_get cs j ≡ Some k) × (k.to ≡ to)
catch_found [] kind to h = absurd (none-some to h)
catch_found (k ∷ cs) kind to h = by (list_any (nat_eq kind) k.kinds) h (catch_found cs kind to)
  where
    by : (b : Bool) → (if b then Some k.to else catch_of cs kind) ≡ Some to → (catch_of cs kind ≡ Some to → (j : ℕ) × (l : PlainCatch) × (slice_get cs j ≡ Some l) × (l.to ≡ to)) → (j : ℕ) × (l : PlainCatch) × (slice_get (k ∷ cs) j ≡ Some l) × (l.to ≡ to)
    by true h rest = (0, k, refl, same_Some _ _ h)
    by false h rest = let r : (j : ℕ) × (l : PlainCatch) × (slice_get cs j ≡ Some l) × (l.to ≡ to) = rest h in (suc r.0, r.1, r.2, r.3)

-- Parts

-- a method waits at the end of the block of this number, with what goes on from there
pub record Waits (tables : List PlainTable) (blocks : List PlainBlock) (number : ℕ) (vars : List Var) (So : PlainEnd → Type 0) : Type 0 where
  pub waits : PlainBlock
  pub is_block : slice_get blocks number ≡ Some waits
  pub reached : list_all item_goes_on waits.code ≡ true
  pub for : Awaits
  pub awaits : awaited waits.end ≡ Some for
  pub once : Once vars
  pub kept : Kept tables vars (kept_params blocks waits for)
  pub so : So waits.end

-- a part of a method with this result, on a record of this class
abbrev pub PartFits : List PlainTable → ℕ → List PlainBlock → PlainTy → Part → Type 0
PartFits tables class blocks result (Gave v h n) = Fits tables result v × RecordFits tables class h.fields
PartFits tables class blocks result (Failed f h n) = FailureFits f × RecordFits tables class h.fields
PartFits tables class blocks result (Asks at called args number vars h n) = Waits tables blocks number vars (λ e. CallsIt e at.0 called) × CallFits tables at.0 called args × RecordFits tables class h.fields
PartFits tables class blocks result (Wants made args number vars h n) = Waits tables blocks number vars (λ e. MakesIt e made) × NewFits tables made args × RecordFits tables class h.fields

abbrev pub Comes : List PlainTable → ℕ → List PlainBlock → PlainTy → Option Part → Type 0
Comes tables class blocks result None = ⊥
Comes tables class blocks result (Some p) = PartFits tables class blocks result p

module _ (names : List (List ℕ)) (program : PlainProgram) (accepted : IsKnownAccepted names program) (me : Key) (leaves : Leaving) (within : KeepsWithin (record { program = program; names = names }) me.0 leaves) (d number : ℕ) where
  abbrev src : Source
  src = record { program = program; names = names }

  abbrev tables : List PlainTable
  tables = tables_of names program

  abbrev c : Context
  c = in_method tables me.0 number

  abbrev s : Site Held
  s = on_record src me d

  abbrev Fine : Held → Type 0
  Fine = HeldFits tables me.0

  calls : CallsTakeSteps s.calls
  calls = own_calls_take own_held src me d

  -- The blocks of the method

  module _ (variables : List PlainVar) (blocks : List PlainBlock) (once : each_once variables ≡ true) (each : All (BlockFits c leaves variables blocks) blocks) (room : Bool) where
    abbrev R : PlainTy
    R = result_at c

    abbrev Fitting : Option Part → Type 0
    Fitting = Comes tables me.0 blocks R

    abbrev x : Exits Held Part
    x = waiting room

    -- with this fuel the block of each number goes well
    abbrev GoesWell : ℕ → (ℕ → Go Held Part) → Type 0
    GoesWell fuel go_on = (to : ℕ) (target : PlainBlock) (vars : List Var) (h : Held) (m : ℕ) → slice_get blocks to ≡ Some target → Kept tables vars target.params → Once vars → Fine h → m * above blocks + target.rank < fuel → Fitting (go_on to vars h m)

    module _ (fuel : ℕ) (go_on : ℕ → Go Held Part) (well : GoesWell fuel go_on) (k : ℕ) (b : PlainBlock) (is : slice_get blocks k ≡ Some b) (n : ℕ) (low : n * above blocks + b.rank < suc fuel) where
      f : BlockFits c leaves variables blocks b
      f = all_at (BlockFits c leaves variables blocks) blocks k b each is

      abbrev start : List PlainLocal
      start = at_start variables b.params

      abbrev falls : Fall Held Part
      falls = fall x b.catches go_on

      -- at a point of the block, or where its code failed
      abbrev AtPoint : List Var → Type 0
      AtPoint vars = (params : List PlainVar) → AtEachItem (Supplied params) c b.code start → Kept tables vars params

      falls_well : (e : Failure) (vars : List Var) (h : Held) (m : ℕ) → FailureFits e → Fine h → Once vars → m ≤ n → AtPoint vars → Fitting (falls e vars h m)
      falls_well e vars h m fit p o less at = by (catch_of b.catches e.kind) refl
        where
          by : (to : Option ℕ) → catch_of b.catches e.kind ≡ to → Fitting (fall_at x to go_on e vars h m)
          by None none = (fit, p)
          by (Some to) some =
              let found : (j : ℕ) × (catch : PlainCatch) × (slice_get b.catches j ≡ Some catch) × (catch.to ≡ to) = catch_found b.catches e.kind to some in
              let t : CatchFits c blocks b start found.1 = all_at (CatchFits c blocks b start) b.catches found.0 found.1 f.catches found.2 in
              subst (λ i. Fitting (go_on i vars h m)) found.3
              (well found.1.to t.target vars h m t.is (at t.target.params t.always) o p (lower_rank (above blocks) n m b.rank t.target.rank fuel less t.below low))

      given_well : {A : Type 0} (P : A → Type 0) (vars : List Var) (g : Gives Held A) (rest : A → Held → ℕ → Option Part) (m : ℕ) → Once vars → AtPoint vars → m ≤ n → left_in g ≤ m → GivesFit Fine P g
          → ((y : A) (h : Held) (p : ℕ) → P y → Fine h → p ≤ m → Fitting (rest y h p)) → Fitting (given_then vars g falls rest)
      given_well P vars (Got y h p) rest m o at few less (point.got q w) then_well = then_well y h p q w less
      given_well P vars (Fell e h p) rest m o at few less (point.fell q w) then_well = falls_well e vars h p q w o (omega (arith, few, less)) at

      -- a call or a creation takes a step, and finds room or not
      waits_well : (vars : List Var) (h : Held) (m : ℕ) (part : ℕ → Part) → Fine h → Once vars → AtPoint vars → m ≤ n → ((p : ℕ) → PartFits tables me.0 blocks R (part p)) → Fitting (step m (falls step_limit vars h m) (λ m. if room then Some (part m) else falls recursion_error vars h m))
      waits_well vars h zero part p o at few fit = falls_well step_limit vars h zero (failure_fits step_limit (omega arith) (omega arith)) p o few at
      waits_well vars h (suc m) part p o at few fit = by room
        where
          by : (r : Bool) → Fitting (if r then Some (part m) else falls recursion_error vars h m)
          by true = fit m
          by false = falls_well recursion_error vars h m (failure_fits recursion_error (omega arith) (omega arith)) p o (omega (arith, few)) at

      -- The end

      module _ (vars : List Var) (m : ℕ) (locals : List PlainLocal) (v : VarsFit tables vars locals) (o : Once vars) (few : m ≤ n) (takes : Bool) (is_takes : list_any takes_step b.code ≡ takes) (before : Held) (went : Went takes n (Goes vars before m))
          (reached : list_all item_goes_on b.code ≡ true) (at_points : (params : List PlainVar) → AtEachItem (Supplied params) c b.code start → Supplied params locals) where
        at_end : AtPoint vars
        at_end params at = supplied_kept tables vars locals params v (at_points params at)

        leads_well : (to : ℕ) (known : List PlainLocal) (h : Held) (p : ℕ) → Leads blocks to known → VarsFit tables vars known → Fine h → p ≤ m → (list_any takes_step b.code ≡ false → BelowRank blocks b.rank to) → Fitting (go_on to vars h p)
        leads_well to known h p l fit w less below =
            well to l.target vars h p l.is (supplied_kept tables vars known l.target.params fit l.enough) o w
            (lower takes (above blocks) n m p b.rank l.target.rank fuel vars before went less (λ e. below (is_takes ∙ e) l.target l.is) (rank_below blocks to l.target l.is) low)

        -- what goes on behind a call has its values, but for the result
        kept_behind_call : (into to : ℕ) (ty : PlainTy) → (t : Takes locals into ty (Leads blocks to)) → Kept tables vars (filter (λ p. not (p.name == into)) (params_if_there (slice_get blocks to)))
        kept_behind_call into to ty t = by (slice_get blocks to) t.goes.is
          where
            by : (target : Option PlainBlock) → target ≡ Some t.goes.target → Kept tables vars (filter (λ p. not (p.name == into)) (params_if_there target))
            by None e j p at = absurd (none-some _ e)
            by (Some target) e j p at =
                let other : (p.name == into) ≡ false = not-true (p.name == into) (filter_passes (λ (p : PlainVar). not (p.name == into)) target.params j p at) in
                let i : (i : ℕ) × (slice_get target.params i ≡ Some p) = filtered_at (λ (p : PlainVar). not (p.name == into)) target.params j p at in
                let there : is_some (local_of locals into) ≡ true = ap is_some t.is in
                let enough : is_supplied (local_of (with_local into ty ty locals) p.name) p.ty ≡ true = each_passes (λ (q : PlainVar). is_supplied (local_of (with_local into ty ty locals) q.name) q.ty) target.params i.0 p (subst (λ (u : PlainBlock). Supplied u.params (with_local into ty ty locals)) (sym (same_Some _ _ e)) t.goes.enough) i.1 in
                one_kept tables vars locals p v (subst (λ u. is_supplied u p.ty ≡ true) (other_local into p.name ty locals other there) enough)

        kept_by_catches : (cs : List PlainCatch) → ((j : ℕ) (catch : PlainCatch) → slice_get cs j ≡ Some catch → CatchFits c blocks b start catch) → Kept tables vars (flat_map (λ (catch : PlainCatch). params_if_there (slice_get blocks catch.to)) cs)
        kept_by_catches [] h j p at = absurd (none-some p at)
        kept_by_catches (catch ∷ cs) h j p at =
            let t : CatchFits c blocks b start catch = h 0 catch refl in
            kept_both tables vars (params_if_there (slice_get blocks catch.to)) (flat_map (λ (catch : PlainCatch). params_if_there (slice_get blocks catch.to)) cs)
            (subst (λ target. Kept tables vars (params_if_there target)) (sym t.is) (supplied_kept tables vars locals t.target.params v (at_points t.target.params t.always))) (kept_by_catches cs (λ j catch at. h (suc j) catch at)) j p at

        waits_so : (So : PlainEnd → Type 0) (into to : ℕ) (ty : PlainTy) → awaited b.end ≡ Some (record { into = into; after = to }) → Takes locals into ty (Leads blocks to) → So b.end → Waits tables blocks k vars So
        waits_so So into to ty awaits t so = record {
          waits = b;
          is_block = is;
          reached = reached;
          for = record { into = into; after = to };
          awaits = awaits;
          once = o;
          kept = kept_both tables vars _ _ (kept_behind_call into to ty t) (kept_by_catches b.catches (λ j catch at. all_at (CatchFits c blocks b start) b.catches j catch f.catches at));
          so = so;
        }

        end_well : (end : PlainEnd) (h : Held) → b.end ≡ end → EndFits c leaves blocks end locals → (list_any takes_step b.code ≡ false → NextAreBelow blocks b.rank end) → Fine h → Fitting (run_end s x k go_on falls end vars h m)
        unfolding run_end
        end_well (EJump to) h is_end e below w = leads_well to locals h m e v w (omega arith) below
        end_well (EBranch test holds other) h is_end e below w =
            given_well (Tested names program accepted me leaves within d number vars test) vars (eval s test vars h m) _ m o at_end few (eval_takes s calls test vars h m) (tested names program accepted me leaves within d number locals test vars h m e.0 v w) (λ u h p q w less. by u (is_true u) refl h p q w less)
          where
            by : (u : Value) (t : Bool) → is_true u ≡ t → (h : Held) (p : ℕ) → Tested names program accepted me leaves within d number vars test u → Fine h → p ≤ m → Fitting (if t then go_on holds vars h p else go_on other vars h p)
            by u true is h p q w less = leads_well holds (narrowed (shown true test) locals) h p e.1 (narrowed_fits tables vars (shown true test) locals (q true is) v) w less (λ none. (below none).0)
            by u false is h p q w less = leads_well other (narrowed (shown false test) locals) h p e.2 (narrowed_fits tables vars (shown false test) locals (q false is) v) w less (λ none. (below none).1)
        end_well ELeave h is_end e below w = (fits_wider tables TNil R value.Nil e nil, w)
        end_well (ECall on class method args into to) h is_end e below w =
            given_well (λ q. Fits tables (TEntity e.table.name) q.0 × EachFits tables (param_types e.sig.params) q.1) vars (parts_of_call s on args vars h m) _ m o at_end few (parts_take s calls on args vars h m)
            (parts_fit names program accepted me leaves within d number on args e.table.name locals e.sig.params vars h m e.receiver e.args_fit v w) (λ q h p fit w less.
            waits_well vars h p (λ m. Asks (key_in q.0) (method_called src (key_in q.0).0 class method) q.1 k vars h m) w o at_end (omega (arith, few, less)) (λ j.
            let same : ((key_in q.0).0 ≡ class) × (method_called src (key_in q.0).0 class method ≡ method) = called_is names program accepted me leaves within d number class method e.table e.sig q.0 e.has_table e.has_method fit.0 in (
              waits_so (λ end. CallsIt end (key_in q.0).0 (method_called src (key_in q.0).0 class method)) into to e.sig.result (ap awaited is_end) e.takes (subst (λ end. CallsIt end (key_in q.0).0 (method_called src (key_in q.0).0 class method)) (sym is_end) (sym same.0, sym same.1)),
              record { table = e.table; has_table = subst (λ i. HasTable tables i e.table) (sym same.0) e.has_table; sig = e.sig; has_method = subst (λ i. slice_get e.table.methods i ≡ Some e.sig) (sym same.1) e.has_method; fit = fit.1 },
              w,
            )))
        end_well (EMake class args into to) h is_end e below w =
            given_well (EachFits tables (param_types e.table.init)) vars (eval_all s args [] vars h m) _ m o at_end few (all_takes s calls args [] vars h m) (all_args_fit names program accepted me leaves within d number args locals e.table.init vars h m e.args_fit v w) (λ us h p fit w less.
            waits_well vars h p (λ m. Wants class us k vars h m) w o at_end (omega (arith, few, less)) (λ j.
            (waits_so (λ end. MakesIt end class) into to (TEntity e.table.name) (ap awaited is_end) e.takes (subst (λ end. MakesIt end class) (sym is_end) refl), record { table = e.table; has_table = e.has_table; fit = fit }, w)))

      items_well : (e : Ends Held) → left_at e ≤ n → LocalsHold Once once_stays e → Went (list_any takes_step b.code) n e → ItemsEnd names program accepted me leaves within d number b.code start (EndFits c leaves blocks b.end) e
          → Fitting (behind x e (run_end s x k go_on falls b.end) falls)
      items_well _ less o went (go {vars = vars} {h = h} {n = m} locals reached ends v w at) = end_well vars m locals v o less (list_any takes_step b.code) refl h went reached at b.end h refl ends f.ranks w
      items_well _ less o went (return fit w) = (fit, w)
      items_well _ less o went (fail {f = e} {vars = vars} {h = h} {n = m} fit w spared) = falls_well e vars h m fit w o less spared

      block_well : (vars : List Var) (h : Held) → Kept tables vars b.params → Once vars → Fine h → Fitting (behind x (run_items s b.code vars h n) (run_end s x k go_on falls b.end) falls)
      block_well vars h kept o w =
          items_well (run_items s b.code vars h n) (items_take s calls b.code vars h n) (items_of_block_hold Once once_stays s b.code vars h n o) (items_went s calls b.code vars h n)
          (items_end names program accepted me leaves within d number b.code start (EndFits c leaves blocks b.end) vars h n f.fits (start_fits variables b.params once tables vars f.params kept) (start_sound variables b.params once) w)

    -- with fuel for each step and rank that is left
    pub blocks_well : (fuel : ℕ) → GoesWell fuel (run_blocks s x blocks fuel)
    unfolding run_blocks
    blocks_well zero to target vars h m is kept o w low = absurd (omega (arith, low))
    blocks_well (suc fuel) to target vars h m is kept o w low =
        subst (λ t. Fitting (at_block t (λ b vars h n. behind x (run_items s b.code vars h n) (run_end s x to (run_blocks s x blocks fuel) (fall x b.catches (run_blocks s x blocks fuel)) b.end) (fall x b.catches (run_blocks s x blocks fuel))) vars h m)) (sym is)
        (block_well fuel (run_blocks s x blocks fuel) (blocks_well fuel) to target is m low vars h kept o w)
