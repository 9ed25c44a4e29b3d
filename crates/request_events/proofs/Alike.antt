-- Code of a block on the whole state and on the record of its entity, from locals that agree on what is surely assigned.
use Rattle.std.proofs.Common.{◌≡◌, ◌≤◌, arith, ◌∙◌, ℕ, zero, suc, Bool, true, false, cond, Option, Some, None, List, [], ◌∷◌, ◌++◌, refl, sym, ap, subst}
use Rattle.std.specs.Prelude.{unwrap_or}
use Rattle.std.specs.FinMap as map
use Rattle.std.specs.Ordering.{eq_by_cmp}
use Rattle.py_tree.specs.PlainTypes.{PlainTy, TStr}
use Rattle.py_tree.specs.PlainExpressions.{PlainExpr, PlainExprs, PNoExpr, PExpr}
use Rattle.py_tree.specs.PlainStatements.{PlainStmts, PNoStmt, PStmt}
use Rattle.py_tree.specs.ClassRules.{PlainSigParam, PlainTable}
use Rattle.py_tree.specs.FlowEnvironment.{PlainLocal}
use Rattle.py_tree.specs.Reachability.{all_go_on, break_in}
use Rattle.py_tree.specs.Flow.{Context, Way, begun, in_method, with_local}
use Rattle.call_graph.specs.SuspendingCode.{Leaving, expr_suspends, exprs_suspend}
use Rattle.sf_value.specs.Keys.{Key, key_cmp}
use Rattle.sf_value.specs.Weight.{weight_of}
use Rattle.sf_value.specs.declared.value.Value.TheVariants as value
use Rattle.sf_value.specs.declared.Failure.{Failure}
use Rattle.sf_value.specs.declared.value.Value.{Value}
use Rattle.sf_value.proofs.Maps.{key_total, key_exact}
use Rattle.program_meaning.specs.declared.vars.Var.{Var}
use Rattle.program_meaning.specs.ClassTables.{Source, fields_of}
use Rattle.program_meaning.specs.World.{State, World, Gives, Got, Fell, ◌>>=◌, Ends, Goes, Returns, Breaks, Continues, Fails, with_given, next, with_field, record_at, writing}
use Rattle.program_meaning.specs.Evaluation.{Site, entity, key_in, eval, eval_all}
use Rattle.program_meaning.specs.LightValues.{IsLight, GivesLight, CallsGiveLight}
use Rattle.program_meaning.proofs.LightExpressions.{eval_light}
use Rattle.program_meaning.specs.Execution.{message, act_all}
use Rattle.program_meaning.specs.Calls.{Held, in_state, calls_at, on_record}
use Rattle.program_meaning.specs.Reached.{IsReached}
use Rattle.program_meaning.specs.HereInState.{KeepsWithin, left_by, IsSeen, GivesAlike, got, fell, EndsAlike}
use Rattle.program_meaning.specs.HereInState as seen_ends
use Rattle.program_meaning.proofs.HereInState.{expressions_alike, statements_alike, added_twice, written_there, written_read}
use Rattle.program_meaning.proofs.NotReached.{acts_reached}
use Rattle.program_meaning.proofs.TypedParts.{either_false}
use Rattle.block_code.specs.PlainVars.{PlainVar}
use Rattle.block_code.specs.PlainBlocks.{PlainItem, IMark, ISet, IPut, IGive, IFail, ICode}
use Rattle.block_code.specs.GraphFits.{Asked, HasType, Takes, CodeFits, MessageFits, ItemFits, ItemsFit, ArgsFit, AtEachPoint, AtEachItem}
use Rattle.block_runs.specs.BlockRuns.{parts_of_call, run_item, run_items}
use Rattle.block_runs.proofs.Variables.{Supplied}
use Rattle.assigned_locals.specs.AssignedLocals.{AgreeOnAssigned, EndsAgree}
use Rattle.assigned_locals.specs.AssignedLocals as agreed_ends
use Rattle.assigned_locals.proofs.AssignedLocals.{expressions as assigned_in_expressions, every_argument as assigned_in_arguments, statements as assigned_in_statements}
use Rattle.request_events.proofs.Agreeing.{Same, supplied_agree, given_agree}

-- The record is written again

cond_again : {A : Type 0} (b : Bool) (x y z : A) → cond b x (cond b y z) ≡ cond b x z
cond_again true x y z = refl
cond_again false x y z = refl

put_again : (s : State) (k : Key) (x y : List Value) → map.insert (map.insert s k x) k y ≡ map.insert s k y
put_again s k x y = map.same_map key_total key_exact _ _ (λ q.
    map.get-insert key_total (map.insert s k x) k y q
    ∙ ap (λ o. cond (eq_by_cmp key_cmp q k) (Some y) o) (map.get-insert key_total s k x q)
    ∙ cond_again (eq_by_cmp key_cmp q k) (Some y) (Some x) (map.get s q)
    ∙ sym (map.get-insert key_total s k y q))

left_again : (wrote : Bool) (start : World) (me : Key) (x y : List Value) → writing (left_by me start (record { fields = x; wrote = wrote })) me y ≡ writing start me y
left_again true start me x y = λ i. record { state = put_again start.state me x y i; reads = start.reads; writes = added_twice start.writes me i }
left_again false start me x y = refl

put_seen : (start : World) (me : Key) (w : World) (h : Held) (fields : List Value) → IsSeen me start w h → IsSeen me start (writing w me fields) (record { fields = fields; wrote = true })
put_seen start me w h fields seen = record {
  left = ap (λ w. writing w me fields) seen.left ∙ left_again h.wrote start me h.fields fields;
  there = written_there w me fields;
  read = written_read w me fields seen.read;
}

-- what is given has a property, where something is
abbrev pub GivesSo : {W A : Type 0} → (A → Type 0) → Gives W A → Type 0
GivesSo P (Got x w n) = P x
GivesSo P (Fell f w n) = Unit {0}

pub so_anyway : {W A : Type 0} (g : Gives W A) → GivesSo (λ x. Unit {0}) g
so_anyway (Got x w n) = tt
so_anyway (Fell f w n) = tt

light_key : (v : Value) → weight_of v ≤ 65536 → weight_of (entity (key_in v)) ≤ 65536
unfolding weight_of
light_key (value.Int z) light = omega (arith)
light_key (value.Bool b) light = omega (arith)
light_key (value.Str text) light = omega (arith)
light_key value.Nil light = omega (arith)
light_key (value.List' shape row) light = omega (arith)
light_key (value.Entity at) light = light

-- the entity that is called isn't too heavy, since no value is that an expression gives
pub light_receiver : {W : Type 0} (s : Site W) → CallsGiveLight s.calls → (on : PlainExpr) (args : PlainExprs) (vars : List Var) (w : W) (n : ℕ) → GivesSo (λ (q : Value × List Value). weight_of (entity (key_in q.0)) ≤ 65536) (parts_of_call s on args vars w n)
light_receiver {W = W} s calls on args vars w n = by (eval s on vars w n) (eval_light s calls on vars w n)
  where
    both : (v : Value) → IsLight v → (g : Gives W (List Value)) → GivesSo (λ (q : Value × List Value). weight_of (entity (key_in q.0)) ≤ 65536) (g >>= λ vs w n. Got (v, vs) w n)
    both v light (Got vs w n) = light_key v light.most
    both v light (Fell f w n) = tt

    by : (g : Gives W Value) → GivesLight g → GivesSo (λ (q : Value × List Value). weight_of (entity (key_in q.0)) ≤ 65536) (g >>= λ v w n. eval_all s args [] vars w n >>= λ vs w n. Got (v, vs) w n)
    by (Got v w n) light = both v light (eval_all s args [] vars w n)
    by (Fell f w n) light = tt

then_alike : {A B : Type 0} (me : Key) (start : World) (g : Gives World A) (h : Gives Held A) (k : A → World → ℕ → Gives World B) (l : A → Held → ℕ → Gives Held B) → GivesAlike me start g h
    → ((x : A) (w : World) (h : Held) (n : ℕ) → IsSeen me start w h → GivesAlike me start (k x w n) (l x h n)) → GivesAlike me start (g >>= k) (h >>= l)
then_alike me start _ _ k l (got {x = x} {w = w} {h = h} {n = n} seen) rest = rest x w h n seen
then_alike me start _ _ k l (fell seen) rest = fell seen

first_point : (P : Asked) (c : Context) (w : Way) (xs : PlainStmts) → AtEachPoint P c w xs → P w.locals
unfolding AtEachPoint
first_point P c w PNoStmt at = at
first_point P c w (PStmt x xs) at = at.0

-- where a method runs at an entity, for which so many calls may still be open
module _ (src : Source) (tables : List PlainTable) (me : Key) (leaves : Leaving) (within : KeepsWithin src me.0 leaves) (d room : ℕ) (deep : d ≡ room) (number : ℕ) (start : World) where
  abbrev c : Context
  c = in_method tables me.0 number

  abbrev whole : Site World
  whole = in_state src (calls_at src d) me

  abbrev one : Site Held
  one = on_record src me room

  -- Expressions

  value_here : (e : PlainExpr) → expr_suspends leaves e ≡ false → (vars : List Var) (w : World) (h : Held) (n : ℕ) → IsSeen me start w h → GivesAlike me start (eval whole e vars w n) (eval one e vars h n)
  value_here e stays vars w h n seen = subst (λ k. GivesAlike me start (eval whole e vars w n) (eval (on_record src me k) e vars h n)) deep (expressions_alike src me leaves within d start w h seen e stays vars n)

  all_here : (es : PlainExprs) → exprs_suspend leaves es ≡ false → (xs : List Value) (vars : List Var) (w : World) (h : Held) (n : ℕ) → IsSeen me start w h → GivesAlike me start (eval_all whole es xs vars w n) (eval_all one es xs vars h n)
  unfolding eval_all exprs_suspend
  all_here PNoExpr stays xs vars w h n seen = got seen
  all_here (PExpr e es) stays xs vars w h n seen =
      let q : (expr_suspends leaves e ≡ false) × (exprs_suspend leaves es ≡ false) = either_false (expr_suspends leaves e) (exprs_suspend leaves es) stays in
      then_alike me start _ _ _ _ (value_here e q.0 vars w h n seen) (λ v w h n seen. all_here es q.1 (xs ++ v ∷ []) vars w h n seen)

  pub value_alike : (locals : List PlainLocal) (e : PlainExpr) (ty : PlainTy) (us vs : List Var) (w : World) (h : Held) (n : ℕ) → HasType c leaves locals e ty → AgreeOnAssigned locals us vs → IsSeen me start w h
      → GivesAlike me start (eval whole e us w n) (eval one e vs h n)
  value_alike locals e ty us vs w h n t agree seen = subst (λ g. GivesAlike me start g (eval one e vs h n)) (sym (assigned_in_expressions c locals t.wanted e ty t.typed whole us vs agree w n)) (value_here e t.stays vs w h n seen)

  pub args_alike : (locals : List PlainLocal) (args : PlainExprs) (params : List PlainSigParam) (us vs : List Var) (w : World) (h : Held) (n : ℕ) → ArgsFit c leaves locals args params → AgreeOnAssigned locals us vs → IsSeen me start w h
      → GivesAlike me start (eval_all whole args [] us w n) (eval_all one args [] vs h n)
  args_alike locals args params us vs w h n a agree seen = subst (λ g. GivesAlike me start g (eval_all one args [] vs h n)) (sym (assigned_in_arguments c locals args params a.count a.typed whole us vs agree w n)) (all_here args a.stay [] vs w h n seen)

  pub parts_alike : (locals : List PlainLocal) (on : PlainExpr) (ty : PlainTy) (args : PlainExprs) (params : List PlainSigParam) (us vs : List Var) (w : World) (h : Held) (n : ℕ) → HasType c leaves locals on ty → ArgsFit c leaves locals args params
      → AgreeOnAssigned locals us vs → IsSeen me start w h → GivesAlike me start (parts_of_call whole on args us w n) (parts_of_call one on args vs h n)
  parts_alike locals on ty args params us vs w h n t a agree seen =
      then_alike me start _ _ _ _ (value_alike locals on ty us vs w h n t agree seen) (λ v w h n seen.
      then_alike me start _ _ _ _ (args_alike locals args params us vs w h n a agree seen) (λ xs w h n seen. got seen))

  message_alike : (locals : List PlainLocal) (e : Option PlainExpr) (us vs : List Var) (w : World) (h : Held) (n : ℕ) → MessageFits c leaves locals e → AgreeOnAssigned locals us vs → IsSeen me start w h
      → GivesAlike me start (message whole e us w n) (message one e vs h n)
  unfolding message
  message_alike locals None us vs w h n t agree seen = got seen
  message_alike locals (Some e) us vs w h n t agree seen = then_alike me start _ _ _ _ (value_alike locals e TStr us vs w h n t agree seen) (λ v w h n seen. got seen)

  -- One item

  -- how an item ends on both sides from these locals, whatever items stand behind it
  data ItemMet (i : PlainItem) (locals : List PlainLocal) (goal : Asked) : Ends World → Ends Held → Type 0 where
    both_go : {us vs : List Var} {w : World} {h : Held} {n : ℕ} → (after : List PlainLocal) → goal after → AgreeOnAssigned after us vs → IsSeen me start w h
        → ((is : List PlainItem) (params : List PlainVar) → AtEachItem (Supplied params) c (i ∷ is) locals → AtEachItem (Supplied params) c is after) → ItemMet i locals goal (Goes us w n) (Goes vs h n)
    both_return : {v : Value} {w : World} {h : Held} {n : ℕ} → IsSeen me start w h → ItemMet i locals goal (Returns v w n) (Returns v h n)
    both_break : {us vs : List Var} {w : World} {h : Held} {n : ℕ} → ItemMet i locals goal (Breaks us w n) (Breaks vs h n)
    both_continue : {us vs : List Var} {w : World} {h : Held} {n : ℕ} → ItemMet i locals goal (Continues us w n) (Continues vs h n)
    both_fail : {f : Failure} {us vs : List Var} {w : World} {h : Held} {n : ℕ} → IsSeen me start w h
        → ((is : List PlainItem) (params : List PlainVar) → AtEachItem (Supplied params) c (i ∷ is) locals → Same params us vs) → ItemMet i locals goal (Fails f us w n) (Fails f vs h n)

  given_met : {A : Type 0} (i : PlainItem) (locals : List PlainLocal) (goal : Asked) (us vs : List Var) (g : Gives World A) (h : Gives Held A) (k : A → World → ℕ → Ends World) (l : A → Held → ℕ → Ends Held) → AgreeOnAssigned locals us vs
      → ((is : List PlainItem) (params : List PlainVar) → AtEachItem (Supplied params) c (i ∷ is) locals → Supplied params locals) → GivesAlike me start g h
      → ((x : A) (w : World) (h : Held) (n : ℕ) → IsSeen me start w h → ItemMet i locals goal (k x w n) (l x h n)) → ItemMet i locals goal (with_given us g k) (with_given vs h l)
  given_met i locals goal us vs _ _ k l agree first (got {x = x} {w = w} {h = h} {n = n} seen) rest = rest x w h n seen
  given_met i locals goal us vs _ _ k l agree first (fell seen) rest = both_fail seen (λ is params at. supplied_agree locals params us vs agree (first is params at))

  code_met : (xs : PlainStmts) (locals : List PlainLocal) (goal : Asked) (f : CodeFits c leaves locals xs goal) (e d : Ends World) (h : Ends Held) → EndsAgree locals f.way.locals e d → EndsAlike me start d h → IsReached (all_go_on xs) (break_in xs) e → ItemMet (ICode xs) locals goal e h
  unfolding AtEachItem
  code_met xs locals goal f _ _ _ (agreed_ends.go agree) (seen_ends.goes seen) on = both_go f.way.locals (f.goes on) agree seen (λ is params at. at.1 on f.way f.flows)
  code_met xs locals goal f _ _ _ agreed_ends.return (seen_ends.returns seen) on = both_return seen
  code_met xs locals goal f _ _ _ (agreed_ends.break agree) (seen_ends.breaks seen) on = both_break
  code_met xs locals goal f _ _ _ (agreed_ends.continue agree) (seen_ends.continues seen) on = both_continue
  code_met xs locals goal f _ _ _ (agreed_ends.fail {us = us} {vs = vs} agree) (seen_ends.fails seen) on =
      both_fail seen (λ is params at. supplied_agree locals params us vs agree (first_point (Supplied params) c (begun locals) xs at.0))

  fields_seen : (w : World) (h : Held) → IsSeen me start w h → record_at w me ≡ h.fields
  fields_seen w h seen = ap (λ o. unwrap_or o []) seen.there

  item_met : (i : PlainItem) (locals : List PlainLocal) (goal : Asked) (us vs : List Var) (w : World) (h : Held) (n : ℕ) → ItemFits c leaves i goal locals → AgreeOnAssigned locals us vs → IsSeen me start w h
      → ItemMet i locals goal (run_item whole i us w n) (run_item one i vs h n)
  unfolding run_item AtEachItem
  item_met IMark locals goal us vs w h zero f agree seen = both_fail seen (λ is params at. supplied_agree locals params us vs agree at.0)
  item_met IMark locals goal us vs w h (suc n) f agree seen = both_go locals f agree seen (λ is params at. at.1)
  item_met (ISet x e) locals goal us vs w h n f agree seen =
      let t : Takes locals x f.0 goal = f.2 in
      given_met (ISet x e) locals goal us vs _ _ _ _ agree (λ is params at. at.0) (value_alike locals e f.0 us vs w h n f.1 agree seen) (λ v w h n seen.
      both_go (with_local x f.0 f.0 locals) t.goes (given_agree x f.0 v locals us vs t.local t.is agree) seen (λ is params at. at.1 f.1.wanted f.0 f.1.typed))
  item_met (IPut x e) locals goal us vs w h n f agree seen =
      given_met (IPut x e) locals goal us vs _ _ _ _ agree (λ is params at. at.0) (value_alike locals e f.0.fits.ty us vs w h n f.0.fits.has agree seen) (λ v w h n seen.
      subst (λ fields. ItemMet (IPut x e) locals goal (Goes us (writing w me (with_field (fields_of src me.0) fields x v)) n) (Goes vs (record { fields = with_field (fields_of src me.0) h.fields x v; wrote = true }) n)) (sym (fields_seen w h seen))
      (both_go locals f.1 agree (put_seen start me w h (with_field (fields_of src me.0) h.fields x v) seen) (λ is params at. at.1)))
  item_met (IGive e) locals goal us vs w h n f agree seen =
      given_met (IGive e) locals goal us vs _ _ _ _ agree (λ is params at. at) (value_alike locals e f.ty us vs w h n f.has agree seen) (λ v w h n seen. both_return seen)
  item_met (IFail kind e) locals goal us vs w h n f agree seen =
      given_met (IFail kind e) locals goal us vs _ _ _ _ agree (λ is params at. at) (message_alike locals e us vs w h n f.2 agree seen) (λ text w h n seen.
      both_fail seen (λ is params at. supplied_agree locals params us vs agree at))
  item_met (ICode xs) locals goal us vs w h n f agree seen =
      code_met xs locals goal f (act_all whole xs us w n) (act_all whole xs vs w n) (act_all one xs vs h n) (assigned_in_statements c (begun locals) f.way xs f.flows whole us vs agree w n)
      (subst (λ k. EndsAlike me start (act_all whole xs vs w n) (act_all (on_record src me k) xs vs h n)) deep (statements_alike src me leaves within d start w h seen xs f.stays vs n)) (acts_reached whole xs us w n)

  -- All items

  pub data ItemsMet (is : List PlainItem) (locals : List PlainLocal) (goal : Asked) : Ends World → Ends Held → Type 0 where
    all_go : {us vs : List Var} {w : World} {h : Held} {n : ℕ} → (after : List PlainLocal) → goal after → AgreeOnAssigned after us vs → IsSeen me start w h
        → ((params : List PlainVar) → AtEachItem (Supplied params) c is locals → Supplied params after) → ItemsMet is locals goal (Goes us w n) (Goes vs h n)
    one_returns : {v : Value} {w : World} {h : Held} {n : ℕ} → IsSeen me start w h → ItemsMet is locals goal (Returns v w n) (Returns v h n)
    one_breaks : {us vs : List Var} {w : World} {h : Held} {n : ℕ} → ItemsMet is locals goal (Breaks us w n) (Breaks vs h n)
    one_continues : {us vs : List Var} {w : World} {h : Held} {n : ℕ} → ItemsMet is locals goal (Continues us w n) (Continues vs h n)
    one_fails : {f : Failure} {us vs : List Var} {w : World} {h : Held} {n : ℕ} → IsSeen me start w h
        → ((params : List PlainVar) → AtEachItem (Supplied params) c is locals → Same params us vs) → ItemsMet is locals goal (Fails f us w n) (Fails f vs h n)

  then_met : (i : PlainItem) (is : List PlainItem) (locals after : List PlainLocal) (goal : Asked) (e : Ends World) (h : Ends Held) → ((params : List PlainVar) → AtEachItem (Supplied params) c (i ∷ is) locals → AtEachItem (Supplied params) c is after)
      → ItemsMet is after goal e h → ItemsMet (i ∷ is) locals goal e h
  then_met i is locals after goal _ _ later (all_go last g agree seen at_last) = all_go last g agree seen (λ params at. at_last params (later params at))
  then_met i is locals after goal _ _ later (one_returns seen) = one_returns seen
  then_met i is locals after goal _ _ later one_breaks = one_breaks
  then_met i is locals after goal _ _ later one_continues = one_continues
  then_met i is locals after goal _ _ later (one_fails seen same) = one_fails seen (λ params at. same params (later params at))

  next_met : (i : PlainItem) (is : List PlainItem) (locals : List PlainLocal) (mid goal : Asked) (e : Ends World) (h : Ends Held) (k : List Var → World → ℕ → Ends World) (l : List Var → Held → ℕ → Ends Held) → ItemMet i locals mid e h
      → ((after : List PlainLocal) (us vs : List Var) (w : World) (h : Held) (n : ℕ) → mid after → AgreeOnAssigned after us vs → IsSeen me start w h → ItemsMet is after goal (k us w n) (l vs h n)) → ItemsMet (i ∷ is) locals goal (next e k) (next h l)
  next_met i is locals mid goal _ _ k l (both_go {us = us} {vs = vs} {w = w} {h = h} {n = n} after g agree seen later) rest =
      then_met i is locals after goal (k us w n) (l vs h n) (λ params at. later is params at) (rest after us vs w h n g agree seen)
  next_met i is locals mid goal _ _ k l (both_return seen) rest = one_returns seen
  next_met i is locals mid goal _ _ k l both_break rest = one_breaks
  next_met i is locals mid goal _ _ k l both_continue rest = one_continues
  next_met i is locals mid goal _ _ k l (both_fail seen same) rest = one_fails seen (λ params at. same is params at)

  pub items_met : (is : List PlainItem) (locals : List PlainLocal) (goal : Asked) (us vs : List Var) (w : World) (h : Held) (n : ℕ) → ItemsFit c leaves is goal locals → AgreeOnAssigned locals us vs → IsSeen me start w h
      → ItemsMet is locals goal (run_items whole is us w n) (run_items one is vs h n)
  unfolding run_items ItemsFit AtEachItem
  items_met [] locals goal us vs w h n f agree seen = all_go locals f agree seen (λ params at. at)
  items_met (i ∷ is) locals goal us vs w h n f agree seen =
      next_met i is locals (ItemsFit c leaves is goal) goal (run_item whole i us w n) (run_item one i vs h n) _ _ (item_met i locals (ItemsFit c leaves is goal) us vs w h n f agree seen) (λ after us vs w h n g agree seen. items_met is after goal us vs w h n g agree seen)
