-- The flat code of each method of an accepted program keeps the rules on types.
use Rattle.std.proofs.Common.{◌≡◌, ◌<◌, ◌≤◌, ◌+◌, ℕ, zero, suc, arith, Bool, true, false, cond, not, Option, Some, None, Result, Ok, List, [], ◌∷◌, ◌++◌, length, map, append_assoc, append-nil, refl, sym, ap, ◌∙◌, subst, true≢false}
use Rattle.std.specs.Prelude.{◌==◌, ◌||◌, ◌&&◌, slice_get}
use Rattle.std.specs.List.{All}
use Rattle.std.proofs.lemmas.List.Elements.{All-nil, All-cons}
use Rattle.std.proofs.lemmas.Option.{none-some}
use Rattle.std.proofs.Math.Bridge.{le_prop}
use Rattle.std.proofs.Math.Logic.{∥∥₁_elim}
use Rattle.py_tree.specs.declared.rule.Rule.TheVariants.{TooMany, ReservedName, DuplicateMember, MissingReturn}
use Rattle.py_tree.specs.declared.rule.RuleFault.{RuleFault}
use Rattle.py_tree.specs.Bounded.{IsBounded, IsBoundedClass, IsBoundedMethod, IsBoundedParam, StmtsNames, EachOfStmts, RaisesFailure}
use Rattle.py_tree.specs.ClassRules.{PlainTable, PlainSig, is_reserved, is_class, is_full, is_param, broken, first_behind, first_in, annotation_fault, param_fault, sig_param, sig_params, sig_of, tables_of}
use Rattle.py_tree.specs.PlainTypes.{PlainTy, TNil, TOptional}
use Rattle.py_tree.specs.PlainProgram.{PlainParam, PlainMethod, PlainClass, PlainProgram}
use Rattle.py_tree.specs.PlainStatements.{stmts_of}
use Rattle.py_tree.specs.FlowEnvironment.{PlainLocal, local_of, has_none}
use Rattle.py_tree.specs.ExpressionTypes.{refuse_if, same_ty, assignable}
use Rattle.py_tree.specs.Reachability.{all_go_on, break_in, assigned_in}
use Rattle.py_tree.specs.Flow.{Context, result_at, known_at, settled, param_local, Way, begun, flow_all, locals_at_start, sig_at, in_method, method_locals}
use Rattle.py_tree.proofs.ClassRuleLaws.{head_none, rest_none, not_broken}
use Rattle.call_graph.specs.SuspendingCode.{Leaving, leaving}
use Rattle.program_meaning.proofs.TypedParts.{same_ok, found_ok, refuse_ok}
use Rattle.program_meaning.proofs.LocalShapes.{shapes, type_in, Grows, shapes_settled}
use Rattle.program_meaning.proofs.FlowGrows.{follows_all}
use Rattle.program_meaning.proofs.TableFacts.{all_at}
use Rattle.program_meaning.proofs.MethodFacts.{method_flows, params_kept, method_member, raises_kept}
use Rattle.block_code.specs.PlainVars.{PlainVar}
use Rattle.block_code.specs.GraphFits.{var_of, var_of_param, at_start}
use Rattle.flat_tree.specs.PlainFlat.{PlainFlat, flat_stmts_of}
use Rattle.flat_types.specs.FlatTypes.{is_point, Nowhere, Behind, stmts_fit}
use Rattle.flat_types.specs.SplitFits.{EndsWithNone}
use Rattle.flat_types.proofs.FlowStays.{all_stay}
use Rattle.hoisting.specs.Stages.{surely}
use Rattle.hoisting.specs.HoistStatements.{flat_all}
use Rattle.typed_hoisting.specs.KnownLocals.{seen, Free}
use Rattle.typed_hoisting.specs.TypedHoisting.{Numbered, AreAmong, Around}
use Rattle.typed_hoisting.proofs.LocalLaws.{kept_same}
use Rattle.typed_hoisting.proofs.CallsKeep.{Own}
use Rattle.typed_hoisting.proofs.ExpressionsKeep.{own_by_marks}
use Rattle.compiled_graph.specs.CompiledGraph.{found_locals}
use Rattle.compiled_graph.proofs.Places.{ClassOf, class_of_method, sig_stands}
use Rattle.compiled_graph.proofs.NamesAreBelow.{body_below}
use Rattle.typed_methods.specs.TypedMethods.{behind_temporaries, MethodKeepsTypes, KeepsTypes, MethodsHaveTypes, MethodsKeepTypes}
use Rattle.typed_methods.proofs.KnownWays.{MetUnder, known_before}
use Rattle.typed_methods.proofs.StoredKnown.{AllKept, free_same}
use Rattle.typed_methods.proofs.FlowKept.{GoesSo, begun_ahead, all_kept}
use Rattle.typed_methods.proofs.Floors.{Floors}
use Rattle.typed_methods.proofs.CodeLaws.{stage, TypedAs, WaysLead, point_at, surely_passes, GoodCode}
use Rattle.typed_methods.proofs.StatementsKeep.{all_good}
use Rattle.typed_methods.proofs.NewLocals.{free_more, Settles, all_settle, each_as}
use Rattle.typed_methods.proofs.Variables.{made_among, none_named, locals_typed, all_once, surely_params}

-- Where a method ends

none_assigned : (t : PlainTy) → has_none t ≡ true → assignable TNil t ≡ true
unfolding assignable
none_assigned TNil h = refl
none_assigned (TOptional u) h = by (same_ty TNil u)
  where
    by : (b : Bool) → (b || true) ≡ true
    by true = refl
    by false = refl
none_assigned _ h = absurd (true≢false (sym h))

ends_none : (go none : Bool) → (go && not none) ≡ false → go ≡ true → none ≡ true
ends_none true true h e = refl
ends_none true false h e = absurd (true≢false h)
ends_none false none h e = absurd (true≢false (sym e))

-- A method that breaks no rule, whose parameters stand once, below the temporaries

module _ (tables : List PlainTable) (class number : ℕ) (sig : PlainSig) (m : PlainMethod) (limit : ℕ) (has : sig_at tables class number ≡ Some sig) (names : StmtsNames limit (stmts_of m.body)) (raises : EachOfStmts RaisesFailure (stmts_of m.body))
    (params_free : Free limit (map param_local sig.params)) (locals : List PlainLocal) (is : method_locals tables class number m ≡ Ok locals) where
  abbrev c : Context
  c = in_method tables class number

  abbrev first : List PlainLocal
  first = map param_local sig.params

  -- the way through it, from its parameters
  record Flows : Type 0 where
    end : Way
    goes : flow_all c (begun first) (stmts_of m.body) ≡ Ok end
    ends : (all_go_on (stmts_of m.body) && not (has_none (result_at c))) ≡ false
    are : settled end.locals (known_at first) ≡ locals

  flows : Flows
  unfolding method_locals
  flows =
      let start : List PlainLocal = locals_at_start (sig_at tables class number) in
      let same : start ≡ first = ap locals_at_start has in
      let falls : Bool = all_go_on (stmts_of m.body) && not (has_none (result_at c)) in
      let then_end : Way → Result (List PlainLocal) RuleFault = λ end. refuse_if falls MissingReturn m.place (Ok (settled end.locals (known_at start))) in
      let p : (end : Way) × (flow_all c (begun start) (stmts_of m.body) ≡ Ok end) × (then_end end ≡ Ok locals) = found_ok (flow_all c (begun start) (stmts_of m.body)) then_end locals is in
      let q = refuse_ok falls MissingReturn m.place (Ok (settled p.0.locals (known_at start))) locals p.2 in
      record {
        end = p.0;
        goes = ap (λ ls. flow_all c (begun ls) (stmts_of m.body)) (sym same) ∙ p.1;
        ends = q.0;
        are = ap (λ ls. settled p.0.locals (known_at ls)) (sym same) ∙ same_ok (settled p.0.locals (known_at start)) locals q.1;
      }

  grown : Grows first flows.end.locals
  grown = (follows_all (stmts_of m.body) c (begun first) flows.end flows.goes).grows

  locals_are : shapes locals ≡ shapes flows.end.locals
  locals_are = ap shapes (sym flows.are) ∙ shapes_settled flows.end.locals (known_at first)

  settles : Settles limit (assigned_in (stmts_of m.body)) (begun first) flows.end
  settles = all_settle limit (stmts_of m.body) c (begun first) flows.end names flows.goes

  pub free : Free limit locals
  free = free_same limit flows.end.locals locals locals_are (settles.free params_free)

  pub params_are : surely locals ≡ map var_of_param sig.params
  params_are = ap surely (sym flows.are) ∙ surely_params sig.params flows.end.locals grown.rest grown.is

  first_kept : AllKept first locals
  first_kept x = kept_same (seen first x) (seen locals x) (sym (ap (λ ls. seen ls x) (sym flows.are) ∙ known_before first flows.end.locals x grown))

  -- and from all its locals
  again : GoesSo flows.end (begun locals) (flow_all c (begun locals) (stmts_of m.body))
  again = all_kept c limit (stmts_of m.body) false false (begun first) (begun locals) flows.end names (λ j t. t) (begun_ahead first locals first_kept) (λ x t e. ap (λ ss. type_in ss x) locals_are ∙ e) flows.goes

  module _ (leaves : Leaving) (own : Own leaves) where
    abbrev no_floors : Floors
    no_floors = record { head = []; clauses = [] }

    code_good : GoodCode c leaves false no_floors (begun locals) limit (flat_all leaves c (stmts_of m.body) (stage (begun locals) limit)).code (flat_all leaves c (stmts_of m.body) (stage (begun locals) limit)).next again.end (all_go_on (stmts_of m.body)) (break_in (stmts_of m.body))
    unfolding local_of
    code_good =
        all_good c leaves own limit refl refl (stmts_of m.body) names raises false no_floors (begun locals) limit again.end (record { below = omega arith; free = free; above = (λ x. tt, tt) })
        (each_as flows.end.locals locals (assigned_in (stmts_of m.body)) locals_are settles.typed) (λ x s h e. absurd (none-some s e), tt) again.is

    abbrev flat_of : List PlainLocal → PlainFlat
    flat_of ls = record { params = map var_of_param sig.params; body = (flat_all leaves c (stmts_of m.body) (record { locals = ls; next = limit })).code }

    abbrev behind : List PlainLocal → ℕ
    behind ls = (flat_all leaves c (stmts_of m.body) (record { locals = ls; next = limit })).next

    no_break : (env : List PlainLocal) → MetUnder (shapes again.end.locals) again.end.breaks env → ⊥
    no_break env met = none-some met.known (sym ((all_stay (stmts_of m.body) c (begun locals) again.end again.is).breaks refl) ∙ met.is)

    pub keeps_types : KeepsTypes c leaves limit (behind locals) locals (flat_of locals)
    keeps_types =
        let g = code_good in
        let variables : List PlainVar = map var_of locals ++ g.made in
        let typed : TypedAs variables locals = locals_typed locals g.made in
        let among : AreAmong variables g.made = made_among (map var_of locals) g.made limit (behind locals) g.numbered (λ x up. none_named locals x (free.free x up)) in
        let around : Around = record { variables = variables; caught = []; breaks = Nowhere; continues = Nowhere } in
        let ways : WaysLead around no_floors false (break_in (stmts_of m.body)) again.end = record { at_break = λ left env are met. no_break env met; at_continue = λ loops env are under. absurd (true≢false (sym loops)); at_caught = λ env are under. tt } in
        let start : List PlainLocal = at_start variables (surely locals) in
        record {
          made = g.made;
          numbered = g.numbered;
          once = all_once limit (behind locals) locals g.made free.free free.once g.numbered;
          params = subst (λ point. is_point variables point ≡ true) params_are (surely_passes variables limit locals free typed);
          points = g.points variables among typed;
          types = subst (λ point. Behind variables point (stmts_fit c leaves variables [] Nowhere Nowhere (flat_stmts_of (flat_of locals).body) (EndsWithNone c))) params_are
              (g.fits around among typed start (point_at variables limit locals free typed) ways (EndsWithNone c)
              (λ go after there. none_assigned (result_at c) (ends_none (all_go_on (stmts_of m.body)) (has_none (result_at c)) flows.ends go)));
        }

-- Parameters of an accepted program stand once, below the temporaries

abbrev locals_of : List PlainParam → List PlainLocal
locals_of ps = map param_local (sig_params ps)

locals_both : (a b : List PlainParam) → locals_of (a ++ b) ≡ locals_of a ++ locals_of b
locals_both [] b = refl
locals_both (p ∷ a) b = ap (λ ls. param_local (sig_param p) ∷ ls) (locals_both a b)

no_param : (ps : List PlainParam) (x : ℕ) → is_param ps x ≡ false → local_of (locals_of ps) x ≡ None
unfolding is_param local_of
no_param [] x h = refl
no_param (p ∷ ps) x h = by (p.name == x) h (no_param ps x)
  where
    by : (b : Bool) → (b || is_param ps x) ≡ false → (is_param ps x ≡ false → local_of (locals_of ps) x ≡ None) → cond b (Some (param_local (sig_param p))) (local_of (locals_of ps) x) ≡ None
    by true h k = absurd (true≢false h)
    by false h k = k h

module _ (program : PlainProgram) (limit : ℕ) where
  param_apart : (before : List PlainParam) (p : PlainParam) → param_fault program before p ≡ None → is_param before p.name ≡ false
  unfolding param_fault
  param_apart before p none =
      let full : Option RuleFault = broken TooMany p.place (is_full (length before)) in
      let reserved : Option RuleFault = broken ReservedName p.place (is_reserved p.name || is_class program p.name) in
      let twice : Option RuleFault = broken DuplicateMember p.place (is_param before p.name) in
      let type : Option RuleFault = annotation_fault program p.place p.ty in
      not_broken DuplicateMember p.place (is_param before p.name) (head_none twice (type ∷ []) (rest_none reserved (twice ∷ type ∷ []) (rest_none full (reserved ∷ twice ∷ type ∷ []) none)))

  params_behind : (before ps : List PlainParam) → Free limit (locals_of before) → first_behind (param_fault program) before ps ≡ None → ((j : ℕ) (p : PlainParam) → slice_get ps j ≡ Some p → p.name < limit) → Free limit (locals_of (before ++ ps))
  params_behind before [] free none below = subst (λ ls. Free limit ls) (sym (append-nil (locals_of before)) ∙ sym (locals_both before [])) free
  params_behind before (p ∷ ps) free none below =
      let rest : Option RuleFault = first_behind (param_fault program) (before ++ p ∷ []) ps in
      let now : param_fault program before p ≡ None = head_none (param_fault program before p) (rest ∷ []) none in
      let later : rest ≡ None = head_none rest [] (rest_none (param_fault program before p) (rest ∷ []) none) in
      let more : Free limit (locals_of (before ++ p ∷ [])) =
      subst (λ ls. Free limit ls) (sym (locals_both before (p ∷ []))) (free_more (param_local (sig_param p)) limit (locals_of before) (below zero p refl) (no_param before p.name (param_apart before p now)) free) in
      subst (λ qs. Free limit (locals_of qs)) (append_assoc before (p ∷ []) ps) (params_behind (before ++ p ∷ []) ps more later (λ j q is. below (suc j) q is))

  none_free : Free limit []
  unfolding local_of
  none_free = record { free = λ x up. refl; once = tt }

  params_free : (ps : List PlainParam) → first_in (param_fault program) ps ≡ None → ((j : ℕ) (p : PlainParam) → slice_get ps j ≡ Some p → p.name < limit) → Free limit (locals_of ps)
  params_free ps none below = params_behind [] ps none_free none below

param_below : (names : List (List ℕ)) (program : PlainProgram) → ∥ IsBounded names program ∥₁ → (k i : ℕ) (c : PlainClass) (m : PlainMethod) → slice_get program k ≡ Some c → slice_get c.members i ≡ Some m
    → (j : ℕ) (p : PlainParam) → slice_get m.params j ≡ Some p → p.name < length names
param_below names program bounded k i c m is at j p has = ∥∥₁_elim bounded (λ a b. le_prop a b) (λ (b : IsBounded names program).
    let class : IsBoundedClass (length names) c = all_at (IsBoundedClass (length names)) program k c b.classes is in
    let member : IsBoundedMethod (length names) m = all_at (IsBoundedMethod (length names)) c.members i m class.members at in
    (all_at (IsBoundedParam (length names)) m.params j p member.params has).named)

pub methods_keep_types : MethodsKeepTypes
methods_keep_types names program marks accepted class number m h =
    let tables : List PlainTable = tables_of names program in
    let limit : ℕ = length names in
    let leaves : Leaving = leaving names program marks class in
    let k : ClassOf names program class number m = class_of_method names program class number m h in
    let i : (i : ℕ) × (slice_get k.is.members i ≡ Some m) = method_member names program accepted.rules.classes accepted.rules.flow number k.is m k.has in
    let found : (locals : List PlainLocal) × (method_locals tables class number m ≡ Ok locals) = method_flows names program accepted.rules.classes accepted.rules.flow class number k.is m k.at k.has in
    let below : StmtsNames limit (stmts_of m.body) = body_below names program accepted.bounded class i.0 k.is m k.at i.1 in
    let raises : EachOfStmts RaisesFailure (stmts_of m.body) = raises_kept names program accepted.rules.classes accepted.rules.flow accepted.bounded class i.0 k.is m k.at i.1 in
    let params : Free limit (map param_local (sig_of m).params) =
    params_free program limit m.params (params_kept names program accepted.rules.classes accepted.rules.flow class i.0 k.is m k.at i.1) (param_below names program accepted.bounded class i.0 k.is m k.at i.1) in
    let own = own_by_marks names program marks class in
    let has : sig_at tables class number ≡ Some (sig_of m) = sig_stands names program class number m k in
    subst (λ ls. KeepsTypes (in_method tables class number) leaves limit (behind tables class number (sig_of m) m limit has below raises params found.0 found.1 leaves own ls) ls (flat_of tables class number (sig_of m) m limit has below raises params found.0 found.1 leaves own ls))
    (sym (ap found_locals found.1)) (keeps_types tables class number (sig_of m) m limit has below raises params found.0 found.1 leaves own)

-- As a graph asks it

made_behind : (first : ℕ) (made : List PlainVar) (next count : ℕ) → count ≤ first → Numbered first made next → All (λ (v : PlainVar). count ≤ v.name) made
made_behind first [] next count up h = All-nil (λ (v : PlainVar). count ≤ v.name)
made_behind first (v ∷ made) next count up h = All-cons (λ (v : PlainVar). count ≤ v.name) v made (omega (arith, up, h.0)) (made_behind (first + 1) made next count (omega (arith, up)) h.1)

pub methods_have_types : MethodsHaveTypes
methods_have_types names program marks accepted class number m h reached callees =
    let k : MethodKeepsTypes names program marks class number m = methods_keep_types names program marks accepted class number m h in
    record {
      temporaries = k.made;
      are_temporaries = made_behind (length names) k.made (behind_temporaries names program marks class number m) (length names) (omega arith) k.numbered;
      fits = record { outside = refl; once = k.once; types = k.types; reached = reached; params = k.params; points = k.points; callees = callees };
    }
