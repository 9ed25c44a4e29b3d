-- The blocks of a flat method that keeps the rules fit.
use Rattle.std.proofs.Common.{◌≡◌, ℕ, ◌+◌, Bool, true, false, List, [], ◌∷◌, ◌++◌, length, Some, if◌then◌else◌, ◌<◌, refl, sym, ap, ◌∙◌, subst}
use Rattle.std.specs.Prelude.{slice_get}
use Rattle.std.specs.List.{All, list_all}
use Rattle.std.proofs.lemmas.Option.{same_Some}
use Rattle.py_tree.specs.PlainTypes.{TEntity}
use Rattle.py_tree.specs.PlainExpressions.{PlainExpr, PlainExprs}
use Rattle.py_tree.specs.FlowEnvironment.{PlainLocal}
use Rattle.py_tree.specs.Reachability.{goes_on}
use Rattle.py_tree.specs.Flow.{Context}
use Rattle.call_graph.specs.SuspendingCode.{Leaving}
use Rattle.program_meaning.proofs.TableFacts.{all_at}
use Rattle.program_meaning.proofs.TypedParts.{both_true}
use Rattle.block_code.specs.PlainVars.{PlainVar}
use Rattle.block_code.specs.PlainBlocks.{IMark, ISet, IPut, IGive, IFail, ECall, EMake, PlainCatch, PlainBlock}
use Rattle.block_code.specs.GraphFits.{Asked, Leads, CatchFits, ItemsFit, at_start, each_once, is_param_of, BlockFits}
use Rattle.block_runs.proofs.Variables.{all_of_each}
use Rattle.flat_tree.specs.declared.tree.Callee.{Callee}
use Rattle.flat_tree.specs.declared.tree.Created.{Created}
use Rattle.flat_tree.specs.PlainFlat.{Point, PlainFlatStmt, FMark, FSet, FPut, FGive, FFail, FCode, FBreak, FContinue, FCall, FMake, FIf, FWhile, FTry, PlainFlatStmts, FNoStmt, FStmt, FArm, PlainFlatArms, FNoArm, FMoreArms, FClause, PlainFlatClauses, FNoClause, FMoreClauses, PlainFlatTest, FLeaf, FNot, FAnd, FOr, FOperand, PlainOperands, FNoOperand, FMoreOperands, flat_stmts_of}
use Rattle.method_splitter.specs.Points.{PointsPass, PointsPassInAll, PointsPassInArms, PointsPassInClauses, PointsPassInTest, PointsPassInOperands}
use Rattle.method_splitter.specs.Split.{Target, Rest, Jumps, Holds, Caught, Around, block, branch, leave, Numbered, ◌and_then◌, lodge, homed, joined, outlet, guarded, always, stops, outermost, split, split_all, split_arms, split_clauses, split_test, split_each, split_blocks}
use Rattle.method_splitter.specs.SplitTargets.{CatchGoesOn, GoesOn}
use Rattle.method_splitter.proofs.RestsRun.{StandAt, stand_first, stand_behind}
use Rattle.method_splitter.proofs.BlocksMean.{stand_all}
use Rattle.method_splitter.proofs.BlocksGoOn.{blocks_go_on}
use Rattle.method_splitter.proofs.ParamsArePoints.{params_are_points}
use Rattle.flat_types.specs.FlatTypes.{is_point, Supplies, Nowhere, Ends, Guarded, guards, CallFits, MakeFits, TestedFits, stmt_fits, stmts_fit, arms_fit, clauses_fit, test_fits, each_fits}
use Rattle.flat_types.specs.DeadCode.{HasNoDead, HaveNoDead, ArmsHaveNoDead, ClausesHaveNoDead, TestHasNoDead, OperandsHaveNoDead}
use Rattle.flat_types.specs.DeadCode as dead
use Rattle.flat_types.specs.SplitFits.{EndsWithNone, BlocksFit}
use Rattle.flat_types.proofs.PointLaws.{AreVariables, start_variables, params_within}
use Rattle.flat_types.proofs.GuardLaws.{at_first}
use Rattle.flat_types.proofs.RestsFit as rest
use Rattle.flat_types.proofs.RestsFit.{takes_on}
use Rattle.flat_types.proofs.LoopsFit.{Somewhere, behind, behind_arms, stops_fit, outlet_jumps, AroundMeets, CodeGood, TestGood, while_good}

module _ (c : Context) (leaves : Leaving) (variables : List PlainVar) (outside : c.in_loop ≡ false) (once : each_once variables ≡ true) (g : List PlainBlock)
    (points : (k : ℕ) (b : PlainBlock) → slice_get g k ≡ Some b → is_point variables b.params ≡ true) where
  abbrev Meets : List Point → Asked → Rest → Type 0
  Meets = rest.Meets c leaves variables outside once g points

  abbrev Freely : Asked → Rest → Type 0
  Freely = rest.MeetsFreely c leaves variables outside once g points

  abbrev freely : (ps : List Point) (goal : Asked) (r : Rest) → Freely goal r → Meets ps goal r
  freely = rest.freely_meets c leaves variables outside once g points

  abbrev CaughtAt : List Caught → List Point → Type 0
  CaughtAt = rest.AreCaughtAt c leaves variables outside once g points

  abbrev Made : List PlainBlock → Type 0
  Made = rest.AllFine c leaves variables outside once g points

  abbrev Fits : List Point → Rest → Asked
  Fits = rest.RestFits c leaves variables outside once g points

  abbrev Surrounds : List Point → Asked → Asked → Around → Type 0
  Surrounds = AroundMeets c leaves variables outside once g points

  abbrev none : Made []
  none = rest.none_made c leaves variables outside once g points

  abbrev both : (xs ys : List PlainBlock) → Made xs → Made ys → Made (xs ++ ys)
  both = rest.both_made c leaves variables outside once g points

  abbrev lodged : (ps : List Point) (a : Around) (point : Point) (r : Rest) (at : ℕ) → StandAt g at (lodge a point r at).made → CaughtAt a.catches ps → is_point variables point ≡ true → Fits ps r (at_start variables point)
      → Freely (Supplies point) (Jumps (lodge a point r at).got) × Made (lodge a point r at).made
  lodged = rest.lodge_good c leaves variables outside once g points

  abbrev start : (point : Point) → AreVariables variables (at_start variables point)
  start = start_variables variables

  abbrev Code : (List Point → Asked → Asked → Asked → Asked) → (Around → Rest → Numbered Rest) → Type 1
  Code = CodeGood c leaves variables outside once g points

  abbrev Test : (List Point → Asked → Asked → Asked → Asked → Asked) → (Around → Target → Target → Numbered Rest) → Type 1
  Test = TestGood c leaves variables outside once g points

  call_fits : (ps : List Point) (on : PlainExpr) (callee : Callee) (args : PlainExprs) (into : ℕ) (after : Point) (to : Target) (locals : List PlainLocal) → AreVariables variables locals → Freely (Supplies after) (Jumps to) → CallFits c leaves on callee args into (Supplies after) locals → Guarded c ps [] locals
      → Fits ps (Holds [] (ECall on callee.class callee.method args into to.number) 0) locals
  unfolding ItemsFit
  call_fits ps on callee args into after to locals are m f h = (
    record {
      table = f.table;
      has_table = f.has_table;
      sig = f.sig;
      has_method = f.has_method;
      receiver = f.on;
      args_fit = f.args_fit;
      takes = takes_on variables locals into f.sig.result (Supplies after) (Leads g to.number) are (λ ls are h. m ls are h) f.takes;
    },
    h,
  )

  make_fits : (ps : List Point) (class : Created) (args : PlainExprs) (into : ℕ) (after : Point) (to : Target) (locals : List PlainLocal) → AreVariables variables locals → Freely (Supplies after) (Jumps to) → MakeFits c leaves class args into (Supplies after) locals → Guarded c ps [] locals
      → Fits ps (Holds [] (EMake class.class args into to.number) 0) locals
  unfolding ItemsFit
  make_fits ps class args into after to locals are m f h = (
    record {
      table = f.table;
      has_table = f.has_table;
      args_fit = f.args_fit;
      takes = takes_on variables locals into (TEntity f.table.name) (Supplies after) (Leads g to.number) are (λ ls are h. m ls are h) f.takes;
    },
    h,
  )

  in_turn_good : (b : Bool) (x : PlainFlatStmt) (asks : List Point → Asked → Asked → Asked → Asked) (later : Around → Rest → Numbered Rest) → stops x ≡ b
      → (dead.leads_on x ≡ false → (a : Around) (r : Rest) (at : ℕ) → (later a r at).made ≡ [])
      → Code (λ ps breaks continues goal. stmt_fits c leaves variables ps breaks continues x goal) (λ a r at. split x a r at) → Code asks later
      → Code (λ ps breaks continues goal. stmt_fits c leaves variables ps breaks continues x (asks ps breaks continues goal)) (λ a r at. (if b then split x a r else (later a r and_then λ rest. split x a rest)) at)
  in_turn_good true x asks later is dies here behind_it ps breaks continues goal a r at stand around m locals are f =
      here ps breaks continues Nowhere a r at stand around (λ ls are e. absurd e) locals are (stops_fit c leaves variables x ps breaks continues (asks ps breaks continues goal) Nowhere locals is f)
  in_turn_good false x asks later is dies here behind_it ps breaks continues goal a r at stand around m locals are f =
      let next = later a r at in
      let second = behind_it ps breaks continues goal a r at (stand_first g at next.made _ stand) around m in
      let first = here ps breaks continues (asks ps breaks continues goal) a next.got (at + length next.made) (stand_behind g at next.made _ stand) around (λ ls are h. (second ls are h).0) locals are f in
      (first.0, both next.made _ (made (dead.leads_on x) refl second) first.1)
    where
      made : (b : Bool) → dead.leads_on x ≡ b → ((ls : List PlainLocal) → AreVariables variables ls → asks ps breaks continues goal ls → Fits ps (later a r at).got ls × Made (later a r at).made) → Made (later a r at).made
      made true e second = let s : Somewhere c leaves variables (asks ps breaks continues goal) = behind c leaves variables x ps breaks continues (asks ps breaks continues goal) locals e are f in (second s.0 s.1 s.2).1
      made false e second = subst Made (sym (dies e a r at)) none

  mutual
    unfolding split stmt_fits HasNoDead PointsPass

    stmt_good : (x : PlainFlatStmt) → HasNoDead x → PointsPass (is_point variables) x → Code (λ ps breaks continues goal. stmt_fits c leaves variables ps breaks continues x goal) (λ a r at. split x a r at)
    stmt_good FMark alive are_points ps breaks continues goal a r at stand around m locals are f = (rest.front_fits c leaves variables outside once g points ps IMark r goal locals are m f.0 f.1, none)
    stmt_good (FSet x e) alive are_points ps breaks continues goal a r at stand around m locals are f = (rest.front_fits c leaves variables outside once g points ps (ISet x e) r goal locals are m f.0 f.1, none)
    stmt_good (FPut x e) alive are_points ps breaks continues goal a r at stand around m locals are f = (rest.front_fits c leaves variables outside once g points ps (IPut x e) r goal locals are m f.0 f.1, none)
    stmt_good (FGive e) alive are_points ps breaks continues goal a r at stand around m locals are f = (rest.last_fits c leaves variables outside once g points ps (IGive e) locals are f.0 f.1, none)
    stmt_good (FFail kind e) alive are_points ps breaks continues goal a r at stand around m locals are f = (rest.last_fits c leaves variables outside once g points ps (IFail kind e) locals are f.0 f.1, none)
    stmt_good (FCode x) alive are_points ps breaks continues goal a r at stand around m locals are f = (rest.coded_fits c leaves variables outside once g points ps (goes_on x) x r goal locals refl are m f.0 f.1, none)
    stmt_good FBreak alive are_points ps breaks continues goal a r at stand around m locals are f = (freely ps breaks a.breaks around.at_break locals are f, none)
    stmt_good FContinue alive are_points ps breaks continues goal a r at stand around m locals are f = (freely ps continues a.continues around.at_continue locals are f, none)
    stmt_good (FCall on callee args into after) alive are_points ps breaks continues goal a r at stand around m locals are f =
        let to = lodge a after r at in
        let there = lodged ps a after r at (stand_first g at to.made [] stand) around.at_catches are_points (m (at_start variables after) (start after) f.1) in
        (call_fits ps on callee args into after to.got locals are there.0 f.0 f.2, both to.made [] there.1 none)
    stmt_good (FMake class args into after) alive are_points ps breaks continues goal a r at stand around m locals are f =
        let to = lodge a after r at in
        let there = lodged ps a after r at (stand_first g at to.made [] stand) around.at_catches are_points (m (at_start variables after) (start after) f.1) in
        (make_fits ps class args into after to.got locals are there.0 f.0 f.2, both to.made [] there.1 none)
    stmt_good (FIf arms other after) alive are_points ps breaks continues goal a r at stand around m locals are f =
        let join = joined a after r at in
        let at2 = at + length join.made in
        let ends = split_all other a join.got at2 in
        let asks : Asked = stmts_fit c leaves variables ps breaks continues other (Ends after) in
        let stand2 = stand_behind g at join.made _ stand in
        let first = rest.joined_good c leaves variables outside once g points ps a after r goal at (stand_first g at join.made _ stand) around.at_catches are_points.2 m f.1 in
        let on = freely ps (Ends after) join.got first.0 in
        let second = stmts_good other alive.1 are_points.1 ps breaks continues (Ends after) a join.got at2 (stand_first g at2 ends.made _ stand2) around on in
        let third = arms_good arms alive.0 are_points.0 ps breaks continues (Ends after) asks a join.got ends.got (at2 + length ends.made) (stand_behind g at2 ends.made _ stand2) around on (λ ls are h. (second ls are h).0) locals are f.0 in
        let s : Somewhere c leaves variables asks = behind_arms c leaves variables arms ps breaks continues (Ends after) asks locals are f.0 in
        (third.0, both join.made _ first.1 (both ends.made _ (second s.0 s.1 s.2).1 third.1))
    stmt_good (FWhile head test begin body after) alive are_points ps breaks continues goal a r at stand around m locals are f =
        let join = outlet a after r at in
        let first = rest.outlet_good c leaves variables outside once g points ps a after r goal at (stand_first g at join.made _ stand) around.at_catches are_points.4 m f.2 in
        let second = while_good c leaves variables outside once g points head begin after join.got (λ ps breaks continues yes' no'. test_fits c leaves variables ps breaks continues test yes' no') (λ a holds fails at. split_test test a holds fails at)
        (λ ps breaks continues goal. stmts_fit c leaves variables ps breaks continues body goal) (λ a r at. split_all body a r at) (test_good test alive.1 are_points.1) (stmts_good body alive.2 are_points.3) ps breaks continues a around first.0 f.3 f.4
        (always test) (λ e. outlet_jumps a after r at (alive.0 e)) (at + length join.made) (stand_behind g at join.made _ stand) f.1 in
        (freely ps (Supplies head) _ second.0 locals are f.0, both join.made _ first.1 second.1)
    stmt_good (FTry begin body clauses after) alive are_points ps breaks continues goal a r at stand around m locals are f =
        let join = outlet a after r at in
        let at2 = at + length join.made in
        let ks = split_clauses clauses a join.got at2 in
        let at3 = at2 + length ks.made in
        let inner = guarded a ks.got in
        let code = split_all body inner join.got at3 in
        let at4 = at3 + length code.made in
        let to = lodge inner begin code.got at4 in
        let made4 = to.made ++ [] in
        let made3 = code.made ++ made4 in
        let made2 = ks.made ++ made3 in
        let qs : List Point = guards clauses ps in
        let stand2 = stand_behind g at join.made made2 stand in
        let stand3 = stand_behind g at2 ks.made made3 stand2 in
        let stand4 = stand_behind g at3 code.made made4 stand3 in
        let first = rest.outlet_good c leaves variables outside once g points ps a after r goal at (stand_first g at join.made made2 stand) around.at_catches are_points.3 m f.3 in
        let second = clauses_good clauses alive.1 are_points.2 ps breaks continues (Ends after) a join.got at2 (stand_first g at2 ks.made made3 stand2) around (freely ps (Ends after) join.got first.0) f.2 in
        let within : Surrounds qs breaks continues inner = record { at_break = around.at_break; at_continue = around.at_continue; at_catches = second.0 } in
        let third = stmts_good body alive.0 are_points.1 qs breaks continues (Ends after) inner join.got at3 (stand_first g at3 code.made made4 stand3) within (freely qs (Ends after) join.got first.0) (at_start variables begin) (start begin) f.1 in
        let last = lodged qs inner begin code.got at4 (stand_first g at4 to.made [] stand4) second.0 are_points.0 third.0 in
        (freely ps (Supplies begin) (Jumps to.got) last.0 locals are f.0, both join.made made2 first.1 (both ks.made made3 second.1 (both code.made made4 third.1 (both to.made [] last.1 none))))

    stmts_good : (xs : PlainFlatStmts) → HaveNoDead xs → PointsPassInAll (is_point variables) xs → Code (λ ps breaks continues goal. stmts_fit c leaves variables ps breaks continues xs goal) (λ a r at. split_all xs a r at)
    stmts_good FNoStmt alive are_points ps breaks continues goal a r at stand around m locals are f = (m locals are f, none)
    stmts_good (FStmt x xs) alive are_points ps breaks continues goal a r at stand around m locals are f =
        in_turn_good (stops x) x (λ ps breaks continues goal. stmts_fit c leaves variables ps breaks continues xs goal) (λ a r at. split_all xs a r at) refl (λ e a r at. ap (λ ys. (split_all ys a r at).made) (alive.0 e)) (stmt_good x alive.1 are_points.0)
        (stmts_good xs alive.2 are_points.1) ps breaks continues goal a r at stand around m locals are f

    arms_good : (arms : PlainFlatArms) → ArmsHaveNoDead arms → PointsPassInArms (is_point variables) arms → (ps : List Point) (breaks continues goal other : Asked) (a : Around) (r otherwise : Rest) (at : ℕ) → StandAt g at (split_arms arms a r otherwise at).made → Surrounds ps breaks continues a → Meets ps goal r
        → Meets ps other otherwise → (locals : List PlainLocal) → AreVariables variables locals → arms_fit c leaves variables ps breaks continues arms goal other locals → Fits ps (split_arms arms a r otherwise at).got locals × Made (split_arms arms a r otherwise at).made
    arms_good FNoArm alive are_points ps breaks continues goal other a r otherwise at stand around m n locals are f = (n locals are f, none)
    arms_good (FMoreArms (FArm test begin body behind_test) more) alive are_points ps breaks continues goal other a r otherwise at stand around m n locals are f =
        let later = split_arms more a r otherwise at in
        let at2 = at + length later.made in
        let fails = lodge a behind_test later.got at2 in
        let at3 = at2 + length fails.made in
        let code = split_all body a r at3 in
        let at4 = at3 + length code.made in
        let holds = lodge a begin code.got at4 in
        let at5 = at4 + length holds.made in
        let tested = split_test test a holds.got fails.got at5 in
        let made4 = holds.made ++ tested.made in
        let made3 = code.made ++ made4 in
        let made2 = fails.made ++ made3 in
        let stand2 = stand_behind g at later.made made2 stand in
        let stand3 = stand_behind g at2 fails.made made3 stand2 in
        let stand4 = stand_behind g at3 code.made made4 stand3 in
        let first = arms_good more alive.2 are_points.4 ps breaks continues goal other a r otherwise at (stand_first g at later.made made2 stand) around m n (at_start variables behind_test) (start behind_test) f.2 in
        let second = lodged ps a behind_test later.got at2 (stand_first g at2 fails.made made3 stand2) around.at_catches are_points.3 first.0 in
        let third = stmts_good body alive.1 are_points.2 ps breaks continues goal a r at3 (stand_first g at3 code.made made4 stand3) around m (at_start variables begin) (start begin) f.1 in
        let fourth = lodged ps a begin code.got at4 (stand_first g at4 holds.made tested.made stand4) around.at_catches are_points.1 third.0 in
        let last = test_good test alive.0 are_points.0 ps breaks continues (Supplies begin) (Supplies behind_test) a holds.got fails.got at5 (stand_behind g at4 holds.made tested.made stand4) around fourth.0 second.0 locals are f.0 in
        (last.0, both later.made made2 first.1 (both fails.made made3 second.1 (both code.made made4 third.1 (both holds.made tested.made fourth.1 last.1))))

    clauses_good : (clauses : PlainFlatClauses) → ClausesHaveNoDead clauses → PointsPassInClauses (is_point variables) clauses → (ps : List Point) (breaks continues goal : Asked) (a : Around) (r : Rest) (at : ℕ) → StandAt g at (split_clauses clauses a r at).made
        → Surrounds ps breaks continues a → Meets ps goal r → clauses_fit c leaves variables ps breaks continues clauses goal → CaughtAt (split_clauses clauses a r at).got (guards clauses ps) × Made (split_clauses clauses a r at).made
    clauses_good FNoClause alive are_points ps breaks continues goal a r at stand around m f = (around.at_catches, none)
    clauses_good (FMoreClauses (FClause kinds begin body) more) alive are_points ps breaks continues goal a r at stand around m f =
        let later = split_clauses more a r at in
        let at2 = at + length later.made in
        let code = split_all body a r at2 in
        let at3 = at2 + length code.made in
        let to = homed a begin code.got at3 in
        let made3 = to.made ++ [] in
        let made2 = code.made ++ made3 in
        let stand2 = stand_behind g at later.made made2 stand in
        let stand3 = stand_behind g at2 code.made made3 stand2 in
        let first = clauses_good more alive.1 are_points.2 ps breaks continues goal a r at (stand_first g at later.made made2 stand) around m f.3 in
        let second = stmts_good body alive.0 are_points.1 ps breaks continues goal a r at2 (stand_first g at2 code.made made3 stand2) around m (at_start variables begin) (start begin) f.1 in
        let last = rest.homed_good c leaves variables outside once g points ps a begin code.got at3 kinds (stand_first g at3 to.made [] stand3) around.at_catches f.0 f.2 second.0 in
        ((last.0, first.0), both later.made made2 first.1 (both code.made made3 second.1 (both to.made [] last.1 none)))

    test_good : (test : PlainFlatTest) → TestHasNoDead test → PointsPassInTest (is_point variables) test → Test (λ ps breaks continues yes' no'. test_fits c leaves variables ps breaks continues test yes' no') (λ a holds fails at. split_test test a holds fails at)
    test_good (FLeaf before e) alive are_points ps breaks continues yes' no' a holds fails at stand around m n locals are f =
        stmts_good before alive are_points ps breaks continues (TestedFits c leaves ps e yes' no') a (branch e holds fails) at stand around (rest.branch_meets c leaves variables outside once g points ps e holds fails yes' no' m n) locals are f
    test_good (FNot test) alive are_points ps breaks continues yes' no' a holds fails at stand around m n locals are f = test_good test alive are_points ps breaks continues no' yes' a fails holds at stand around n m locals are f
    test_good (FAnd operands) alive are_points ps breaks continues yes' no' a holds fails at stand around m n locals are f = each_good true operands alive are_points ps breaks continues yes' no' a holds fails at stand around m n locals are f
    test_good (FOr operands) alive are_points ps breaks continues yes' no' a holds fails at stand around m n locals are f = each_good false operands alive are_points ps breaks continues yes' no' a holds fails at stand around m n locals are f

    each_good : (truth : Bool) (operands : PlainOperands) → OperandsHaveNoDead operands → PointsPassInOperands (is_point variables) operands
        → Test (λ ps breaks continues yes' no'. each_fits c leaves variables truth ps breaks continues operands yes' no') (λ a holds fails at. split_each truth operands a holds fails at)
    each_good true FNoOperand alive are_points ps breaks continues yes' no' a holds fails at stand around m n locals are f = (freely ps yes' (Jumps holds) m locals are f, none)
    each_good false FNoOperand alive are_points ps breaks continues yes' no' a holds fails at stand around m n locals are f = (freely ps no' (Jumps fails) n locals are f, none)
    each_good true (FMoreOperands (FOperand test point) more) alive are_points ps breaks continues yes' no' a holds fails at stand around m n locals are f =
        let later = split_each true more a holds fails at in
        let at2 = at + length later.made in
        let onward = lodge a point later.got at2 in
        let stand2 = stand_behind g at later.made _ stand in
        let first = each_good true more alive.1 are_points.2 ps breaks continues yes' no' a holds fails at (stand_first g at later.made _ stand) around m n (at_start variables point) (start point) f.1 in
        let second = lodged ps a point later.got at2 (stand_first g at2 onward.made _ stand2) around.at_catches are_points.1 first.0 in
        let last = test_good test alive.0 are_points.0 ps breaks continues (Supplies point) no' a onward.got fails (at2 + length onward.made) (stand_behind g at2 onward.made _ stand2) around second.0 n locals are f.0 in
        (last.0, both later.made _ first.1 (both onward.made _ second.1 last.1))
    each_good false (FMoreOperands (FOperand test point) more) alive are_points ps breaks continues yes' no' a holds fails at stand around m n locals are f =
        let later = split_each false more a holds fails at in
        let at2 = at + length later.made in
        let onward = lodge a point later.got at2 in
        let stand2 = stand_behind g at later.made _ stand in
        let first = each_good false more alive.1 are_points.2 ps breaks continues yes' no' a holds fails at (stand_first g at later.made _ stand) around m n (at_start variables point) (start point) f.1 in
        let second = lodged ps a point later.got at2 (stand_first g at2 onward.made _ stand2) around.at_catches are_points.1 first.0 in
        let last = test_good test alive.0 are_points.0 ps breaks continues yes' (Supplies point) a holds onward.got (at2 + length onward.made) (stand_behind g at2 onward.made _ stand2) around m second.0 locals are f.0 in
        (last.0, both later.made _ first.1 (both onward.made _ second.1 last.1))

pub blocks_fit : BlocksFit
unfolding ItemsFit
blocks_fit c leaves variables flat f =
    all_of_each (BlockFits c leaves variables g) g (λ k b is.
    let fine : rest.Fine c leaves variables f.outside f.once g points b = all_at (rest.Fine c leaves variables f.outside f.once g points) g k b made is in
    let on : GoesOn c.tables g b = all_at (GoesOn c.tables g) g k b (blocks_go_on c.tables flat f.callees) is in
    let p : (list_all (is_param_of variables) b.params ≡ true) × (each_once b.params ≡ true) = both_true (list_all (is_param_of variables) b.params) (each_once b.params) (points k b is) in
    record {
      params = p.0;
      once = p.1;
      fits = fine.fits;
      names = on.names;
      ranks = on.ranks;
      catches = all_of_each (CatchFits c g b (at_start variables b.params)) b.catches (λ n k there.
          caught b (points _ b is) k (all_at (rest.CatchMeets c leaves variables f.outside f.once g points b) b.catches n k fine.catches there) (all_at (CatchGoesOn g b) b.catches n k on.catches there));
    })
  where
    g : List PlainBlock
    g = split_blocks flat

    points : (k : ℕ) (b : PlainBlock) → slice_get g k ≡ Some b → is_point variables b.params ≡ true
    points k b is = all_at (λ (b : PlainBlock). is_point variables b.params ≡ true) g k b (params_are_points (is_point variables) flat f.params f.points) is

    caught : (b : PlainBlock) → is_point variables b.params ≡ true → (k : PlainCatch) → rest.CatchMeets c leaves variables f.outside f.once g points b k → CatchGoesOn g b k → CatchFits c g b (at_start variables b.params) k
    caught b is k meets on =
        let same : on.target ≡ meets.target = same_Some _ _ (sym on.is ∙ meets.is) in
        record {
          kinds = meets.kinds;
          target = meets.target;
          is = meets.is;
          below = subst (λ (to : PlainBlock). to.rank < b.rank) same on.below;
          params = params_within variables b.params f.once is meets.target.params (points k.to meets.target meets.is) (at_first c leaves (Supplies meets.target.params) b.code (at_start variables b.params) meets.always);
          always = meets.always;
        }

    nowhere : (ls : List PlainLocal) → Nowhere ls → ⊥
    nowhere ls h = h

    made : All (rest.Fine c leaves variables f.outside f.once g points) g
    made =
        let body = split_all (flat_stmts_of flat.body) outermost leave 1 in
        let good = stmts_good c leaves variables f.outside f.once g points (flat_stmts_of flat.body) f.reached f.points [] Nowhere Nowhere (EndsWithNone c) outermost leave 1 (stand_all body.made (block outermost flat.params body.got ∷ []))
        (record { at_break = nowhere; at_continue = nowhere; at_catches = tt }) (λ ls are h. (h, tt)) (at_start variables flat.params) (start_variables variables flat.params) f.types in
        rest.more_made c leaves variables f.outside f.once g points (block outermost flat.params body.got) body.made (rest.block_fine c leaves variables f.outside f.once g points [] outermost flat.params body.got tt tt good.0) good.1
