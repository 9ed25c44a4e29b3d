-- The parameters of blocks are points of the code that is split.
use Rattle.std.proofs.Common.{◌≡◌, ℕ, ◌+◌, Bool, true, false, List, [], ◌∷◌, ◌++◌, length, Option, Some, None, if◌then◌else◌}
use Rattle.std.specs.Prelude.{IfSome}
use Rattle.std.specs.List.{All}
use Rattle.std.proofs.lemmas.List.Elements.{All-nil, All-cons, All-append}
use Rattle.block_code.specs.PlainBlocks.{IMark, PlainBlock}
use Rattle.flat_tree.specs.PlainFlat.{Point, PlainFlatStmt, FMark, FSet, FPut, FGive, FFail, FCode, FBreak, FContinue, FCall, FMake, FIf, FWhile, FTry, PlainFlatStmts, FNoStmt, FStmt, FArm, PlainFlatArms, FNoArm, FMoreArms, FClause, PlainFlatClauses, FNoClause, FMoreClauses, PlainFlatTest, FLeaf, FNot, FAnd, FOr, FOperand, PlainOperands, FNoOperand, FMoreOperands, flat_stmts_of}
use Rattle.method_splitter.specs.Points.{Passes, PointsPass, PointsPassInAll, PointsPassInArms, PointsPassInClauses, PointsPassInTest, PointsPassInOperands}
use Rattle.method_splitter.specs.Split.{Target, Rest, Jumps, Holds, rank_of, rank_in, block, leave, front, branch, Numbered, ◌and_then◌, lodge, homed, joined, outlet, Around, inside, guarded, loop_code, always, stops, outermost, split, split_all, split_arms, split_clauses, split_test, split_each}
use Rattle.method_splitter.specs.SplitPoints.{ParamsArePoints}

module _ (passes : Point → Bool) where
  abbrev Pass : PlainBlock → Type 0
  Pass b = passes b.params ≡ true

  AllPass : List PlainBlock → Type 0
  AllPass bs = All Pass bs

  none_made : AllPass []
  unfolding AllPass
  none_made = All-nil Pass

  more_made : (b : PlainBlock) (bs : List PlainBlock) → passes b.params ≡ true → AllPass bs → AllPass (b ∷ bs)
  unfolding AllPass
  more_made b bs first rest = All-cons Pass b bs first rest

  both_made : (xs ys : List PlainBlock) → AllPass xs → AllPass ys → AllPass (xs ++ ys)
  unfolding AllPass
  both_made xs ys first second = All-append Pass xs ys first second

  homed_passes : (a : Around) (params : Point) (r : Rest) (at : ℕ) → passes params ≡ true → AllPass (homed a params r at).made
  homed_passes a params r at p = more_made (block a params r) [] p none_made

  lodge_passes : (a : Around) (params : Point) (r : Rest) (at : ℕ) → passes params ≡ true → AllPass (lodge a params r at).made
  lodge_passes a params (Jumps to) at p = none_made
  lodge_passes a params (Holds code end rank) at p = homed_passes a params (Holds code end rank) at p

  joined_passes : (a : Around) (after : Option Point) (c : Rest) (at : ℕ) → IfSome after (Passes passes) → AllPass (joined a after c at).made
  joined_passes a None c at p = none_made
  joined_passes a (Some params) c at p = both_made (lodge a params c at).made [] (lodge_passes a params c at p) none_made

  outlet_passes : (a : Around) (after : Option Point) (c : Rest) (at : ℕ) → IfSome after (Passes passes) → AllPass (outlet a after c at).made
  outlet_passes a None c at p = none_made
  outlet_passes a (Some params) c at p = joined_passes a (Some params) c at p

  abbrev CodePasses : (Around → Rest → Numbered Rest) → Type 0
  CodePasses code = (a : Around) (c : Rest) (at : ℕ) → AllPass (code a c at).made

  abbrev TestPasses : (Around → Target → Target → Numbered Rest) → Type 0
  TestPasses code = (a : Around) (holds fails : Target) (at : ℕ) → AllPass (code a holds fails at).made

  loop_passes : (a : Around) (b : Bool) (head start : Point) (behind : Rest) (test : Target → Target → Numbered Rest) (body : Target → Numbered Rest) → passes head ≡ true → passes start ≡ true
      → ((holds fails : Target) (at : ℕ) → AllPass (test holds fails at).made) → ((again : Target) (at : ℕ) → AllPass (body again at).made) → (at : ℕ) → AllPass (loop_code a b head start behind test body at).made
  loop_passes a true head start behind test body p q tests bodies at =
      let again : Target = record { number = at; rank = rank_in a 0 } in
      let b = body again (at + 1) in
      more_made (block a head (front IMark b.got)) b.made p (bodies again (at + 1))
  loop_passes a false head start behind test body p q tests bodies at =
      let to = lodge a head behind at in
      let at2 = at + length to.made in
      let first : Target = record { number = at2 + 1; rank = rank_in a 0 } in
      let t = test first to.got (at2 + 2) in
      let again : Target = record { number = at2; rank = rank_in a (rank_of t.got) } in
      let b = body again (at2 + 2 + length t.made) in
      both_made to.made (block a head t.got ∷ block a start (front IMark b.got) ∷ t.made ++ b.made) (lodge_passes a head behind at p)
      (more_made (block a head t.got) (block a start (front IMark b.got) ∷ t.made ++ b.made) p
      (more_made (block a start (front IMark b.got)) (t.made ++ b.made) q
      (both_made t.made b.made (tests first to.got (at2 + 2)) (bodies again (at2 + 2 + length t.made)))))

  in_turn_passes : (b : Bool) (x : PlainFlatStmt) (later : Around → Rest → Numbered Rest) → CodePasses (λ a c at. split x a c at) → CodePasses later → CodePasses (λ a c at. (if b then split x a c else (later a c and_then λ rest. split x a rest)) at)
  in_turn_passes true x later here behind a c at = here a c at
  in_turn_passes false x later here behind a c at =
      let rest = later a c at in
      both_made rest.made _ (behind a c at) (here a rest.got (at + length rest.made))

  mutual
    unfolding split PointsPass

    stmt_passes : (x : PlainFlatStmt) → PointsPass passes x → CodePasses (λ a c at. split x a c at)
    stmt_passes FMark ok a c at = none_made
    stmt_passes (FSet x e) ok a c at = none_made
    stmt_passes (FPut x e) ok a c at = none_made
    stmt_passes (FGive e) ok a c at = none_made
    stmt_passes (FFail kind e) ok a c at = none_made
    stmt_passes (FCode x) ok a c at = none_made
    stmt_passes FBreak ok a c at = none_made
    stmt_passes FContinue ok a c at = none_made
    stmt_passes (FCall on callee args into after) ok a c at = both_made (lodge a after c at).made [] (lodge_passes a after c at ok) none_made
    stmt_passes (FMake class args into after) ok a c at = both_made (lodge a after c at).made [] (lodge_passes a after c at ok) none_made
    stmt_passes (FIf arms other after) ok a c at =
        let join = joined a after c at in
        let at2 = at + length join.made in
        let rest = split_all other a join.got at2 in
        both_made join.made _ (joined_passes a after c at ok.2) (both_made rest.made _ (stmts_pass other ok.1 a join.got at2) (arms_pass arms ok.0 a join.got rest.got (at2 + length rest.made)))
    stmt_passes (FWhile head test start body after) ok a c at =
        let behind = outlet a after c at in
        both_made behind.made _ (outlet_passes a after c at ok.4)
        (loop_passes a (always test) head start behind.got (λ holds fails. split_test test a holds fails) (λ again. split_all body (inside a behind.got again) (Jumps again)) ok.0 ok.2 (λ holds fails at. test_passes test ok.1 a holds fails at)
        (λ again at. stmts_pass body ok.3 (inside a behind.got again) (Jumps again) at) (at + length behind.made))
    stmt_passes (FTry start body clauses after) ok a c at =
        let behind = outlet a after c at in
        let at2 = at + length behind.made in
        let ks = split_clauses clauses a behind.got at2 in
        let at3 = at2 + length ks.made in
        let inner = guarded a ks.got in
        let begin = split_all body inner behind.got at3 in
        let at4 = at3 + length begin.made in
        let to = lodge inner start begin.got at4 in
        both_made behind.made _ (outlet_passes a after c at ok.3)
        (both_made ks.made _ (clauses_pass clauses ok.2 a behind.got at2)
        (both_made begin.made _ (stmts_pass body ok.1 inner behind.got at3)
        (both_made to.made [] (lodge_passes inner start begin.got at4 ok.0) none_made)))

    stmts_pass : (xs : PlainFlatStmts) → PointsPassInAll passes xs → CodePasses (λ a c at. split_all xs a c at)
    stmts_pass FNoStmt ok a c at = none_made
    stmts_pass (FStmt x xs) ok a c at = in_turn_passes (stops x) x (λ a c at. split_all xs a c at) (stmt_passes x ok.0) (stmts_pass xs ok.1) a c at

    arms_pass : (arms : PlainFlatArms) → PointsPassInArms passes arms → (a : Around) (c rest : Rest) (at : ℕ) → AllPass (split_arms arms a c rest at).made
    arms_pass FNoArm ok a c rest at = none_made
    arms_pass (FMoreArms (FArm test start body otherwise) more) ok a c rest at =
        let later = split_arms more a c rest at in
        let at2 = at + length later.made in
        let fails = lodge a otherwise later.got at2 in
        let at3 = at2 + length fails.made in
        let begin = split_all body a c at3 in
        let at4 = at3 + length begin.made in
        let holds = lodge a start begin.got at4 in
        let at5 = at4 + length holds.made in
        let tested = split_test test a holds.got fails.got at5 in
        let made4 = holds.made ++ tested.made in
        let made3 = begin.made ++ made4 in
        let made2 = fails.made ++ made3 in
        both_made later.made made2 (arms_pass more ok.4 a c rest at)
        (both_made fails.made made3 (lodge_passes a otherwise later.got at2 ok.3)
        (both_made begin.made made4 (stmts_pass body ok.2 a c at3)
        (both_made holds.made tested.made (lodge_passes a start begin.got at4 ok.1) (test_passes test ok.0 a holds.got fails.got at5))))

    clauses_pass : (clauses : PlainFlatClauses) → PointsPassInClauses passes clauses → (a : Around) (c : Rest) (at : ℕ) → AllPass (split_clauses clauses a c at).made
    clauses_pass FNoClause ok a c at = none_made
    clauses_pass (FMoreClauses (FClause kinds start body) more) ok a c at =
        let later = split_clauses more a c at in
        let at2 = at + length later.made in
        let begin = split_all body a c at2 in
        let at3 = at2 + length begin.made in
        let to = homed a start begin.got at3 in
        both_made later.made _ (clauses_pass more ok.2 a c at)
        (both_made begin.made _ (stmts_pass body ok.1 a c at2)
        (both_made to.made [] (homed_passes a start begin.got at3 ok.0) none_made))

    test_passes : (test : PlainFlatTest) → PointsPassInTest passes test → TestPasses (λ a holds fails at. split_test test a holds fails at)
    test_passes (FLeaf before e) ok a holds fails at = stmts_pass before ok a (branch e holds fails) at
    test_passes (FNot test) ok a holds fails at = test_passes test ok a fails holds at
    test_passes (FAnd operands) ok a holds fails at = each_passes true operands ok a holds fails at
    test_passes (FOr operands) ok a holds fails at = each_passes false operands ok a holds fails at

    each_passes : (truth : Bool) (operands : PlainOperands) → PointsPassInOperands passes operands → TestPasses (λ a holds fails at. split_each truth operands a holds fails at)
    each_passes truth FNoOperand ok a holds fails at = none_made
    each_passes true (FMoreOperands (FOperand test rest) more) ok a holds fails at =
        let later = split_each true more a holds fails at in
        let at2 = at + length later.made in
        let onward = lodge a rest later.got at2 in
        both_made later.made _ (each_passes true more ok.2 a holds fails at)
        (both_made onward.made _ (lodge_passes a rest later.got at2 ok.1) (test_passes test ok.0 a onward.got fails (at2 + length onward.made)))
    each_passes false (FMoreOperands (FOperand test rest) more) ok a holds fails at =
        let later = split_each false more a holds fails at in
        let at2 = at + length later.made in
        let onward = lodge a rest later.got at2 in
        both_made later.made _ (each_passes false more ok.2 a holds fails at)
        (both_made onward.made _ (lodge_passes a rest later.got at2 ok.1) (test_passes test ok.0 a holds onward.got (at2 + length onward.made)))

pub params_are_points : ParamsArePoints
unfolding AllPass
params_are_points passes flat first ok =
    let body = split_all (flat_stmts_of flat.body) outermost leave 1 in
    more_made passes (block outermost flat.params body.got) body.made first (stmts_pass passes (flat_stmts_of flat.body) ok outermost leave 1)
