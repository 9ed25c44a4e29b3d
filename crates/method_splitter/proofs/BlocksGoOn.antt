-- What the ends of blocks name is there, and ranks fall.
use Rattle.std.proofs.Common.{◌≡◌, ℕ, suc, ◌+◌, ◌<◌, ◌≤◌, arith, Bool, true, false, List, [], ◌∷◌, ◌++◌, length, Option, Some, None, if◌then◌else◌, refl, sym, ap, ◌∙◌, subst, true≢false}
use Rattle.std.specs.Prelude.{slice_get, max, ◌||◌}
use Rattle.std.specs.List.{All, list_any}
use Rattle.std.proofs.Math.Nat.{le-max_left, le-max_right}
use Rattle.std.proofs.lemmas.Option.{same_Some, slice_get_within}
use Rattle.std.proofs.lemmas.List.Elements.{All-nil, All-cons, All-head, All-tail, All-append}
use Rattle.py_tree.specs.PlainExpressions.{PlainExpr}
use Rattle.py_tree.specs.PlainStatements.{PlainStmt}
use Rattle.py_tree.specs.Reachability.{goes_on}
use Rattle.py_tree.specs.ClassRules.{PlainTable}
use Rattle.block_code.specs.PlainBlocks.{PlainItem, IMark, ISet, IPut, IGive, IFail, ICode, PlainEnd, EJump, EBranch, ELeave, ECall, EMake, PlainBlock}
use Rattle.block_code.specs.GraphFits.{takes_step, BelowRank, NamesAreThere, NextAreBelow, HasBlock}
use Rattle.flat_tree.specs.PlainFlat.{Point, PlainFlatStmt, FMark, FSet, FPut, FGive, FFail, FCode, FBreak, FContinue, FCall, FMake, FIf, FWhile, FTry, PlainFlatStmts, FNoStmt, FStmt, FArm, PlainFlatArms, FNoArm, FMoreArms, FClause, PlainFlatClauses, FNoClause, FMoreClauses, PlainFlatTest, FLeaf, FNot, FAnd, FOr, FOperand, PlainOperands, FNoOperand, FMoreOperands, flat_stmts_of}
use Rattle.method_splitter.specs.Callees.{Each, EachInAll, EachInArms, EachInClauses, EachInTest, EachInOperands, CalleeIsThere, CreatedIsThere}
use Rattle.method_splitter.specs.Split.{Target, Rest, Jumps, Holds, code_of, end_of, rank_of, Caught, Around, catches_in, floor, rank_in, block, leave, front, front_code, coded, branch, Numbered, ◌and_then◌, lodge, homed, joined, outlet, inside, guarded, looped, endless, loop_code, always, stops, outermost, split, split_all, split_arms, split_clauses, split_test, split_each, split_blocks}
use Rattle.method_splitter.specs.SplitTargets.{CatchGoesOn, GoesOn, BlocksGoOn}
use Rattle.method_splitter.proofs.RestsRun.{StandAt, stand_first, stand_behind}
use Rattle.method_splitter.proofs.BlocksMean.{stand_all}
use Rattle.method_splitter.proofs.RankLaws.{raised_keeps, raised_reaches, floor_above, floor_grows}

either_false : (a b : Bool) → (a || b) ≡ false → (a ≡ false) × (b ≡ false)
either_false true b e = absurd (true≢false e)
either_false false b e = (refl, e)

module _ (tables : List PlainTable) (g : List PlainBlock) where
  -- the block of a target is there, and has its rank
  record IsThere (to : Target) : Type 0 where
    b : PlainBlock
    is : slice_get g to.number ≡ Some b
    rank : b.rank ≡ to.rank

  has_block : (to : Target) → IsThere to → HasBlock g to.number
  has_block to t = slice_get_within g to.number t.b t.is

  below : (to : Target) (rank : ℕ) → IsThere to → to.rank < rank → BelowRank g rank to.number
  below to rank t less b is =
      let same : b.rank ≡ to.rank = ap (λ (b : PlainBlock). b.rank) (same_Some _ _ (sym is ∙ t.is)) ∙ t.rank in
      omega (arith, same, less)

  -- code and an end, in a block of this rank or of a greater one
  record HeldGoesOn (code : List PlainItem) (end : PlainEnd) (rank : ℕ) : Type 0 where
    names : NamesAreThere tables g end
    ranks : list_any takes_step code ≡ false → NextAreBelow g rank end

  -- a rest, of which a block may be made
  abbrev Good : Rest → Type 0
  Good (Jumps to) = IsThere to
  Good (Holds code end rank) = HeldGoesOn code end rank

  -- each block where failures go on is there
  abbrev CatchesGood : List Caught → Type 0
  CatchesGood ks = All (λ (k : Caught). IsThere k.to) ks

  record AroundGood (a : Around) : Type 0 where
    breaks : Good a.breaks
    continues : Good a.continues
    catches : CatchesGood a.catches

  as_held : (r : Rest) → Good r → HeldGoesOn (code_of r) (end_of r) (rank_of r)
  as_held (Jumps to) t = record { names = has_block to t; ranks = λ none. below to (suc to.rank) t (omega arith) }
  as_held (Holds code end rank) h = h

  below_higher : (low high to : ℕ) → low ≤ high → BelowRank g low to → BelowRank g high to
  below_higher low high to le h b is = let less : b.rank < low = h b is in omega (arith, less, le)

  next_higher : (low high : ℕ) → low ≤ high → (end : PlainEnd) → NextAreBelow g low end → NextAreBelow g high end
  next_higher low high le (EJump to) h = below_higher low high to le h
  next_higher low high le (EBranch test holds fails) h = (below_higher low high holds le h.0, below_higher low high fails le h.1)
  next_higher low high le ELeave h = tt
  next_higher low high le (ECall on class method args into after) h = tt
  next_higher low high le (EMake class args into after) h = tt

  catches_go_on : (ks : List Caught) (b : PlainBlock) → floor ks ≤ b.rank → CatchesGood ks → All (CatchGoesOn g b) (catches_in ks)
  catches_go_on [] b le h = All-nil (CatchGoesOn g b)
  catches_go_on (k ∷ ks) b le h =
      let t = All-head (λ (k : Caught). IsThere k.to) k ks h in
      let same : t.b.rank ≡ k.to.rank = t.rank in
      let first : k.to.rank < floor (k ∷ ks) = floor_above k ks in
      let others : floor ks ≤ floor (k ∷ ks) = floor_grows k ks in
      All-cons (CatchGoesOn g b) _ (catches_in ks) (record { target = t.b; is = t.is; below = omega (arith, same, first, le) }) (catches_go_on ks b (omega (arith, others, le)) (All-tail (λ (k : Caught). IsThere k.to) k ks h))

  good_block : (a : Around) (params : Point) (r : Rest) → AroundGood a → Good r → GoesOn tables g (block a params r)
  good_block a params r around h =
      let held = as_held r h in
      record {
        names = held.names;
        ranks = λ none. next_higher (rank_of r) (rank_in a (rank_of r)) (raised_keeps (floor a.catches) (rank_of r)) (end_of r) (held.ranks none);
        catches = catches_go_on a.catches (block a params r) (raised_reaches (floor a.catches) (rank_of r)) around.catches;
      }

  good_leave : Good leave
  good_leave = record { names = tt; ranks = λ none. tt }

  good_front : (i : PlainItem) (r : Rest) → Good r → Good (front i r)
  good_front i r h = let b = as_held r h in record { names = b.names; ranks = λ none. let both = either_false (takes_step i) _ none in by (takes_step i) both.0 (b.ranks both.1) }
    where
      by : (takes : Bool) → takes ≡ false → NextAreBelow g (rank_of r) (end_of r) → NextAreBelow g (if takes then 0 else rank_of r) (end_of r)
      by true e h = absurd (true≢false e)
      by false e h = h

  good_code : (x : PlainStmt) (r : Rest) → Good r → Good (front_code x r)
  good_code x (Jumps to) h = good_front _ (Jumps to) h
  good_code x (Holds [] end rank) h = good_front _ (Holds [] end rank) h
  good_code x (Holds (ICode xs ∷ is) end rank) h = record { names = h.names; ranks = λ none. absurd (true≢false none) }
  good_code x (Holds (IMark ∷ is) end rank) h = good_front _ (Holds (IMark ∷ is) end rank) h
  good_code x (Holds (ISet y e ∷ is) end rank) h = good_front _ (Holds (ISet y e ∷ is) end rank) h
  good_code x (Holds (IPut y e ∷ is) end rank) h = good_front _ (Holds (IPut y e ∷ is) end rank) h
  good_code x (Holds (IGive e ∷ is) end rank) h = good_front _ (Holds (IGive e ∷ is) end rank) h
  good_code x (Holds (IFail kind e ∷ is) end rank) h = good_front _ (Holds (IFail kind e ∷ is) end rank) h

  good_coded : (b : Bool) (x : PlainStmt) (r : Rest) → Good r → Good (coded b x r)
  good_coded true x r h = good_code x r h
  good_coded false x r h = good_code x leave good_leave

  good_branch : (e : PlainExpr) (holds fails : Target) → IsThere holds → IsThere fails → Good (branch e holds fails)
  good_branch e holds fails h f =
      let first : holds.rank ≤ max holds.rank fails.rank = le-max_left holds.rank fails.rank in
      let second : fails.rank ≤ max holds.rank fails.rank = le-max_right holds.rank fails.rank in
      record { names = (has_block holds h, has_block fails f); ranks = λ none. (below holds _ h (omega (arith, first)), below fails _ f (omega (arith, second))) }

  -- Made blocks

  abbrev AllGoOn : List PlainBlock → Type 0
  AllGoOn bs = All (GoesOn tables g) bs

  none_made : AllGoOn []
  none_made = All-nil (GoesOn tables g)

  more_made : (b : PlainBlock) (bs : List PlainBlock) → GoesOn tables g b → AllGoOn bs → AllGoOn (b ∷ bs)
  more_made b bs first rest = All-cons (GoesOn tables g) b bs first rest

  both_made : (xs ys : List PlainBlock) → AllGoOn xs → AllGoOn ys → AllGoOn (xs ++ ys)
  both_made xs ys first second = All-append (GoesOn tables g) xs ys first second

  homed_there : (a : Around) (params : Point) (r : Rest) (at : ℕ) → StandAt g at (homed a params r at).made → AroundGood a → Good r → IsThere (homed a params r at).got × AllGoOn (homed a params r at).made
  homed_there a params r at stand around h = (record { b = block a params r; is = stand.0; rank = refl }, more_made _ [] (good_block a params r around h) none_made)

  lodge_there : (a : Around) (params : Point) (r : Rest) (at : ℕ) → StandAt g at (lodge a params r at).made → AroundGood a → Good r → IsThere (lodge a params r at).got × AllGoOn (lodge a params r at).made
  lodge_there a params (Jumps to) at stand around h = (h, none_made)
  lodge_there a params (Holds code end rank) at stand around h = homed_there a params (Holds code end rank) at stand around h

  joined_good : (a : Around) (after : Option Point) (c : Rest) (at : ℕ) → StandAt g at (joined a after c at).made → AroundGood a → Good c → Good (joined a after c at).got × AllGoOn (joined a after c at).made
  joined_good a None c at stand around h = (h, none_made)
  joined_good a (Some params) c at stand around h = let t = lodge_there a params c at (stand_first g at (lodge a params c at).made [] stand) around h in (t.0, both_made _ [] t.1 none_made)

  outlet_good : (a : Around) (after : Option Point) (c : Rest) (at : ℕ) → StandAt g at (outlet a after c at).made → AroundGood a → Good c → Good (outlet a after c at).got × AllGoOn (outlet a after c at).made
  outlet_good a None c at stand around h = (good_leave, none_made)
  outlet_good a (Some params) c at stand around h = joined_good a (Some params) c at stand around h

  abbrev CodeGood : (Around → Rest → Numbered Rest) → Type 0
  CodeGood code = (a : Around) (c : Rest) (at : ℕ) → StandAt g at (code a c at).made → AroundGood a → Good c → Good (code a c at).got × AllGoOn (code a c at).made

  abbrev TestGood : (Around → Target → Target → Numbered Rest) → Type 0
  TestGood code = (a : Around) (holds fails : Target) (at : ℕ) → StandAt g at (code a holds fails at).made → AroundGood a → IsThere holds → IsThere fails → Good (code a holds fails at).got × AllGoOn (code a holds fails at).made

  inside_good : (a : Around) (behind : Rest) (again : Target) → AroundGood a → Good behind → IsThere again → AroundGood (inside a behind again)
  inside_good a behind again around h t = record { breaks = h; continues = t; catches = around.catches }

  guarded_good : (a : Around) (ks : List Caught) → AroundGood a → CatchesGood ks → AroundGood (guarded a ks)
  guarded_good a ks around h = record { breaks = around.breaks; continues = around.continues; catches = h }

  -- Loops

  looped_good : (head start : Point) (behind : Rest) (fails : Target) (test : Around → Target → Target → Numbered Rest) (code : Around → Rest → Numbered Rest) → TestGood test → CodeGood code
      → (a : Around) (at : ℕ) → StandAt g at (looped a head start (λ holds. test a holds fails) (λ again. code (inside a behind again) (Jumps again)) at).made → AroundGood a → Good behind → IsThere fails
      → Good (looped a head start (λ holds. test a holds fails) (λ again. code (inside a behind again) (Jumps again)) at).got × AllGoOn (looped a head start (λ holds. test a holds fails) (λ again. code (inside a behind again) (Jumps again)) at).made
  looped_good head start behind fails test code tests bodies a at stand around h f =
      let first : Target = record { number = at + 1; rank = rank_in a 0 } in
      let two : at + 1 + 1 ≡ at + 2 = omega arith in
      let t = test a first fails (at + 2) in
      let again : Target = record { number = at; rank = rank_in a (rank_of t.got) } in
      let at3 = at + 2 + length t.made in
      let b = code (inside a behind again) (Jumps again) at3 in
      let rest = subst (λ k. StandAt g k (t.made ++ b.made)) two stand.1.1 in
      let there : IsThere again = record { b = block a head t.got; is = stand.0; rank = refl } in
      let first_there : IsThere first = record { b = block a start (front IMark b.got); is = stand.1.0; rank = refl } in
      let test_good = tests a first fails (at + 2) (stand_first g (at + 2) t.made b.made rest) around first_there f in
      let body_good = bodies (inside a behind again) (Jumps again) at3 (stand_behind g (at + 2) t.made b.made rest) (inside_good a behind again around h there) there in
      (there, more_made (block a head t.got) (block a start (front IMark b.got) ∷ t.made ++ b.made) (good_block a head t.got around test_good.0) (more_made (block a start (front IMark b.got)) (t.made ++ b.made) (good_block a start (front IMark b.got) around (good_front IMark b.got body_good.0)) (both_made t.made b.made test_good.1 body_good.1)))

  endless_good : (head : Point) (behind : Rest) (code : Around → Rest → Numbered Rest) → CodeGood code → (a : Around) (at : ℕ) → StandAt g at (endless a head (λ again. code (inside a behind again) (Jumps again)) at).made → AroundGood a → Good behind
      → Good (endless a head (λ again. code (inside a behind again) (Jumps again)) at).got × AllGoOn (endless a head (λ again. code (inside a behind again) (Jumps again)) at).made
  endless_good head behind code bodies a at stand around h =
      let again : Target = record { number = at; rank = rank_in a 0 } in
      let b = code (inside a behind again) (Jumps again) (at + 1) in
      let there : IsThere again = record { b = block a head (front IMark b.got); is = stand.0; rank = refl } in
      let body_good = bodies (inside a behind again) (Jumps again) (at + 1) stand.1 (inside_good a behind again around h there) there in
      (there, more_made (block a head (front IMark b.got)) b.made (good_block a head (front IMark b.got) around (good_front IMark b.got body_good.0)) body_good.1)

  while_good : (b : Bool) (head start : Point) (behind : Rest) (test : Around → Target → Target → Numbered Rest) (code : Around → Rest → Numbered Rest) → TestGood test → CodeGood code
      → (a : Around) (at : ℕ) → StandAt g at (loop_code a b head start behind (λ holds fails. test a holds fails) (λ again. code (inside a behind again) (Jumps again)) at).made → AroundGood a → Good behind
      → Good (loop_code a b head start behind (λ holds fails. test a holds fails) (λ again. code (inside a behind again) (Jumps again)) at).got
      × AllGoOn (loop_code a b head start behind (λ holds fails. test a holds fails) (λ again. code (inside a behind again) (Jumps again)) at).made
  while_good true head start behind test code tests bodies a at stand around h = endless_good head behind code bodies a at stand around h
  while_good false head start behind test code tests bodies a at stand around h =
      let to = lodge a head behind at in
      let fails = lodge_there a head behind at (stand_first g at to.made _ stand) around h in
      let loop = looped_good head start behind to.got test code tests bodies a (at + length to.made) (stand_behind g at to.made _ stand) around h fails.0 in
      (loop.0, both_made to.made _ fails.1 loop.1)

  in_turn_good : (b : Bool) (x : PlainFlatStmt) (later : Around → Rest → Numbered Rest) → CodeGood (λ a c at. split x a c at) → CodeGood later → CodeGood (λ a c at. (if b then split x a c else (later a c and_then λ rest. split x a rest)) at)
  in_turn_good true x later here behind a c at stand around h = here a c at stand around h
  in_turn_good false x later here behind a c at stand around h =
      let rest = later a c at in
      let second = behind a c at (stand_first g at rest.made _ stand) around h in
      let first = here a rest.got (at + length rest.made) (stand_behind g at rest.made _ stand) around second.0 in
      (first.0, both_made rest.made _ second.1 first.1)

  -- All code

  mutual
    unfolding split Each

    stmt_good : (x : PlainFlatStmt) → Each (CalleeIsThere tables) (CreatedIsThere tables) x → CodeGood (λ a c at. split x a c at)
    stmt_good FMark known a c at stand around h = (good_front IMark c h, none_made)
    stmt_good (FSet x e) known a c at stand around h = (good_front (ISet x e) c h, none_made)
    stmt_good (FPut x e) known a c at stand around h = (good_front (IPut x e) c h, none_made)
    stmt_good (FGive e) known a c at stand around h = (good_front (IGive e) leave good_leave, none_made)
    stmt_good (FFail kind e) known a c at stand around h = (good_front (IFail kind e) leave good_leave, none_made)
    stmt_good (FCode x) known a c at stand around h = (good_coded (goes_on x) x c h, none_made)
    stmt_good FBreak known a c at stand around h = (around.breaks, none_made)
    stmt_good FContinue known a c at stand around h = (around.continues, none_made)
    stmt_good (FCall on callee args into after) known a c at stand around h =
        let to = lodge a after c at in
        let there = lodge_there a after c at (stand_first g at to.made [] stand) around h in
        (record { names = (known, has_block to.got there.0); ranks = λ none. tt }, both_made to.made [] there.1 none_made)
    stmt_good (FMake class args into after) known a c at stand around h =
        let to = lodge a after c at in
        let there = lodge_there a after c at (stand_first g at to.made [] stand) around h in
        (record { names = (known, has_block to.got there.0); ranks = λ none. tt }, both_made to.made [] there.1 none_made)
    stmt_good (FIf arms other after) known a c at stand around h =
        let join = joined a after c at in
        let at2 = at + length join.made in
        let rest = split_all other a join.got at2 in
        let stand2 = stand_behind g at join.made _ stand in
        let first = joined_good a after c at (stand_first g at join.made _ stand) around h in
        let second = stmts_good other known.1 a join.got at2 (stand_first g at2 rest.made _ stand2) around first.0 in
        let third = arms_good arms known.0 a join.got rest.got (at2 + length rest.made) (stand_behind g at2 rest.made _ stand2) around first.0 second.0 in
        (third.0, both_made join.made _ first.1 (both_made rest.made _ second.1 third.1))
    stmt_good (FWhile head test start body after) known a c at stand around h =
        let behind = outlet a after c at in
        let first = outlet_good a after c at (stand_first g at behind.made _ stand) around h in
        let second = while_good (always test) head start behind.got (λ a holds fails at. split_test test a holds fails at) (λ a c at. split_all body a c at) (test_good test known.0) (stmts_good body known.1) a (at + length behind.made) (stand_behind g at behind.made _ stand) around first.0 in
        (second.0, both_made behind.made _ first.1 second.1)
    stmt_good (FTry start body clauses after) known a c at stand around h =
        let behind = outlet a after c at in
        let at2 = at + length behind.made in
        let ks = split_clauses clauses a behind.got at2 in
        let at3 = at2 + length ks.made in
        let inner = guarded a ks.got in
        let begin = split_all body inner behind.got at3 in
        let at4 = at3 + length begin.made in
        let to = lodge inner start begin.got at4 in
        let made4 = to.made ++ [] in
        let made3 = begin.made ++ made4 in
        let made2 = ks.made ++ made3 in
        let stand2 = stand_behind g at behind.made made2 stand in
        let stand3 = stand_behind g at2 ks.made made3 stand2 in
        let stand4 = stand_behind g at3 begin.made made4 stand3 in
        let first = outlet_good a after c at (stand_first g at behind.made made2 stand) around h in
        let second = clauses_good clauses known.1 a behind.got at2 (stand_first g at2 ks.made made3 stand2) around first.0 in
        let within = guarded_good a ks.got around second.0 in
        let third = stmts_good body known.0 inner behind.got at3 (stand_first g at3 begin.made made4 stand3) within first.0 in
        let last = lodge_there inner start begin.got at4 (stand_first g at4 to.made [] stand4) within third.0 in
        (last.0, both_made behind.made made2 first.1 (both_made ks.made made3 second.1 (both_made begin.made made4 third.1 (both_made to.made [] last.1 none_made))))

    stmts_good : (xs : PlainFlatStmts) → EachInAll (CalleeIsThere tables) (CreatedIsThere tables) xs → CodeGood (λ a c at. split_all xs a c at)
    stmts_good FNoStmt known a c at stand around h = (h, none_made)
    stmts_good (FStmt x xs) known a c at stand around h = in_turn_good (stops x) x (λ a c at. split_all xs a c at) (stmt_good x known.0) (stmts_good xs known.1) a c at stand around h

    arms_good : (arms : PlainFlatArms) → EachInArms (CalleeIsThere tables) (CreatedIsThere tables) arms → (a : Around) (c rest : Rest) (at : ℕ) → StandAt g at (split_arms arms a c rest at).made → AroundGood a → Good c → Good rest
        → Good (split_arms arms a c rest at).got × AllGoOn (split_arms arms a c rest at).made
    arms_good FNoArm known a c rest at stand around h r = (r, none_made)
    arms_good (FMoreArms (FArm test start body otherwise) more) known a c rest at stand around h r =
        let later = split_arms more a c rest at in
        let at2 = at + length later.made in
        let fails = lodge a otherwise later.got at2 in
        let at3 = at2 + length fails.made in
        let begin = split_all body a c at3 in
        let at4 = at3 + length begin.made in
        let holds = lodge a start begin.got at4 in
        let at5 = at4 + length holds.made in
        let tested = split_test test a holds.got fails.got at5 in
        let made4 = holds.made ++ tested.made in
        let made3 = begin.made ++ made4 in
        let made2 = fails.made ++ made3 in
        let stand2 = stand_behind g at later.made made2 stand in
        let stand3 = stand_behind g at2 fails.made made3 stand2 in
        let stand4 = stand_behind g at3 begin.made made4 stand3 in
        let first = arms_good more known.2 a c rest at (stand_first g at later.made made2 stand) around h r in
        let second = lodge_there a otherwise later.got at2 (stand_first g at2 fails.made made3 stand2) around first.0 in
        let third = stmts_good body known.1 a c at3 (stand_first g at3 begin.made made4 stand3) around h in
        let fourth = lodge_there a start begin.got at4 (stand_first g at4 holds.made tested.made stand4) around third.0 in
        let last = test_good test known.0 a holds.got fails.got at5 (stand_behind g at4 holds.made tested.made stand4) around fourth.0 second.0 in
        (last.0, both_made later.made made2 first.1 (both_made fails.made made3 second.1 (both_made begin.made made4 third.1 (both_made holds.made tested.made fourth.1 last.1))))

    clauses_good : (clauses : PlainFlatClauses) → EachInClauses (CalleeIsThere tables) (CreatedIsThere tables) clauses → (a : Around) (c : Rest) (at : ℕ) → StandAt g at (split_clauses clauses a c at).made → AroundGood a → Good c
        → CatchesGood (split_clauses clauses a c at).got × AllGoOn (split_clauses clauses a c at).made
    clauses_good FNoClause known a c at stand around h = (around.catches, none_made)
    clauses_good (FMoreClauses (FClause kinds start body) more) known a c at stand around h =
        let later = split_clauses more a c at in
        let at2 = at + length later.made in
        let begin = split_all body a c at2 in
        let at3 = at2 + length begin.made in
        let to = homed a start begin.got at3 in
        let made3 = to.made ++ [] in
        let made2 = begin.made ++ made3 in
        let stand2 = stand_behind g at later.made made2 stand in
        let stand3 = stand_behind g at2 begin.made made3 stand2 in
        let first = clauses_good more known.1 a c at (stand_first g at later.made made2 stand) around h in
        let second = stmts_good body known.0 a c at2 (stand_first g at2 begin.made made3 stand2) around h in
        let third = homed_there a start begin.got at3 (stand_first g at3 to.made [] stand3) around second.0 in
        (All-cons (λ (k : Caught). IsThere k.to) (record { kinds = kinds; to = to.got }) later.got third.0 first.0, both_made later.made made2 first.1 (both_made begin.made made3 second.1 (both_made to.made [] third.1 none_made)))

    test_good : (test : PlainFlatTest) → EachInTest (CalleeIsThere tables) (CreatedIsThere tables) test → TestGood (λ a holds fails at. split_test test a holds fails at)
    test_good (FLeaf before e) known a holds fails at stand around h f = stmts_good before known a (branch e holds fails) at stand around (good_branch e holds fails h f)
    test_good (FNot test) known a holds fails at stand around h f = test_good test known a fails holds at stand around f h
    test_good (FAnd operands) known a holds fails at stand around h f = each_good true operands known a holds fails at stand around h f
    test_good (FOr operands) known a holds fails at stand around h f = each_good false operands known a holds fails at stand around h f

    each_good : (truth : Bool) (operands : PlainOperands) → EachInOperands (CalleeIsThere tables) (CreatedIsThere tables) operands → TestGood (λ a holds fails at. split_each truth operands a holds fails at)
    each_good true FNoOperand known a holds fails at stand around h f = (h, none_made)
    each_good false FNoOperand known a holds fails at stand around h f = (f, none_made)
    each_good true (FMoreOperands (FOperand test rest) more) known a holds fails at stand around h f =
        let later = split_each true more a holds fails at in
        let at2 = at + length later.made in
        let onward = lodge a rest later.got at2 in
        let stand2 = stand_behind g at later.made _ stand in
        let first = each_good true more known.1 a holds fails at (stand_first g at later.made _ stand) around h f in
        let second = lodge_there a rest later.got at2 (stand_first g at2 onward.made _ stand2) around first.0 in
        let last = test_good test known.0 a onward.got fails (at2 + length onward.made) (stand_behind g at2 onward.made _ stand2) around second.0 f in
        (last.0, both_made later.made _ first.1 (both_made onward.made _ second.1 last.1))
    each_good false (FMoreOperands (FOperand test rest) more) known a holds fails at stand around h f =
        let later = split_each false more a holds fails at in
        let at2 = at + length later.made in
        let onward = lodge a rest later.got at2 in
        let stand2 = stand_behind g at later.made _ stand in
        let first = each_good false more known.1 a holds fails at (stand_first g at later.made _ stand) around h f in
        let second = lodge_there a rest later.got at2 (stand_first g at2 onward.made _ stand2) around first.0 in
        let last = test_good test known.0 a holds onward.got (at2 + length onward.made) (stand_behind g at2 onward.made _ stand2) around h second.0 in
        (last.0, both_made later.made _ first.1 (both_made onward.made _ second.1 last.1))

pub blocks_go_on : BlocksGoOn
blocks_go_on tables flat known =
    let body = split_all (flat_stmts_of flat.body) outermost leave 1 in
    let g = split_blocks flat in
    let stand = stand_all body.made (block outermost flat.params body.got ∷ []) in
    let around : AroundGood tables g outermost = record { breaks = good_leave tables g; continues = good_leave tables g; catches = All-nil (λ (k : Caught). IsThere tables g k.to) } in
    let good = stmts_good tables g (flat_stmts_of flat.body) known outermost leave 1 stand around (good_leave tables g) in
    more_made tables g (block outermost flat.params body.got) body.made (good_block tables g outermost flat.params body.got around good.0) good.1
