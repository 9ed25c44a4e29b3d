-- The blocks of a loop fit where its parts fit, and code that leads on asks what is asked behind it somewhere.
use Rattle.std.proofs.Common.{◌≡◌, ℕ, ◌+◌, arith, Bool, true, false, Option, Some, None, List, [], ◌∷◌, ◌++◌, length, refl, sym, ◌∙◌, subst, true≢false}
use Rattle.std.specs.Prelude.{slice_get, is_some}
use Rattle.std.specs.Cmp.Derive.{both_true as both_hold}
use Rattle.py_tree.specs.PlainStatements.{PNoStmt, PStmt}
use Rattle.py_tree.specs.FlowEnvironment.{PlainLocal}
use Rattle.py_tree.specs.Reachability.{all_go_on}
use Rattle.py_tree.specs.Flow.{Context, with_local}
use Rattle.call_graph.specs.SuspendingCode.{Leaving}
use Rattle.block_code.specs.PlainVars.{PlainVar}
use Rattle.block_code.specs.PlainBlocks.{IMark, PlainBlock}
use Rattle.block_code.specs.GraphFits.{Asked, at_start, each_once}
use Rattle.flat_tree.specs.PlainFlat.{Point, PlainFlatStmt, FMark, FSet, FPut, FGive, FFail, FCode, FBreak, FContinue, FCall, FMake, FIf, FWhile, FTry, FArm, PlainFlatArms, FNoArm, FMoreArms}
use Rattle.method_splitter.specs.Split.{Target, Rest, Jumps, Holds, rank_of, Around, rank_in, block, front, Numbered, lodge, outlet, inside, looped, endless, loop_code, stops}
use Rattle.method_splitter.proofs.RestsRun.{StandAt, stand_first, stand_behind}
use Rattle.flat_types.specs.FlatTypes.{is_point, Supplies, Ends, Behind, BehindEnd, Guarded, LoopFits, stmt_fits, arms_fit}
use Rattle.flat_types.specs.DeadCode as dead
use Rattle.flat_types.proofs.CodeJoins.{code_stays}
use Rattle.flat_types.proofs.PointLaws.{AreVariables, start_variables}
use Rattle.flat_types.proofs.RestsFit.{takes_variables, RestFits, Meets, MeetsFreely, AreCaughtAt, freely_meets, mark_fits, Fine, AllFine, none_made, more_made, both_made, block_fine, jump_meets}

-- Where what is asked behind is asked

module _ (c : Context) (leaves : Leaving) (variables : List PlainVar) where
  -- there are locals of which this is asked
  abbrev pub Somewhere : Asked → Type 0
  Somewhere goal = (locals : List PlainLocal) × AreVariables variables locals × goal locals

  at_end : (after : Option Point) (goal : Asked) → is_some after ≡ true → BehindEnd variables after goal → Somewhere goal
  at_end None goal e h = absurd (true≢false (sym e))
  at_end (Some point) goal e h = (at_start variables point, start_variables variables point, h)

  pub behind : (x : PlainFlatStmt) (ps : List Point) (breaks continues goal : Asked) (locals : List PlainLocal) → dead.leads_on x ≡ true → AreVariables variables locals → stmt_fits c leaves variables ps breaks continues x goal locals → Somewhere goal
  unfolding stmt_fits all_go_on
  behind FMark ps breaks continues goal locals e are f = (locals, are, f.0)
  behind (FSet x v) ps breaks continues goal locals e are f = (with_local x f.0.0 f.0.0 locals, takes_variables variables locals x f.0.0 goal f.0.2 are, f.0.2.goes)
  behind (FPut x v) ps breaks continues goal locals e are f = (locals, are, f.0.1)
  behind (FGive v) ps breaks continues goal locals e are f = absurd (true≢false (sym e))
  behind (FFail kind v) ps breaks continues goal locals e are f = absurd (true≢false (sym e))
  behind (FCode x) ps breaks continues goal locals e are f = (f.0.way.locals, code_stays c leaves locals (PStmt x PNoStmt) goal f.0 ∙ are, f.0.goes (both_hold e refl))
  behind FBreak ps breaks continues goal locals e are f = absurd (true≢false (sym e))
  behind FContinue ps breaks continues goal locals e are f = absurd (true≢false (sym e))
  behind (FCall on callee args into after) ps breaks continues goal locals e are f = (at_start variables after, start_variables variables after, f.1)
  behind (FMake class args into after) ps breaks continues goal locals e are f = (at_start variables after, start_variables variables after, f.1)
  behind (FIf arms other after) ps breaks continues goal locals e are f = at_end after goal e f.1
  behind (FWhile head test start body after) ps breaks continues goal locals e are f = at_end after goal e f.2
  behind (FTry start body clauses after) ps breaks continues goal locals e are f = at_end after goal e f.3

  -- where all tests of arms fail
  pub behind_arms : (arms : PlainFlatArms) (ps : List Point) (breaks continues goal other : Asked) (locals : List PlainLocal) → AreVariables variables locals → arms_fit c leaves variables ps breaks continues arms goal other locals → Somewhere other
  unfolding stmt_fits
  behind_arms FNoArm ps breaks continues goal other locals are f = (locals, are, f)
  behind_arms (FMoreArms (FArm test start body rest) more) ps breaks continues goal other locals are f = behind_arms more ps breaks continues goal other (at_start variables rest) (start_variables variables rest) f.2

  -- behind what stops nothing is asked
  pub stops_fit : (x : PlainFlatStmt) (ps : List Point) (breaks continues goal next : Asked) (locals : List PlainLocal) → stops x ≡ true → stmt_fits c leaves variables ps breaks continues x goal locals → stmt_fits c leaves variables ps breaks continues x next locals
  unfolding stmt_fits
  stops_fit (FGive v) ps breaks continues goal next locals e f = f
  stops_fit (FFail kind v) ps breaks continues goal next locals e f = f
  stops_fit FBreak ps breaks continues goal next locals e f = f
  stops_fit FContinue ps breaks continues goal next locals e f = f
  stops_fit _ ps breaks continues goal next locals e f = absurd (true≢false (sym e))

-- Loops

-- a rest that only jumps
abbrev pub OnlyJumps : Rest → Type 0
OnlyJumps (Jumps to) = Unit {0}
OnlyJumps (Holds code end rank) = ⊥

pub outlet_jumps : (a : Around) (after : Option Point) (r : Rest) (at : ℕ) → is_some after ≡ true → OnlyJumps (outlet a after r at).got
outlet_jumps a None r at e = absurd (true≢false (sym e))
outlet_jumps a (Some point) r at e = tt

module _ (c : Context) (leaves : Leaving) (variables : List PlainVar) (outside : c.in_loop ≡ false) (once : each_once variables ≡ true) (g : List PlainBlock)
    (points : (k : ℕ) (b : PlainBlock) → slice_get g k ≡ Some b → is_point variables b.params ≡ true) where
  abbrev Meeting : List Point → Asked → Rest → Type 0
  Meeting = Meets c leaves variables outside once g points

  abbrev Freely : Asked → Rest → Type 0
  Freely = MeetsFreely c leaves variables outside once g points

  abbrev Made : List PlainBlock → Type 0
  Made = AllFine c leaves variables outside once g points

  abbrev Fitting : List Point → Rest → Asked
  Fitting = RestFits c leaves variables outside once g points

  pub record AroundMeets (ps : List Point) (breaks continues : Asked) (a : Around) : Type 0 where
    pub at_break : Freely breaks a.breaks
    pub at_continue : Freely continues a.continues
    pub at_catches : AreCaughtAt c leaves variables outside once g points a.catches ps

  abbrev pub CodeGood : (List Point → Asked → Asked → Asked → Asked) → (Around → Rest → Numbered Rest) → Type 1
  CodeGood fits code =
      (ps : List Point) (breaks continues goal : Asked) (a : Around) (r : Rest) (at : ℕ) → StandAt g at (code a r at).made → AroundMeets ps breaks continues a → Meeting ps goal r
      → (locals : List PlainLocal) → AreVariables variables locals → fits ps breaks continues goal locals → Fitting ps (code a r at).got locals × Made (code a r at).made

  abbrev pub TestGood : (List Point → Asked → Asked → Asked → Asked → Asked) → (Around → Target → Target → Numbered Rest) → Type 1
  TestGood fits code =
      (ps : List Point) (breaks continues yes' no' : Asked) (a : Around) (holds fails : Target) (at : ℕ) → StandAt g at (code a holds fails at).made → AroundMeets ps breaks continues a → Freely yes' (Jumps holds) → Freely no' (Jumps fails)
      → (locals : List PlainLocal) → AreVariables variables locals → fits ps breaks continues yes' no' locals → Fitting ps (code a holds fails at).got locals × Made (code a holds fails at).made

  abbrev made_more : (b : PlainBlock) (bs : List PlainBlock) → Fine c leaves variables outside once g points b → Made bs → Made (b ∷ bs)
  made_more = more_made c leaves variables outside once g points

  abbrev made_both : (xs ys : List PlainBlock) → Made xs → Made ys → Made (xs ++ ys)
  made_both = both_made c leaves variables outside once g points

  module _ (head start : Point) (after : Option Point) (behind_it : Rest) (test_asks : List Point → Asked → Asked → Asked → Asked → Asked) (test : Around → Target → Target → Numbered Rest) (body_asks : List Point → Asked → Asked → Asked → Asked) (code : Around → Rest → Numbered Rest)
      (tests : TestGood test_asks test) (bodies : CodeGood body_asks code) (ps : List Point) (breaks continues : Asked) (a : Around) (around : AroundMeets ps breaks continues a) (end : Freely (Ends after) behind_it)
      (at_head : Behind variables head (Guarded c ps [])) (at_turn : Behind variables start (Guarded c ps [])) where
    abbrev on_body : Asked
    on_body = body_asks ps (Ends after) (Supplies head) (Supplies head)

    turns : Target → Numbered Rest
    turns again = code (inside a behind_it again) (Jumps again)

    body_good : (again : Target) (at : ℕ) → StandAt g at (code (inside a behind_it again) (Jumps again) at).made → Freely (Supplies head) (Jumps again) → (point : Point) → Behind variables point on_body
        → Fitting ps (code (inside a behind_it again) (Jumps again) at).got (at_start variables point) × Made (code (inside a behind_it again) (Jumps again) at).made
    body_good again at stand there point f =
        bodies ps (Ends after) (Supplies head) (Supplies head) (inside a behind_it again) (Jumps again) at stand (record { at_break = end; at_continue = there; at_catches = around.at_catches })
        (freely_meets c leaves variables outside once g points ps (Supplies head) (Jumps again) there) (at_start variables point) (start_variables variables point) f

    fine : (point : Point) (r : Rest) → Behind variables point (Guarded c ps []) → Fitting ps r (at_start variables point) → Fine c leaves variables outside once g points (block a point r)
    fine point r here f = block_fine c leaves variables outside once g points ps a point r around.at_catches here f

    marked : (point : Point) (r : Rest) → Behind variables point (Guarded c ps []) → Fitting ps r (at_start variables point) → Fine c leaves variables outside once g points (block a point (front IMark r))
    marked point r here f = fine point (front IMark r) here (mark_fits c leaves variables outside once g points ps r (at_start variables point) here f)

    looped_good : (fails : Target) → Freely (Ends after) (Jumps fails) → (at : ℕ) → StandAt g at (looped a head start (λ holds. test a holds fails) (λ again. code (inside a behind_it again) (Jumps again)) at).made
        → Behind variables head (test_asks ps breaks continues (Supplies start) (Ends after)) → Behind variables start on_body
        → Freely (Supplies head) (looped a head start (λ holds. test a holds fails) (λ again. code (inside a behind_it again) (Jumps again)) at).got
        × Made (looped a head start (λ holds. test a holds fails) (λ again. code (inside a behind_it again) (Jumps again)) at).made
    looped_good fails out at stand on_test on_turn =
        let first : Target = record { number = at + 1; rank = rank_in a 0 } in
        let two : at + 1 + 1 ≡ at + 2 = omega arith in
        let t = test a first fails (at + 2) in
        let again : Target = record { number = at; rank = rank_in a (rank_of t.got) } in
        let at3 = at + 2 + length t.made in
        let b = code (inside a behind_it again) (Jumps again) at3 in
        let rest = subst (λ k. StandAt g k (t.made ++ b.made)) two stand.1.1 in
        let there = jump_meets c leaves variables outside once g points again (block a head t.got) stand.0 in
        let first_there = jump_meets c leaves variables outside once g points first (block a start (front IMark b.got)) stand.1.0 in
        let tested = tests ps breaks continues (Supplies start) (Ends after) a first fails (at + 2) (stand_first g (at + 2) t.made b.made rest) around first_there out (at_start variables head) (start_variables variables head) on_test in
        let turned = body_good again at3 (stand_behind g (at + 2) t.made b.made rest) there start on_turn in (
          there,
          made_more (block a head t.got) (block a start (front IMark b.got) ∷ t.made ++ b.made) (fine head t.got at_head tested.0)
              (made_more (block a start (front IMark b.got)) (t.made ++ b.made) (marked start b.got at_turn turned.0) (made_both t.made b.made tested.1 turned.1)),
        )

    endless_good : (at : ℕ) → StandAt g at (endless a head (λ again. code (inside a behind_it again) (Jumps again)) at).made → Behind variables head on_body
        → Freely (Supplies head) (endless a head (λ again. code (inside a behind_it again) (Jumps again)) at).got × Made (endless a head (λ again. code (inside a behind_it again) (Jumps again)) at).made
    endless_good at stand on_turn =
        let again : Target = record { number = at; rank = rank_in a 0 } in
        let b = code (inside a behind_it again) (Jumps again) (at + 1) in
        let there = jump_meets c leaves variables outside once g points again (block a head (front IMark b.got)) stand.0 in
        let turned = body_good again (at + 1) stand.1 there head on_turn in
        (there, made_more (block a head (front IMark b.got)) b.made (marked head b.got at_head turned.0) turned.1)

    lodged : (r : Rest) (at : ℕ) → OnlyJumps r → Freely (Ends after) r → Freely (Ends after) (Jumps (lodge a head r at).got) × Made (lodge a head r at).made
    lodged (Jumps to) at j m = (m, none_made c leaves variables outside once g points)
    lodged (Holds items end rank) at j m = absurd j

    pub while_good : (b : Bool) → (b ≡ false → OnlyJumps behind_it) → (at : ℕ) → StandAt g at (loop_code a b head start behind_it (λ holds fails. test a holds fails) (λ again. code (inside a behind_it again) (Jumps again)) at).made
        → LoopFits variables b head start after (test_asks ps breaks continues) on_body
        → Freely (Supplies head) (loop_code a b head start behind_it (λ holds fails. test a holds fails) (λ again. code (inside a behind_it again) (Jumps again)) at).got
        × Made (loop_code a b head start behind_it (λ holds fails. test a holds fails) (λ again. code (inside a behind_it again) (Jumps again)) at).made
    while_good true jumps at stand f = endless_good at stand f
    while_good false jumps at stand f =
        let to = lodge a head behind_it at in
        let out = lodged behind_it at (jumps refl) end in
        let loop = looped_good to.got out.0 (at + length to.made) (stand_behind g at to.made _ stand) f.0 f.1 in
        (loop.0, made_both to.made _ out.1 loop.1)
