-- The blocks of a flat method go on at numbers above 0, and so do failures in them: blocks that are made have such numbers, and so has what goes on at them.
use Rattle.std.proofs.Common.{ℕ, ◌+◌, ◌<◌, arith, Bool, true, false, List, [], ◌∷◌, ◌++◌, length, Option, Some, None, if◌then◌else◌}
use Rattle.std.specs.List.{All}
use Rattle.std.proofs.lemmas.List.Elements.{All-nil, All-cons, All-head, All-tail, All-append}
use Rattle.py_tree.specs.PlainStatements.{PlainStmt}
use Rattle.py_tree.specs.PlainProgram.{PlainMethod, PlainClass, PlainProgram}
use Rattle.py_tree.specs.ClassRules.{methods_of}
use Rattle.py_tree.specs.Reachability.{goes_on}
use Rattle.block_code.specs.PlainBlocks.{ECall, EMake, IMark, ISet, IPut, IGive, IFail, ICode, PlainCatch}
use Rattle.flat_tree.specs.PlainFlat.{Point, PlainFlatStmt, FMark, FSet, FPut, FGive, FFail, FCode, FBreak, FContinue, FCall, FMake, FIf, FWhile, FTry, PlainFlatStmts, FNoStmt, FStmt, FArm, PlainFlatArms, FNoArm, FMoreArms, FClause, PlainFlatClauses, FNoClause, FMoreClauses, PlainFlatTest, FLeaf, FNot, FAnd, FOr, FOperand, PlainOperands, FNoOperand, FMoreOperands, flat_stmts_of}
use Rattle.method_splitter.specs.Split.{Target, Rest, Jumps, Holds, end_of, rank_of, Caught, Around, catch_in, catches_in, rank_in, block, leave, front, front_code, coded, branch, Numbered, plain, ◌and_then◌, lodge, homed, joined, outlet, inside, looped, endless, loop_code, always, guarded, stops, outermost, split, split_all, split_arms, split_clauses, split_test, split_each}
use Rattle.compiled_graph.specs.CompiledGraph.{flat_method, method_blocks, methods_compiled, classes_compiled, compiled}
use Rattle.live_laws.specs.Cut.{GoesForth, BlockGoesForth, NeverGoesBack, NoneGoBack}
use Rattle.never_back.specs.NeverBack.{SplitNeverGoesBack, CompiledNeverGoesBack}

-- What is made from a number above 0

abbrev Forth : {A : Type 0} → (A → Type 0) → Numbered A → Type 0
Forth Q m = (at : ℕ) → 0 < at → Q (m at).got × NeverGoesBack (m at).made

abbrev Further : Rest → Type 0
Further r = GoesForth (end_of r)

abbrev IsFurther : Target → Type 0
IsFurther t = 0 < t.number

abbrev IsCaughtFurther : Caught → Type 0
IsCaughtFurther k = IsFurther k.to

abbrev AreCaughtFurther : List Caught → Type 0
AreCaughtFurther ks = All IsCaughtFurther ks

record AroundFurther (a : Around) : Type 0 where
  breaks : Further a.breaks
  continues : Further a.continues
  catches : AreCaughtFurther a.catches

more_than : (at n : ℕ) → 0 < at → 0 < at + n
more_than at n above = omega (arith, above)

catches_forth : (ks : List Caught) → AreCaughtFurther ks → All (λ (k : PlainCatch). 0 < k.to) (catches_in ks)
catches_forth [] h = All-nil (λ (k : PlainCatch). 0 < k.to)
catches_forth (k ∷ ks) h = All-cons (λ (k : PlainCatch). 0 < k.to) (catch_in k) (catches_in ks) (All-head IsCaughtFurther k ks h) (catches_forth ks (All-tail IsCaughtFurther k ks h))

one_block : (a : Around) (params : Point) (r : Rest) → AroundFurther a → Further r → BlockGoesForth (block a params r)
one_block a params r around h = (h, catches_forth a.catches around.catches)

plain_forth : {A : Type 0} (Q : A → Type 0) (x : A) → Q x → Forth Q (plain x)
plain_forth Q x q at above = (q, All-nil BlockGoesForth)

then_forth : {A B : Type 0} (Q : A → Type 0) (R : B → Type 0) (m : Numbered A) (f : A → Numbered B) → Forth Q m → ((x : A) → Q x → Forth R (f x)) → Forth R (m and_then f)
then_forth Q R m f first later at above =
    let one = first at above in
    let two = later (m at).got one.0 (at + length (m at).made) (more_than at (length (m at).made) above) in
    (two.0, All-append BlockGoesForth (m at).made (f (m at).got (at + length (m at).made)).made one.1 two.1)

homed_forth : (a : Around) (params : Point) (r : Rest) → AroundFurther a → Further r → Forth IsFurther (homed a params r)
homed_forth a params r around h at above = (above, All-cons BlockGoesForth (block a params r) [] (one_block a params r around h) (All-nil BlockGoesForth))

lodge_forth : (a : Around) (params : Point) (r : Rest) → AroundFurther a → Further r → Forth IsFurther (lodge a params r)
lodge_forth a params (Jumps to) around h at above = (h, All-nil BlockGoesForth)
lodge_forth a params (Holds code end rank) around h at above = homed_forth a params (Holds code end rank) around h at above

joined_forth : (a : Around) (after : Option Point) (r : Rest) → AroundFurther a → Further r → Forth Further (joined a after r)
joined_forth a None r around h = plain_forth Further r h
joined_forth a (Some point) r around h = then_forth IsFurther Further (lodge a point r) (λ to. plain (Jumps to)) (lodge_forth a point r around h) (λ to t. plain_forth Further (Jumps to) t)

outlet_forth : (a : Around) (after : Option Point) (r : Rest) → AroundFurther a → Further r → Forth Further (outlet a after r)
outlet_forth a None r around h = plain_forth Further leave tt
outlet_forth a (Some point) r around h = joined_forth a (Some point) r around h

code_further : (s : PlainStmt) (r : Rest) → Further r → Further (front_code s r)
code_further s (Jumps to) h = h
code_further s (Holds [] end rank) h = h
code_further s (Holds (ICode ss ∷ is) end rank) h = h
code_further s (Holds (IMark ∷ is) end rank) h = h
code_further s (Holds (ISet x e ∷ is) end rank) h = h
code_further s (Holds (IPut x e ∷ is) end rank) h = h
code_further s (Holds (IGive e ∷ is) end rank) h = h
code_further s (Holds (IFail kind e ∷ is) end rank) h = h

coded_further : (b : Bool) (s : PlainStmt) (r : Rest) → Further r → Further (coded b s r)
coded_further true s r h = code_further s r h
coded_further false s r h = code_further s leave tt

-- Loops

inside_further : (a : Around) (behind : Rest) (again : Target) → AroundFurther a → Further behind → IsFurther again → AroundFurther (inside a behind again)
inside_further a behind again around h t = record { breaks = h; continues = t; catches = around.catches }

looped_forth : (a : Around) (head start : Point) (test body : Target → Numbered Rest) → AroundFurther a → ((t : Target) → IsFurther t → Forth Further (test t)) → ((t : Target) → IsFurther t → Forth Further (body t))
    → Forth Further (looped a head start test body)
looped_forth a head start test body around tests bodies at above =
    let holds : Target = record { number = at + 1; rank = rank_in a 0 } in
    let t = test holds (at + 2) in
    let again : Target = record { number = at; rank = rank_in a (rank_of t.got) } in
    let b = body again (at + 2 + length t.made) in
    let t_forth = tests holds (more_than at 1 above) (at + 2) (more_than at 2 above) in
    let b_forth = bodies again above (at + 2 + length t.made) (more_than (at + 2) (length t.made) (more_than at 2 above)) in (
      above,
      All-cons BlockGoesForth (block a head t.got) (block a start (front IMark b.got) ∷ t.made ++ b.made) (one_block a head t.got around t_forth.0)
          (All-cons BlockGoesForth (block a start (front IMark b.got)) (t.made ++ b.made) (one_block a start (front IMark b.got) around b_forth.0) (All-append BlockGoesForth t.made b.made t_forth.1 b_forth.1)),
    )

endless_forth : (a : Around) (head : Point) (body : Target → Numbered Rest) → AroundFurther a → ((t : Target) → IsFurther t → Forth Further (body t)) → Forth Further (endless a head body)
endless_forth a head body around bodies at above =
    let again : Target = record { number = at; rank = rank_in a 0 } in
    let b = body again (at + 1) in
    let b_forth = bodies again above (at + 1) (more_than at 1 above) in
    (above, All-cons BlockGoesForth (block a head (front IMark b.got)) b.made (one_block a head (front IMark b.got) around b_forth.0) b_forth.1)

loop_forth : (a : Around) (b : Bool) (head start : Point) (behind : Rest) (test : Target → Target → Numbered Rest) (body : Target → Numbered Rest) → AroundFurther a → Further behind
    → ((holds fails : Target) → IsFurther holds → IsFurther fails → Forth Further (test holds fails)) → ((t : Target) → IsFurther t → Forth Further (body t)) → Forth Further (loop_code a b head start behind test body)
loop_forth a true head start behind test body around h tests bodies = endless_forth a head body around bodies
loop_forth a false head start behind test body around h tests bodies =
    then_forth IsFurther Further (lodge a head behind) (λ fails. looped a head start (λ holds. test holds fails) body) (lodge_forth a head behind around h)
    (λ fails f. looped_forth a head start (λ holds. test holds fails) body around (λ holds t. tests holds fails t f) bodies)

-- `try`

guarded_further : (a : Around) (ks : List Caught) → AroundFurther a → AreCaughtFurther ks → AroundFurther (guarded a ks)
guarded_further a ks around h = record { breaks = around.breaks; continues = around.continues; catches = h }

-- Code

in_turn : (b : Bool) (one two : Numbered Rest) → Forth Further one → Forth Further two → Forth Further (λ at. (if b then one else two) at)
in_turn true one two f g = f
in_turn false one two f g = g

mutual
  unfolding split

  stmt_forth : (s : PlainFlatStmt) (a : Around) (c : Rest) → AroundFurther a → Further c → Forth Further (split s a c)
  stmt_forth FMark a c around h = plain_forth Further (front IMark c) h
  stmt_forth (FSet x e) a c around h = plain_forth Further (front (ISet x e) c) h
  stmt_forth (FPut x e) a c around h = plain_forth Further (front (IPut x e) c) h
  stmt_forth (FGive e) a c around h = plain_forth Further (front (IGive e) leave) tt
  stmt_forth (FFail kind e) a c around h = plain_forth Further (front (IFail kind e) leave) tt
  stmt_forth (FCode s) a c around h = plain_forth Further (coded (goes_on s) s c) (coded_further (goes_on s) s c h)
  stmt_forth FBreak a c around h = plain_forth Further a.breaks around.breaks
  stmt_forth FContinue a c around h = plain_forth Further a.continues around.continues
  stmt_forth (FCall on callee args into after) a c around h =
      then_forth IsFurther Further (lodge a after c) (λ to. plain (Holds [] (ECall on callee.class callee.method args into to.number) 0)) (lodge_forth a after c around h) (λ to t. plain_forth Further (Holds [] (ECall on callee.class callee.method args into to.number) 0) t)
  stmt_forth (FMake class args into after) a c around h =
      then_forth IsFurther Further (lodge a after c) (λ to. plain (Holds [] (EMake class.class args into to.number) 0)) (lodge_forth a after c around h) (λ to t. plain_forth Further (Holds [] (EMake class.class args into to.number) 0) t)
  stmt_forth (FIf arms other after) a c around h =
      then_forth Further Further (joined a after c) (λ join. split_all other a join and_then λ rest. split_arms arms a join rest) (joined_forth a after c around h) (λ join j.
      then_forth Further Further (split_all other a join) (λ rest. split_arms arms a join rest) (stmts_forth other a join around j) (λ rest r. arms_forth arms a join rest around j r))
  stmt_forth (FWhile head test start body after) a c around h =
      then_forth Further Further (outlet a after c) (λ behind. loop_code a (always test) head start behind (λ holds fails. split_test test a holds fails) (λ again. split_all body (inside a behind again) (Jumps again))) (outlet_forth a after c around h) (λ behind b.
      loop_forth a (always test) head start behind (λ holds fails. split_test test a holds fails) (λ again. split_all body (inside a behind again) (Jumps again)) around b (λ holds fails t f. test_forth test a holds fails around t f)
      (λ again t. stmts_forth body (inside a behind again) (Jumps again) (inside_further a behind again around b t) t))
  stmt_forth (FTry start body clauses after) a c around h =
      let begun : List Caught → Rest → Numbered Rest = λ ks first. joined (guarded a ks) (Some start) first in
      let tried : Rest → List Caught → Numbered Rest = λ behind ks. split_all body (guarded a ks) behind and_then λ first. begun ks first in
      then_forth Further Further (outlet a after c) (λ behind. split_clauses clauses a behind and_then λ ks. tried behind ks) (outlet_forth a after c around h) (λ behind b.
      then_forth AreCaughtFurther Further (split_clauses clauses a behind) (tried behind) (clauses_forth clauses a behind around b) (λ ks k.
      then_forth Further Further (split_all body (guarded a ks) behind) (begun ks) (stmts_forth body (guarded a ks) behind (guarded_further a ks around k) b) (λ first f.
      joined_forth (guarded a ks) (Some start) first (guarded_further a ks around k) f)))

  stmts_forth : (ss : PlainFlatStmts) (a : Around) (c : Rest) → AroundFurther a → Further c → Forth Further (split_all ss a c)
  stmts_forth FNoStmt a c around h = plain_forth Further c h
  stmts_forth (FStmt s ss) a c around h =
      in_turn (stops s) (split s a c) (split_all ss a c and_then λ rest. split s a rest) (stmt_forth s a c around h)
      (then_forth Further Further (split_all ss a c) (λ rest. split s a rest) (stmts_forth ss a c around h) (λ rest r. stmt_forth s a rest around r))

  arms_forth : (arms : PlainFlatArms) (a : Around) (c other : Rest) → AroundFurther a → Further c → Further other → Forth Further (split_arms arms a c other)
  arms_forth FNoArm a c other around h o = plain_forth Further other o
  arms_forth (FMoreArms (FArm test start body rest) more) a c other around h o =
      let tested : Target → Rest → Numbered Rest = λ fails first. lodge a start first and_then λ holds. split_test test a holds fails in
      let begun : Target → Numbered Rest = λ fails. split_all body a c and_then λ first. tested fails first in
      then_forth Further Further (split_arms more a c other) (λ later. lodge a rest later and_then λ fails. begun fails) (arms_forth more a c other around h o) (λ later l.
      then_forth IsFurther Further (lodge a rest later) begun (lodge_forth a rest later around l) (λ fails f.
      then_forth Further Further (split_all body a c) (tested fails) (stmts_forth body a c around h) (λ first b.
      then_forth IsFurther Further (lodge a start first) (λ holds. split_test test a holds fails) (lodge_forth a start first around b) (λ holds t. test_forth test a holds fails around t f))))

  clauses_forth : (clauses : PlainFlatClauses) (a : Around) (c : Rest) → AroundFurther a → Further c → Forth AreCaughtFurther (split_clauses clauses a c)
  clauses_forth FNoClause a c around h = plain_forth AreCaughtFurther a.catches around.catches
  clauses_forth (FMoreClauses (FClause kinds start body) more) a c around h =
      let caught : Target → Caught = λ to. record { kinds = kinds; to = to } in
      let begun : List Caught → Rest → Numbered (List Caught) = λ later first. homed a start first and_then λ to. plain (caught to ∷ later) in
      then_forth AreCaughtFurther AreCaughtFurther (split_clauses more a c) (λ later. split_all body a c and_then λ first. begun later first) (clauses_forth more a c around h) (λ later l.
      then_forth Further AreCaughtFurther (split_all body a c) (begun later) (stmts_forth body a c around h) (λ first f.
      then_forth IsFurther AreCaughtFurther (homed a start first) (λ to. plain (caught to ∷ later)) (homed_forth a start first around f) (λ to t.
      plain_forth AreCaughtFurther (caught to ∷ later) (All-cons IsCaughtFurther (caught to) later t l))))

  test_forth : (test : PlainFlatTest) (a : Around) (holds fails : Target) → AroundFurther a → IsFurther holds → IsFurther fails → Forth Further (split_test test a holds fails)
  test_forth (FLeaf before e) a holds fails around t f = stmts_forth before a (branch e holds fails) around (t, f)
  test_forth (FNot test) a holds fails around t f = test_forth test a fails holds around f t
  test_forth (FAnd operands) a holds fails around t f = each_forth true operands a holds fails around t f
  test_forth (FOr operands) a holds fails around t f = each_forth false operands a holds fails around t f

  each_forth : (truth : Bool) (operands : PlainOperands) (a : Around) (holds fails : Target) → AroundFurther a → IsFurther holds → IsFurther fails → Forth Further (split_each truth operands a holds fails)
  each_forth true FNoOperand a holds fails around t f = plain_forth Further (Jumps holds) t
  each_forth false FNoOperand a holds fails around t f = plain_forth Further (Jumps fails) f
  each_forth true (FMoreOperands (FOperand test rest) more) a holds fails around t f =
      then_forth Further Further (split_each true more a holds fails) (λ later. lodge a rest later and_then λ onward. split_test test a onward fails) (each_forth true more a holds fails around t f) (λ later l.
      then_forth IsFurther Further (lodge a rest later) (λ onward. split_test test a onward fails) (lodge_forth a rest later around l) (λ onward o. test_forth test a onward fails around o f))
  each_forth false (FMoreOperands (FOperand test rest) more) a holds fails around t f =
      then_forth Further Further (split_each false more a holds fails) (λ later. lodge a rest later and_then λ onward. split_test test a holds onward) (each_forth false more a holds fails around t f) (λ later l.
      then_forth IsFurther Further (lodge a rest later) (λ onward. split_test test a holds onward) (lodge_forth a rest later around l) (λ onward o. test_forth test a holds onward around t o))

pub split_never_goes_back : SplitNeverGoesBack
split_never_goes_back flat =
    let above : 0 < 1 = omega arith in
    let around : AroundFurther outermost = record { breaks = tt; continues = tt; catches = All-nil IsCaughtFurther } in
    let body = stmts_forth (flat_stmts_of flat.body) outermost leave around tt 1 above in
    let made = split_all (flat_stmts_of flat.body) outermost leave 1 in
    All-cons BlockGoesForth (block outermost flat.params made.got) made.made (one_block outermost flat.params made.got around body.0) body.1

-- Programs

module _ (names : List (List ℕ)) (program : PlainProgram) (marks : List (List Bool)) where
  methods_forth : (class number : ℕ) (ms : List PlainMethod) → NoneGoBack (methods_compiled names program marks class number ms)
  unfolding methods_compiled
  methods_forth class number [] = All-nil NeverGoesBack
  methods_forth class number (m ∷ ms) =
      All-cons NeverGoesBack (method_blocks names program marks class number m) (methods_compiled names program marks class (number + 1) ms) (split_never_goes_back (flat_method names program marks class number m)) (methods_forth class (number + 1) ms)

  classes_forth : (class : ℕ) (cs : List PlainClass) → NoneGoBack (classes_compiled names program marks class cs)
  unfolding classes_compiled
  classes_forth class [] = All-nil NeverGoesBack
  classes_forth class (c ∷ cs) =
      All-append NeverGoesBack (methods_compiled names program marks class 0 (methods_of names c.members)) (classes_compiled names program marks (class + 1) cs) (methods_forth class 0 (methods_of names c.members)) (classes_forth (class + 1) cs)

  all_forth : NoneGoBack (compiled names program marks)
  all_forth = classes_forth 0 program

pub compiled_never_goes_back : CompiledNeverGoesBack
compiled_never_goes_back names program marks = all_forth names program marks
