-- Each block that is made raises ranks by one at most.
use Rattle.std.proofs.Common.{◌≡◌, ℕ, zero, suc, ◌+◌, ◌<◌, ◌≤◌, arith, Bool, true, false, List, [], ◌∷◌, ◌++◌, length, length-append, Option, Some, None, if◌then◌else◌}
use Rattle.std.specs.Prelude.{max}
use Rattle.std.specs.List.{All}
use Rattle.std.proofs.Math.Nat.{max-le}
use Rattle.std.proofs.lemmas.List.Elements.{All-nil, All-cons, All-append, All-weaker}
use Rattle.py_tree.specs.PlainExpressions.{PlainExpr}
use Rattle.py_tree.specs.PlainStatements.{PlainStmt}
use Rattle.py_tree.specs.Reachability.{goes_on}
use Rattle.block_code.specs.PlainBlocks.{PlainItem, IMark, ISet, IPut, IGive, IFail, ICode, PlainBlock}
use Rattle.block_code.specs.GraphFits.{takes_step}
use Rattle.flat_tree.specs.PlainFlat.{Point, PlainFlatStmt, FMark, FSet, FPut, FGive, FFail, FCode, FBreak, FContinue, FCall, FMake, FIf, FWhile, FTry, PlainFlatStmts, FNoStmt, FStmt, FArm, PlainFlatArms, FNoArm, FMoreArms, FClause, PlainFlatClauses, FNoClause, FMoreClauses, PlainFlatTest, FLeaf, FNot, FAnd, FOr, FOperand, PlainOperands, FNoOperand, FMoreOperands, flat_stmts_of}
use Rattle.method_splitter.specs.Split.{Target, Rest, Jumps, Holds, rank_of, Caught, Around, floor, rank_in, block, leave, front, front_code, coded, branch, Numbered, ◌and_then◌, lodge, homed, joined, outlet, inside, guarded, looped, endless, loop_code, always, stops, outermost, split, split_all, split_arms, split_clauses, split_test, split_each}
use Rattle.method_splitter.specs.SplitRanks.{RanksAreSmall}
use Rattle.method_splitter.proofs.RestsRun.{at_most}
use Rattle.method_splitter.proofs.RankLaws.{raised_within, floor_within}

abbrev UpTo : ℕ → PlainBlock → Type 0
UpTo k b = b.rank ≤ k

pub Within : ℕ → List PlainBlock → Type 0
Within k bs = All (UpTo k) bs

none_within : (k : ℕ) → Within k []
unfolding Within
none_within k = All-nil (UpTo k)

more_within : (k : ℕ) (b : PlainBlock) (bs : List PlainBlock) → b.rank ≤ k → Within k bs → Within k (b ∷ bs)
unfolding Within
more_within k b bs first rest = All-cons (UpTo k) b bs first rest

both_within : (k : ℕ) (xs ys : List PlainBlock) → Within k xs → Within k ys → Within k (xs ++ ys)
unfolding Within
both_within k xs ys first second = All-append (UpTo k) xs ys first second

wider : (k m : ℕ) (bs : List PlainBlock) → k ≤ m → Within k bs → Within m bs
unfolding Within
wider k m bs le all = All-weaker (UpTo k) (UpTo m) (λ b less. at_most less le) bs all

-- above this rank what is made, and what goes on at it, rises by no more than there are blocks
pub record Rises (k rank : ℕ) (made : List PlainBlock) : Type 0 where
  pub top : rank ≤ k + length made
  pub all : Within (k + length made) made

rises_none : (k rank : ℕ) → rank ≤ k → Rises k rank []
rises_none k rank le = record { top = omega (arith, le); all = none_within (k + 0) }

rises_then : (k first rank : ℕ) (xs ys : List PlainBlock) → Rises k first xs → Rises (k + length xs) rank ys → Rises k rank (xs ++ ys)
rises_then k first rank xs ys p q =
    let long : length (xs ++ ys) ≡ length xs + length ys = length-append xs ys in
    let top : rank ≤ k + length xs + length ys = q.top in
    let low : k + length xs ≤ k + length (xs ++ ys) = omega (arith, long) in
    let high : k + length xs + length ys ≤ k + length (xs ++ ys) = omega (arith, long) in
    record { top = omega (arith, long, top); all = both_within _ xs ys (wider _ _ xs low p.all) (wider _ _ ys high q.all) }

more : {i k : ℕ} (bs : List PlainBlock) → i ≤ k → i ≤ k + length bs
more bs le = omega (arith, le)

pub front_small : (i : PlainItem) (r : Rest) (k : ℕ) → rank_of r ≤ k → rank_of (front i r) ≤ k
front_small i r k le = by (takes_step i)
  where
    by : (b : Bool) → (if b then 0 else rank_of r) ≤ k
    by true = omega arith
    by false = le

code_small : (x : PlainStmt) (r : Rest) (k : ℕ) → rank_of (front_code x r) ≤ k
code_small x (Jumps to) k = omega arith
code_small x (Holds [] end rank) k = omega arith
code_small x (Holds (ICode xs ∷ is) end rank) k = omega arith
code_small x (Holds (IMark ∷ is) end rank) k = omega arith
code_small x (Holds (ISet y e ∷ is) end rank) k = omega arith
code_small x (Holds (IPut y e ∷ is) end rank) k = omega arith
code_small x (Holds (IGive e ∷ is) end rank) k = omega arith
code_small x (Holds (IFail kind e ∷ is) end rank) k = omega arith

pub coded_small : (b : Bool) (x : PlainStmt) (r : Rest) (k : ℕ) → rank_of (coded b x r) ≤ k
coded_small true x r k = code_small x r k
coded_small false x r k = code_small x leave k

branch_small : (e : PlainExpr) (holds fails : Target) (k : ℕ) → holds.rank < k → fails.rank < k → rank_of (branch e holds fails) ≤ k
branch_small e holds fails zero p q = absurd (omega (arith, p))
branch_small e holds fails (suc k) p q =
    let first : holds.rank ≤ k = omega (arith, p) in
    let second : fails.rank ≤ k = omega (arith, q) in
    let both : max holds.rank fails.rank ≤ k = max-le first second in
    omega (arith, both)

homed_rises : (a : Around) (params : Point) (r : Rest) (at k : ℕ) → floor a.catches ≤ k → rank_of r ≤ k → Rises k (suc (homed a params r at).got.rank) (homed a params r at).made
homed_rises a params r at k low le =
    let rank : rank_in a (rank_of r) ≤ k = raised_within (floor a.catches) (rank_of r) k low le in
    record { top = omega (arith, rank); all = more_within (k + 1) (block a params r) [] (omega (arith, rank)) (none_within (k + 1)) }

lodge_rises : (a : Around) (params : Point) (r : Rest) (at k : ℕ) → floor a.catches ≤ k → rank_of r ≤ k → Rises k (suc (lodge a params r at).got.rank) (lodge a params r at).made
lodge_rises a params (Jumps to) at k low le = rises_none k _ le
lodge_rises a params (Holds code end rank) at k low le = homed_rises a params (Holds code end rank) at k low le

joined_rises : (a : Around) (after : Option Point) (c : Rest) (at k : ℕ) → floor a.catches ≤ k → rank_of c ≤ k → Rises k (rank_of (joined a after c at).got) (joined a after c at).made
joined_rises a None c at k low le = rises_none k _ le
joined_rises a (Some params) c at k low le = let p = lodge_rises a params c at k low le in rises_then k _ _ (lodge a params c at).made [] p (rises_none _ _ p.top)

outlet_rises : (a : Around) (after : Option Point) (c : Rest) (at k : ℕ) → floor a.catches ≤ k → rank_of c ≤ k → Rises k (rank_of (outlet a after c at).got) (outlet a after c at).made
outlet_rises a None c at k low le = rises_none k 0 (omega arith)
outlet_rises a (Some params) c at k low le = joined_rises a (Some params) c at k low le

pub record AroundSmall (a : Around) (k : ℕ) : Type 0 where
  pub breaks : rank_of a.breaks ≤ k
  pub continues : rank_of a.continues ≤ k
  pub catches : floor a.catches ≤ k

pub around_up : (a : Around) (i k : ℕ) → i ≤ k → AroundSmall a i → AroundSmall a k
around_up a i k le s = record { breaks = at_most s.breaks le; continues = at_most s.continues le; catches = at_most s.catches le }

around_more : (a : Around) (k : ℕ) (bs : List PlainBlock) → AroundSmall a k → AroundSmall a (k + length bs)
around_more a k bs s = around_up a k (k + length bs) (omega arith) s

guarded_small : (a : Around) (ks : List Caught) (k : ℕ) → floor ks ≤ k → AroundSmall a k → AroundSmall (guarded a ks) k
guarded_small a ks k low s = record { breaks = s.breaks; continues = s.continues; catches = low }

abbrev CodeRises : (Around → Rest → Numbered Rest) → Type 0
CodeRises code = (a : Around) (c : Rest) (at k : ℕ) → AroundSmall a k → rank_of c ≤ k → Rises k (rank_of (code a c at).got) (code a c at).made

abbrev pub TestRises : (Around → Target → Target → Numbered Rest) → Type 0
TestRises code = (a : Around) (holds fails : Target) (at k : ℕ) → AroundSmall a k → holds.rank < k → fails.rank < k → Rises k (rank_of (code a holds fails at).got) (code a holds fails at).made

-- Loops

looped_rises : (head start : Point) (behind : Rest) (fails : Target) (test : Around → Target → Target → Numbered Rest) (code : Around → Rest → Numbered Rest) → TestRises test → CodeRises code
    → (a : Around) (at k : ℕ) → AroundSmall a k → rank_of behind ≤ k → fails.rank < k
    → Rises k (rank_of (looped a head start (λ holds. test a holds fails) (λ again. code (inside a behind again) (Jumps again)) at).got) (looped a head start (λ holds. test a holds fails) (λ again. code (inside a behind again) (Jumps again)) at).made
looped_rises head start behind fails test code tests bodies a at k around le less =
    let first : Target = record { number = at + 1; rank = rank_in a 0 } in
    let t = test a first fails (at + 2) in
    let again : Target = record { number = at; rank = rank_in a (rank_of t.got) } in
    let at3 = at + 2 + length t.made in
    let b = code (inside a behind again) (Jumps again) at3 in
    let floor_low : floor a.catches ≤ k = around.catches in
    let begin : rank_in a 0 ≤ k = raised_within (floor a.catches) 0 k floor_low (omega arith) in
    let p = tests a first fails (at + 2) (k + 1) (around_up a k (k + 1) (omega arith) around) (omega (arith, begin)) (omega (arith, less)) in
    let p_top : rank_of t.got ≤ k + 1 + length t.made = p.top in
    let head_top : rank_in a (rank_of t.got) ≤ k + 1 + length t.made = raised_within (floor a.catches) (rank_of t.got) (k + 1 + length t.made) (omega (arith, floor_low)) p_top in
    let again_small : suc (rank_in a (rank_of t.got)) ≤ k + 2 + length t.made = omega (arith, head_top) in
    let q = bodies (inside a behind again) (Jumps again) at3 (k + 2 + length t.made) (record { breaks = omega (arith, le); continues = again_small; catches = omega (arith, floor_low) }) again_small in
    let long : length (t.made ++ b.made) ≡ length t.made + length b.made = length-append t.made b.made in
    let top : ℕ = k + suc (suc (length (t.made ++ b.made))) in
    let low : k + 1 + length t.made ≤ top = omega (arith, long) in
    let high : k + 2 + length t.made + length b.made ≤ top = omega (arith, long) in
    let near : rank_in a (rank_of t.got) ≤ top = omega (arith, head_top, low) in
    let none : rank_in a 0 ≤ top = omega (arith, begin) in
    record {
      top = omega (arith, long, head_top);
      all = more_within top (block a head t.got) (block a start (front IMark b.got) ∷ t.made ++ b.made) near (more_within top (block a start (front IMark b.got)) (t.made ++ b.made) none (both_within top t.made b.made (wider _ _ t.made low p.all) (wider _ _ b.made high q.all)));
    }

endless_rises : (head : Point) (behind : Rest) (code : Around → Rest → Numbered Rest) → CodeRises code → (a : Around) (at k : ℕ) → AroundSmall a k → rank_of behind ≤ k
    → Rises k (rank_of (endless a head (λ again. code (inside a behind again) (Jumps again)) at).got) (endless a head (λ again. code (inside a behind again) (Jumps again)) at).made
endless_rises head behind code bodies a at k around le =
    let again : Target = record { number = at; rank = rank_in a 0 } in
    let b = code (inside a behind again) (Jumps again) (at + 1) in
    let floor_low : floor a.catches ≤ k = around.catches in
    let begin : rank_in a 0 ≤ k = raised_within (floor a.catches) 0 k floor_low (omega arith) in
    let one : suc (rank_in a 0) ≤ k + 1 = omega (arith, begin) in
    let q = bodies (inside a behind again) (Jumps again) (at + 1) (k + 1) (record { breaks = omega (arith, le); continues = one; catches = omega (arith, floor_low) }) one in
    let top : ℕ = k + suc (length b.made) in
    let high : k + 1 + length b.made ≤ top = omega arith in
    let none : rank_in a 0 ≤ top = omega (arith, begin) in
    record { top = omega (arith, begin); all = more_within top (block a head (front IMark b.got)) b.made none (wider _ _ b.made high q.all) }

loop_rises : (b : Bool) (head start : Point) (behind : Rest) (test : Around → Target → Target → Numbered Rest) (code : Around → Rest → Numbered Rest) → TestRises test → CodeRises code
    → (a : Around) (at k : ℕ) → AroundSmall a k → rank_of behind ≤ k
    → Rises k (rank_of (loop_code a b head start behind (λ holds fails. test a holds fails) (λ again. code (inside a behind again) (Jumps again)) at).got) (loop_code a b head start behind (λ holds fails. test a holds fails) (λ again. code (inside a behind again) (Jumps again)) at).made
loop_rises true head start behind test code tests bodies a at k around le = endless_rises head behind code bodies a at k around le
loop_rises false head start behind test code tests bodies a at k around le =
    let to = lodge a head behind at in
    let p = lodge_rises a head behind at k around.catches le in
    rises_then k _ _ to.made _ p (looped_rises head start behind to.got test code tests bodies a (at + length to.made) (k + length to.made) (around_more a k to.made around) (more to.made le) p.top)

in_turn_rises : (b : Bool) (x : PlainFlatStmt) (later : Around → Rest → Numbered Rest) → CodeRises (λ a c at. split x a c at) → CodeRises later → CodeRises (λ a c at. (if b then split x a c else (later a c and_then λ rest. split x a rest)) at)
in_turn_rises true x later here behind a c at k around le = here a c at k around le
in_turn_rises false x later here behind a c at k around le =
    let rest = later a c at in
    let p = behind a c at k around le in
    rises_then k _ _ rest.made _ p (here a rest.got (at + length rest.made) (k + length rest.made) (around_more a k rest.made around) p.top)

-- All code

mutual
  unfolding split

  stmt_rises : (x : PlainFlatStmt) → CodeRises (λ a c at. split x a c at)
  stmt_rises FMark a c at k around le = rises_none k _ (front_small IMark c k le)
  stmt_rises (FSet x e) a c at k around le = rises_none k _ (front_small (ISet x e) c k le)
  stmt_rises (FPut x e) a c at k around le = rises_none k _ (front_small (IPut x e) c k le)
  stmt_rises (FGive e) a c at k around le = rises_none k _ (omega arith)
  stmt_rises (FFail kind e) a c at k around le = rises_none k _ (omega arith)
  stmt_rises (FCode x) a c at k around le = rises_none k _ (coded_small (goes_on x) x c k)
  stmt_rises FBreak a c at k around le = rises_none k _ around.breaks
  stmt_rises FContinue a c at k around le = rises_none k _ around.continues
  stmt_rises (FCall on callee args into after) a c at k around le = rises_then k _ 0 (lodge a after c at).made [] (lodge_rises a after c at k around.catches le) (rises_none _ 0 (omega arith))
  stmt_rises (FMake class args into after) a c at k around le = rises_then k _ 0 (lodge a after c at).made [] (lodge_rises a after c at k around.catches le) (rises_none _ 0 (omega arith))
  stmt_rises (FIf arms other after) a c at k around le =
      let join = joined a after c at in
      let at2 = at + length join.made in
      let rest = split_all other a join.got at2 in
      let p = joined_rises a after c at k around.catches le in
      let around2 = around_more a k join.made around in
      let q = stmts_rise other a join.got at2 (k + length join.made) around2 p.top in
      rises_then k _ _ join.made _ p (rises_then (k + length join.made) _ _ rest.made _ q
      (arms_rise arms a join.got rest.got (at2 + length rest.made) (k + length join.made + length rest.made) (around_more a _ rest.made around2) (more rest.made p.top) q.top))
  stmt_rises (FWhile head test start body after) a c at k around le =
      let behind = outlet a after c at in
      let p = outlet_rises a after c at k around.catches le in
      rises_then k _ _ behind.made _ p
      (loop_rises (always test) head start behind.got (λ a holds fails at. split_test test a holds fails at) (λ a c at. split_all body a c at) (test_rises test) (stmts_rise body) a (at + length behind.made) (k + length behind.made) (around_more a k behind.made around) p.top)
  stmt_rises (FTry start body clauses after) a c at k around le =
      let behind = outlet a after c at in
      let at2 = at + length behind.made in
      let ks = split_clauses clauses a behind.got at2 in
      let at3 = at2 + length ks.made in
      let inner = guarded a ks.got in
      let begin = split_all body inner behind.got at3 in
      let at4 = at3 + length begin.made in
      let to = lodge inner start begin.got at4 in
      let made4 = to.made ++ [] in
      let made3 = begin.made ++ made4 in
      let made2 = ks.made ++ made3 in
      let k2 = k + length behind.made in
      let k3 = k2 + length ks.made in
      let k4 = k3 + length begin.made in
      let p = outlet_rises a after c at k around.catches le in
      let around2 = around_more a k behind.made around in
      let q = clauses_rise clauses a behind.got at2 k2 around2 p.top in
      let inner3 = guarded_small a ks.got k3 q.top (around_more a k2 ks.made around2) in
      let r = stmts_rise body inner behind.got at3 k3 inner3 (more ks.made p.top) in
      let inner4 = around_more inner k3 begin.made inner3 in
      let s = lodge_rises inner start begin.got at4 k4 inner4.catches r.top in
      rises_then k _ _ behind.made made2 p (rises_then k2 _ _ ks.made made3 q (rises_then k3 _ _ begin.made made4 r (rises_then k4 _ _ to.made [] s (rises_none _ _ s.top))))

  stmts_rise : (xs : PlainFlatStmts) → CodeRises (λ a c at. split_all xs a c at)
  stmts_rise FNoStmt a c at k around le = rises_none k _ le
  stmts_rise (FStmt x xs) a c at k around le = in_turn_rises (stops x) x (λ a c at. split_all xs a c at) (stmt_rises x) (stmts_rise xs) a c at k around le

  arms_rise : (arms : PlainFlatArms) (a : Around) (c rest : Rest) (at k : ℕ) → AroundSmall a k → rank_of c ≤ k → rank_of rest ≤ k → Rises k (rank_of (split_arms arms a c rest at).got) (split_arms arms a c rest at).made
  arms_rise FNoArm a c rest at k around le last = rises_none k _ last
  arms_rise (FMoreArms (FArm test start body otherwise) more_arms) a c rest at k around le last =
      let later = split_arms more_arms a c rest at in
      let at2 = at + length later.made in
      let fails = lodge a otherwise later.got at2 in
      let at3 = at2 + length fails.made in
      let begin = split_all body a c at3 in
      let at4 = at3 + length begin.made in
      let holds = lodge a start begin.got at4 in
      let at5 = at4 + length holds.made in
      let tested = split_test test a holds.got fails.got at5 in
      let made4 = holds.made ++ tested.made in
      let made3 = begin.made ++ made4 in
      let made2 = fails.made ++ made3 in
      let k2 = k + length later.made in
      let k3 = k2 + length fails.made in
      let k4 = k3 + length begin.made in
      let k5 = k4 + length holds.made in
      let around3 = around_more a k2 fails.made (around_more a k later.made around) in
      let around5 = around_more a k4 holds.made (around_more a k3 begin.made around3) in
      let p = arms_rise more_arms a c rest at k around le last in
      let q = lodge_rises a otherwise later.got at2 k2 (around_more a k later.made around).catches p.top in
      let r = stmts_rise body a c at3 k3 around3 (more fails.made (more later.made le)) in
      let s = lodge_rises a start begin.got at4 k4 (around_more a k3 begin.made around3).catches r.top in
      let t = test_rises test a holds.got fails.got at5 k5 around5 s.top (more holds.made (more begin.made q.top)) in
      rises_then k _ _ later.made made2 p (rises_then k2 _ _ fails.made made3 q (rises_then k3 _ _ begin.made made4 r (rises_then k4 _ _ holds.made tested.made s t)))

  clauses_rise : (clauses : PlainFlatClauses) (a : Around) (c : Rest) (at k : ℕ) → AroundSmall a k → rank_of c ≤ k → Rises k (floor (split_clauses clauses a c at).got) (split_clauses clauses a c at).made
  clauses_rise FNoClause a c at k around le = rises_none k _ around.catches
  clauses_rise (FMoreClauses (FClause kinds start body) others) a c at k around le =
      let later = split_clauses others a c at in
      let at2 = at + length later.made in
      let begin = split_all body a c at2 in
      let at3 = at2 + length begin.made in
      let to = homed a start begin.got at3 in
      let made3 = to.made ++ [] in
      let made2 = begin.made ++ made3 in
      let k2 = k + length later.made in
      let k3 = k2 + length begin.made in
      let around2 = around_more a k later.made around in
      let around3 = around_more a k2 begin.made around2 in
      let p = clauses_rise others a c at k around le in
      let q = stmts_rise body a c at2 k2 around2 (more later.made le) in
      let r = homed_rises a start begin.got at3 k3 around3.catches q.top in
      let low : floor later.got ≤ k3 + length to.made = more to.made (more begin.made p.top) in
      rises_then k _ _ later.made made2 p (rises_then k2 _ _ begin.made made3 q
      (rises_then k3 _ _ to.made [] r (rises_none _ _ (floor_within (record { kinds = kinds; to = to.got }) later.got (k3 + length to.made) r.top low))))

  pub test_rises : (test : PlainFlatTest) → TestRises (λ a holds fails at. split_test test a holds fails at)
  test_rises (FLeaf before e) a holds fails at k around p q = stmts_rise before a (branch e holds fails) at k around (branch_small e holds fails k p q)
  test_rises (FNot test) a holds fails at k around p q = test_rises test a fails holds at k around q p
  test_rises (FAnd operands) a holds fails at k around p q = each_rises true operands a holds fails at k around p q
  test_rises (FOr operands) a holds fails at k around p q = each_rises false operands a holds fails at k around p q

  each_rises : (truth : Bool) (operands : PlainOperands) → TestRises (λ a holds fails at. split_each truth operands a holds fails at)
  each_rises true FNoOperand a holds fails at k around p q = rises_none k _ p
  each_rises false FNoOperand a holds fails at k around p q = rises_none k _ q
  each_rises true (FMoreOperands (FOperand test rest) others) a holds fails at k around p q =
      let later = split_each true others a holds fails at in
      let at2 = at + length later.made in
      let onward = lodge a rest later.got at2 in
      let k2 = k + length later.made in
      let first = each_rises true others a holds fails at k around p q in
      let second = lodge_rises a rest later.got at2 k2 (around_more a k later.made around).catches first.top in
      rises_then k _ _ later.made _ first (rises_then k2 _ _ onward.made _ second
      (test_rises test a onward.got fails (at2 + length onward.made) (k2 + length onward.made) (around_more a k2 onward.made (around_more a k later.made around)) second.top (more onward.made (more later.made q))))
  each_rises false (FMoreOperands (FOperand test rest) others) a holds fails at k around p q =
      let later = split_each false others a holds fails at in
      let at2 = at + length later.made in
      let onward = lodge a rest later.got at2 in
      let k2 = k + length later.made in
      let first = each_rises false others a holds fails at k around p q in
      let second = lodge_rises a rest later.got at2 k2 (around_more a k later.made around).catches first.top in
      rises_then k _ _ later.made _ first (rises_then k2 _ _ onward.made _ second
      (test_rises test a holds onward.got (at2 + length onward.made) (k2 + length onward.made) (around_more a k2 onward.made (around_more a k later.made around)) (more onward.made (more later.made p)) second.top))

pub ranks_are_small : RanksAreSmall
unfolding Within
ranks_are_small flat =
    let body = split_all (flat_stmts_of flat.body) outermost leave 1 in
    let p = stmts_rise (flat_stmts_of flat.body) outermost leave 1 1 (record { breaks = omega arith; continues = omega arith; catches = omega arith }) (omega arith) in
    let one : 1 + length body.made ≤ suc (length body.made) = omega arith in
    let top : rank_of body.got ≤ 1 + length body.made = p.top in
    more_within _ (block outermost flat.params body.got) body.made (omega (arith, top)) (wider _ _ body.made one p.all)
