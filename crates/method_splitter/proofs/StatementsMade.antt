-- What is made of a statement, of a loop and of a test, by its parts.
use Rattle.std.proofs.Common.{◌≡◌, ℕ, zero, suc, ◌+◌, ◌<◌, ◌≤◌, arith, Bool, true, false, List, [], ◌∷◌, ◌++◌, length, slice_set, Option, Result, Ok, Err, length-append, length-set, append_assoc, refl, sym, ap, subst, ◌∙◌, true≢false}
use Rattle.py_tree.specs.Reachability.{goes_on}
use Rattle.py_tree.specs.PlainExpressions.{PlainExpr, PlainExprs}
use Rattle.block_code.specs.declared.block.Block.{Block}
use Rattle.block_code.specs.PlainBlocks.{PlainBlock, IMark, ISet, IPut, ECall, EMake, plain_blocks}
use Rattle.flat_tree.specs.declared.tree.Callee.{Callee}
use Rattle.flat_tree.specs.declared.tree.Created.{Created}
use Rattle.flat_tree.specs.PlainFlat.{Point, PlainFlatStmt, FMark, FSet, FPut, FGive, FFail, FCode, FBreak, FContinue, FCall, FMake, FIf, FWhile, FTry, PlainFlatStmts, PlainFlatArms, PlainFlatClauses, PlainFlatTest, FLeaf, FNot, FAnd, FOr, PlainOperands}
use Rattle.method_splitter.specs.declared.fault.SplitError.{SplitError}
use Rattle.method_splitter.specs.declared.fault.SplitError.TheVariants.{TooManyBlocks, NoMemory}
use Rattle.method_splitter.specs.declared.rest.Rest as left
use Rattle.method_splitter.specs.Split.{Target, Rest, Jumps, Holds, rank_of, Caught, Around, floor, rank_in, block, front, branch, Numbered, plain, ◌and_then◌, lodge, joined, outlet, inside, guarded, looped, loop_code, always, split, split_all, split_arms, split_clauses, split_test, split_each}
use Rattle.method_splitter.specs.SmallStatements.{is_small, small}
use Rattle.method_splitter.specs.SplitSteps.{body_code, endless_code, head_code, guarded_code, BodyMade}
use Rattle.method_splitter.specs.Numbering.{no_block, rank_below, Ready, AroundReady, Made, Fails, MakesRest}
use Rattle.method_splitter.proofs.NumberLaws.{made_then, fails_then, fails_first, made_plain}
use Rattle.method_splitter.proofs.RankLaws.{raised_within}
use Rattle.method_splitter.proofs.RanksAreSmall.{AroundSmall, around_up, front_small, coded_small, test_rises}

-- the last part answers for all
pub rest_then : {A : Type 0} (m : Numbered A) (f : A → Numbered Rest) (old mid new : List Block) (x : A) (k : ℕ) → Made m (plain_blocks old) (plain_blocks mid) x k → (res : Result left.Rest SplitError) → MakesRest (f x) mid new res
    → MakesRest (m and_then f) old new res
rest_then m f old mid new x k p (Ok r) q = made_then m f (plain_blocks old) (plain_blocks mid) (plain_blocks new) x k p _ _ q
rest_then m f old mid new x k p (Err e) q = fails_then m f (plain_blocks old) (plain_blocks mid) (plain_blocks mid) x k p e q

-- Blocks that are made later

set_there : (old : List PlainBlock) (x y : PlainBlock) (zs : List PlainBlock) → slice_set (old ++ x ∷ zs) (length old) y ≡ old ++ y ∷ zs
set_there [] x y zs = refl
set_there (o ∷ old) x y zs = ap (λ l. o ∷ l) (set_there old x y zs)

set_behind : (old : List PlainBlock) (w x y : PlainBlock) (zs : List PlainBlock) (i : ℕ) → i ≡ length old + 1 → slice_set (old ++ w ∷ x ∷ zs) i y ≡ old ++ w ∷ y ∷ zs
set_behind [] w x y zs i at = ap (λ j. slice_set (w ∷ x ∷ zs) j y) at
set_behind (o ∷ old) w x y zs zero at = absurd (omega (arith, at))
set_behind (o ∷ old) w x y zs (suc i) at = ap (λ l. o ∷ l) (set_behind old w x y zs i (omega (arith, at)))

module _ (old : List PlainBlock) (number : ℕ) (here : number ≡ length old) where
  pub endless_made : (body : PlainFlatStmts) (a inner : Around) (head : Point) (behind r : Rest) (k rank : ℕ) (one mid new : List PlainBlock) → AroundReady old a → rank ≡ rank_in a 0 → inner ≡ inside a behind (record { number = number; rank = rank })
      → one ≡ old ++ no_block ∷ [] → Made (body_code body inner (record { number = number; rank = rank })) one mid r k → new ≡ slice_set mid number (block a head (front IMark r))
      → Made (endless_code body a head behind) old new (Jumps (record { number = number; rank = rank })) (suc rank)
  endless_made body a inner head behind r k rank one mid new around ranked within is p sets =
      let long : length one ≡ length old + 1 = ap length is ∙ length-append old (no_block ∷ []) in
      let b = λ (again : Target) (n : ℕ). body_code body (inside a behind again) again n in
      let first : Target = record { number = length old; rank = rank_in a 0 } in
      let made = b first (length old + 1) in
      let q = subst (λ w. Made (body_code body w (record { number = number; rank = rank })) one mid r k) within p in
      let joined_up : mid ≡ old ++ no_block ∷ made.made =
      q.blocks ∙ (λ i. is i ++ (b (record { number = here i; rank = ranked i }) (long i)).made) ∙ append_assoc old (no_block ∷ []) _ in
      let got : r ≡ made.got = q.is ∙ (λ i. (b (record { number = here i; rank = ranked i }) (long i)).got) in
      let new_is : new ≡ old ++ block a head (front IMark made.got) ∷ made.made =
      sets ∙ (λ i. slice_set (joined_up i) (here i) (block a head (front IMark (got i)))) ∙ set_there old no_block _ _ in
      let same : length new ≡ length mid = ap length sets ∙ length-set mid number _ in
      let few : length mid ≤ 4294967295 = p.ready.few in
      let some : length new ≡ length old + suc (length made.made) = ap length new_is ∙ length-append old _ in
      let low : rank_in a 0 ≤ length old = raised_within (floor a.catches) 0 (length old) around.catches (omega arith) in
      record { blocks = new_is; is = (λ i. Jumps (record { number = here i; rank = ranked i })); ready = record { few = omega (arith, same, few); low = omega (arith, some, low, ranked) } }

  pub head_made : (test : PlainFlatTest) (head : Point) (a : Around) (fails : Target) (r : Rest) (k start first rank : ℕ) (one two mid new : List PlainBlock) → one ≡ old ++ no_block ∷ [] → start ≡ length one → two ≡ one ++ no_block ∷ []
      → AroundReady old a → first ≡ rank_in a 0 → Ready old (rank_below fails) → Made (split_test test a (record { number = start; rank = first }) fails) two mid r k → rank ≡ rank_in a (rank_of r) → new ≡ slice_set mid number (block a head r)
      → Made (head_code test head a fails) old new (record { number = number; rank = rank }) (suc rank)
  head_made test head a fails r k start first rank one two mid new is second is2 around begins less p ranked sets =
      let at = length old in
      let long : length one ≡ at + 1 = ap length is ∙ length-append old (no_block ∷ []) in
      let long2 : length two ≡ at + 2 = let l : length two ≡ length one + 1 = ap length is2 ∙ length-append one (no_block ∷ []) in omega (arith, l, long) in
      let t = λ (s low n : ℕ). split_test test a (record { number = s; rank = low }) fails n in
      let tested = t (at + 1) (rank_in a 0) (at + 2) in
      let joined_up : mid ≡ old ++ no_block ∷ no_block ∷ tested.made =
      p.blocks ∙ (λ i. (is2 ∙ ap (λ l. l ++ no_block ∷ []) is ∙ append_assoc old (no_block ∷ []) (no_block ∷ [])) i ++ (t ((second ∙ long) i) (begins i) (long2 i)).made) ∙ append_assoc old (no_block ∷ no_block ∷ []) _ in
      let got : r ≡ tested.got = p.is ∙ (λ i. (t ((second ∙ long) i) (begins i) (long2 i)).got) in
      let new_is : new ≡ old ++ block a head tested.got ∷ no_block ∷ tested.made =
      sets ∙ (λ i. slice_set (joined_up i) (here i) (block a head (got i))) ∙ set_there old no_block _ _ in
      let same : length new ≡ length mid = ap length sets ∙ length-set mid number _ in
      let few : length mid ≤ 4294967295 = p.ready.few in
      let some : length new ≡ at + suc (suc (length tested.made)) = ap length new_is ∙ length-append old _ in
      let low_catches : floor a.catches ≤ at = around.catches in
      let low_fails : suc fails.rank ≤ at = less.low in
      let low_first : rank_in a 0 ≤ at = raised_within (floor a.catches) 0 at low_catches (omega arith) in
      let small : AroundSmall a at = record { breaks = around.breaks; continues = around.continues; catches = low_catches } in
      let rises = test_rises test a (record { number = at + 1; rank = rank_in a 0 }) fails (at + 2) (at + 1) (around_up a at (at + 1) (omega arith) small) (omega (arith, low_first)) (omega (arith, low_fails)) in
      let top : rank_in a (rank_of tested.got) ≤ at + 1 + length tested.made = raised_within (floor a.catches) (rank_of tested.got) (at + 1 + length tested.made) (omega (arith, low_catches)) rises.top in
      let rank_is : rank ≡ rank_in a (rank_of tested.got) = ranked ∙ ap (λ r. rank_in a (rank_of r)) got in
      record { blocks = new_is; is = (λ i. record { number = here i; rank = rank_is i }); ready = record { few = omega (arith, same, few); low = omega (arith, some, top, rank_is) } }

pub looped_made : (old mid new : List PlainBlock) (test : PlainFlatTest) (head start : Point) (a : Around) (fails again : Target) (k : ℕ) (body : PlainFlatStmts) (behind : Rest) → Made (head_code test head a fails) old mid again k → suc again.rank ≤ length mid
    → BodyMade (body_code body (inside a behind again) again) a start (again.number + 1) mid new → Made (looped a head start (λ holds. split_test test a holds fails) (λ again. body_code body (inside a behind again) again)) old new (Jumps again) (suc again.rank)
looped_made old mid new test head start a fails again k body behind p low q =
    let at = length old in
    let t = split_test test a (record { number = at + 1; rank = rank_in a 0 }) fails (at + 2) in
    let first : Target = record { number = at; rank = rank_in a (rank_of t.got) } in
    let b = λ (to : Target) (n : ℕ). body_code body (inside a behind to) to n in
    let n = at + 2 + length t.made in
    let long : length mid ≡ n = let l : length mid ≡ at + suc (suc (length t.made)) = ap length p.blocks ∙ length-append old _ in omega (arith, l) in
    let number : again.number + 1 ≡ length old + 1 = ap (λ (to : Target). to.number + 1) p.is in
    let whole : mid ++ (b again (length mid)).made ≡ old ++ block a head t.got ∷ no_block ∷ (t.made ++ (b first n).made) =
    (λ i. p.blocks i ++ (b (p.is i) (long i)).made) ∙ append_assoc old (block a head t.got ∷ no_block ∷ t.made) _ in
    let new_is : new ≡ old ++ block a head t.got ∷ block a start (front IMark (b first n).got) ∷ (t.made ++ (b first n).made) =
    q.blocks ∙ (λ i. slice_set (whole i) (again.number + 1) (block a start (front IMark (b (p.is i) (long i)).got))) ∙ set_behind old _ _ _ _ _ number in
    let few : length new ≤ 4294967295 = q.few in
    let grown : length new ≡ at + suc (suc (length (t.made ++ (b first n).made))) = ap length new_is ∙ length-append old _ in
    let more : length (t.made ++ (b first n).made) ≡ length t.made + length (b first n).made = length-append t.made _ in
    record { blocks = new_is; is = ap Jumps p.is; ready = record { few = few; low = omega (arith, low, long, grown, more) } }

looped_fails : (old : List PlainBlock) (test : PlainFlatTest) (head start : Point) (a : Around) (fails : Target) (body : PlainFlatStmts) (behind : Rest) (e : SplitError) → Fails (head_code test head a fails) old e
    → Fails (looped a head start (λ holds. split_test test a holds fails) (λ again. body_code body (inside a behind again) again)) old e
looped_fails old test head start a fails body behind NoMemory h = tt
looped_fails old test head start a fails body behind TooManyBlocks h =
    let at = length old in
    let t = split_test test a (record { number = at + 1; rank = rank_in a 0 }) fails (at + 2) in
    let first : Target = record { number = at; rank = rank_in a (rank_of t.got) } in
    let b = body_code body (inside a behind first) first (at + 2 + length t.made) in
    let more : length (t.made ++ b.made) ≡ length t.made + length b.made = length-append t.made b.made in
    let many : 4294967295 < at + suc (suc (length t.made)) = h in
    omega (arith, more, many)

looped_fails_later : (old mid : List PlainBlock) (test : PlainFlatTest) (head start : Point) (a : Around) (fails again : Target) (k : ℕ) (body : PlainFlatStmts) (behind : Rest) (e : SplitError) → Made (head_code test head a fails) old mid again k
    → Fails (body_code body (inside a behind again) again) mid e → Fails (looped a head start (λ holds. split_test test a holds fails) (λ again. body_code body (inside a behind again) again)) old e
looped_fails_later old mid test head start a fails again k body behind NoMemory p h = tt
looped_fails_later old mid test head start a fails again k body behind TooManyBlocks p h =
    let at = length old in
    let t = split_test test a (record { number = at + 1; rank = rank_in a 0 }) fails (at + 2) in
    let first : Target = record { number = at; rank = rank_in a (rank_of t.got) } in
    let n = at + 2 + length t.made in
    let long : length mid ≡ n = let l : length mid ≡ at + suc (suc (length t.made)) = ap length p.blocks ∙ length-append old _ in omega (arith, l) in
    let b = body_code body (inside a behind first) first n in
    let same : length (body_code body (inside a behind again) again (length mid)).made ≡ length b.made = (λ i. length (body_code body (inside a behind (p.is i)) (p.is i) (long i)).made) in
    let more : length (t.made ++ b.made) ≡ length t.made + length b.made = length-append t.made b.made in
    let many : 4294967295 < length mid + length (body_code body (inside a behind again) again (length mid)).made = h in
    omega (arith, more, many, same, long)

-- Statements

small_low : (x : PlainFlatStmt) (a : Around) (c : Rest) (old : List PlainBlock) → AroundReady old a → Ready old (rank_of c) → rank_of (small x a c) ≤ length old
small_low FMark a c old around ready = front_small IMark c (length old) ready.low
small_low (FSet y e) a c old around ready = front_small (ISet y e) c (length old) ready.low
small_low (FPut y e) a c old around ready = front_small (IPut y e) c (length old) ready.low
small_low (FGive e) a c old around ready = omega arith
small_low (FFail kind e) a c old around ready = omega arith
small_low (FCode y) a c old around ready = coded_small (goes_on y) y c (length old)
small_low FBreak a c old around ready = around.breaks
small_low FContinue a c old around ready = around.continues
small_low (FCall on callee args into after) a c old around ready = ready.low
small_low (FMake class args into after) a c old around ready = ready.low
small_low (FIf arms other after) a c old around ready = ready.low
small_low (FWhile head test start body after) a c old around ready = ready.low
small_low (FTry start body clauses after) a c old around ready = ready.low

small_split : (x : PlainFlatStmt) (a : Around) (c : Rest) → is_small x ≡ true → split x a c ≡ plain (small x a c)
unfolding split
small_split FMark a c so = refl
small_split (FSet y e) a c so = refl
small_split (FPut y e) a c so = refl
small_split (FGive e) a c so = refl
small_split (FFail kind e) a c so = refl
small_split (FCode y) a c so = refl
small_split FBreak a c so = refl
small_split FContinue a c so = refl
small_split (FCall on callee args into after) a c so = absurd (true≢false (sym so))
small_split (FMake class args into after) a c so = absurd (true≢false (sym so))
small_split (FIf arms other after) a c so = absurd (true≢false (sym so))
small_split (FWhile head test start body after) a c so = absurd (true≢false (sym so))
small_split (FTry start body clauses after) a c so = absurd (true≢false (sym so))

pub small_made : (x : PlainFlatStmt) (a : Around) (c : Rest) (old : List PlainBlock) (r : Rest) → is_small x ≡ true → r ≡ small x a c → AroundReady old a → Ready old (rank_of c) → Made (split x a c) old old r (rank_of r)
small_made x a c old r so is around ready =
    let low : rank_of (small x a c) ≤ length old = small_low x a c old around ready in
    subst (λ (m : Numbered Rest). Made m old old r (rank_of r)) (sym (small_split x a c so))
    (made_plain (small x a c) r old (rank_of r) is (record { few = ready.few; low = subst (λ n. n ≤ length old) (sym (ap rank_of is)) low }))

module _ (x : PlainFlatStmt) (a : Around) (c : Rest) (old : List PlainBlock) where
  pub call_made : (on : PlainExpr) (callee : Callee) (args : PlainExprs) (into : ℕ) (after : Point) (mid : List PlainBlock) (to : Target) (k : ℕ) (r : Rest) → x ≡ FCall on callee args into after → Made (lodge a after c) old mid to k
      → r ≡ Holds [] (ECall on callee.class callee.method args into to.number) 0 → Made (split x a c) old mid r (rank_of r)
  unfolding split
  call_made on callee args into after mid to k r is p end =
      let here : Rest = Holds [] (ECall on callee.class callee.method args into to.number) 0 in
      subst (λ y. Made (split y a c) old mid r (rank_of r)) (sym is)
      (made_then (lodge a after c) (λ to. plain (Holds [] (ECall on callee.class callee.method args into to.number) 0)) old mid mid to k p r (rank_of r)
      (made_plain here r mid (rank_of r) end (record { few = p.ready.few; low = subst (λ n. n ≤ length mid) (sym (ap rank_of end)) (omega arith) })))

  pub call_fails : (on : PlainExpr) (callee : Callee) (args : PlainExprs) (into : ℕ) (after : Point) (e : SplitError) → x ≡ FCall on callee args into after → Fails (lodge a after c) old e → Fails (split x a c) old e
  unfolding split
  call_fails on callee args into after e is h = subst (λ y. Fails (split y a c) old e) (sym is) (fails_first (lodge a after c) (λ to. plain (Holds [] (ECall on callee.class callee.method args into to.number) 0)) old old old (record { number = 0; rank = 0 }) 0 e h)

  pub make_made : (class : Created) (args : PlainExprs) (into : ℕ) (after : Point) (mid : List PlainBlock) (to : Target) (k : ℕ) (r : Rest) → x ≡ FMake class args into after → Made (lodge a after c) old mid to k
      → r ≡ Holds [] (EMake class.class args into to.number) 0 → Made (split x a c) old mid r (rank_of r)
  unfolding split
  make_made class args into after mid to k r is p end =
      let here : Rest = Holds [] (EMake class.class args into to.number) 0 in
      subst (λ y. Made (split y a c) old mid r (rank_of r)) (sym is)
      (made_then (lodge a after c) (λ to. plain (Holds [] (EMake class.class args into to.number) 0)) old mid mid to k p r (rank_of r)
      (made_plain here r mid (rank_of r) end (record { few = p.ready.few; low = subst (λ n. n ≤ length mid) (sym (ap rank_of end)) (omega arith) })))

  pub make_fails : (class : Created) (args : PlainExprs) (into : ℕ) (after : Point) (e : SplitError) → x ≡ FMake class args into after → Fails (lodge a after c) old e → Fails (split x a c) old e
  unfolding split
  make_fails class args into after e is h = subst (λ y. Fails (split y a c) old e) (sym is) (fails_first (lodge a after c) (λ to. plain (Holds [] (EMake class.class args into to.number) 0)) old old old (record { number = 0; rank = 0 }) 0 e h)

module _ (x : PlainFlatStmt) (a : Around) (c : Rest) (arms : PlainFlatArms) (other : PlainFlatStmts) (after : Option Point) (is : x ≡ FIf arms other after) where
  abbrev others : Rest → Numbered Rest
  others join = split_all other a join and_then λ rest. split_arms arms a join rest

  pub if_makes : (old one two new : List Block) (join rest : Rest) (k l : ℕ) → Made (joined a after c) (plain_blocks old) (plain_blocks one) join k → Made (split_all other a join) (plain_blocks one) (plain_blocks two) rest l
      → (res : Result left.Rest SplitError) → MakesRest (split_arms arms a join rest) two new res → MakesRest (split x a c) old new res
  unfolding split
  if_makes old one two new join rest k l p q res h =
      subst (λ y. MakesRest (split y a c) old new res) (sym is)
      (rest_then (joined a after c) others old one new join k p res (rest_then (split_all other a join) (λ rest. split_arms arms a join rest) one two new rest l q res h))

  pub if_fails_joining : (old : List PlainBlock) (e : SplitError) → Fails (joined a after c) old e → Fails (split x a c) old e
  unfolding split
  if_fails_joining old e h = subst (λ y. Fails (split y a c) old e) (sym is) (fails_first (joined a after c) others old old old c 0 e h)

  pub if_fails : (old one : List PlainBlock) (join : Rest) (k : ℕ) (e : SplitError) → Made (joined a after c) old one join k → Fails (split_all other a join) one e → Fails (split x a c) old e
  unfolding split
  if_fails old one join k e p h =
      subst (λ y. Fails (split y a c) old e) (sym is)
      (fails_then (joined a after c) others old one one join k p e (fails_first (split_all other a join) (λ rest. split_arms arms a join rest) one one one c 0 e h))

  -- where a copy is what code goes on at
  pub if_fails_copied : (old one : List PlainBlock) (join last : Rest) (k : ℕ) (e : SplitError) → last ≡ join → Made (joined a after c) old one join k → Fails (split_all other a last) one e → Fails (split x a c) old e
  if_fails_copied old one join last k e same p h = if_fails old one join k e p (subst (λ r. Fails (split_all other a r) one e) same h)

module _ (x : PlainFlatStmt) (a : Around) (c : Rest) (head : Point) (test : PlainFlatTest) (start : Point) (body : PlainFlatStmts) (after : Option Point) (is : x ≡ FWhile head test start body after) where
  abbrev turns : Bool → Rest → Numbered Rest
  turns b behind = loop_code a b head start behind (λ holds fails. split_test test a holds fails) (λ again. split_all body (inside a behind again) (Jumps again))

  pub while_fails_joining : (old : List PlainBlock) (e : SplitError) → Fails (outlet a after c) old e → Fails (split x a c) old e
  unfolding split
  while_fails_joining old e h = subst (λ y. Fails (split y a c) old e) (sym is) (fails_first (outlet a after c) (turns (always test)) old old old c 0 e h)

  pub endless_makes : (old one new : List Block) (behind : Rest) (k : ℕ) → Made (outlet a after c) (plain_blocks old) (plain_blocks one) behind k → always test ≡ true → (res : Result left.Rest SplitError) → MakesRest (endless_code body a head behind) one new res
      → MakesRest (split x a c) old new res
  unfolding split
  endless_makes old one new behind k p so res h =
      subst (λ y. MakesRest (split y a c) old new res) (sym is)
      (rest_then (outlet a after c) (turns (always test)) old one new behind k p res (subst (λ b. MakesRest (turns b behind) one new res) (sym so) h))

  module _ (old one : List PlainBlock) (behind : Rest) (k : ℕ) (p : Made (outlet a after c) old one behind k) (so : always test ≡ false) where
    from_turns : (new : List PlainBlock) (r : Rest) (l : ℕ) → Made (turns false behind) one new r l → Made (split x a c) old new r l
    unfolding split
    from_turns new r l q =
        subst (λ y. Made (split y a c) old new r l) (sym is)
        (made_then (outlet a after c) (turns (always test)) old one new behind k p r l (subst (λ b. Made (turns b behind) one new r l) (sym so) q))

    fails_turns : (e : SplitError) → Fails (turns false behind) one e → Fails (split x a c) old e
    unfolding split
    fails_turns e h =
        subst (λ y. Fails (split y a c) old e) (sym is)
        (fails_then (outlet a after c) (turns (always test)) old one one behind k p e (subst (λ b. Fails (turns b behind) one e) (sym so) h))

    abbrev rounds : Target → Numbered Rest
    rounds fails = looped a head start (λ holds. split_test test a holds fails) (λ again. split_all body (inside a behind again) (Jumps again))

    pub while_fails_lodging : (e : SplitError) → Fails (lodge a head behind) one e → Fails (split x a c) old e
    while_fails_lodging e h = fails_turns e (fails_first (lodge a head behind) rounds one one one (record { number = 0; rank = 0 }) 0 e h)

    pub while_fails_copied : (copied : Rest) (e : SplitError) → copied ≡ behind → Fails (lodge a head copied) one e → Fails (split x a c) old e
    while_fails_copied copied e same h = while_fails_lodging e (subst (λ r. Fails (lodge a head r) one e) same h)

    module _ (two : List PlainBlock) (fails : Target) (l : ℕ) (q : Made (lodge a head behind) one two fails l) where
      pub while_fails_heading : (e : SplitError) → Fails (head_code test head a fails) two e → Fails (split x a c) old e
      while_fails_heading e h = fails_turns e (fails_then (lodge a head behind) rounds one two two fails l q e (looped_fails two test head start a fails body behind e h))

      pub while_fails_turning : (mid : List PlainBlock) (again : Target) (inner : Around) (m : ℕ) (e : SplitError) → inner ≡ inside a behind again → Made (head_code test head a fails) two mid again m → Fails (body_code body inner again) mid e → Fails (split x a c) old e
      while_fails_turning mid again inner m e within r h =
          fails_turns e (fails_then (lodge a head behind) rounds one two two fails l q e (looped_fails_later two mid test head start a fails again m body behind e r (subst (λ w. Fails (body_code body w again) mid e) within h)))

      pub while_made : (mid new : List PlainBlock) (again : Target) (inner : Around) (m : ℕ) → inner ≡ inside a behind again → Made (head_code test head a fails) two mid again m → suc again.rank ≤ length mid → BodyMade (body_code body inner again) inner start (again.number + 1) mid new
          → Made (split x a c) old new (Jumps again) (suc again.rank)
      while_made mid new again inner m within r low h =
          let b = subst (λ w. BodyMade (body_code body w again) w start (again.number + 1) mid new) within h in
          from_turns new (Jumps again) (suc again.rank) (made_then (lodge a head behind) rounds one two new fails l q (Jumps again) (suc again.rank) (looped_made two mid new test head start a fails again m body behind r low (record { blocks = b.blocks; few = b.few })))

module _ (x : PlainFlatStmt) (a : Around) (c : Rest) (start : Point) (body : PlainFlatStmts) (clauses : PlainFlatClauses) (after : Option Point) (is : x ≡ FTry start body clauses after) where
  abbrev guarding : Rest → Numbered Rest
  guarding behind = split_clauses clauses a behind and_then λ ks. guarded_code body (guarded a ks) start behind

  pub try_fails_joining : (old : List PlainBlock) (e : SplitError) → Fails (outlet a after c) old e → Fails (split x a c) old e
  unfolding split
  try_fails_joining old e h = subst (λ y. Fails (split y a c) old e) (sym is) (fails_first (outlet a after c) guarding old old old c 0 e h)

  pub try_fails_clauses : (old one : List PlainBlock) (behind : Rest) (k : ℕ) (e : SplitError) → Made (outlet a after c) old one behind k → Fails (split_clauses clauses a behind) one e → Fails (split x a c) old e
  unfolding split
  try_fails_clauses old one behind k e p h =
      subst (λ y. Fails (split y a c) old e) (sym is)
      (fails_then (outlet a after c) guarding old one one behind k p e (fails_first (split_clauses clauses a behind) (λ ks. guarded_code body (guarded a ks) start behind) one one one [] 0 e h))

  pub try_makes : (old one two new : List Block) (behind : Rest) (ks : List Caught) (inner : Around) (k l : ℕ) → inner ≡ guarded a ks → Made (outlet a after c) (plain_blocks old) (plain_blocks one) behind k
      → Made (split_clauses clauses a behind) (plain_blocks one) (plain_blocks two) ks l → (res : Result left.Rest SplitError) → MakesRest (guarded_code body inner start behind) two new res → MakesRest (split x a c) old new res
  unfolding split
  try_makes old one two new behind ks inner k l within p q res h =
      subst (λ y. MakesRest (split y a c) old new res) (sym is)
      (rest_then (outlet a after c) guarding old one new behind k p res
      (rest_then (split_clauses clauses a behind) (λ ks. guarded_code body (guarded a ks) start behind) one two new ks l q res (subst (λ w. MakesRest (guarded_code body w start behind) two new res) within h)))

pub guarded_fails_lodging : (body : PlainFlatStmts) (a : Around) (start : Point) (c : Rest) (old mid : List PlainBlock) (first : Rest) (k : ℕ) (e : SplitError) → Made (split_all body a c) old mid first k → Fails (lodge a start first) mid e → Fails (guarded_code body a start c) old e
guarded_fails_lodging body a start c old mid first k e p h =
    fails_then (split_all body a c) (λ first. lodge a start first and_then λ to. plain (Jumps to)) old mid mid first k p e
    (fails_first (lodge a start first) (λ to. plain (Jumps to)) mid mid mid (record { number = 0; rank = 0 }) 0 e h)

-- Tests

module _ (x : PlainFlatTest) (a : Around) (holds fails : Target) (old new : List Block) (res : Result left.Rest SplitError) where
  pub leaf_makes : (before : PlainFlatStmts) (e : PlainExpr) (r : Rest) → x ≡ FLeaf before e → r ≡ branch e holds fails → MakesRest (split_all before a r) old new res → MakesRest (split_test x a holds fails) old new res
  unfolding split
  leaf_makes before e r is same h = subst (λ y. MakesRest (split_test y a holds fails) old new res) (sym is) (subst (λ d. MakesRest (split_all before a d) old new res) same h)

  pub not_makes : (test : PlainFlatTest) → x ≡ FNot test → MakesRest (split_test test a fails holds) old new res → MakesRest (split_test x a holds fails) old new res
  unfolding split
  not_makes test is h = subst (λ y. MakesRest (split_test y a holds fails) old new res) (sym is) h

  pub and_makes : (operands : PlainOperands) → x ≡ FAnd operands → MakesRest (split_each true operands a holds fails) old new res → MakesRest (split_test x a holds fails) old new res
  unfolding split
  and_makes operands is h = subst (λ y. MakesRest (split_test y a holds fails) old new res) (sym is) h

  pub or_makes : (operands : PlainOperands) → x ≡ FOr operands → MakesRest (split_each false operands a holds fails) old new res → MakesRest (split_test x a holds fails) old new res
  unfolding split
  or_makes operands is h = subst (λ y. MakesRest (split_test y a holds fails) old new res) (sym is) h
