-- The blocks of a flat method.
--
-- Code is split from its end, so that it is known where a statement goes on before the statement is split. What stands behind it is then
-- what is left of a block. It becomes a block where ways meet, where a test leads on, and where a call or a creation returns; what
-- only jumps makes none, but for the start of a clause. Blocks have numbers in the order in which they are made, from 1 on; the method begins at block 0.
use Rattle.std.specs.Prelude.{ℕ, zero, suc, ◌+◌, max, map, Bool, true, false, List, [], ◌∷◌, ◌++◌, length, Some, None, if◌then◌else◌}
use Rattle.std.specs.declared.option.Option.{Option}
use Rattle.py_tree.specs.PlainExpressions.{PlainExpr}
use Rattle.py_tree.specs.PlainStatements.{PlainStmt, PNoStmt, PStmt}
use Rattle.py_tree.specs.Reachability.{is_true, goes_on}
use Rattle.block_code.specs.PlainBlocks.{PlainItem, IMark, ISet, IPut, IGive, IFail, ICode, PlainEnd, EJump, EBranch, ELeave, ECall, EMake, PlainCatch, PlainBlock}
use Rattle.block_code.specs.GraphFits.{takes_step}
use Rattle.flat_tree.specs.PlainFlat.{Point, PlainFlatStmt, FMark, FSet, FPut, FGive, FFail, FCode, FBreak, FContinue, FCall, FMake, FIf, FWhile, FTry, PlainFlatStmts, FNoStmt, FStmt, FArm, PlainFlatArms, FNoArm, FMoreArms, FClause, PlainFlatClauses, FNoClause, FMoreClauses, PlainFlatTest, FLeaf, FNot, FAnd, FOr, FOperand, PlainOperands, FNoOperand, FMoreOperands, PlainFlat, flat_stmts_of}

-- What is left of a block

-- a block by its number, with its rank
pub record Target : Type 0 where
  pub number : ℕ
  pub rank : ℕ

-- what is left of a block from some point on: nothing but a jump, or code and an end, with the rank of a block that holds no more
pub data Rest : Type 0 where
  Jumps : (to : Target) → Rest
  Holds : (code : List PlainItem) → (end : PlainEnd) → (rank : ℕ) → Rest

abbrev pub code_of : Rest → List PlainItem
code_of (Jumps to) = []
code_of (Holds code end rank) = code

abbrev pub end_of : Rest → PlainEnd
end_of (Jumps to) = EJump to.number
end_of (Holds code end rank) = end

-- the rank of a block that holds this: more than that of each block where it goes on without a step
abbrev pub rank_of : Rest → ℕ
rank_of (Jumps to) = suc to.rank
rank_of (Holds code end rank) = rank

-- What stands around code

-- failures of these kinds go on there
pub record Caught : Type 0 where
  pub kinds : List ℕ
  pub to : Target

-- where `break` and `continue` go on, and where failures do: the clauses of the innermost `try` come first
pub record Around : Type 0 where
  pub breaks : Rest
  pub continues : Rest
  pub catches : List Caught

abbrev pub catch_in : Caught → PlainCatch
catch_in k = record { kinds = k.kinds; to = k.to.number }

abbrev pub catches_in : List Caught → List PlainCatch
catches_in = map catch_in

-- the least rank that is greater than those of all blocks where failures go on
abbrev pub floor : List Caught → ℕ
floor [] = 0
floor (k ∷ ks) = max (suc k.to.rank) (floor ks)

-- a rank that is no less than a floor; where there is none, it stays what it is
abbrev pub raised : (low rank : ℕ) → ℕ
raised zero rank = rank
raised (suc low) rank = max rank (suc low)

-- the rank of a block of code that stands here
abbrev pub rank_in : Around → ℕ → ℕ
rank_in a rank = raised (floor a.catches) rank

abbrev pub block : Around → Point → Rest → PlainBlock
block a params rest = record { params = params; code = code_of rest; end = end_of rest; rank = rank_in a (rank_of rest); catches = catches_in a.catches }

-- where the method ends
abbrev pub leave : Rest
leave = Holds [] ELeave 0

-- an item before it; what takes a step has rank 0
abbrev pub front : PlainItem → Rest → Rest
front i rest = Holds (i ∷ code_of rest) (end_of rest) (if takes_step i then 0 else rank_of rest)

-- a statement of the source before it; those that follow one another come together
abbrev pub front_code : PlainStmt → Rest → Rest
front_code x (Holds (ICode xs ∷ is) end rank) = Holds (ICode (PStmt x xs) ∷ is) end 0
front_code x rest = front (ICode (PStmt x PNoStmt)) rest

-- a statement of the source, behind which nothing stands where it doesn't go on
abbrev pub coded : Bool → PlainStmt → Rest → Rest
coded true x rest = front_code x rest
coded false x rest = front_code x leave

abbrev pub branch : PlainExpr → Target → Target → Rest
branch test holds fails = Holds [] (EBranch test holds.number fails.number) (suc (max holds.rank fails.rank))

-- Numbers

-- something, and the blocks that were made for it
pub record Placed (A : Type 0) : Type 0 where
  pub got : A
  pub made : List PlainBlock

-- from the first number that is free
abbrev pub Numbered : Type 0 → Type 0
Numbered A = ℕ → Placed A

abbrev pub plain : {A : Type 0} → A → Numbered A
plain x at = record { got = x; made = [] }

-- one, and then another with the numbers behind it
infixl 10 ◌and_then◌
abbrev pub ◌and_then◌ : {A B : Type 0} → Numbered A → (A → Numbered B) → Numbered B
(m and_then f) at = record { got = (f (m at).got (at + length (m at).made)).got; made = (m at).made ++ (f (m at).got (at + length (m at).made)).made }

-- the block where a rest begins, which has these parameters; what only jumps needs none of its own
abbrev pub lodge : Around → Point → Rest → Numbered Target
lodge a params (Jumps to) at = record { got = to; made = [] }
lodge a params (Holds code end rank) at = record { got = record { number = at; rank = rank_in a rank }; made = block a params (Holds code end rank) ∷ [] }

-- a block of its own, whatever is left
abbrev pub homed : Around → Point → Rest → Numbered Target
homed a params rest at = record { got = record { number = at; rank = rank_in a (rank_of rest) }; made = block a params rest ∷ [] }

-- where several ways meet, if one leads there
abbrev pub joined : Around → Option Point → Rest → Numbered Rest
joined a None rest = plain rest
joined a (Some point) rest = lodge a point rest and_then λ to. plain (Jumps to)

-- behind a loop or a `try`, whose parts may have other catches than what stands there: these parts only jump there, or end the method
abbrev pub outlet : Around → Option Point → Rest → Numbered Rest
outlet a None rest = plain leave
outlet a (Some point) rest = lodge a point rest and_then λ to. plain (Jumps to)

-- Loops

-- within a loop `break` goes on behind it, and `continue` at a turn
abbrev pub inside : Around → Rest → Target → Around
inside a behind again = record { breaks = behind; continues = Jumps again; catches = a.catches }

-- a loop goes on at its head: the block of the test has the first number, and the block of the body, which begins with the turn's step, the
-- one behind it; the test is split for the block where it holds, and the body for the one where a turn goes on
abbrev pub looped : Around → (head start : Point) → (Target → Numbered Rest) → (Target → Numbered Rest) → Numbered Rest
looped a head start test body at =
    let t = test (record { number = at + 1; rank = rank_in a 0 }) (at + 2) in
    let again : Target = record { number = at; rank = rank_in a (rank_of t.got) } in
    let b = body again (at + 2 + length t.made) in
    record { got = Jumps again; made = block a head t.got ∷ block a start (front IMark b.got) ∷ t.made ++ b.made }

-- a loop whose test always holds has one block
abbrev pub endless : Around → Point → (Target → Numbered Rest) → Numbered Rest
endless a head body at =
    let again : Target = record { number = at; rank = rank_in a 0 } in
    let b = body again (at + 1) in
    record { got = Jumps again; made = block a head (front IMark b.got) ∷ b.made }

-- a test that is the literal True
abbrev pub always : PlainFlatTest → Bool
always (FLeaf FNoStmt e) = is_true e
always _ = false

-- a loop that goes on at a rest behind it; whether its test always holds
abbrev pub loop_code : Around → Bool → (head start : Point) → Rest → (Target → Target → Numbered Rest) → (Target → Numbered Rest) → Numbered Rest
loop_code a true head start behind test body = endless a head body
loop_code a false head start behind test body = lodge a head behind and_then λ fails. looped a head start (λ holds. test holds fails) body

-- `try`

-- in the body of a `try` failures go on elsewhere
abbrev pub guarded : Around → List Caught → Around
guarded a ks = record { breaks = a.breaks; continues = a.continues; catches = ks }

-- Code

-- nothing goes on behind these
abbrev pub stops : PlainFlatStmt → Bool
stops (FGive e) = true
stops (FFail kind e) = true
stops FBreak = true
stops FContinue = true
stops _ = false

unfoldable mutual
  -- the rest where a statement begins that goes on at another
  pub split : PlainFlatStmt → Around → Rest → Numbered Rest
  split FMark a c = plain (front IMark c)
  split (FSet x e) a c = plain (front (ISet x e) c)
  split (FPut x e) a c = plain (front (IPut x e) c)
  split (FGive e) a c = plain (front (IGive e) leave)
  split (FFail kind e) a c = plain (front (IFail kind e) leave)
  split (FCode x) a c = plain (coded (goes_on x) x c)
  split FBreak a c = plain a.breaks
  split FContinue a c = plain a.continues
  split (FCall on callee args into after) a c = lodge a after c and_then λ to. plain (Holds [] (ECall on callee.class callee.method args into to.number) 0)
  split (FMake class args into after) a c = lodge a after c and_then λ to. plain (Holds [] (EMake class.class args into to.number) 0)
  split (FIf arms other after) a c = joined a after c and_then λ join. split_all other a join and_then λ rest. split_arms arms a join rest
  split (FWhile head test start body after) a c =
      outlet a after c and_then λ behind.
      loop_code a (always test) head start behind (λ holds fails. split_test test a holds fails) (λ again. split_all body (inside a behind again) (Jumps again))
  split (FTry start body clauses after) a c =
      outlet a after c and_then λ behind.
      split_clauses clauses a behind and_then λ ks.
      split_all body (guarded a ks) behind and_then λ first.
      lodge (guarded a ks) start first and_then λ to.
      plain (Jumps to)

  pub split_all : PlainFlatStmts → Around → Rest → Numbered Rest
  split_all FNoStmt a c = plain c
  split_all (FStmt x xs) a c = if stops x then split x a c else (split_all xs a c and_then λ rest. split x a rest)

  -- each arm goes on at the same rest; the last one is where what follows all arms begins
  pub split_arms : PlainFlatArms → Around → Rest → Rest → Numbered Rest
  split_arms FNoArm a c other = plain other
  split_arms (FMoreArms (FArm test start body rest) more) a c other =
      split_arms more a c other and_then λ later.
      lodge a rest later and_then λ fails.
      split_all body a c and_then λ first.
      lodge a start first and_then λ holds.
      split_test test a holds fails

  -- where failures in the body of a `try` go on: at its clauses, each of which begins a block and ends where the `try` does, and then as
  -- around it
  pub split_clauses : PlainFlatClauses → Around → Rest → Numbered (List Caught)
  split_clauses FNoClause a c = plain a.catches
  split_clauses (FMoreClauses (FClause kinds start body) more) a c =
      split_clauses more a c and_then λ later.
      split_all body a c and_then λ first.
      homed a start first and_then λ to.
      plain (record { kinds = kinds; to = to } ∷ later)

  -- a test goes on at one block where it holds, and at another where it doesn't
  pub split_test : PlainFlatTest → Around → Target → Target → Numbered Rest
  split_test (FLeaf before e) a holds fails = split_all before a (branch e holds fails)
  split_test (FNot test) a holds fails = split_test test a fails holds
  split_test (FAnd operands) a holds fails = split_each true operands a holds fails
  split_test (FOr operands) a holds fails = split_each false operands a holds fails

  -- operands of `and`, each of which is to hold, or of `or`, none of which is to
  pub split_each : Bool → PlainOperands → Around → Target → Target → Numbered Rest
  split_each truth FNoOperand a holds fails = plain (Jumps (if truth then holds else fails))
  split_each true (FMoreOperands (FOperand test rest) more) a holds fails =
      split_each true more a holds fails and_then λ later. lodge a rest later and_then λ onward. split_test test a onward fails
  split_each false (FMoreOperands (FOperand test rest) more) a holds fails =
      split_each false more a holds fails and_then λ later. lodge a rest later and_then λ onward. split_test test a holds onward

-- outside all loops and every `try`
abbrev pub outermost : Around
outermost = record { breaks = leave; continues = leave; catches = [] }

-- the blocks of a flat method; the first has its parameters
abbrev pub split_blocks : PlainFlat → List PlainBlock
split_blocks flat =
    let body = split_all (flat_stmts_of flat.body) outermost leave 1 in
    block outermost flat.params body.got ∷ body.made
