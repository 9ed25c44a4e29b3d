-- Small code and small blocks, with what they read first and what is live in them.
use Rattle.std.proofs.Common.{◌≡◌, ℕ, true, false, inr, Some, None, List, [], ◌∷◌, refl}
use Rattle.std.specs.Prelude.{pos}
use Rattle.py_tree.specs.declared.names.Place.{Place}
use Rattle.py_tree.specs.declared.expr.BinOp.TheVariants as op
use Rattle.py_tree.specs.declared.stmt.Target.TheVariants as target
use Rattle.py_tree.specs.PlainTypes.{TInt}
use Rattle.py_tree.specs.PlainExpressions.{PlainExpr, PInt, PBool, PVar, PSelf, PNoExpr}
use Rattle.py_tree.specs.PlainStatements.{PlainStmt, PBreak, PReturn, PAssign, PAugment, PIf, PWhile, PFor, PItems, PlainStmts, PNoStmt, PStmt, PArm, PNoArm, PMoreArms}
use Rattle.block_code.specs.PlainVars.{PlainVar}
use Rattle.block_code.specs.PlainBlocks.{PlainItem, IMark, ISet, IGive, PlainEnd, EJump, EBranch, ELeave, ECall, PlainCatch, PlainBlock}
use Rattle.live_laws.specs.Reads.{reads, all_read_first, all_spare}
use Rattle.live_laws.specs.Live.{items_read, items_spare, Live, here, behind, at_catch}

-- three variables
abbrev total : ℕ
total = 101

abbrev item : ℕ
item = 102

abbrev count : ℕ
count = 103

abbrev at : Place
at = record { line = 7; col = 5 }

abbrev the : ℕ → PlainExpr
the x = PVar at x

abbrev is_zero : ℕ → PlainStmt
is_zero x = PAssign at (target.Local (record { name = record { 0 = x }; place = at })) None (PInt at (pos 0))

abbrev one_more : ℕ → PlainStmt
one_more x = PAugment at (target.Local (record { name = record { 0 = x }; place = at })) op.Add at (PInt at (pos 1))

abbrev gives : ℕ → PlainStmts
gives x = PStmt (PReturn at (Some (the x))) PNoStmt

-- `if count: total = 0`, and then `return total`
abbrev one_arm : PlainStmts
one_arm = PStmt (PIf at (PMoreArms (PArm (the count) (PStmt (is_zero total) PNoStmt)) PNoArm) PNoStmt) (gives total)

one_arm_reads : all_read_first one_arm total ≡ true
unfolding all_read_first all_spare reads
one_arm_reads = refl

-- with `else: total = 0`
abbrev two_arms : PlainStmts
two_arms = PStmt (PIf at (PMoreArms (PArm (the count) (PStmt (is_zero total) PNoStmt)) PNoArm) (PStmt (is_zero total) PNoStmt)) (gives total)

two_arms_assign : all_read_first two_arms total ≡ false
unfolding all_read_first all_spare reads
two_arms_assign = refl

two_arms_read : all_read_first two_arms count ≡ true
unfolding all_read_first all_spare reads
two_arms_read = refl

-- `total += 1`
augment_reads : all_read_first (PStmt (one_more total) PNoStmt) total ≡ true
unfolding all_read_first reads
augment_reads = refl

augment_assigns : all_spare (PStmt (one_more total) PNoStmt) total ≡ false
unfolding all_spare
augment_assigns = refl

-- `for item in total: item += 1`, and then `return item`
abbrev over_items : PlainStmts
over_items = PStmt (PFor at item at (PItems (the total)) (PStmt (one_more item) PNoStmt)) PNoStmt

each_turn_assigns : all_read_first over_items item ≡ false
unfolding all_read_first all_spare reads
each_turn_assigns = refl

no_turn_assigns : all_spare over_items item ≡ true
unfolding all_spare
no_turn_assigns = refl

-- `while True:` with `total = 0` and a `break`, and then `return total`; and the two in the other order
abbrev until : PlainStmts → PlainStmts
until body = PStmt (PWhile at (PBool at true) body) (gives total)

assigned_before_break : all_read_first (until (PStmt (is_zero total) (PStmt (PBreak at) PNoStmt))) total ≡ false
unfolding all_read_first all_spare reads
assigned_before_break = refl

assigned_behind_break : all_read_first (until (PStmt (PBreak at) (PStmt (is_zero total) PNoStmt))) total ≡ true
unfolding all_read_first all_spare reads
assigned_behind_break = refl

-- Blocks

abbrev ints : List ℕ → List PlainVar
ints [] = []
ints (x ∷ xs) = record { name = x; ty = TInt } ∷ ints xs

abbrev block : List ℕ → List PlainItem → PlainEnd → List PlainCatch → PlainBlock
block names code end catches = record { params = ints names; code = code; end = end; rank = 0; catches = catches }

-- while `count` is True a call gives the next `count`; behind the loop `total` is returned
abbrev loop : List PlainBlock
loop =
    block (total ∷ count ∷ []) [] (EJump 1) []
    ∷ block (total ∷ count ∷ []) (IMark ∷ []) (EBranch (the count) 2 3) []
    ∷ block (total ∷ []) (IMark ∷ []) (ECall (PSelf at) 0 0 PNoExpr count 1) []
    ∷ block (total ∷ []) (IGive (the total) ∷ []) ELeave []
    ∷ []

live_in_loop : Live loop total 2
unfolding items_spare items_read reads
live_in_loop = behind {next = 1} {b = block (total ∷ []) (IMark ∷ []) (ECall (PSelf at) 0 0 PNoExpr count 1) []} refl refl (refl, refl) (behind {next = 3} {b = block (total ∷ count ∷ []) (IMark ∷ []) (EBranch (the count) 2 3) []} refl refl (inr refl) (here {b = block (total ∷ []) (IGive (the total) ∷ []) ELeave []} refl refl))

-- `total` is assigned first, but a failure before that goes on where it is returned
abbrev caught : List PlainBlock
caught =
    block (total ∷ count ∷ []) [] (EJump 1) []
    ∷ block (total ∷ count ∷ []) (ISet total (the count) ∷ []) (ECall (PSelf at) 0 0 PNoExpr total 2) (record { kinds = 4 ∷ []; to = 2 } ∷ [])
    ∷ block (total ∷ []) (IGive (the total) ∷ []) ELeave []
    ∷ []

live_at_catch : Live caught total 1
unfolding items_read reads
live_at_catch = at_catch {b = block (total ∷ count ∷ []) (ISet total (the count) ∷ []) (ECall (PSelf at) 0 0 PNoExpr total 2) (record { kinds = 4 ∷ []; to = 2 } ∷ [])} {k = record { kinds = 4 ∷ []; to = 2 }} 0 refl refl (here {b = block (total ∷ []) (IGive (the total) ∷ []) ELeave []} refl refl)
