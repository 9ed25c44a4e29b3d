-- The parts of how code is split that functions are made for: an arm, the head and the body of a loop, a clause and the body of a `try`.
use Rattle.std.specs.Prelude.{◌≡◌, ℕ, ◌+◌, ◌≤◌, List, ◌∷◌, ◌++◌, length, slice_set, Result, Ok, Err}
use Rattle.block_code.specs.declared.block.Block.{Block}
use Rattle.block_code.specs.PlainBlocks.{PlainBlock, IMark, plain_blocks}
use Rattle.flat_tree.specs.PlainFlat.{Point, PlainFlatStmts, PlainFlatArm, FArm, PlainFlatClause, FClause, PlainFlatTest, PlainOperand, FOperand}
use Rattle.method_splitter.specs.declared.fault.SplitError.{SplitError}
use Rattle.method_splitter.specs.Split.{Target, Rest, Jumps, rank_of, Caught, Around, rank_in, block, front, Numbered, plain, ◌and_then◌, lodge, homed, inside, endless, split_all, split_test}
use Rattle.method_splitter.specs.Numbering.{no_block, Fails}

-- an arm that goes on at a rest, before the arms behind it
abbrev pub arm_code : PlainFlatArm → Around → Rest → Rest → Numbered Rest
arm_code (FArm test start body rest) a c later =
    lodge a rest later and_then λ fails.
    split_all body a c and_then λ first.
    lodge a start first and_then λ holds.
    split_test test a holds fails

-- an operand of `and`, and one of `or`, before the operands behind it
abbrev pub and_code : PlainOperand → Around → Target → Rest → Numbered Rest
and_code (FOperand test rest) a fails later = lodge a rest later and_then λ onward. split_test test a onward fails

abbrev pub or_code : PlainOperand → Around → Target → Rest → Numbered Rest
or_code (FOperand test rest) a holds later = lodge a rest later and_then λ onward. split_test test a holds onward

-- the body of a loop, with what stands around it
abbrev pub body_code : PlainFlatStmts → Around → Target → Numbered Rest
body_code body a again = split_all body a (Jumps again)

abbrev pub endless_code : PlainFlatStmts → Around → Point → Rest → Numbered Rest
endless_code body a head behind = endless a head (λ again. body_code body (inside a behind again) again)

-- the head of a loop, and the number of its body, which is made later
abbrev pub head_code : PlainFlatTest → Point → Around → Target → Numbered Target
head_code test head a fails at =
    let t = split_test test a (record { number = at + 1; rank = rank_in a 0 }) fails (at + 2) in
    record { got = record { number = at; rank = rank_in a (rank_of t.got) }; made = block a head t.got ∷ no_block ∷ t.made }

-- a clause that goes on at a rest, before the catches that come behind it
abbrev pub clause_code : PlainFlatClause → Around → Rest → List Caught → Numbered (List Caught)
clause_code (FClause kinds start body) a c later =
    split_all body a c and_then λ first.
    homed a start first and_then λ to.
    plain (record { kinds = kinds; to = to } ∷ later)

-- the body of a `try`, with what stands around it
abbrev pub guarded_code : PlainFlatStmts → Around → Point → Rest → Numbered Rest
guarded_code body a start c =
    split_all body a c and_then λ first.
    lodge a start first and_then λ to.
    plain (Jumps to)

-- the body is made at the number behind the head's
pub record BodyMade (m : Numbered Rest) (a : Around) (start : Point) (number : ℕ) (old new : List PlainBlock) : Type 0 where
  pub blocks : new ≡ slice_set (old ++ (m (length old)).made) number (block a start (front IMark (m (length old)).got))
  pub few : length new ≤ 4294967295

abbrev pub MakesBody : Numbered Rest → Around → Point → ℕ → List Block → List Block → {A : Type 0} → Result A SplitError → Type 0
MakesBody m a start number old new (Ok x) = BodyMade m a start number (plain_blocks old) (plain_blocks new)
MakesBody m a start number old new (Err e) = Fails m (plain_blocks old) e
