-- What is left of a block, as code holds it: with its code in the other order, so that an item comes before it at the end of a list.
use Rattle.std.specs.Prelude.{Bool, true, false, List, [], ◌∷◌, map, reverse}
use Rattle.py_tree.specs.PlainStatements.{PlainStmt, PlainStmts, PNoStmt, PStmt}
use Rattle.block_code.specs.declared.item.Item.{Item}
use Rattle.block_code.specs.PlainBlocks.{PlainItem, ICode, plain_items, plain_end}
use Rattle.method_splitter.specs.declared.rest.Target as target
use Rattle.method_splitter.specs.declared.rest.Held.{Held}
use Rattle.method_splitter.specs.declared.rest.Rest as rest
use Rattle.method_splitter.specs.declared.rest.Rest.TheVariants as variant
use Rattle.method_splitter.specs.declared.around.Caught as caught
use Rattle.method_splitter.specs.declared.around.Around as around
use Rattle.method_splitter.specs.Split.{Target, Rest, Jumps, Holds, Caught, Around}

-- statements in the other order, before others
unfoldable pub onto : PlainStmts → PlainStmts → PlainStmts
onto PNoStmt ys = ys
onto (PStmt x xs) ys = onto xs (PStmt x ys)

-- an item with its statements in the other order
abbrev pub turned : PlainItem → PlainItem
turned (ICode xs) = ICode (onto xs PNoStmt)
turned i = i

-- code with a statement before it, which comes together with those with which it begins
abbrev pub with_statement : PlainStmt → List PlainItem → List PlainItem
with_statement x (ICode xs ∷ is) = ICode (PStmt x xs) ∷ is
with_statement x is = ICode (PStmt x PNoStmt) ∷ is

abbrev pub is_code : PlainItem → Bool
is_code (ICode xs) = true
is_code _ = false

abbrev pub begins_with_code : List PlainItem → Bool
begins_with_code [] = false
begins_with_code (i ∷ is) = is_code i

-- code that is held in the other order
abbrev pub code_from_end : List Item → List PlainItem
code_from_end items = reverse (map turned (plain_items items))

-- The views

abbrev pub plain_target : target.Target → Target
plain_target to = record { number = to.number; rank = to.rank }

abbrev pub plain_held : Held → Rest
plain_held h = Holds (code_from_end h.code) (plain_end h.end) h.rank

abbrev pub plain_rest : rest.Rest → Rest
plain_rest (variant.Jumps to) = Jumps (plain_target to)
plain_rest (variant.Holds h) = plain_held h

abbrev pub plain_caught : caught.Caught → Caught
plain_caught k = record { kinds = k.kinds; to = plain_target k.to }

abbrev pub plain_caughts : List caught.Caught → List Caught
plain_caughts = map plain_caught

abbrev pub plain_around : around.Around → Around
plain_around a = record { breaks = plain_rest a.breaks; continues = plain_rest a.continues; catches = plain_caughts a.catches }
