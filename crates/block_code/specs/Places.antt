-- Where the blocks of methods stand, class by class.
use Rattle.std.specs.Prelude.{ℕ, ◌+◌, List, [], ◌∷◌, length, slice_get, slice_index_or}
use Rattle.std.specs.declared.option.Option.{Option}
use Rattle.py_tree.specs.ClassRules.{PlainTable}
use Rattle.block_code.specs.PlainBlocks.{PlainBlock}

-- for each class how many methods stand before its own, where so many stand before the first
unfoldable pub firsts_from : ℕ → List PlainTable → List ℕ
firsts_from place [] = []
firsts_from place (t ∷ ts) = place ∷ firsts_from (place + length t.methods) ts

-- how many methods the classes before one have
abbrev pub first_place : List PlainTable → ℕ → ℕ
first_place tables class = slice_index_or (firsts_from 0 tables) class 0

-- where the blocks of a method stand among those of all methods
abbrev pub method_place : List PlainTable → ℕ → ℕ → ℕ
method_place tables class method = first_place tables class + method

-- the blocks of a method
abbrev pub blocks_of : List PlainTable → List (List PlainBlock) → ℕ → ℕ → List PlainBlock
blocks_of tables graph class method = slice_index_or graph (method_place tables class method) []

abbrev pub block_at : List PlainTable → List (List PlainBlock) → ℕ → ℕ → ℕ → Option PlainBlock
block_at tables graph class method number = slice_get (blocks_of tables graph class method) number
