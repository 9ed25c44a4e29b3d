-- The compiled graph of a program: for each class and each of its methods, in text order, the blocks of the flat method.
use Rattle.std.specs.Prelude.{ℕ, ◌+◌, Bool, List, [], ◌∷◌, ◌++◌}
use Rattle.py_tree.specs.PlainProgram.{PlainMethod, PlainClass, PlainProgram}
use Rattle.py_tree.specs.ClassRules.{methods_of}
use Rattle.block_code.specs.PlainBlocks.{PlainBlock}
pub use Rattle.hoisting.specs.FlatMethods.{found_locals, context_of, start_locals, flat_method}
use Rattle.method_splitter.specs.Split.{split_blocks}

module _ (names : List (List ℕ)) (program : PlainProgram) where
  -- with the marks of the methods that suspend
  module _ (marks : List (List Bool)) where
    abbrev pub method_blocks : (class number : ℕ) → PlainMethod → List PlainBlock
    method_blocks class number m = split_blocks (flat_method names program marks class number m)

    -- of the methods from this number on, in the class of that number
    unfoldable pub methods_compiled : (class number : ℕ) → List PlainMethod → List (List PlainBlock)
    methods_compiled class number [] = []
    methods_compiled class number (m ∷ ms) = method_blocks class number m ∷ methods_compiled class (number + 1) ms

    -- of the classes from this number on
    unfoldable pub classes_compiled : ℕ → List PlainClass → List (List PlainBlock)
    classes_compiled class [] = []
    classes_compiled class (c ∷ cs) = methods_compiled class 0 (methods_of names c.members) ++ classes_compiled (class + 1) cs

    -- of the whole program
    abbrev pub compiled : List (List PlainBlock)
    compiled = classes_compiled 0 program
