-- An accepted program with its marks, and the blocks that are compiled of it.
use Rattle.std.specs.Prelude.{◌≡◌, ℕ, List, slice_get}
use Rattle.std.specs.declared.option.Option.{Option}
use Rattle.py_tree.specs.PlainProgram.{PlainMethod, PlainProgram}
use Rattle.py_tree.specs.ClassRules.{methods_of, tables_of}
use Rattle.py_tree.specs.Acceptance.{members_at}
use Rattle.py_tree.specs.CheckedViews.{checked_program, checked_names}
use Rattle.entity_tables.specs.Views.{plain_tables}
use Rattle.block_code.specs.PlainBlocks.{PlainBlock}
use Rattle.compiled_graph.specs.CompiledGraph.{method_blocks, methods_compiled, compiled}
use Rattle.entity_compiler.specs.declared.methods.Marked.{Marked}

abbrev pub names_of : Marked → List (List ℕ)
names_of s = checked_names s.program.now

abbrev pub classes_of : Marked → PlainProgram
classes_of s = checked_program s.program.now

-- the tables are those of the program
abbrev pub HasTables : Marked → Type 0
HasTables s = plain_tables s.tables.now ≡ tables_of (names_of s) (classes_of s)

-- the methods of the class of this number, and the one of a number
abbrev pub methods_at : Marked → ℕ → List PlainMethod
methods_at s class = methods_of (names_of s) (members_at (classes_of s) class)

abbrev pub method_at : Marked → ℕ → ℕ → Option PlainMethod
method_at s class method = slice_get (methods_at s class) method

-- the blocks of a method, by the number of its class and its own
abbrev pub blocks_at : Marked → ℕ → ℕ → PlainMethod → List PlainBlock
blocks_at s class method m = method_blocks (names_of s) (classes_of s) s.calls.now class method m

-- of the methods of the class of this number
abbrev pub class_blocks : Marked → ℕ → List (List PlainBlock)
class_blocks s class = methods_compiled (names_of s) (classes_of s) s.calls.now class 0 (methods_at s class)

-- of all methods
abbrev pub all_blocks : Marked → List (List PlainBlock)
all_blocks s = compiled (names_of s) (classes_of s) s.calls.now
