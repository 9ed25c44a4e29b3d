-- A graph of a program: it has the tables of the program, fits it, and means it.
use Rattle.std.specs.Prelude.{◌≡◌, ℕ, List}
use Rattle.py_tree.specs.PlainProgram.{PlainProgram}
use Rattle.py_tree.specs.ClassRules.{PlainTable, tables_of}
use Rattle.block_code.specs.PlainBlocks.{PlainBlock}
use Rattle.block_code.specs.GraphFits.{GraphFits}
use Rattle.request_events.specs.GraphMeans.{GraphMeans}

pub record IsCompilation (names : List (List ℕ)) (program : PlainProgram) (tables : List PlainTable) (blocks : List (List PlainBlock)) : Type 0 where
  pub has_tables : tables ≡ tables_of names program
  pub fits : GraphFits names program blocks
  pub means : GraphMeans names program blocks
