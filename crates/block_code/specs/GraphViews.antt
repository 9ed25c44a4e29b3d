-- What a graph is seen as: the tables of its classes, and the blocks of its methods.
use Rattle.std.specs.Prelude.{List}
use Rattle.py_tree.specs.ClassRules.{PlainTable}
use Rattle.entity_tables.specs.Views.{plain_tables}
use Rattle.block_code.specs.declared.graph.Graph.{Graph}
use Rattle.block_code.specs.PlainBlocks.{PlainBlock, plain_methods}

abbrev pub graph_tables : Graph → List PlainTable
graph_tables g = plain_tables g.tables

abbrev pub graph_blocks : Graph → List (List PlainBlock)
graph_blocks g = plain_methods g.methods
