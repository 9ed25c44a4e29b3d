use Rattle.std.proofs.Common.{◌≡◌, ◌++◌, drop, string_bytes}
use Rattle.entity_tables.specs.Views.{plain_tables}
use Rattle.block_code.specs.GraphViews.{graph_tables, graph_blocks}
use Rattle.block_code.specs.GraphText.{class_lines}
use Rattle.block_code.proofs.text.add_classes.Given as goal

-- what is left are the lines of the other classes
abbrev pub invariant-loop-number : goal.invariant-loop-number
invariant-loop-number l =
    string_bytes l.text ++ class_lines l.names (graph_tables l.graph) (graph_blocks l.graph) l.number (plain_tables (drop l.number l.tables))
    ≡ string_bytes l.fn.text ++ class_lines l.names (graph_tables l.graph) (graph_blocks l.graph) 0 (plain_tables l.tables)
