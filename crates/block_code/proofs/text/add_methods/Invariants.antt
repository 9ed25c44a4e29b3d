use Rattle.std.proofs.Common.{◌≡◌, ◌+◌, ◌++◌, map, drop, string_bytes}
use Rattle.entity_tables.specs.Views.{plain_sig}
use Rattle.block_code.specs.GraphViews.{graph_tables, graph_blocks}
use Rattle.block_code.specs.GraphText.{method_lines}
use Rattle.block_code.proofs.text.add_methods.Given as goal

-- what is left are the lines of the other methods
abbrev pub invariant-loop-number : goal.invariant-loop-number
invariant-loop-number l =
    string_bytes l.text ++ method_lines l.names (graph_tables l.graph) (graph_blocks l.graph) l.class.0 (l.first + l.number) (map plain_sig (drop l.number l.sigs))
    ≡ string_bytes l.fn.text ++ method_lines l.names (graph_tables l.graph) (graph_blocks l.graph) l.class.0 l.first (map plain_sig l.sigs)
