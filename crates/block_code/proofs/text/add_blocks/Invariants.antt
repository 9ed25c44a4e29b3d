use Rattle.std.proofs.Common.{◌≡◌, ◌++◌, drop, string_bytes}
use Rattle.entity_tables.specs.Views.{plain_tables}
use Rattle.block_code.specs.PlainBlocks.{plain_blocks}
use Rattle.block_code.specs.GraphText.{block_lines}
use Rattle.block_code.proofs.text.add_blocks.Given as goal

-- what is left are the lines of the other blocks
abbrev pub invariant-loop-number : goal.invariant-loop-number
invariant-loop-number l = string_bytes l.text ++ block_lines l.names (plain_tables l.tables) l.number (plain_blocks (drop l.number l.blocks)) ≡ string_bytes l.fn.text ++ block_lines l.names (plain_tables l.tables) 0 (plain_blocks l.blocks)
