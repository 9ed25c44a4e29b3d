-- Copies of the lists of a block and of an event.
use Rattle.std.proofs.Common.{◌≡◌, List}
use Rattle.sf_list.specs.Copies.{AreCopies}
use Rattle.sf_list.proofs.CopyLaws.{map-AreCopies, equal_copies}
use Rattle.entity_tables.specs.declared.table.ClassTable.{ClassTable}
use Rattle.entity_tables.specs.Views.{plain_table, plain_tables}
use Rattle.py_tree.specs.declared.expr.Expr.{Expr}
use Rattle.py_tree.specs.PlainExpressions.{plain_expr, plain_exprs}
use Rattle.py_tree.proofs.ProgramCopies.{copied_stmts}
use Rattle.sf_value.specs.declared.value.Value.{Value}
use Rattle.block_code.specs.declared.vars.VarType.{VarType}
use Rattle.block_code.specs.declared.item.Item.{Item}
use Rattle.block_code.specs.declared.block.Block.{Block}
use Rattle.block_code.specs.declared.block.Catch.{Catch}
use Rattle.block_code.specs.declared.event.Frame.{Frame}
use Rattle.block_code.specs.PlainVars.{plain_var, plain_vars}
use Rattle.block_code.specs.PlainBlocks.{plain_item, plain_items, plain_block, plain_blocks, plain_methods}

pub copied_exprs : (xs ys : List Expr) → AreCopies (λ old made. plain_expr made ≡ plain_expr old) xs ys → plain_exprs ys ≡ plain_exprs xs
copied_exprs xs ys h = map-AreCopies (λ old made. plain_expr made ≡ plain_expr old) plain_expr (λ x y e. e) xs ys h

pub copied_vars : (xs ys : List VarType) → AreCopies (λ old made. plain_var made ≡ plain_var old) xs ys → plain_vars ys ≡ plain_vars xs
copied_vars xs ys h = map-AreCopies (λ old made. plain_var made ≡ plain_var old) plain_var (λ x y e. e) xs ys h

pub copied_items : (xs ys : List Item) → AreCopies (λ old made. plain_item made ≡ plain_item old) xs ys → plain_items ys ≡ plain_items xs
copied_items xs ys h = map-AreCopies (λ old made. plain_item made ≡ plain_item old) plain_item (λ x y e. e) xs ys h

pub copied_catches : (xs ys : List Catch) → AreCopies (λ old made. made ≡ old) xs ys → ys ≡ xs
copied_catches xs ys h = equal_copies xs ys h

pub copied_values : (xs ys : List Value) → AreCopies (λ old made. made ≡ old) xs ys → ys ≡ xs
copied_values xs ys h = equal_copies xs ys h

pub copied_frames : (xs ys : List Frame) → AreCopies (λ old made. made ≡ old) xs ys → ys ≡ xs
copied_frames xs ys h = equal_copies xs ys h

pub ruleset list_copies = (copied_exprs, copied_stmts, copied_vars, copied_items, copied_catches, copied_values, copied_frames)

-- Of a graph

pub copied_tables : (xs ys : List ClassTable) → AreCopies (λ old made. plain_table made ≡ plain_table old) xs ys → plain_tables ys ≡ plain_tables xs
copied_tables xs ys h = map-AreCopies (λ old made. plain_table made ≡ plain_table old) plain_table (λ x y e. e) xs ys h

copied_blocks : (xs ys : List Block) → AreCopies (λ old made. plain_block made ≡ plain_block old) xs ys → plain_blocks ys ≡ plain_blocks xs
copied_blocks xs ys h = map-AreCopies (λ old made. plain_block made ≡ plain_block old) plain_block (λ x y e. e) xs ys h

pub copied_methods : (xs ys : List (List Block)) → AreCopies (AreCopies (λ old made. plain_block made ≡ plain_block old)) xs ys → plain_methods ys ≡ plain_methods xs
copied_methods xs ys h = map-AreCopies (AreCopies (λ old made. plain_block made ≡ plain_block old)) plain_blocks copied_blocks xs ys h

pub ruleset graph_copies = (copied_tables, copied_methods)
