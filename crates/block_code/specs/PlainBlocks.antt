-- Blocks as plain ones, without pointers.
use Rattle.std.specs.Prelude.{ℕ, List, map}
use Rattle.std.specs.declared.option.Option.{Option}
use Rattle.py_tree.specs.PlainExpressions.{PlainExpr, PlainExprs, plain_expr, plain_exprs, exprs_of}
use Rattle.py_tree.specs.PlainStatements.{PlainStmts, plain_option, plain_stmts, stmts_of}
use Rattle.block_code.specs.declared.item.Item.{Item}
use Rattle.block_code.specs.declared.item.Item.TheVariants as item
use Rattle.block_code.specs.declared.block.End.{End}
use Rattle.block_code.specs.declared.block.End.TheVariants as ending
use Rattle.block_code.specs.declared.block.Catch.{Catch}
use Rattle.block_code.specs.declared.block.Block.{Block}
use Rattle.block_code.specs.PlainVars.{PlainVar, plain_vars}

-- an item of a block's code
pub data PlainItem : Type 0 where
  IMark : PlainItem
  ISet : (name : ℕ) → (value : PlainExpr) → PlainItem
  IPut : (field : ℕ) → (value : PlainExpr) → PlainItem
  IGive : (value : PlainExpr) → PlainItem
  IFail : (kind : ℕ) → (message : Option PlainExpr) → PlainItem
  ICode : (code : PlainStmts) → PlainItem

-- how a block ends
pub data PlainEnd : Type 0 where
  EJump : (to : ℕ) → PlainEnd
  EBranch : (test : PlainExpr) → (holds fails : ℕ) → PlainEnd
  ELeave : PlainEnd
  ECall : (on : PlainExpr) → (class method : ℕ) → (args : PlainExprs) → (into after : ℕ) → PlainEnd
  EMake : (class : ℕ) → (args : PlainExprs) → (into after : ℕ) → PlainEnd

-- where failures of some kinds go on
pub record PlainCatch : Type 0 where
  pub kinds : List ℕ
  pub to : ℕ

pub record PlainBlock : Type 0 where
  pub params : List PlainVar
  pub code : List PlainItem
  pub end : PlainEnd
  pub rank : ℕ
  pub catches : List PlainCatch

-- The views

abbrev pub plain_item : Item → PlainItem
plain_item item.Mark = IMark
plain_item (item.Set x e) = ISet x.0 (plain_expr e)
plain_item (item.Put x e) = IPut x.0 (plain_expr e)
plain_item (item.Give e) = IGive (plain_expr e)
plain_item (item.Fail kind e) = IFail kind (plain_option plain_expr e)
plain_item (item.Code xs) = ICode (stmts_of (plain_stmts xs))

abbrev pub plain_end : End → PlainEnd
plain_end (ending.Jump to) = EJump to
plain_end (ending.Branch test holds fails) = EBranch (plain_expr test) holds fails
plain_end ending.Leave = ELeave
plain_end (ending.Call on class method args into after) = ECall (plain_expr on) class method (exprs_of (plain_exprs args)) into.0 after
plain_end (ending.Make class args into after) = EMake class (exprs_of (plain_exprs args)) into.0 after

abbrev pub plain_catch : Catch → PlainCatch
plain_catch c = record { kinds = c.kinds; to = c.to }

abbrev pub plain_catches : List Catch → List PlainCatch
plain_catches = map plain_catch

abbrev pub plain_items : List Item → List PlainItem
plain_items = map plain_item

abbrev pub plain_block : Block → PlainBlock
plain_block b = record { params = plain_vars b.params; code = plain_items b.code; end = plain_end b.end; rank = b.rank; catches = plain_catches b.catches }

abbrev pub plain_blocks : List Block → List PlainBlock
plain_blocks = map plain_block

abbrev pub plain_methods : List (List Block) → List (List PlainBlock)
plain_methods = map plain_blocks
