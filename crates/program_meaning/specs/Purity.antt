-- Expressions that call no method and create nothing: they leave the world and the steps as they are.
use Rattle.std.specs.Prelude.{Bool, true, false, ◌&&◌, is_some}
use Rattle.py_tree.specs.ExpressionTypes.{function_of}
use Rattle.py_tree.specs.PlainExpressions.{PlainExpr, PInt, PBool, PStr, PNil, PVar, PSelf, PAttr, PCall, PApply, PIndex, PList, PNeg, PPos, PNot, PChain, PAnd, POr, PCompare, PIsNone, PCond, PlainExprs, PNoExpr, PExpr, PLink, PlainLinks, PNoLink, PMoreLinks}

unfoldable mutual
  pub is_pure : PlainExpr → Bool
  is_pure (PInt at z) = true
  is_pure (PBool at b) = true
  is_pure (PStr at text) = true
  is_pure (PNil at) = true
  is_pure (PVar at x) = true
  is_pure (PSelf at) = true
  -- a field is the own entity's, and what stands before the dot isn't evaluated
  is_pure (PAttr at on x x_at) = true
  is_pure (PCall at on m m_at args) = false
  is_pure (PApply at f args) = is_some (function_of f) && all_pure args
  is_pure (PIndex at on index) = is_pure on && is_pure index
  is_pure (PList at items) = all_pure items
  is_pure (PNeg at a) = is_pure a
  is_pure (PPos at a) = is_pure a
  is_pure (PNot at a) = is_pure a
  is_pure (PChain at first links) = is_pure first && links_pure links
  is_pure (PAnd at items) = all_pure items
  is_pure (POr at items) = all_pure items
  is_pure (PCompare at op op_at left right) = is_pure left && is_pure right
  is_pure (PIsNone at a positive) = is_pure a
  is_pure (PCond at test a b) = is_pure test && (is_pure a && is_pure b)

  pub all_pure : PlainExprs → Bool
  all_pure PNoExpr = true
  all_pure (PExpr x xs) = is_pure x && all_pure xs

  pub links_pure : PlainLinks → Bool
  links_pure PNoLink = true
  links_pure (PMoreLinks (PLink op at right) more) = is_pure right && links_pure more
