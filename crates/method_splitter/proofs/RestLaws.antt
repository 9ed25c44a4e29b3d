-- What is left of a block, with a statement before it, and copied.
use Rattle.std.proofs.Common.{◌≡◌, List, [], ◌∷◌, refl}
use Rattle.sf_list.specs.Copies.{AreCopies}
use Rattle.sf_list.proofs.CopyLaws.{map-AreCopies}
use Rattle.block_code.specs.declared.item.Item.{Item}
use Rattle.py_tree.specs.declared.expr.Expr.{Expr}
use Rattle.py_tree.specs.PlainExpressions.{plain_expr, plain_exprs}
use Rattle.py_tree.specs.PlainStatements.{PlainStmt}
use Rattle.block_code.specs.PlainBlocks.{IMark, ISet, IPut, IGive, IFail, ICode, plain_item, plain_items}
use Rattle.method_splitter.specs.Split.{Rest, Jumps, Holds, code_of, end_of, front_code}
use Rattle.method_splitter.specs.Rests.{with_statement}

pub front_code_is : (x : PlainStmt) (r : Rest) → Holds (with_statement x (code_of r)) (end_of r) 0 ≡ front_code x r
front_code_is x (Jumps to) = refl
front_code_is x (Holds [] end rank) = refl
front_code_is x (Holds (ICode xs ∷ is) end rank) = refl
front_code_is x (Holds (IMark ∷ is) end rank) = refl
front_code_is x (Holds (ISet y e ∷ is) end rank) = refl
front_code_is x (Holds (IPut y e ∷ is) end rank) = refl
front_code_is x (Holds (IGive e ∷ is) end rank) = refl
front_code_is x (Holds (IFail kind e ∷ is) end rank) = refl

pub copied_items : (xs ys : List Item) → AreCopies (λ old made. plain_item made ≡ plain_item old) xs ys → plain_items ys ≡ plain_items xs
copied_items xs ys h = map-AreCopies (λ old made. plain_item made ≡ plain_item old) plain_item (λ x y e. e) xs ys h

pub copied_exprs : (xs ys : List Expr) → AreCopies (λ old made. plain_expr made ≡ plain_expr old) xs ys → plain_exprs ys ≡ plain_exprs xs
copied_exprs xs ys h = map-AreCopies (λ old made. plain_expr made ≡ plain_expr old) plain_expr (λ x y e. e) xs ys h
