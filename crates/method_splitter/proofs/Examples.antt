-- The blocks of small methods.
use Rattle.std.proofs.Common.{◌≡◌, ℕ, true, None, Some, List, [], ◌∷◌, refl}
use Rattle.py_tree.specs.declared.names.Place.{Place}
use Rattle.py_tree.specs.declared.expr.BinOp.TheVariants as op
use Rattle.py_tree.specs.declared.stmt.Target.TheVariants as target
use Rattle.py_tree.specs.PlainExpressions.{PlainExpr, PBool, PVar, PSelf, PAttr, PChain, PNoExpr, PExpr, PLink, PNoLink, PMoreLinks}
use Rattle.py_tree.specs.PlainStatements.{PlainStmt, PReturn, PAssign, PNoStmt, PStmt}
use Rattle.py_tree.specs.Reachability.{goes_on}
use Rattle.block_code.specs.PlainBlocks.{PlainItem, IMark, ISet, IPut, ICode, PlainEnd, EJump, EBranch, ELeave, ECall, PlainCatch, PlainBlock}
use Rattle.flat_tree.specs.declared.tree.Callee.{Callee}
use Rattle.flat_tree.specs.PlainFlat.{Point, PlainFlatStmts, FMark, FSet, FPut, FCode, FBreak, FContinue, FCall, FIf, FWhile, FTry, FNoStmt, FStmt, FArm, FNoArm, FMoreArms, FClause, PlainFlatClauses, FNoClause, FMoreClauses, PlainFlatTest, FLeaf, FAnd, FOperand, FNoOperand, FMoreOperands}
use Rattle.method_splitter.specs.Split.{split, split_blocks}

module _ (at : Place) where
  -- a block of this rank
  abbrev made : Point → List PlainItem → PlainEnd → ℕ → PlainBlock
  made params code end rank = record { params = params; code = code; end = end; rank = rank; catches = [] }

  abbrev callee : ℕ → ℕ → ℕ → Callee
  callee name class method = record { name = record { 0 = name }; class = class; method = method }

  -- x = e
  abbrev set : ℕ → PlainExpr → PlainStmt
  set x e = PAssign at (target.Local (record { name = record { 0 = x }; place = at })) None e

  abbrev code : PlainStmt → PlainItem
  code x = ICode (PStmt x PNoStmt)

  -- b.f(), whose value goes into the temporary 50, and that temporary
  abbrev asked : PlainExpr → Point → PlainFlatTest
  asked b after = FLeaf (FStmt (FCall b (callee 20 1 2) PNoExpr 50 after) FNoStmt) (PVar at 50)

  -- `while a and b.f(): x = a`, and then `return r`
  while_asked : (a b r : PlainExpr) (params head start second first called after : Point)
      → split_blocks (record { params = params; body = FMark ∷ FWhile head (FAnd (FMoreOperands (FOperand (FLeaf FNoStmt a) first) (FMoreOperands (FOperand (asked b called) second) FNoOperand))) start (FStmt (FCode (set 9 a)) FNoStmt) (Some after) ∷ FCode (PReturn at (Some r)) ∷ [] })
      ≡ made params (IMark ∷ []) (EJump 2) 0
      ∷ made after (code (PReturn at (Some r)) ∷ []) ELeave 0
      ∷ made head [] (EBranch a 5 1) 1
      ∷ made start (IMark ∷ code (set 9 a) ∷ []) (EJump 2) 0
      ∷ made called [] (EBranch (PVar at 50) 3 1) 1
      ∷ made first [] (ECall b 1 2 PNoExpr 50 4) 0
      ∷ []
  unfolding split goes_on
  while_asked a b r params head start second first called after = refl

  -- `if b.f(): x = a`, `else: x = r`, and then `return r`
  if_asked : (a b r : PlainExpr) (params start rest called after : Point)
      → split_blocks (record { params = params; body = FMark ∷ FIf (FMoreArms (FArm (asked b called) start (FStmt (FCode (set 9 a)) FNoStmt) rest) FNoArm) (FStmt (FCode (set 9 r)) FNoStmt) (Some after) ∷ FCode (PReturn at (Some r)) ∷ [] })
      ≡ made params (IMark ∷ []) (ECall b 1 2 PNoExpr 50 4) 0
      ∷ made after (code (PReturn at (Some r)) ∷ []) ELeave 0
      ∷ made rest (code (set 9 r) ∷ []) (EJump 1) 0
      ∷ made start (code (set 9 a) ∷ []) (EJump 1) 0
      ∷ made called [] (EBranch (PVar at 50) 3 2) 1
      ∷ []
  unfolding split goes_on
  if_asked a b r params start rest called after = refl

  -- `while True: x = a`: one block, which goes on at itself
  endless : (a : PlainExpr) (params head start : Point)
      → split_blocks (record { params = params; body = FMark ∷ FWhile head (FLeaf FNoStmt (PBool at true)) start (FStmt (FCode (set 9 a)) FNoStmt) None ∷ [] })
      ≡ made params (IMark ∷ []) (EJump 1) 0
      ∷ made head (IMark ∷ code (set 9 a) ∷ []) (EJump 1) 0
      ∷ []
  unfolding split goes_on
  endless a params head start = refl

  -- `while a: if b.f(): break`, `else: continue`, and then `return r`: behind the `if` nothing comes
  while_left : (b r : PlainExpr) (params head start first rest called after : Point)
      → split_blocks (record { params = params; body = FMark ∷ FWhile head (FLeaf FNoStmt (PVar at 8)) start (FStmt FMark (FStmt (FIf (FMoreArms (FArm (asked b called) first (FStmt FBreak FNoStmt) rest) FNoArm) (FStmt FContinue FNoStmt) None) FNoStmt)) (Some after) ∷ FCode (PReturn at (Some r)) ∷ [] })
      ≡ made params (IMark ∷ []) (EJump 2) 0
      ∷ made after (code (PReturn at (Some r)) ∷ []) ELeave 0
      ∷ made head [] (EBranch (PVar at 8) 3 1) 1
      ∷ made start (IMark ∷ IMark ∷ []) (ECall b 1 2 PNoExpr 50 4) 0
      ∷ made called [] (EBranch (PVar at 50) 1 2) 2
      ∷ []
  unfolding split goes_on
  while_left b r params head start first rest called after = refl

  -- self.n
  abbrev n_read : PlainExpr
  n_read = PAttr at (PSelf at) 22 at

  abbrev sum : PlainExpr
  sum = PChain at (PVar at 50) (PMoreLinks (PLink op.Add at (PVar at 51)) PNoLink)

  -- the method `go` of ping.py: self.n += b.poke(self), and return self.n
  go : (params after : Point)
      → split_blocks (record { params = params; body = FMark ∷ FSet 50 n_read ∷ FCall (PVar at 29) (callee 27 1 0) (PExpr (PSelf at) PNoExpr) 51 after ∷ FPut 22 sum ∷ FCode (PReturn at (Some n_read)) ∷ [] })
      ≡ made params (IMark ∷ ISet 50 n_read ∷ []) (ECall (PVar at 29) 1 0 (PExpr (PSelf at) PNoExpr) 51 1) 0
      ∷ made after (IPut 22 sum ∷ code (PReturn at (Some n_read)) ∷ []) ELeave 0
      ∷ []
  unfolding split goes_on
  go params after = refl

  -- a block among catches
  abbrev caught : Point → List PlainItem → PlainEnd → ℕ → List PlainCatch → PlainBlock
  caught params code end rank catches = record { params = params; code = code; end = end; rank = rank; catches = catches }

  abbrev catch : List ℕ → ℕ → PlainCatch
  catch kinds to = record { kinds = kinds; to = to }

  abbrev except : List ℕ → Point → PlainFlatStmts → PlainFlatClauses
  except kinds start body = FMoreClauses (FClause kinds start body) FNoClause

  -- `try: b.f()`, `except NoEntity: x = r`, and then `return r`: what stands behind isn't among the catches
  tried : (b r : PlainExpr) (params start first called after : Point)
      → split_blocks (record { params = params; body = FMark ∷ FTry start (FStmt (FCall b (callee 20 1 2) PNoExpr 50 called) FNoStmt) (except (9 ∷ []) first (FStmt (FCode (set 9 r)) FNoStmt)) (Some after) ∷ FCode (PReturn at (Some r)) ∷ [] })
      ≡ made params (IMark ∷ []) (EJump 3) 0
      ∷ made after (code (PReturn at (Some r)) ∷ []) ELeave 0
      ∷ made first (code (set 9 r) ∷ []) (EJump 1) 0
      ∷ caught start [] (ECall b 1 2 PNoExpr 50 1) 1 (catch (9 ∷ []) 2 ∷ [])
      ∷ []
  unfolding split goes_on
  tried b r params start first called after = refl

  -- a `try` within a loop, whose clause goes on with the next turn at a block of its own
  tried_again : (r : PlainExpr) (params head begin start first after : Point)
      → split_blocks (record { params = params; body = FMark ∷ FWhile head (FLeaf FNoStmt (PVar at 8)) begin (FStmt (FTry start (FStmt FMark FNoStmt) (except (1 ∷ 2 ∷ []) first (FStmt FContinue FNoStmt)) None) FNoStmt) (Some after) ∷ FCode (PReturn at (Some r)) ∷ [] })
      ≡ made params (IMark ∷ []) (EJump 2) 0
      ∷ made after (code (PReturn at (Some r)) ∷ []) ELeave 0
      ∷ made head [] (EBranch (PVar at 8) 3 1) 1
      ∷ made begin (IMark ∷ []) (EJump 5) 0
      ∷ made first [] (EJump 2) 2
      ∷ caught start (IMark ∷ []) ELeave 3 (catch (1 ∷ 2 ∷ []) 4 ∷ [])
      ∷ []
  unfolding split goes_on
  tried_again r params head begin start first after = refl

  -- of two, one within the other, the inner one's clauses come first, and themselves are among the outer one's
  tried_within : (params outer inner first second : Point)
      → split_blocks (record { params = params; body = FMark ∷ FTry outer (FStmt (FTry inner (FStmt FMark FNoStmt) (except (1 ∷ []) second FNoStmt) None) FNoStmt) (except (2 ∷ []) first FNoStmt) None ∷ [] })
      ≡ made params (IMark ∷ []) (EJump 3) 0
      ∷ made first [] ELeave 0
      ∷ caught second [] ELeave 1 (catch (2 ∷ []) 1 ∷ [])
      ∷ caught inner (IMark ∷ []) ELeave 2 (catch (1 ∷ []) 2 ∷ catch (2 ∷ []) 1 ∷ [])
      ∷ []
  unfolding split goes_on
  tried_within params outer inner first second = refl
