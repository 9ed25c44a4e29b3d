-- What is known at several points at once: at the head of the loop around, and where the clauses around begin.
use Rattle.std.proofs.Common.{◌≡◌, ℕ, Ok, List, [], ◌∷◌, ◌++◌}
use Rattle.std.specs.Prelude.{⊤}
use Rattle.py_tree.specs.PlainTypes.{PlainTy}
use Rattle.py_tree.specs.PlainStatements.{PlainStmt, PlainStmts}
use Rattle.py_tree.specs.FlowEnvironment.{PlainLocal, narrowed}
use Rattle.py_tree.specs.Reachability.{assigns, assigned_in}
use Rattle.py_tree.specs.Flow.{Context, known_at, settled, with_local, at_head, Way, on, begun, for_head, flow, flow_all}
use Rattle.program_meaning.proofs.LocalShapes.{Grows}
use Rattle.typed_hoisting.specs.KnownLocals.{seen}
use Rattle.typed_methods.proofs.KnownWays.{under_then}
use Rattle.typed_methods.proofs.StoredKnown.{AllUnder}
use Rattle.typed_methods.proofs.KnownStays.{Forgets, forgets_first, forgets_rest, Above, begun_above, on_above, stored_above, narrowed_above, head_above, before_above, head_of_for, stmt_above, all_above}

-- what is known at the head of the loop around, and where each clause around begins
pub record Floors : Type 0 where
  pub head : List PlainLocal
  pub clauses : List (List PlainLocal)

abbrev pub all_floors : Floors → List (List PlainLocal)
all_floors floor = floor.head ∷ floor.clauses

-- in the body of a loop
abbrev pub inside_loop : List PlainLocal → Floors → Floors
inside_loop head floor = record { head = head; clauses = floor.clauses }

-- Each of some points

abbrev pub Each : (List PlainLocal → Type 0) → List (List PlainLocal) → Type 0
Each P [] = ⊤
Each P (f ∷ fs) = P f × Each P fs

-- what is known there of any of these names is no more than its type
abbrev pub EachForgets : List (List PlainLocal) → List ℕ → Type 0
EachForgets fs names = Each (λ f. Forgets f names) fs

-- at least as much is known here
abbrev pub EachUnder : List (List PlainLocal) → List PlainLocal → Type 0
EachUnder fs locals = Each (λ f. AllUnder f locals) fs

-- and on a way, where it has been left too
abbrev pub EachAbove : List (List PlainLocal) → Way → Type 0
EachAbove fs w = Each (λ f. Above f w) fs

each_so : (P Q : List PlainLocal → Type 0) → ((f : List PlainLocal) → P f → Q f) → (fs : List (List PlainLocal)) → Each P fs → Each Q fs
each_so P Q k [] h = tt
each_so P Q k (f ∷ fs) h = (k f h.0, each_so P Q k fs h.1)

each_with : (P Q R : List PlainLocal → Type 0) → ((f : List PlainLocal) → P f → Q f → R f) → (fs : List (List PlainLocal)) → Each P fs → Each Q fs → Each R fs
each_with P Q R k [] h g = tt
each_with P Q R k (f ∷ fs) h g = (k f h.0 g.0, each_with P Q R k fs h.1 g.1)

module _ (fs : List (List PlainLocal)) where
  -- Names

  pub each_first : (a b : List ℕ) → EachForgets fs (a ++ b) → EachForgets fs a
  each_first a b h = each_so (λ f. Forgets f (a ++ b)) (λ f. Forgets f a) (λ f k. forgets_first f a b k) fs h

  pub each_rest : (a b : List ℕ) → EachForgets fs (a ++ b) → EachForgets fs b
  each_rest a b h = each_so (λ f. Forgets f (a ++ b)) (λ f. Forgets f b) (λ f k. forgets_rest f a b k) fs h

  -- Locals

  pub each_on : (a b : List PlainLocal) → EachUnder fs a → AllUnder a b → EachUnder fs b
  each_on a b h on = each_so (λ f. AllUnder f a) (λ f. AllUnder f b) (λ f under x. under_then (seen f x) (seen a x) (seen b x) (under x) (on x)) fs h

  pub each_narrowed : (names : List ℕ) (ls : List PlainLocal) → EachUnder fs ls → EachUnder fs (narrowed names ls)
  each_narrowed names ls h = each_so (λ f. AllUnder f ls) (λ f. AllUnder f (narrowed names ls)) (λ f under. narrowed_above f names ls under) fs h

  pub each_at_head : (names : List ℕ) (ls : List PlainLocal) → EachForgets fs names → EachUnder fs ls → EachUnder fs (at_head names ls)
  each_at_head names ls forgets h = each_with (λ f. Forgets f names) (λ f. AllUnder f ls) (λ f. AllUnder f (at_head names ls)) (λ f k under. head_above f names ls k under) fs forgets h

  pub each_stored : (x : ℕ) (first ty : PlainTy) (ls : List PlainLocal) → EachForgets fs (x ∷ []) → EachUnder fs ls → EachUnder fs (with_local x first ty ls)
  each_stored x first ty ls forgets h = each_with (λ f. Forgets f (x ∷ [])) (λ f. AllUnder f ls) (λ f. AllUnder f (with_local x first ty ls)) (λ f k under. stored_above f x first ty ls k under) fs forgets h

  pub each_before : (before after : List PlainLocal) → Grows before after → EachUnder fs before → EachUnder fs (settled after (known_at before))
  each_before before after g h = each_so (λ f. AllUnder f before) (λ f. AllUnder f (settled after (known_at before))) (λ f under. before_above f before after g under) fs h

  pub each_for_head : (names : List ℕ) (ls named : List PlainLocal) → EachForgets fs names → Grows ls named → EachUnder fs ls → EachUnder fs (for_head names ls named)
  each_for_head names ls named forgets g h = each_with (λ f. Forgets f names) (λ f. AllUnder f ls) (λ f. AllUnder f (for_head names ls named)) (λ f k under. head_of_for f names ls named k g under) fs forgets h

  -- Ways

  pub each_under : (w : Way) → EachAbove fs w → EachUnder fs w.locals
  each_under w h = each_so (λ f. Above f w) (λ f. AllUnder f w.locals) (λ f a. a.under) fs h

  pub each_begun : (ls : List PlainLocal) → EachUnder fs ls → EachAbove fs (begun ls)
  each_begun ls h = each_so (λ f. AllUnder f ls) (λ f. Above f (begun ls)) (λ f under. begun_above f ls under) fs h

  pub each_on_way : (w : Way) (ls : List PlainLocal) → EachAbove fs w → Grows w.locals ls → EachUnder fs ls → EachAbove fs (on w ls)
  each_on_way w ls h g under = each_with (λ f. Above f w) (λ f. AllUnder f ls) (λ f. Above f (on w ls)) (λ f a u. on_above f w ls a g u) fs h under

  pub each_stmt : (x : PlainStmt) (d : Context) (w next : Way) → EachForgets fs (assigns x) → EachAbove fs w → flow d w x ≡ Ok next → EachAbove fs next
  each_stmt x d w next forgets h is = each_with (λ f. Forgets f (assigns x)) (λ f. Above f w) (λ f. Above f next) (λ f k a. stmt_above f x d w next k a is) fs forgets h

  pub each_all : (xs : PlainStmts) (d : Context) (w next : Way) → EachForgets fs (assigned_in xs) → EachAbove fs w → flow_all d w xs ≡ Ok next → EachAbove fs next
  each_all xs d w next forgets h is = each_with (λ f. Forgets f (assigned_in xs)) (λ f. Above f w) (λ f. Above f next) (λ f k a. all_above f xs d w next k a is) fs forgets h
