-- Which methods may suspend, read by the definitions on small trees.
use Rattle.std.proofs.Common.{◌≡◌, ℕ, zero, suc, Bool, true, false, not, List, [], ◌∷◌, None, refl, ap, subst, lit<}
use Rattle.std.specs.Prelude.{codes, slice_get}
use Rattle.py_tree.specs.declared.names.Place.{Place}
use Rattle.py_tree.specs.PlainExpressions.{PlainExpr, PBool, PVar, PSelf, PAttr, PCall, PApply, PAnd, PNoExpr, PExpr}
use Rattle.py_tree.specs.PlainStatements.{PPass, PDo, PReturn, PIf, PWhile, PNoStmt, PStmt, PArm, PNoArm, PMoreArms}
use Rattle.py_tree.specs.PlainProgram.{PlainMethod, PlainClass, PlainProgram}
use Rattle.py_tree.specs.ClassRules.{is_init, is_key, is_called, is_self, text_of, is_class, methods_of}
use Rattle.py_tree.specs.Reachability.{goes_on}
use Rattle.call_graph.specs.declared.sites.Site.{Site}
use Rattle.call_graph.specs.declared.sites.Site.TheVariants.{Own, Away}
use Rattle.call_graph.specs.Suspending.{call, creation, sites, stmt_sites, sites_in_body, class_sites, MaySuspend, leaves, calls}
use Rattle.call_graph.specs.Marks.{MayLeave, IsClosed}
use Rattle.call_graph.specs.SuspendingCode.{Leaving, expr_suspends, stmts_suspend}
use Rattle.call_graph.proofs.ClosureLaws.{complete}
use Rattle.call_graph.proofs.GraphLaws.{to_class}

abbrev names : List (List ℕ)
names = codes "Item" ∷ codes "__init__" ∷ codes "a" ∷ codes "b" ∷ codes "c" ∷ codes "d" ∷ codes "other" ∷ codes "len" ∷ []

abbrev at : Place
at = record { line = 1; col = 1 }

-- self.NAME()
abbrev on_self : ℕ → PlainExpr
on_self name = PCall at (PSelf at) name at PNoExpr

-- other.NAME()
abbrev on_other : ℕ → PlainExpr
on_other name = PCall at (PVar at 6) name at PNoExpr

-- NAME()
abbrev applied : ℕ → PlainExpr
applied name = PApply at name PNoExpr

-- a method that only computes this
abbrev does : ℕ → PlainExpr → PlainMethod
does name value = record { name = name; place = at; params = []; result = None; body = PDo at value ∷ [] }

-- __init__ is no method with a number; `a` calls itself on self, `b` calls `a` on self, `c` calls another, `d` calls `c` on self
abbrev item : PlainClass
item = record { name = 0; place = at; members = does 1 (applied 0) ∷ does 2 (on_self 2) ∷ does 3 (on_self 2) ∷ does 4 (on_other 2) ∷ does 5 (on_self 4) ∷ [] }

abbrev program : PlainProgram
program = item ∷ []

abbrev rows : List (List Site)
rows = (Own 0 ∷ []) ∷ (Own 0 ∷ []) ∷ (Away ∷ []) ∷ (Own 2 ∷ []) ∷ []

each_method_holds_its_call : class_sites names program item ≡ rows
unfolding class_sites methods_of is_called is_init is_key text_of sites sites_in_body stmt_sites call goes_on
each_method_holds_its_call = refl

methods : List ℕ
methods = 2 ∷ 3 ∷ 4 ∷ 5 ∷ []

-- the receiver and the arguments of a call are looked into: self.a(Item()).b(len(Item()))
parts_are_looked_into : sites program methods (PCall at (PCall at (PSelf at) 2 at (PExpr (applied 0) PNoExpr)) 3 at (PExpr (PApply at 7 (PExpr (applied 0) PNoExpr)) PNoExpr)) ≡ Away ∷ Own 0 ∷ Away ∷ Away ∷ []
unfolding sites call creation is_class methods
parts_are_looked_into = refl

-- a part of `and` that never runs counts
each_part_counts : sites program methods (PAnd at (PExpr (PBool at false) (PExpr (on_self 3) PNoExpr))) ≡ Own 1 ∷ []
unfolding sites call methods
each_part_counts = refl

-- a function is no call, and a field of `self` neither
functions_are_no_calls : sites program methods (PApply at 7 (PExpr (PAttr at (PSelf at) 6 at) PNoExpr)) ≡ []
unfolding sites creation is_class
functions_are_no_calls = refl

-- return; Item()
behind_a_return : sites_in_body program methods (PStmt (PReturn at None) (PStmt (PDo at (applied 0)) PNoStmt)) ≡ []
unfolding sites_in_body goes_on
behind_a_return = refl

-- while True: pass; Item()
behind_a_loop : sites_in_body program methods (PStmt (PWhile at (PBool at true) (PStmt (PPass at) PNoStmt)) (PStmt (PDo at (applied 0)) PNoStmt)) ≡ []
unfolding sites_in_body goes_on sites
behind_a_loop = refl

-- if True: return; Item()
behind_an_if : sites_in_body program methods (PStmt (PIf at (PMoreArms (PArm (PBool at true) (PStmt (PReturn at None) PNoStmt)) PNoArm) PNoStmt) (PStmt (PDo at (applied 0)) PNoStmt)) ≡ Away ∷ []
unfolding sites_in_body goes_on sites creation is_class
behind_an_if = refl

-- `c` calls another, so it may suspend, and so may `d`, which calls it
c_may : MaySuspend names program 0 2
c_may = leaves 0 2 (record { of_class = item; class_is = refl; held = Away ∷ []; held_is = ap (λ rows. slice_get rows 2) each_method_holds_its_call; among = (0, lit< tt, refl) })

d_may : MaySuspend names program 0 3
d_may = calls 0 3 2 (record { of_class = item; class_is = refl; held = Own 2 ∷ []; held_is = ap (λ rows. slice_get rows 3) each_method_holds_its_call; among = (0, lit< tt, refl) }) c_may

abbrev marks : List Bool
marks = false ∷ false ∷ true ∷ true ∷ []

closed : IsClosed rows marks
closed zero never = never
closed (suc zero) never = never
closed (suc (suc zero)) holds = refl
closed (suc (suc (suc zero))) holds = refl
closed (suc (suc (suc (suc method)))) never = never

-- `a` only calls itself on self, so it may not; nor may `b`, which only calls `a`
a_may_not : MaySuspend names program 0 0 → ⊥
a_may_not may =
    let within = subst (λ rows. MayLeave rows 0) each_method_holds_its_call (to_class names program 0 0 may item refl) in
    let marked = complete rows marks closed 0 within in
    cc

b_may_not : MaySuspend names program 0 1 → ⊥
b_may_not may =
    let within = subst (λ rows. MayLeave rows 1) each_method_holds_its_call (to_class names program 0 1 may item refl) in
    let marked = complete rows marks closed 1 within in
    cc

-- where calls on anything but self leave: `other.a()` suspends, and `self.a()` doesn't
abbrev away : Leaving
away on name = not (is_self on)

other_suspends : expr_suspends away (on_other 2) ≡ true
unfolding expr_suspends
other_suspends = refl

self_stays : expr_suspends away (on_self 2) ≡ false
unfolding expr_suspends
self_stays = refl

-- `return` and then a call that leaves: no point behind the `return` can be reached
not_reached : stmts_suspend away (PStmt (PReturn at None) (PStmt (PDo at (on_other 2)) PNoStmt)) ≡ false
unfolding stmts_suspend goes_on
not_reached = refl
