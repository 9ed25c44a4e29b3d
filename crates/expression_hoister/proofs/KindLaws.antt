-- Expressions of which a part suspends, as values and as tests, one equation a kind.
use Rattle.std.proofs.Common.{◌≡◌, ◌↔◌, ℕ, Bool, true, false, Option, None, List, [], ◌∷◌, refl, sym, ap, ◌∙◌, true≢false}
use Rattle.py_tree.specs.declared.names.Place.{Place}
use Rattle.py_tree.specs.declared.expr.Cmp.{Cmp}
use Rattle.py_tree.specs.declared.expr.Link.{Link}
use Rattle.py_tree.specs.PlainTypes.{PlainTy}
use Rattle.py_tree.specs.FlowEnvironment.{PlainLocal}
use Rattle.py_tree.specs.PlainExpressions.{PlainExpr, PInt, PBool, PStr, PNil, PVar, PSelf, PAttr, PCall, PApply, PIndex, PList, PNeg, PPos, PNot, PChain, PAnd, POr, PCompare, PIsNone, PCond, PlainExprs, PlainLinks, PNoLink, PMoreLinks, plain_links, links_of}
use Rattle.py_tree.specs.Flow.{Context}
use Rattle.call_graph.specs.SuspendingCode.{Leaving, expr_suspends}
use Rattle.flat_tree.specs.PlainFlat.{PlainFlatTest, FNot, FAnd, FOr}
use Rattle.hoisting.specs.Stages.{Stage, ty_at}
use Rattle.hoisting.specs.HoistExpressions.{Hoisted, Tested, still, built, in_turn, settled, kept, lasts, so_far, chain_of, leaf, made_of, forms_if, chosen, taken, taken_links, taken_operands, forms}
use Rattle.expression_hoister.specs.Ways.{PlainWay, way_where, choice_of, two_forms, call_value, apply_value, list_value, run_value, truth_value, cond_value}

-- two parts that were made one after another
pub turned : {R S T : Type 0} (f : R → S → T) (a k : Hoisted R) (b : Hoisted S) (g : Stage → Hoisted S) → a ≡ k → b ≡ g a.stage → in_turn f a (λ h. b) ≡ in_turn f k g
turned f a k b g first second = ap (λ y. in_turn f a (λ h. y)) second ∙ ap (λ x. in_turn f x (λ h. g x.stage)) first

pub kept_settled : (later lasting : Bool) (at : Place) (ty : PlainTy) (a : Hoisted PlainExpr) → later ≡ true → lasting ≡ false → settled at ty a ≡ kept later lasting at ty a
kept_settled later lasting at ty a on off = sym (λ j. kept (on j) (off j) at ty a)

-- a run with links
pub run_so_far : (leaves : Leaving) (c : Context) (at : Place) (first : PlainExpr) (links : List Link) (h : Stage) → (links ≡ [] → ⊥)
    → so_far at (taken_links leaves c at (ty_at c None h.locals first) (links_of (plain_links links)) (chain_of (lasts leaves first) ((forms leaves c first).value None h))) ≡ run_value leaves c at first (links_of (plain_links links)) h
run_so_far leaves c at first [] h some = absurd (some refl)
run_so_far leaves c at first (l ∷ links) h some = refl

pub not_so : {P : Type 0} (b : Bool) → ((b ≡ true) ↔ P) → b ≡ false → P → ⊥
not_so b both off p = true≢false (sym (both.1 p) ∙ off)

-- kinds that hold nothing that suspends
abbrev pub is_leaf : PlainExpr → Bool
is_leaf (PInt at z) = true
is_leaf (PBool at b) = true
is_leaf (PStr at s) = true
is_leaf (PNil at) = true
is_leaf (PVar at x) = true
is_leaf (PSelf at) = true
is_leaf (PAttr at on x x_at) = true
is_leaf _ = false

-- kinds whose tests are no values
abbrev pub is_junction : PlainExpr → Bool
is_junction (PNot at a) = true
is_junction (PAnd at items) = true
is_junction (POr at items) = true
is_junction _ = false

-- the value of one of two ways
pub chosen_is : (at : Place) (ty : PlainTy) (locals : List PlainLocal) (e : PlainExpr) (t : Tested PlainFlatTest) (holds fails : PlainWay) (first second : Stage → Hoisted PlainExpr) → holds ≡ way_where true e locals t.next first → fails ≡ way_where false e locals holds.next second
    → choice_of at ty locals t.test holds fails ≡ chosen at ty locals e t first second
chosen_is at ty locals e t holds fails first second holds_is fails_is =
    ap (choice_of at ty locals t.test holds) fails_is ∙ ap (λ (w : PlainWay). choice_of at ty locals t.test w (way_where false e locals w.next second)) holds_is

module _ (leaves : Leaving) (c : Context) where
  pub value_still : (e : PlainExpr) (wanted : Option PlainTy) (h : Stage) → expr_suspends leaves e ≡ false → still e h ≡ (forms leaves c e).value wanted h
  value_still e wanted h stays = sym (ap (λ b. (forms_if b e (taken leaves c e)).value wanted h) stays)

  value_taken : (e : PlainExpr) (wanted : Option PlainTy) (h : Stage) → expr_suspends leaves e ≡ true → (taken leaves c e).value wanted h ≡ (forms leaves c e).value wanted h
  value_taken e wanted h asks = sym (ap (λ b. (forms_if b e (taken leaves c e)).value wanted h) asks)

  test_taken : (e : PlainExpr) (h : Stage) → expr_suspends leaves e ≡ true → (taken leaves c e).test h ≡ (forms leaves c e).test h
  test_taken e h asks = sym (ap (λ b. (forms_if b e (taken leaves c e)).test h) asks)

  module _ (wanted : Option PlainTy) (h : Stage) (at : Place) where
    pub value-Neg : (a e : PlainExpr) → e ≡ PNeg at a → expr_suspends leaves e ≡ true → built (PNeg at) ((forms leaves c a).value None h) ≡ (forms leaves c e).value wanted h
    unfolding taken
    value-Neg a e is asks = ap (λ x. (taken leaves c x).value wanted h) (sym is) ∙ value_taken e wanted h asks

    pub value-Pos : (a e : PlainExpr) → e ≡ PPos at a → expr_suspends leaves e ≡ true → built (PPos at) ((forms leaves c a).value None h) ≡ (forms leaves c e).value wanted h
    unfolding taken
    value-Pos a e is asks = ap (λ x. (taken leaves c x).value wanted h) (sym is) ∙ value_taken e wanted h asks

    pub value-Not : (a e : PlainExpr) → e ≡ PNot at a → expr_suspends leaves e ≡ true → built (PNot at) ((forms leaves c a).value None h) ≡ (forms leaves c e).value wanted h
    unfolding taken
    value-Not a e is asks = ap (λ x. (taken leaves c x).value wanted h) (sym is) ∙ value_taken e wanted h asks

    pub value-IsNone : (positive : Bool) (a e : PlainExpr) → e ≡ PIsNone at a positive → expr_suspends leaves e ≡ true → built (λ r. PIsNone at r positive) ((forms leaves c a).value None h) ≡ (forms leaves c e).value wanted h
    unfolding taken
    value-IsNone positive a e is asks = ap (λ x. (taken leaves c x).value wanted h) (sym is) ∙ value_taken e wanted h asks

    pub value-Index : (a b e : PlainExpr) → e ≡ PIndex at a b → expr_suspends leaves e ≡ true → built (λ r. PIndex at r.0 r.1) (two_forms leaves c a b h) ≡ (forms leaves c e).value wanted h
    unfolding taken
    value-Index a b e is asks = ap (λ x. (taken leaves c x).value wanted h) (sym is) ∙ value_taken e wanted h asks

    pub value-Compare : (op : Cmp) (op_at : Place) (a b e : PlainExpr) → e ≡ PCompare at op op_at a b → expr_suspends leaves e ≡ true → built (λ r. PCompare at op op_at r.0 r.1) (two_forms leaves c a b h) ≡ (forms leaves c e).value wanted h
    unfolding taken
    value-Compare op op_at a b e is asks = ap (λ x. (taken leaves c x).value wanted h) (sym is) ∙ value_taken e wanted h asks

    pub value-List : (items : PlainExprs) (e : PlainExpr) → e ≡ PList at items → expr_suspends leaves e ≡ true → list_value leaves c wanted at items h ≡ (forms leaves c e).value wanted h
    unfolding taken
    value-List items e is asks = ap (λ x. (taken leaves c x).value wanted h) (sym is) ∙ value_taken e wanted h asks

    pub value-Call : (on : PlainExpr) (name : ℕ) (name_at : Place) (args : PlainExprs) (e : PlainExpr) → e ≡ PCall at on name name_at args → expr_suspends leaves e ≡ true
        → call_value leaves c (ty_at c wanted h.locals e) at on name name_at args h ≡ (forms leaves c e).value wanted h
    unfolding taken
    value-Call on name name_at args e is asks =
        ap (λ x. call_value leaves c (ty_at c wanted h.locals x) at on name name_at args h) is ∙ ap (λ x. (taken leaves c x).value wanted h) (sym is) ∙ value_taken e wanted h asks

    pub value-Apply : (name : ℕ) (args : PlainExprs) (e : PlainExpr) → e ≡ PApply at name args → expr_suspends leaves e ≡ true
        → apply_value leaves c (ty_at c wanted h.locals e) at name args h ≡ (forms leaves c e).value wanted h
    unfolding taken
    value-Apply name args e is asks =
        ap (λ x. apply_value leaves c (ty_at c wanted h.locals x) at name args h) is ∙ ap (λ x. (taken leaves c x).value wanted h) (sym is) ∙ value_taken e wanted h asks

    pub value-Cond : (test a b e : PlainExpr) → e ≡ PCond at test a b → expr_suspends leaves e ≡ true
        → cond_value leaves c wanted (ty_at c wanted h.locals e) at test a b h ≡ (forms leaves c e).value wanted h
    unfolding taken
    value-Cond test a b e is asks =
        ap (λ x. cond_value leaves c wanted (ty_at c wanted h.locals x) at test a b h) is ∙ ap (λ x. (taken leaves c x).value wanted h) (sym is) ∙ value_taken e wanted h asks

    run_taken : (first : PlainExpr) (links : PlainLinks) → run_value leaves c at first links h ≡ (taken leaves c (PChain at first links)).value wanted h
    unfolding taken
    run_taken first PNoLink = refl
    run_taken first (PMoreLinks l more) = refl

    pub value-Chain : (first : PlainExpr) (links : PlainLinks) (e : PlainExpr) → e ≡ PChain at first links → expr_suspends leaves e ≡ true → run_value leaves c at first links h ≡ (forms leaves c e).value wanted h
    value-Chain first links e is asks = run_taken first links ∙ ap (λ x. (taken leaves c x).value wanted h) (sym is) ∙ value_taken e wanted h asks

    pub value-And : (items : PlainExprs) (e : PlainExpr) → e ≡ PAnd at items → expr_suspends leaves e ≡ true → truth_value leaves c at e true items h ≡ (forms leaves c e).value wanted h
    unfolding taken
    value-And items e is asks =
        ap (λ x. truth_value leaves c at x true items h) is ∙ ap (λ x. (taken leaves c x).value wanted h) (sym is) ∙ value_taken e wanted h asks

    pub value-Or : (items : PlainExprs) (e : PlainExpr) → e ≡ POr at items → expr_suspends leaves e ≡ true → truth_value leaves c at e false items h ≡ (forms leaves c e).value wanted h
    unfolding taken
    value-Or items e is asks =
        ap (λ x. truth_value leaves c at x false items h) is ∙ ap (λ x. (taken leaves c x).value wanted h) (sym is) ∙ value_taken e wanted h asks

  leaf_stays : (e : PlainExpr) → is_leaf e ≡ true → expr_suspends leaves e ≡ false
  unfolding expr_suspends
  leaf_stays (PInt at z) is = refl
  leaf_stays (PBool at b) is = refl
  leaf_stays (PStr at s) is = refl
  leaf_stays (PNil at) is = refl
  leaf_stays (PVar at x) is = refl
  leaf_stays (PSelf at) is = refl
  leaf_stays (PAttr at on x x_at) is = refl
  leaf_stays (PCall at on name name_at args) is = absurd (true≢false (sym is))
  leaf_stays (PApply at name args) is = absurd (true≢false (sym is))
  leaf_stays (PIndex at on index) is = absurd (true≢false (sym is))
  leaf_stays (PList at items) is = absurd (true≢false (sym is))
  leaf_stays (PNeg at a) is = absurd (true≢false (sym is))
  leaf_stays (PPos at a) is = absurd (true≢false (sym is))
  leaf_stays (PNot at a) is = absurd (true≢false (sym is))
  leaf_stays (PChain at first links) is = absurd (true≢false (sym is))
  leaf_stays (PAnd at items) is = absurd (true≢false (sym is))
  leaf_stays (POr at items) is = absurd (true≢false (sym is))
  leaf_stays (PCompare at op op_at left right) is = absurd (true≢false (sym is))
  leaf_stays (PIsNone at a positive) is = absurd (true≢false (sym is))
  leaf_stays (PCond at test a b) is = absurd (true≢false (sym is))

  pub value_leaf : (e : PlainExpr) (wanted : Option PlainTy) (h : Stage) → is_leaf e ≡ true → still e h ≡ (forms leaves c e).value wanted h
  value_leaf e wanted h is = value_still e wanted h (leaf_stays e is)

  -- Tests

  pub test_still : (e : PlainExpr) (h : Stage) → expr_suspends leaves e ≡ false → leaf ((forms leaves c e).value None h) ≡ (forms leaves c e).test h
  test_still e h stays = ap (λ b. leaf ((forms_if b e (taken leaves c e)).value None h)) stays ∙ sym (ap (λ b. (forms_if b e (taken leaves c e)).test h) stays)

  by_value_taken : (e : PlainExpr) (h : Stage) → is_junction e ≡ false → leaf ((taken leaves c e).value None h) ≡ (taken leaves c e).test h
  unfolding taken
  by_value_taken (PInt at z) h is = refl
  by_value_taken (PBool at b) h is = refl
  by_value_taken (PStr at s) h is = refl
  by_value_taken (PNil at) h is = refl
  by_value_taken (PVar at x) h is = refl
  by_value_taken (PSelf at) h is = refl
  by_value_taken (PAttr at on x x_at) h is = refl
  by_value_taken (PCall at on name name_at args) h is = refl
  by_value_taken (PApply at name args) h is = refl
  by_value_taken (PIndex at a b) h is = refl
  by_value_taken (PList at items) h is = refl
  by_value_taken (PNeg at a) h is = refl
  by_value_taken (PPos at a) h is = refl
  by_value_taken (PChain at first PNoLink) h is = refl
  by_value_taken (PChain at first (PMoreLinks l more)) h is = refl
  by_value_taken (PCompare at op op_at a b) h is = refl
  by_value_taken (PIsNone at a positive) h is = refl
  by_value_taken (PCond at test a b) h is = refl
  by_value_taken (PNot at a) h is = absurd (true≢false is)
  by_value_taken (PAnd at items) h is = absurd (true≢false is)
  by_value_taken (POr at items) h is = absurd (true≢false is)

  pub test_by_value : (e : PlainExpr) (h : Stage) → is_junction e ≡ false → leaf ((forms leaves c e).value None h) ≡ (forms leaves c e).test h
  test_by_value e h is = forms_by (expr_suspends leaves e) where
    forms_by : (b : Bool) → leaf ((forms_if b e (taken leaves c e)).value None h) ≡ (forms_if b e (taken leaves c e)).test h
    forms_by true = by_value_taken e h is
    forms_by false = refl

  module _ (h : Stage) (at : Place) where
    pub test-Not : (a e : PlainExpr) → e ≡ PNot at a → expr_suspends leaves e ≡ true → made_of FNot ((forms leaves c a).test h) ≡ (forms leaves c e).test h
    unfolding taken
    test-Not a e is asks = ap (λ x. (taken leaves c x).test h) (sym is) ∙ test_taken e h asks

    pub test-And : (items : PlainExprs) (e : PlainExpr) → e ≡ PAnd at items → expr_suspends leaves e ≡ true → made_of FAnd (taken_operands leaves c true items h) ≡ (forms leaves c e).test h
    unfolding taken
    test-And items e is asks = ap (λ x. (taken leaves c x).test h) (sym is) ∙ test_taken e h asks

    pub test-Or : (items : PlainExprs) (e : PlainExpr) → e ≡ POr at items → expr_suspends leaves e ≡ true → made_of FOr (taken_operands leaves c false items h) ≡ (forms leaves c e).test h
    unfolding taken
    test-Or items e is asks = ap (λ x. (taken leaves c x).test h) (sym is) ∙ test_taken e h asks
