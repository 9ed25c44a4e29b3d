-- Expressions, links and operands one after another, from one of them on.
use Rattle.std.proofs.Common.{◌≡◌, ℕ, ◌+◌, Bool, true, false, Option, List, [], ◌∷◌, ◌++◌, drop, append_assoc, refl, sym, ap, ◌∙◌}
use Rattle.std.proofs.lemmas.Bool.{or_parts}
use Rattle.std.proofs.lemmas.List.{append-nil}
use Rattle.py_tree.specs.declared.names.Place.{Place}
use Rattle.py_tree.specs.PlainTypes.{PlainTy}
use Rattle.py_tree.specs.PlainExpressions.{PlainExpr, PlainExprs, PNoExpr, PExpr, PlainLink, PLink, PlainLinks, PNoLink, PMoreLinks, exprs_of}
use Rattle.py_tree.specs.ExpressionTypes.{place_of}
use Rattle.py_tree.specs.Flow.{Context}
use Rattle.call_graph.specs.SuspendingCode.{Leaving, expr_suspends, exprs_suspend}
use Rattle.flat_tree.specs.PlainFlat.{PlainFlatStmt, PlainOperand, PlainOperands, FNoOperand, FMoreOperands, operands_of}
use Rattle.hoisting.specs.Stages.{Stage, ty_at}
use Rattle.hoisting.specs.HoistExpressions.{Hoisted, Tested, still, if_suspends, in_turn, kept, lasts, first_wanted, others_wanted, ChainPart, forms_if, taken, taken_each, taken_links, taken_operands}
use Rattle.py_tree.specs.declared.ty.Ty.{Ty}
use Rattle.expression_hoister.specs.ExpressionViews.{plain_each_wanted}
use Rattle.expression_hoister.proofs.WantLaws.{others_from}
use Rattle.expression_hoister.specs.Ways.{kept_form, each_form, link_more, operand_of, behind_operand}

-- Lists of trees before others

abbrev pub exprs_before : List PlainExpr → PlainExprs → PlainExprs
exprs_before [] more = more
exprs_before (e ∷ es) more = PExpr e (exprs_before es more)

abbrev pub operands_before : List PlainOperand → PlainOperands → PlainOperands
operands_before [] more = more
operands_before (o ∷ os) more = FMoreOperands o (operands_before os more)

exprs_on : (es : List PlainExpr) (e : PlainExpr) (more : PlainExprs) → exprs_before (es ++ e ∷ []) more ≡ exprs_before es (PExpr e more)
exprs_on [] e more = refl
exprs_on (x ∷ es) e more = ap (PExpr x) (exprs_on es e more)

exprs_all : (es : List PlainExpr) → exprs_before es PNoExpr ≡ exprs_of es
exprs_all [] = refl
exprs_all (e ∷ es) = ap (PExpr e) (exprs_all es)

operands_on : (os : List PlainOperand) (o : PlainOperand) (more : PlainOperands) → operands_before (os ++ o ∷ []) more ≡ operands_before os (FMoreOperands o more)
operands_on [] o more = refl
operands_on (x ∷ os) o more = ap (FMoreOperands x) (operands_on os o more)

operands_all : (os : List PlainOperand) → operands_before os FNoOperand ≡ operands_of os
operands_all [] = refl
operands_all (o ∷ os) = ap (FMoreOperands o) (operands_all os)

-- behind what was hoisted so far
abbrev pub after_each : List PlainFlatStmt → List PlainExpr → Hoisted PlainExprs → Hoisted PlainExprs
after_each before rest a = record { before = before ++ a.before; rest = exprs_before rest a.rest; stage = a.stage }

abbrev pub after_operands : List PlainOperand → Tested PlainOperands → Tested PlainOperands
after_operands os t = record { test = operands_before os t.test; next = t.next }

module _ (leaves : Leaving) (c : Context) where
  -- Expressions

  each_still : (ws : List (Option PlainTy)) (es : PlainExprs) (h : Stage) → exprs_suspend leaves es ≡ false → taken_each leaves c ws es h ≡ still es h
  unfolding taken expr_suspends
  each_still ws PNoExpr h stays = refl
  each_still ws (PExpr x xs) h stays =
      let off = or_parts (expr_suspends leaves x) (exprs_suspend leaves xs) stays in
      λ i. in_turn PExpr (kept (off.1 i) (lasts leaves x) (place_of x) (ty_at c (first_wanted ws) h.locals x) ((forms_if (off.0 i) x (taken leaves c x)).value (first_wanted ws) h))
      (λ g. if_suspends (off.1 i) xs g (taken_each leaves c (others_wanted ws) xs g))

  pub each_taken : (ws : List (Option PlainTy)) (es : PlainExprs) (h : Stage) → each_form leaves c ws es h ≡ taken_each leaves c ws es h
  each_taken ws es h = by (exprs_suspend leaves es) refl where
    by : (b : Bool) → exprs_suspend leaves es ≡ b → if_suspends b es h (taken_each leaves c ws es h) ≡ taken_each leaves c ws es h
    by true is = refl
    by false is = sym (each_still ws es h is)

  each_first : (ws : List (Option PlainTy)) (x : PlainExpr) (xs : PlainExprs) (h : Stage)
      → taken_each leaves c ws (PExpr x xs) h ≡ in_turn PExpr (kept_form leaves c (exprs_suspend leaves xs) (first_wanted ws) x h) (λ g. each_form leaves c (others_wanted ws) xs g)
  unfolding taken
  each_first ws x xs h = refl

  module _ (all : Hoisted PlainExprs) (ws : List (Option Ty)) (i : ℕ) (before : List PlainFlatStmt) (rest : List PlainExpr) where
    -- one expression more
    pub each_more : (h : Stage) (x : PlainExpr) (xs es : PlainExprs) (later : Bool) (wanted : Option PlainTy) → es ≡ PExpr x xs → exprs_suspend leaves xs ≡ later → wanted ≡ first_wanted (plain_each_wanted (drop i ws))
        → (made : Hoisted PlainExpr) → made ≡ kept_form leaves c later wanted x h
        → after_each before rest (taken_each leaves c (plain_each_wanted (drop i ws)) es h) ≡ all
        → after_each (before ++ made.before) (rest ++ made.rest ∷ []) (taken_each leaves c (plain_each_wanted (drop (i + 1) ws)) xs made.stage) ≡ all
    each_more h x xs es later wanted is last want made known so_far =
        let kept_so : made ≡ kept_form leaves c (exprs_suspend leaves xs) (first_wanted (plain_each_wanted (drop i ws))) x h = known ∙ (λ j. kept_form leaves c (sym last j) (want j) x h) in
        (λ j. after_each (before ++ made.before) (rest ++ made.rest ∷ []) (taken_each leaves c (sym (others_from ws i) j) xs made.stage))
        ∙ (λ j. record {
          before = append_assoc before made.before (taken_each leaves c (others_wanted (plain_each_wanted (drop i ws))) xs made.stage).before j;
          rest = exprs_on rest made.rest (taken_each leaves c (others_wanted (plain_each_wanted (drop i ws))) xs made.stage).rest j;
          stage = (taken_each leaves c (others_wanted (plain_each_wanted (drop i ws))) xs made.stage).stage;
        })
        ∙ (λ j. after_each before rest (in_turn PExpr made (λ g. sym (each_taken (others_wanted (plain_each_wanted (drop i ws))) xs g) j)))
        ∙ (λ j. after_each before rest (in_turn PExpr (kept_so j) (λ g. each_form leaves c (others_wanted (plain_each_wanted (drop i ws))) xs g)))
        ∙ sym (ap (after_each before rest) (ap (λ y. taken_each leaves c (plain_each_wanted (drop i ws)) y h) is ∙ each_first (plain_each_wanted (drop i ws)) x xs h))
        ∙ so_far

    -- no more
    pub each_done : (h : Stage) (es : PlainExprs) → es ≡ PNoExpr → after_each before rest (taken_each leaves c (plain_each_wanted (drop i ws)) es h) ≡ all → record { before = before; rest = exprs_of rest; stage = h } ≡ all
    unfolding taken
    each_done h es none so_far =
        (λ j. record { before = sym (append-nil before) j; rest = sym (exprs_all rest) j; stage = h }) ∙ sym (ap (λ y. after_each before rest (taken_each leaves c (plain_each_wanted (drop i ws)) y h)) none) ∙ so_far

  -- Links

  pub links_more : (at : Place) (ty : PlainTy) (l : PlainLink) (more : PlainLinks) (r : ChainPart) → taken_links leaves c at ty (PMoreLinks l more) r ≡ taken_links leaves c at ty more (link_more leaves c at ty l r)
  unfolding taken
  links_more at ty (PLink op op_at right) more r = refl

  pub links_done : (at : Place) (ty : PlainTy) (r : ChainPart) → taken_links leaves c at ty PNoLink r ≡ r
  unfolding taken
  links_done at ty r = refl

  -- Operands

  operands_first : (truth : Bool) (x : PlainExpr) (xs : PlainExprs) (h : Stage)
      → taken_operands leaves c truth (PExpr x xs) h ≡ after_operands (operand_of leaves c truth x h ∷ []) (taken_operands leaves c truth xs (behind_operand leaves c truth x h))
  unfolding taken
  operands_first truth x xs h = refl

  module _ (all : Tested PlainOperands) (truth : Bool) (os : List PlainOperand) where
    pub operands_more : (h : Stage) (x : PlainExpr) (xs es : PlainExprs) → es ≡ PExpr x xs → (o : PlainOperand) (g : Stage) → o ≡ operand_of leaves c truth x h → g ≡ behind_operand leaves c truth x h
        → after_operands os (taken_operands leaves c truth es h) ≡ all → after_operands (os ++ o ∷ []) (taken_operands leaves c truth xs g) ≡ all
    operands_more h x xs es is o g operand behind so_far =
        (λ j. after_operands (os ++ operand j ∷ []) (taken_operands leaves c truth xs (behind j)))
        ∙ (λ j. record {
          test = operands_on os (operand_of leaves c truth x h) (taken_operands leaves c truth xs (behind_operand leaves c truth x h)).test j;
          next = (taken_operands leaves c truth xs (behind_operand leaves c truth x h)).next;
        })
        ∙ sym (ap (after_operands os) (ap (λ y. taken_operands leaves c truth y h) is ∙ operands_first truth x xs h)) ∙ so_far

    pub operands_done : (h : Stage) (es : PlainExprs) → es ≡ PNoExpr → after_operands os (taken_operands leaves c truth es h) ≡ all → record { test = operands_of os; next = h.next } ≡ all
    unfolding taken
    operands_done h es none so_far =
        (λ j. record { test = sym (operands_all os) j; next = h.next }) ∙ sym (ap (λ y. after_operands os (taken_operands leaves c truth y h)) none) ∙ so_far
