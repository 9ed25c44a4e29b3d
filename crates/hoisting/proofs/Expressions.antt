-- Calls out of expressions: what runs before an expression and what is left of it give what the expression gives.
use Rattle.std.proofs.Common.{◌≡◌, ◌≤◌, ℕ, pos, ◌-ℤ◌, Bool, true, false, not, Option, None, Result, Ok, Err, List, [], ◌∷◌, ◌++◌, if◌then◌else◌, refl, sym, ap, ◌∙◌, subst, true≢false}
use Rattle.std.specs.Prelude.{is_none, ◌||◌, option_and_then}
use Rattle.std.proofs.lemmas.Bool.{or_parts}
use Rattle.py_tree.specs.declared.names.Place.{Place}
use Rattle.py_tree.specs.declared.expr.BinOp.{BinOp}
use Rattle.py_tree.specs.PlainTypes.{PlainTy, TBool}
use Rattle.py_tree.specs.Bounded.{ExprNames, ExprsNames, LinksNames}
use Rattle.py_tree.specs.ExpressionTypes.{function_of, place_of, element_wanted, right_wanted}
use Rattle.py_tree.specs.Flow.{Context}
use Rattle.py_tree.specs.PlainExpressions.{PlainExpr, PInt, PBool, PStr, PNil, PVar, PSelf, PAttr, PCall, PApply, PIndex, PList, PNeg, PPos, PNot, PChain, PAnd, POr, PCompare, PIsNone, PCond, PlainExprs, PNoExpr, PExpr, PLink, PlainLinks, PNoLink, PMoreLinks}
use Rattle.call_graph.specs.SuspendingCode.{Leaving, expr_suspends, exprs_suspend}
use Rattle.sf_value.specs.declared.Failure.{Failure}
use Rattle.sf_value.specs.declared.value.Value.{Value}
use Rattle.sf_value.specs.declared.value.Value.TheVariants as value
use Rattle.program_meaning.specs.declared.vars.Var.{Var}
use Rattle.program_meaning.specs.World.{Gives, Got, Fell, ◌>>=◌, told, Ends}
use Rattle.program_meaning.specs.Operations.{in_range, weighed, int_of, is_true, is_nil, items_of, element, combined, holds as holds_op}
use Rattle.program_meaning.specs.Evaluation.{Site, eval, eval_all, linked, each_is, applied, entity, key_in, method_of}
use Rattle.program_meaning.specs.LightValues.{IsLight, GivesLight, CallsGiveLight}
use Rattle.program_meaning.proofs.LightOperations.{LightResult, light_weighed, int_light, bool_light, nil_light, combined_light}
use Rattle.program_meaning.proofs.LightExpressions.{eval_light}
use Rattle.flat_tree.specs.PlainFlat.{PlainFlatTest, FAnd, FOr}
use Rattle.flat_tree.specs.FlatMeaning.{run_stmt, decide, decide_each, run}
use Rattle.flat_tree.proofs.NamesBelow.{AgreeBelow, agree_with_itself, agree_on, agree_back, agree_within}
use Rattle.flat_tree.proofs.SameNames.{eval_same, eval_all_same, follows_same}
use Rattle.flat_tree.proofs.InTurn.{gives_itself, run_in_turn, Leads, leads, falls, Holds, holds, Decides, leads_through, leads_behind, holds_then, leaf_decides, not_decides, no_operand_decides, operand_decides, and_decides, or_decides}
use Rattle.hoisting.specs.Stages.{Stage, surely, where_shown, ty_at, method_params}
use Rattle.hoisting.specs.HoistExpressions.{Hoisted, Tested, Forms, still, if_suspends, in_turn, settled_unless, kept, lasts, by_value, forms_if, made_of, truth_of, with_args, by_params, by_function, by_elements, first_wanted, others_wanted, ChainPart, chain_of, so_far, linked_on, begun_anew, either, taken, taken_each, taken_links, taken_operands, forms}
use Rattle.hoisting.proofs.Temporaries.{le_on, if_rises, turn_rises, settled_rises, each_rises, operands_rise, forms_rise, still_up}
use Rattle.hoisting.proofs.PartsMean.{nothing_before, no_form_before, Means, MeansBy, means_there, means_at_once, settled_means, turn_leads, call_means, apply_means, chosen_means, truth_again, chain_behind, link_then_more, ChainMeans, either_means}

module _ {W : Type 0} (s : Site W) (leaves : Leaving) (c : Context) (calls : CallsGiveLight s.calls) (own_light : IsLight (entity s.me)) (limit : ℕ) (vs : List Var) where
  pub given_light : (e : PlainExpr) (w : W) (n : ℕ) → GivesLight (eval s e vs w n)
  given_light e w n = eval_light s calls e vs w n

  -- the forms of a hoisted expression mean the expression, as a value and as a test, where the locals agree with those of the source
  pub record FormsMean (e : PlainExpr) (both : Forms) : Type 0 where
    pub value : (wanted : Option PlainTy) (h : Stage) (us : List Var) (w : W) (n : ℕ) → limit ≤ h.next → AgreeBelow limit us vs → Means s (lasts leaves e) h.next us w n (eval s e vs w n) (both.value wanted h)
    pub test : (h : Stage) (us : List Var) (w : W) (n : ℕ) → limit ≤ h.next → AgreeBelow limit us vs → Decides h.next us (λ yes' no'. decide s (both.test h).test yes' no' us w n) (eval s e vs w n)

  value_means : (e : PlainExpr) (value : Option PlainTy → Stage → Hoisted PlainExpr)
      → ((wanted : Option PlainTy) (h : Stage) (us : List Var) (w : W) (n : ℕ) → limit ≤ h.next → AgreeBelow limit us vs → Means s (lasts leaves e) h.next us w n (eval s e vs w n) (value wanted h))
      → FormsMean e (by_value value)
  value_means e value m = record {
    value = m;
    test = λ h us w n le agree. leaf_decides s (value None h).before (value None h).rest w n (eval s e vs w n) (means_there s (lasts leaves e) w n (value None h) (m None h us w n le agree));
  }

  -- What stays

  constant_means : (e : PlainExpr) (x : Value) → IsLight x → ((us : List Var) (w : W) (n : ℕ) → eval s e us w n ≡ Got x w n) → (h : Stage) (us : List Var) (w : W) (n : ℕ) → Means s true h.next us w n (eval s e vs w n) (still e h)
  unfolding run_stmt
  constant_means e x light is h us w n = record { stands = subst (λ g. Holds h.next h.next us (eval s e) g (run s [] us w n)) (sym (is vs w n)) (holds (agree_with_itself h.next us) light (λ after v m agree. is after v m)) }

  quiet_means : (e : PlainExpr) → ExprNames limit e → (b : Bool) → b ≡ false → (h : Stage) (us : List Var) (w : W) (n : ℕ) → AgreeBelow limit us vs → Means s b h.next us w n (eval s e vs w n) (still e h)
  quiet_means e named true is h us w n agree = absurd (true≢false is)
  quiet_means e named false is h us w n agree = means_at_once s e h.next h us w n (eval s e vs w n) (eval_same s agree e named w n)

  still_means : (e : PlainExpr) → ExprNames limit e → expr_suspends leaves e ≡ false → (h : Stage) (us : List Var) (w : W) (n : ℕ) → AgreeBelow limit us vs → Means s (lasts leaves e) h.next us w n (eval s e vs w n) (still e h)
  unfolding eval expr_suspends
  still_means (PInt at z) named is h us w n agree = constant_means (PInt at z) (value.Int z) (int_light z) (λ us w n. refl) h us w n
  still_means (PBool at b) named is h us w n agree = constant_means (PBool at b) (value.Bool b) (bool_light b) (λ us w n. refl) h us w n
  still_means (PNil at) named is h us w n agree = constant_means (PNil at) value.Nil nil_light (λ us w n. refl) h us w n
  still_means (PSelf at) named is h us w n agree = constant_means (PSelf at) (entity s.me) own_light (λ us w n. ap (λ r. told r w n) (light_weighed (entity s.me) own_light)) h us w n
  still_means (PCall at on name name_at args) named is h us w n agree = quiet_means (PCall at on name name_at args) named (leaves on name) (or_parts (expr_suspends leaves on || exprs_suspend leaves args) (leaves on name) is).1 h us w n agree
  still_means (PApply at name args) named is h us w n agree = quiet_means (PApply at name args) named (is_none (function_of name)) (or_parts (exprs_suspend leaves args) (is_none (function_of name)) is).1 h us w n agree
  still_means (PAnd at items) named is h us w n agree = quiet_means (PAnd at items) named (exprs_suspend leaves items) is h us w n agree
  still_means (POr at items) named is h us w n agree = quiet_means (POr at items) named (exprs_suspend leaves items) is h us w n agree
  still_means (PCond at test a b) named is h us w n agree = quiet_means (PCond at test a b) named (expr_suspends leaves test || (expr_suspends leaves a || expr_suspends leaves b)) is h us w n agree
  still_means (PStr at text) named is h us w n agree = quiet_means (PStr at text) named false refl h us w n agree
  still_means (PVar at x) named is h us w n agree = quiet_means (PVar at x) named false refl h us w n agree
  still_means (PAttr at on x x_at) named is h us w n agree = quiet_means (PAttr at on x x_at) named false refl h us w n agree
  still_means (PIndex at on index) named is h us w n agree = quiet_means (PIndex at on index) named false refl h us w n agree
  still_means (PList at items) named is h us w n agree = quiet_means (PList at items) named false refl h us w n agree
  still_means (PNeg at a) named is h us w n agree = quiet_means (PNeg at a) named false refl h us w n agree
  still_means (PPos at a) named is h us w n agree = quiet_means (PPos at a) named false refl h us w n agree
  still_means (PNot at a) named is h us w n agree = quiet_means (PNot at a) named false refl h us w n agree
  still_means (PChain at first links) named is h us w n agree = quiet_means (PChain at first links) named false refl h us w n agree
  still_means (PCompare at op op_at left right) named is h us w n agree = quiet_means (PCompare at op op_at left right) named false refl h us w n agree
  still_means (PIsNone at a positive) named is h us w n agree = quiet_means (PIsNone at a positive) named false refl h us w n agree

  -- where it doesn't suspend it stays, and so what is to be shown is only of one that does
  means_if : (e : PlainExpr) (both : Forms) → ExprNames limit e → (expr_suspends leaves e ≡ true → FormsMean e both) → FormsMean e (forms_if (expr_suspends leaves e) e both)
  means_if e both named m = by (expr_suspends leaves e) refl
    where
      by : (b : Bool) → expr_suspends leaves e ≡ b → FormsMean e (forms_if b e both)
      by true is = m is
      by false is = value_means e (λ wanted h. still e h) (λ wanted h us w n le agree. still_means e named is h us w n agree)

  stays_means : (e : PlainExpr) → ExprNames limit e → expr_suspends leaves e ≡ false → FormsMean e (forms leaves c e)
  stays_means e named is = means_if e (taken leaves c e) named (λ asked. absurd (true≢false (sym asked ∙ is)))

  each_if : (b : Bool) (es : PlainExprs) (a : Hoisted PlainExprs) → ExprsNames limit es → (xs : List Value) (h : Stage) (us : List Var) (w : W) (n : ℕ) → AgreeBelow limit us vs
      → MeansBy s (λ rs us w n. eval_all s rs xs us w n) h.next us w n (eval_all s es xs vs w n) a → MeansBy s (λ rs us w n. eval_all s rs xs us w n) h.next us w n (eval_all s es xs vs w n) (if_suspends b es h a)
  unfolding run_stmt
  each_if true es a named xs h us w n agree m = m
  each_if false es a named xs h us w n agree m = record { leads = leads (agree_with_itself h.next us) (eval_all_same s agree es named xs w n) }

  -- from there on the locals still agree with those of the source
  along : {least : ℕ} {us later : List Var} → limit ≤ least → AgreeBelow limit us vs → AgreeBelow least us later → AgreeBelow limit later vs
  along le agree on = agree_on (agree_back (agree_within le on)) agree

  abbrev part : PlainExpr → Option PlainTy → Stage → Hoisted PlainExpr
  part e wanted h = (forms leaves c e).value wanted h

  abbrev parts : List (Option PlainTy) → PlainExprs → Stage → Hoisted PlainExprs
  parts wanted es h = if_suspends (exprs_suspend leaves es) es h (taken_each leaves c wanted es h)

  abbrev called_with : ℕ → Value → List Value → W → ℕ → Gives W Value
  called_with name v xs w n = s.calls.call (key_in v) (method_of s.src (key_in v).0 name) xs w n

  told_light : (r : Result Value Failure) (w : W) (n : ℕ) → LightResult r → GivesLight (told r w n >>= λ v w n. Got v w n)
  told_light (Ok v) w n light = light
  told_light (Err f) w n light = tt

  follows_light : (g : Gives W Value) (f : Value → W → ℕ → Gives W Value) → ((v : Value) (w : W) (n : ℕ) → GivesLight (f v w n)) → GivesLight (g >>= f)
  follows_light (Got v w n) f later = later v w n
  follows_light (Fell e w n) f later = tt

  -- a link behind what is given gives a light value
  link_light : (op : BinOp) (at : Place) (right : PlainExpr) (g : Gives W Value) → GivesLight (g >>= λ v w n. linked s (PMoreLinks (PLink op at right) PNoLink) v vs w n)
  unfolding eval
  link_light op at right g = follows_light g _ (λ v w n. follows_light (eval s right vs w n) _ (λ x w n. told_light (combined op v x) w n (combined_light op v x)))

  -- an expression that is taken into a temporary
  taken_so : {b : Bool} {least : ℕ} {us : List Var} {w : W} {n : ℕ} {g : Gives W Value} {a : Hoisted PlainExpr} → b ≡ true → Means s true least us w n g a → Means s b least us w n g a
  taken_so {least = least} {us} {w} {n} {g} {a} is m = subst (λ b. Means s b least us w n g a) (sym is) m

  nothing_leads : {B : Type 0} (h : Stage) (us : List Var) (w : W) (n : ℕ) (ev : List Var → W → ℕ → Gives W B) (g : Gives W B) → ev us w n ≡ g → Leads h.next us ev g (run s [] us w n)
  unfolding run_stmt
  nothing_leads h us w n ev g is = leads (agree_with_itself h.next us) is

  leads_by : {B : Type 0} {least : ℕ} {us : List Var} (ev also : List Var → W → ℕ → Gives W B) (g : Gives W B) (e : Ends W) → ((us : List Var) (w : W) (n : ℕ) → ev us w n ≡ also us w n) → Leads least us also g e → Leads least us ev g e
  leads_by ev also _ _ same (leads {later = later} {w = w} {n = n} agree is) = leads agree (same later w n ∙ is)
  leads_by ev also _ _ same (falls agree) = falls agree

  -- the truth of operands as a value
  truth_means : (truth : Bool) (at : Place) (e : PlainExpr) (items : PlainExprs) → lasts leaves e ≡ true → (h : Stage) (us : List Var) (w : W) (n : ℕ) (t : Tested PlainFlatTest) → h.next ≤ t.next → Decides h.next us (λ yes' no'. decide s t.test yes' no' us w n) (each_is s truth items vs w n)
      → Means s (lasts leaves e) h.next us w n (each_is s truth items vs w n) (truth_of at h.locals e t)
  unfolding eval
  truth_means truth at e items is h us w n t up d =
      taken_so is
      (subst (λ g. Means s true h.next us w n g (truth_of at h.locals e t)) (truth_again s truth items vs w n)
      (chosen_means s at TBool h.locals e t (still (PBool at true)) (still (PBool at false)) h.next us w n (each_is s truth items vs w n) (λ w n. Got (value.Bool true) w n) (λ w n. Got (value.Bool false) w n) up (still_up (PBool at true)) (still_up (PBool at false)) d (λ w n. bool_light true) (λ w n. bool_light false)
      (λ g later w n on now. nothing_leads g later w n (λ us w n. eval s (PBool at true) us w n) (Got (value.Bool true) w n) refl)
      (λ g later w n on now. nothing_leads g later w n (λ us w n. eval s (PBool at false) us w n) (Got (value.Bool false) w n) refl)))

  mutual
    unfolding taken eval decide ExprNames expr_suspends

    pub expression_means : (e : PlainExpr) → ExprNames limit e → FormsMean e (forms leaves c e)
    expression_means (PInt at z) named = stays_means (PInt at z) named refl
    expression_means (PBool at b) named = stays_means (PBool at b) named refl
    expression_means (PStr at text) named = stays_means (PStr at text) named refl
    expression_means (PNil at) named = stays_means (PNil at) named refl
    expression_means (PVar at x) named = stays_means (PVar at x) named refl
    expression_means (PSelf at) named = stays_means (PSelf at) named refl
    expression_means (PAttr at on x x_at) named = stays_means (PAttr at on x x_at) named refl
    expression_means (PCall at on name name_at args) named =
        means_if (PCall at on name name_at args) (taken leaves c (PCall at on name name_at args)) named (λ is.
        value_means (PCall at on name name_at args) (taken leaves c (PCall at on name name_at args)).value (λ wanted h us w n le agree.
        let on_ty : PlainTy = ty_at c None h.locals on in
        let wants : List (Option PlainTy) = by_params (method_params c on_ty name) in
        let both : Hoisted (PlainExpr × PlainExprs) = in_turn with_args (kept (exprs_suspend leaves args) (lasts leaves on) (place_of on) on_ty (part on None h)) (parts wants args) in
        call_means s c (leaves on name) at (ty_at c wanted h.locals (PCall at on name name_at args)) on_ty name name_at both w n
        (turn_rises with_args (exprs_suspend leaves args) (lasts leaves on) (place_of on) on_ty (part on None h) (parts wants args) h.next ((forms_rise leaves c on).value None h) (λ g. if_rises (exprs_suspend leaves args) args g (taken_each leaves c wants args g) (each_rises leaves c wants args g)))
        (given_light (PCall at on name name_at args) w n)
        (record {
          leads =
              turn_leads s (exprs_suspend leaves args) (lasts leaves on) (place_of on) on_ty (part on None h) (parts wants args) (λ rs v us w n. eval_all s rs [] us w n >>= λ xs w n. called_with name v xs w n) (λ v w n. eval_all s args [] vs w n >>= λ xs w n. called_with name v xs w n)
              h.next us w n (eval s on vs w n) ((forms_rise leaves c on).value None h) (given_light on w n) ((expression_means on named.0).value None h us w n le agree) (λ none. nothing_before (exprs_suspend leaves args) args _ _ none)
              (λ v g after w n up now.
              leads_through (λ us w n. eval_all s (parts wants args g).rest [] us w n) (λ xs w n. called_with name v xs w n) (eval_all s args [] vs w n) (run s (parts wants args g).before after w n)
              (each_if (exprs_suspend leaves args) args (taken_each leaves c wants args g) named.2 [] g after w n (along le agree now) (each_means args named.2 wants [] g after w n (le_on le up) (along le agree now))).leads);
        })))
    expression_means (PApply at name args) named =
        means_if (PApply at name args) (taken leaves c (PApply at name args)) named (λ is.
        value_means (PApply at name args) (taken leaves c (PApply at name args)).value (λ wanted h us w n le agree.
        let wants : List (Option PlainTy) = by_function c (function_of name) name in
        apply_means s c (function_of name) at (ty_at c wanted h.locals (PApply at name args)) name (parts wants args h) w n refl
        (if_rises (exprs_suspend leaves args) args h (taken_each leaves c wants args h) (each_rises leaves c wants args h)) (given_light (PApply at name args) w n)
        (record {
          leads =
              leads_through (λ us w n. eval_all s (parts wants args h).rest [] us w n) (λ xs w n. applied s (function_of name) name xs w n) (eval_all s args [] vs w n) (run s (parts wants args h).before us w n)
              (each_if (exprs_suspend leaves args) args (taken_each leaves c wants args h) named.1 [] h us w n agree (each_means args named.1 wants [] h us w n le agree)).leads;
        })))
    expression_means (PIndex at on index) named =
        means_if (PIndex at on index) (taken leaves c (PIndex at on index)) named (λ is.
        value_means (PIndex at on index) (taken leaves c (PIndex at on index)).value (λ wanted h us w n le agree. record {
          stands =
              turn_leads s (expr_suspends leaves index) (lasts leaves on) (place_of on) (ty_at c None h.locals on) (part on None h) (part index None) (λ r v us w n. eval s r us w n >>= λ i w n. told (element (items_of v) (int_of i)) w n) (λ v w n. eval s index vs w n >>= λ i w n. told (element (items_of v) (int_of i)) w n)
              h.next us w n (eval s on vs w n) ((forms_rise leaves c on).value None h) (given_light on w n) ((expression_means on named.0).value None h us w n le agree) (λ none. no_form_before (expr_suspends leaves index) index (taken leaves c index) None _ none)
              (λ v g after w n up now.
              leads_through (λ us w n. eval s (part index None g).rest us w n) (λ i w n. told (element (items_of v) (int_of i)) w n) (eval s index vs w n) (run s (part index None g).before after w n)
              (means_there s (lasts leaves index) w n (part index None g) ((expression_means index named.1).value None g after w n (le_on le up) (along le agree now))));
        }))
    expression_means (PList at items) named =
        means_if (PList at items) (taken leaves c (PList at items)) named (λ is.
        value_means (PList at items) (taken leaves c (PList at items)).value (λ wanted h us w n le agree.
        let wants : List (Option PlainTy) = by_elements c (option_and_then element_wanted wanted) h.locals items in
        record {
          stands =
              leads_through (λ us w n. eval_all s (taken_each leaves c wants items h).rest [] us w n) (λ xs w n. told (weighed (value.List xs)) w n) (eval_all s items [] vs w n) (run s (taken_each leaves c wants items h).before us w n)
              (each_means items named wants [] h us w n le agree).leads;
        }))
    expression_means (PNeg at a) named =
        means_if (PNeg at a) (taken leaves c (PNeg at a)) named (λ is.
        value_means (PNeg at a) (taken leaves c (PNeg at a)).value (λ wanted h us w n le agree. record {
          stands =
              leads_through (λ us w n. eval s (part a None h).rest us w n) (λ v w n. told (in_range (pos 0 -ℤ int_of v)) w n) (eval s a vs w n) (run s (part a None h).before us w n)
              (means_there s (lasts leaves a) w n (part a None h) ((expression_means a named).value None h us w n le agree));
        }))
    expression_means (PPos at a) named =
        means_if (PPos at a) (taken leaves c (PPos at a)) named (λ is.
        value_means (PPos at a) (taken leaves c (PPos at a)).value (λ wanted h us w n le agree. record {
          stands =
              leads_through (λ us w n. eval s (part a None h).rest us w n) (λ v w n. Got (value.Int (int_of v)) w n) (eval s a vs w n) (run s (part a None h).before us w n)
              (means_there s (lasts leaves a) w n (part a None h) ((expression_means a named).value None h us w n le agree));
        }))
    expression_means (PNot at a) named =
        means_if (PNot at a) (taken leaves c (PNot at a)) named (λ is. record {
          value = λ wanted h us w n le agree. record {
            stands =
                leads_through (λ us w n. eval s (part a None h).rest us w n) (λ v w n. Got (value.Bool (not (is_true v))) w n) (eval s a vs w n) (run s (part a None h).before us w n)
                (means_there s (lasts leaves a) w n (part a None h) ((expression_means a named).value None h us w n le agree));
          };
          test = λ h us w n le agree. not_decides s ((forms leaves c a).test h).test w n (eval s a vs w n) ((expression_means a named).test h us w n le agree);
        })
    expression_means (PChain at first PNoLink) named =
        means_if (PChain at first PNoLink) (taken leaves c (PChain at first PNoLink)) named (λ is.
        value_means (PChain at first PNoLink) (taken leaves c (PChain at first PNoLink)).value (λ wanted h us w n le agree. record {
          stands =
              leads_through (λ us w n. eval s (part first None h).rest us w n) (λ v w n. Got v w n) (eval s first vs w n) (run s (part first None h).before us w n)
              (means_there s (lasts leaves first) w n (part first None h) ((expression_means first named.0).value None h us w n le agree));
        }))
    expression_means (PChain at first (PMoreLinks l more)) named =
        means_if (PChain at first (PMoreLinks l more)) (taken leaves c (PChain at first (PMoreLinks l more))) named (λ is.
        value_means (PChain at first (PMoreLinks l more)) (taken leaves c (PChain at first (PMoreLinks l more))).value (λ wanted h us w n le agree.
        links_mean (PMoreLinks l more) named.1 at (ty_at c None h.locals first) (chain_of (lasts leaves first) (part first None h)) h.next us w n (eval s first vs w n) le agree (given_light first w n)
        (record { up = (forms_rise leaves c first).value None h; means = record { stands = ((expression_means first named.0).value None h us w n le agree).stands } })))
    expression_means (PAnd at items) named =
        means_if (PAnd at items) (taken leaves c (PAnd at items)) named (λ is. record {
          value = λ wanted h us w n le agree. truth_means true at (PAnd at items) items is h us w n (made_of FAnd (taken_operands leaves c true items h)) (operands_rise leaves c true items h) (and_decides s (taken_operands leaves c true items h).test w n _ (operands_mean true items named h us w n le agree));
          test = λ h us w n le agree. and_decides s (taken_operands leaves c true items h).test w n _ (operands_mean true items named h us w n le agree);
        })
    expression_means (POr at items) named =
        means_if (POr at items) (taken leaves c (POr at items)) named (λ is. record {
          value = λ wanted h us w n le agree. truth_means false at (POr at items) items is h us w n (made_of FOr (taken_operands leaves c false items h)) (operands_rise leaves c false items h) (or_decides s (taken_operands leaves c false items h).test w n _ (operands_mean false items named h us w n le agree));
          test = λ h us w n le agree. or_decides s (taken_operands leaves c false items h).test w n _ (operands_mean false items named h us w n le agree);
        })
    expression_means (PCompare at op op_at left right) named =
        means_if (PCompare at op op_at left right) (taken leaves c (PCompare at op op_at left right)) named (λ is.
        value_means (PCompare at op op_at left right) (taken leaves c (PCompare at op op_at left right)).value (λ wanted h us w n le agree. record {
          stands =
              turn_leads s (expr_suspends leaves right) (lasts leaves left) (place_of left) (ty_at c None h.locals left) (part left None h) (part right None) (λ r x us w n. eval s r us w n >>= λ y w n. Got (value.Bool (holds_op op x y)) w n) (λ x w n. eval s right vs w n >>= λ y w n. Got (value.Bool (holds_op op x y)) w n)
              h.next us w n (eval s left vs w n) ((forms_rise leaves c left).value None h) (given_light left w n) ((expression_means left named.0).value None h us w n le agree) (λ none. no_form_before (expr_suspends leaves right) right (taken leaves c right) None _ none)
              (λ x g after w n up now.
              leads_through (λ us w n. eval s (part right None g).rest us w n) (λ y w n. Got (value.Bool (holds_op op x y)) w n) (eval s right vs w n) (run s (part right None g).before after w n)
              (means_there s (lasts leaves right) w n (part right None g) ((expression_means right named.1).value None g after w n (le_on le up) (along le agree now))));
        }))
    expression_means (PIsNone at a positive) named =
        means_if (PIsNone at a positive) (taken leaves c (PIsNone at a positive)) named (λ is.
        value_means (PIsNone at a positive) (taken leaves c (PIsNone at a positive)).value (λ wanted h us w n le agree. record {
          stands =
              leads_through (λ us w n. eval s (part a None h).rest us w n) (λ v w n. Got (value.Bool (if positive then is_nil v else not (is_nil v))) w n) (eval s a vs w n) (run s (part a None h).before us w n)
              (means_there s (lasts leaves a) w n (part a None h) ((expression_means a named).value None h us w n le agree));
        }))
    expression_means (PCond at test a b) named =
        means_if (PCond at test a b) (taken leaves c (PCond at test a b)) named (λ is.
        value_means (PCond at test a b) (taken leaves c (PCond at test a b)).value (λ wanted h us w n le agree.
        taken_so is
        (chosen_means s at (ty_at c wanted h.locals (PCond at test a b)) h.locals test ((forms leaves c test).test h) (part a wanted) (part b wanted) h.next us w n (eval s test vs w n) (λ w n. eval s a vs w n) (λ w n. eval s b vs w n)
        ((forms_rise leaves c test).test h) (λ g. (forms_rise leaves c a).value wanted g) (λ g. (forms_rise leaves c b).value wanted g) ((expression_means test named.0).test h us w n le agree) (given_light a) (given_light b)
        (λ g later w n up now. means_there s (lasts leaves a) w n (part a wanted g) ((expression_means a named.1).value wanted g later w n (le_on le up) (along le agree now)))
        (λ g later w n up now. means_there s (lasts leaves b) w n (part b wanted g) ((expression_means b named.2).value wanted g later w n (le_on le up) (along le agree now))))))

    each_means : (es : PlainExprs) → ExprsNames limit es → (wants : List (Option PlainTy)) (xs : List Value) (h : Stage) (us : List Var) (w : W) (n : ℕ) → limit ≤ h.next → AgreeBelow limit us vs
        → MeansBy s (λ rs us w n. eval_all s rs xs us w n) h.next us w n (eval_all s es xs vs w n) (taken_each leaves c wants es h)
    each_means PNoExpr named wants xs h us w n le agree = record { leads = nothing_leads h us w n (λ us w n. eval_all s PNoExpr xs us w n) (eval_all s PNoExpr xs vs w n) refl }
    each_means (PExpr x es) named wants xs h us w n le agree = record {
      leads =
          turn_leads s (exprs_suspend leaves es) (lasts leaves x) (place_of x) (ty_at c (first_wanted wants) h.locals x) (part x (first_wanted wants) h) (parts (others_wanted wants) es) (λ rs v us w n. eval_all s rs (xs ++ v ∷ []) us w n) (λ v w n. eval_all s es (xs ++ v ∷ []) vs w n)
          h.next us w n (eval s x vs w n) ((forms_rise leaves c x).value (first_wanted wants) h) (given_light x w n) ((expression_means x named.0).value (first_wanted wants) h us w n le agree) (λ none. nothing_before (exprs_suspend leaves es) es _ _ none)
          (λ v g after w n up now.
          (each_if (exprs_suspend leaves es) es (taken_each leaves c (others_wanted wants) es g) named.1 (xs ++ v ∷ []) g after w n (along le agree now) (each_means es named.1 (others_wanted wants) (xs ++ v ∷ []) g after w n (le_on le up) (along le agree now))).leads);
    }

    links_mean : (ls : PlainLinks) → LinksNames limit ls → (at : Place) (ty : PlainTy) (r : ChainPart) (least : ℕ) (us : List Var) (w : W) (n : ℕ) (g : Gives W Value) → limit ≤ least → AgreeBelow limit us vs → GivesLight g → ChainMeans s at r least us w n g
        → Means s false least us w n (g >>= λ v w n. linked s ls v vs w n) (so_far at (taken_links leaves c at ty ls r))
    links_mean PNoLink named at ty r least us w n g le agree light m = record { stands = subst (λ g. Leads least us (eval s (so_far at r).rest) g (run s (so_far at r).before us w n)) (sym (gives_itself g)) (means_there s r.lasting w n (so_far at r) m.means) }
    links_mean (PMoreLinks (PLink op op_at right) more) named at ty r least us w n g le agree light m =
        let a : Hoisted PlainExpr = settled_unless r.lasting at ty (so_far at r) in
        let up : least ≤ a.stage.next = le_on m.up (settled_rises r.lasting at ty (so_far at r)) in
        let b : Hoisted PlainExpr = part right (right_wanted op ty) a.stage in
        let anew : ChainPart = begun_anew a (PLink op op_at) b in
        let on : ChainPart = linked_on r (PLink op op_at right) in
        let behind : Gives W Value = g >>= λ v w n. linked s (PMoreLinks (PLink op op_at right) PNoLink) v vs w n in
        let rest : Means s false least us w n (behind >>= λ v w n. linked s more v vs w n) (so_far at (taken_links leaves c at ty more (either (expr_suspends leaves right) anew on))) =
        links_mean more named.1 at ty (either (expr_suspends leaves right) anew on) least us w n behind le agree (link_light op op_at right g)
        (either_means s (expr_suspends leaves right) at anew on w n
        (λ is. record {
          up = le_on up ((forms_rise leaves c right).value (right_wanted op ty) a.stage);
          means = record {
            stands =
                subst (Leads least us (eval s (so_far at anew).rest) behind) (sym (run_in_turn s a.before b.before us w n))
                (holds_then (eval s a.rest) (λ v us w n. linked s (PMoreLinks (PLink op op_at b.rest) PNoLink) v us w n) g (λ v w n. linked s (PMoreLinks (PLink op op_at right) PNoLink) v vs w n) (run s a.before us w n) (λ us w n. run s b.before us w n) up (settled_means s r.lasting at ty (so_far at r) w n m.up light m.means).stands
                (λ v after w n l now.
                leads_through (λ us w n. eval s b.rest us w n) (λ x w n. told (combined op v x) w n >>= λ both w n. Got both w n) (eval s right vs w n) (run s b.before after w n)
                (means_there s (lasts leaves right) w n b ((expression_means right named.0).value (right_wanted op ty) a.stage after w n (le_on le up) (along le agree now)))));
          };
        })
        (λ is. record {
          up = m.up;
          means = record {
            stands =
                leads_by (eval s (so_far at on).rest) (λ us w n. eval s (so_far at r).rest us w n >>= λ v w n. linked s (PMoreLinks (PLink op op_at right) PNoLink) v us w n) behind (run s r.before us w n) (λ us w n. chain_behind s at r.left r.links (PLink op op_at right) us w n)
                (leads_behind (eval s (so_far at r).rest) (λ v us w n. linked s (PMoreLinks (PLink op op_at right) PNoLink) v us w n) g (λ v w n. linked s (PMoreLinks (PLink op op_at right) PNoLink) v vs w n) (run s r.before us w n) (means_there s r.lasting w n (so_far at r) m.means)
                (λ v after w n now. follows_same (eval s right after w n) (eval s right vs w n) _ _ (eval_same s (along le agree now) right named.0 w n) (λ x w n. refl)));
          };
        })) in
        record { stands = subst (λ g. Leads least us (eval s (so_far at (taken_links leaves c at ty more (either (expr_suspends leaves right) anew on))).rest) g (run s (so_far at (taken_links leaves c at ty more (either (expr_suspends leaves right) anew on))).before us w n)) (link_then_more s (PLink op op_at right) more g vs) rest.stands }

    operands_mean : (truth : Bool) (es : PlainExprs) → ExprsNames limit es → (h : Stage) (us : List Var) (w : W) (n : ℕ) → limit ≤ h.next → AgreeBelow limit us vs
        → Decides h.next us (λ yes' no'. decide_each s truth (taken_operands leaves c truth es h).test yes' no' us w n) (each_is s truth es vs w n)
    operands_mean truth PNoExpr named h us w n le agree = no_operand_decides s truth h.next us w n
    operands_mean truth (PExpr x es) named h us w n le agree =
        let t : Tested PlainFlatTest = (forms leaves c x).test h in
        let up : h.next ≤ t.next = (forms_rise leaves c x).test h in
        operand_decides s truth t.test (surely (where_shown truth x h.locals t.next).locals) (taken_operands leaves c truth es (where_shown truth x h.locals t.next)).test w n (eval s x vs w n) (λ w n. each_is s truth es vs w n) up ((expression_means x named.0).test h us w n le agree)
        (λ later w n now. operands_mean truth es named.1 (where_shown truth x h.locals t.next) later w n (le_on le up) (along le agree now))
