-- An element of an own field, and the length of one argument.
use Rattle.std.proofs.Common.{◌≡◌, ◌≤◌, ℕ, List, [], ◌∷◌, length, get_or, Some, Ok, Err, Result, true, refl, sym, ap, ◌∙◌}
use Rattle.py_tree.specs.declared.expr.Expr.{Expr}
use Rattle.py_tree.specs.ExpressionTypes.{Length, function_of}
use Rattle.py_tree.specs.PlainExpressions.{PlainExpr, plain_expr, plain_exprs, exprs_of}
use Rattle.sf_value.specs.declared.value.Value.{Value}
use Rattle.sf_value.specs.declared.Failure.{Failure}
use Rattle.program_meaning.specs.declared.vars.Var.{Var}
use Rattle.source_meaning.specs.declared.Stop.{Stop}
use Rattle.program_meaning.specs.World.{World, Got, ◌>>=◌, told}
use Rattle.program_meaning.specs.Operations.{weighed, int_of, items_of, element, given_by}
use Rattle.program_meaning.specs.Evaluation.{Site, eval, eval_all, applied, own_field}
use Rattle.program_meaning.specs.Purity.{is_pure}
use Rattle.source_meaning.specs.Agrees.{AgreesIn, Tells}
use Rattle.source_meaning.specs.InPlace.{element_in, length_in, applied_to}
use Rattle.source_meaning.proofs.AgreeLaws.{agrees_by}
use Rattle.program_meaning.proofs.EvalLaws.{all_next, all_end}
use Rattle.program_meaning.proofs.PurityLaws.{pure_stays}

-- an element of an own field, at a place that changes nothing
pub element_told : (s : Site World) (x : ℕ) (index : PlainExpr) (vars : List Var) (w v : World) (n m : ℕ) (at : Value) (r : Result Value Stop)
    → is_pure index ≡ true → weighed (own_field s x w) ≡ Ok (own_field s x w) → eval s index vars w n ≡ Got at v m → Tells r (element (items_of (own_field s x v)) (int_of at))
    → AgreesIn r v m (element_in (told (weighed (own_field s x w)) w n) (eval s index vars))
element_told s x index vars w v n m at r pure light gives tells =
    let same = (pure_stays s index vars w v n m at pure gives).0 in
    agrees_by r v m _ (told (element (items_of (own_field s x v)) (int_of at)) v m)
    (ap (λ y. element_in (told y w n) (eval s index vars)) light
    ∙ ap (λ g. g >>= λ i u k. told (element (items_of (own_field s x w)) (int_of i)) u k) gives
    ∙ ap (λ u. told (element (items_of (own_field s x u)) (int_of at)) v m) (sym same))
    (tells v m)

length_given : (s : Site World) (w : World) (n : ℕ) (name : ℕ) (r : Result Value Failure) → function_of name ≡ Some Length → applied_to s name (told r w n >>= λ v w n. Got (v ∷ []) w n) ≡ length_in (told r w n)
unfolding given_by
length_given s w n name (Err f) is = refl
length_given s w n name (Ok v) is = ap (λ f. applied s f name (v ∷ []) w n) is

-- the length of the one argument
pub length_told : (s : Site World) (vars : List Var) (w : World) (n : ℕ) (name : ℕ) (es : List Expr) (x : Expr) (v : Value) (r : Result Value Stop)
    → function_of name ≡ Some Length → 1 ≤ length es → length es ≤ 1 → x ≡ get_or es 0 x
    → eval s (plain_expr x) vars w n ≡ told (weighed v) w n → AgreesIn r w n (length_in (told (weighed v) w n))
    → AgreesIn r w n (applied_to s name (eval_all s (exprs_of (plain_exprs es)) [] vars w n))
length_told s vars w n name es x v r is one most first gives agrees =
    let one_value : eval_all s (exprs_of (plain_exprs es)) [] vars w n ≡ (eval s (plain_expr x) vars w n >>= λ v w n. Got (v ∷ []) w n) =
    all_next s vars w n es 0 x [] one first ∙ (λ i. eval s (plain_expr x) vars w n >>= λ v w n. all_end s vars w n es 1 (v ∷ []) most i) in
    agrees_by r w n _ (length_in (told (weighed v) w n))
    (ap (applied_to s name) one_value
    ∙ (λ i. applied_to s name (gives i >>= λ v w n. Got (v ∷ []) w n))
    ∙ length_given s w n name (weighed v) is)
    agrees
