-- What the loops of hoisted code read: temporaries, places in lists, and whole numbers.
use Rattle.std.proofs.Common.{◌≡◌, ◌<◌, ◌≤◌, ◌+◌, ◌^◌, ℕ, ℤ, pos, ◌+ℤ◌, arith, Bool, true, false, cond, Some, Result, Ok, Err, List, [], ◌∷◌, ◌++◌, length, true≢false, if◌then◌else◌, refl, sym, ap, ◌∙◌, subst}
use Rattle.std.specs.Prelude.{slice_get, nat_lt, nat_le, codes}
use Rattle.std.specs.List.{sum_by}
use Rattle.std.specs.Ordering.{int_cmp, is_lt}
use Rattle.std.specs.declared.cmp.Ordering.TheVariants.{Less, Equal, Greater}
use Rattle.std.proofs.lemmas.Bool.{lt-ltb, le-ltb}
use Rattle.std.proofs.lemmas.List.Sums.{sum_by-cons}
use Rattle.py_tree.specs.declared.names.Place.{Place}
use Rattle.py_tree.specs.declared.expr.Cmp.TheVariants as cmp
use Rattle.py_tree.specs.ReservedNames.{reserved_number}
use Rattle.py_tree.specs.ExpressionTypes.{function_of, Length}
use Rattle.py_tree.specs.PlainExpressions.{PlainExpr, PInt, PVar, PApply, PIndex, PList, PCompare, PNoExpr, PExpr}
use Rattle.sf_value.specs.Weight.{weight_of}
use Rattle.sf_value.specs.declared.Failure.{Failure}
use Rattle.sf_value.specs.declared.value.Value.{Value, out-Value}
use Rattle.sf_value.specs.declared.value.Value.TheVariants as value
use Rattle.sf_value.proofs.Weights.{weight-List, weight-Int, weight-Bool, weight-Str, weight-Nil, weight-Entity}
use Rattle.sf_value.proofs.Variants.{by_variants}
use Rattle.program_meaning.specs.declared.vars.Var.{Var}
use Rattle.program_meaning.specs.World.{overflow_error, size_limit, Gives, Got, Fell, ◌>>=◌, told, next, local_value, assigned}
use Rattle.program_meaning.specs.Operations.{in_range, weighed, int_of, items_of, items_in, size_in, element, element_at, sum_with, combined, holds as holds_op}
use Rattle.program_meaning.specs.Operations.{given_by}
use Rattle.program_meaning.specs.Evaluation.{Site, eval, applied}
use Rattle.program_meaning.specs.LightValues.{IsLight}
use Rattle.program_meaning.proofs.LightOperations.{light_weighed, int_light}
use Rattle.flat_tree.specs.PlainFlat.{PlainFlatStmt, FSet}
use Rattle.flat_tree.specs.FlatMeaning.{into_local, run_stmt, run}
use Rattle.hoisting.specs.HoistStatements.{plus}

-- Light lists

weighs_one : (v : Value) → 1 ≤ weight_of v
weighs_one =
    by_variants (λ v. 1 ≤ weight_of v) (λ z. let w = weight-Int z in omega (arith, w)) (λ b. let w = weight-Bool b in omega (arith, w)) (λ text. let w = weight-Str text in omega (arith, w)) (let w = weight-Nil in omega (arith, w)) (λ xs. let w = weight-List xs in omega (arith, w))
    (λ at. let w = weight-Entity at in omega (arith, w))

as_many : (xs : List Value) → length xs ≤ sum_by weight_of xs
as_many [] = omega arith
as_many (x ∷ xs) = let whole = sum_by-cons weight_of x xs in let one = weighs_one x in let rest = as_many xs in omega (arith, whole, one, rest)

-- a light list has so few elements that their places are whole numbers
pub few : (xs : List Value) → IsLight (value.List xs) → length xs ≤ 65536
few xs light = let whole = weight-List xs in let most = light.most in let rest = as_many xs in omega (arith, whole, most, rest)

pub empty_light : IsLight (value.List [])
empty_light = let w = weight-List [] in record { most = omega (arith, w) }

-- the items of a light value are a light list
pub items_list_light : (v : Value) → IsLight v → IsLight (value.List (items_of v))
items_list_light =
    by_variants (λ v. IsLight v → IsLight (value.List (items_of v))) (λ z l. none _ (ap items_in (value.outs-Int z))) (λ b l. none _ (ap items_in (value.outs-Bool b))) (λ text l. none _ (ap items_in (value.outs-Str text))) (λ l. none _ (ap items_in value.outs-Nil))
    (λ xs l. subst (λ ys. IsLight (value.List ys)) (sym (ap items_in (value.outs-List xs))) l) (λ at l. none _ (ap items_in (value.outs-Entity at)))
  where
    none : (ys : List Value) → ys ≡ [] → IsLight (value.List ys)
    none ys is = subst (λ ys. IsLight (value.List ys)) (sym is) empty_light

-- Places

neither : (b c : Bool) → b ≡ false → is_lt (cond b Less (cond c Greater Equal)) ≡ false
neither true c is = absurd (true≢false is)
neither false true is = refl
neither false false is = refl

pub place_before : (p n : ℕ) → p < n → is_lt (int_cmp (pos p) (pos n)) ≡ true
place_before p n lt = ap (λ b. is_lt (cond b Less (cond (nat_lt n p) Greater Equal))) (lt-ltb p n lt)

pub place_past : (p n : ℕ) → n ≤ p → is_lt (int_cmp (pos p) (pos n)) ≡ false
place_past p n le = neither (nat_lt p n) (nat_lt n p) (le-ltb p n le)

next_place : (p : ℕ) → p ≤ 65536 → in_range (pos p +ℤ pos 1) ≡ Ok (value.Int (pos (p + 1)))
unfolding in_range
next_place p le = ap (λ b. if b then Ok (value.Int (pos (p + 1))) else Err overflow_error) (lt-ltb (p + 1) (2 ^ 127) (omega (arith, le)))

len_is : function_of (reserved_number (codes "len")) ≡ Some Length
unfolding function_of
len_is = refl

-- What is read

module _ {W : Type 0} (s : Site W) where
  pub local_gives : (at : Place) (x : ℕ) (us : List Var) (v : Value) (w : W) (n : ℕ) → local_value us x ≡ v → IsLight v → eval s (PVar at x) us w n ≡ Got v w n
  unfolding eval
  local_gives at x us v w n is light = ap (λ v. told (weighed v) w n) is ∙ ap (λ r. told r w n) (light_weighed v light)

  abbrev value_in : Gives W Value → Value → Value
  value_in (Got v w n) other = v
  value_in (Fell f w n) other = other

  abbrev is_got : Gives W Value → Bool
  is_got (Got v w n) = true
  is_got (Fell f w n) = false

  -- what a name gives is its value
  pub local_read : (at : Place) (x : ℕ) (us : List Var) (v : Value) (w : W) (n : ℕ) → eval s (PVar at x) us w n ≡ Got v w n → local_value us x ≡ v
  unfolding eval weighed
  local_read at x us v w n is = by (nat_le (weight_of (local_value us x)) 65536) is
    where
      by : (b : Bool) → told (if b then Ok (local_value us x) else Err size_limit) w n ≡ Got v w n → local_value us x ≡ v
      by true is = ap (λ g. value_in g v) is
      by false is = absurd (true≢false (sym (ap is_got is)))

  pub number_gives : (at : Place) (z : ℤ) (us : List Var) (w : W) (n : ℕ) → eval s (PInt at z) us w n ≡ Got (value.Int z) w n
  unfolding eval
  number_gives at z us w n = refl

  pub empty_gives : (at : Place) (us : List Var) (w : W) (n : ℕ) → eval s (PList at PNoExpr) us w n ≡ Got (value.List []) w n
  unfolding eval
  empty_gives at us w n = ap (λ r. told r w n) (light_weighed (value.List []) empty_light)

  -- a sum of what two expressions give
  pub sum_gives : (at : Place) (a b : PlainExpr) (us : List Var) (x y : Value) (w : W) (n : ℕ) → eval s a us w n ≡ Got x w n → eval s b us w n ≡ Got y w n → eval s (plus at a b) us w n ≡ (told (sum_with (out-Value x) y) w n >>= λ both w n. Got both w n)
  unfolding eval combined
  sum_gives at a b us x y w n is_x is_y =
      ap (λ g. g >>= λ v w n. (eval s b us w n >>= λ y w n. told (sum_with (out-Value v) y) w n >>= λ both w n. Got both w n)) is_x
      ∙ ap (λ g. g >>= λ y w n. told (sum_with (out-Value x) y) w n >>= λ both w n. Got both w n) is_y

  told_again : (r : Result Value Failure) (v : Value) (w : W) (n : ℕ) → r ≡ Ok v → (told r w n >>= λ both w n. Got both w n) ≡ Got v w n
  told_again r v w n is = ap (λ r. told r w n >>= λ both w n. Got both w n) is

  -- `[] + x` are the items of x
  pub items_give : (at : Place) (a b : PlainExpr) (us : List Var) (x : Value) (w : W) (n : ℕ) → IsLight x → eval s a us w n ≡ Got (value.List []) w n → eval s b us w n ≡ Got x w n → eval s (plus at a b) us w n ≡ Got (value.List (items_of x)) w n
  items_give at a b us x w n light is_empty is_x =
      sum_gives at a b us (value.List []) x w n is_empty is_x
      ∙ told_again (sum_with (out-Value (value.List [])) x) (value.List (items_of x)) w n (ap (λ l. sum_with l x) (value.outs-List []) ∙ light_weighed (value.List (items_of x)) (items_list_light x light))

  -- the number behind another
  pub up_gives : (at : Place) (t : ℕ) (z : ℤ) (us : List Var) (w : W) (n : ℕ) → local_value us t ≡ value.Int z → eval s (plus at (PVar at t) (PInt at (pos 1))) us w n ≡ (told (in_range (z +ℤ pos 1)) w n >>= λ both w n. Got both w n)
  up_gives at t z us w n is =
      sum_gives at (PVar at t) (PInt at (pos 1)) us (value.Int z) (value.Int (pos 1)) w n (local_gives at t us (value.Int z) w n is (int_light z)) (number_gives at (pos 1) us w n)
      ∙ ap (λ l. told (sum_with l (value.Int (pos 1))) w n >>= λ both w n. Got both w n) (value.outs-Int z)

  pub place_up : (at : Place) (t p : ℕ) (us : List Var) (w : W) (n : ℕ) → p ≤ 65536 → local_value us t ≡ value.Int (pos p) → eval s (plus at (PVar at t) (PInt at (pos 1))) us w n ≡ Got (value.Int (pos (p + 1))) w n
  place_up at t p us w n le is = up_gives at t (pos p) us w n is ∙ told_again (in_range (pos p +ℤ pos 1)) (value.Int (pos (p + 1))) w n (next_place p le)

  length_gives : (at : Place) (t : ℕ) (us : List Var) (xs : List Value) (w : W) (n : ℕ) → local_value us t ≡ value.List xs → IsLight (value.List xs) → eval s (PApply at (reserved_number (codes "len")) (PExpr (PVar at t) PNoExpr)) us w n ≡ Got (value.Int (pos (length xs))) w n
  unfolding eval given_by
  length_gives at t us xs w n is light =
      ap (λ g. (g >>= λ v w n. Got ([] ++ v ∷ []) w n) >>= λ vs w n. applied s (function_of (reserved_number (codes "len"))) (reserved_number (codes "len")) vs w n) (local_gives at t us (value.List xs) w n is light)
      ∙ ap (λ f. applied s f (reserved_number (codes "len")) (value.List xs ∷ []) w n) len_is
      ∙ ap (λ l. Got (value.Int (pos (size_in l))) w n) (value.outs-List xs)

  -- whether one number is below another
  pub below_gives : (at : Place) (a b : PlainExpr) (us : List Var) (x y : ℤ) (w : W) (n : ℕ) → eval s a us w n ≡ Got (value.Int x) w n → eval s b us w n ≡ Got (value.Int y) w n → eval s (PCompare at cmp.Lt at a b) us w n ≡ Got (value.Bool (is_lt (int_cmp x y))) w n
  unfolding eval holds_op
  below_gives at a b us x y w n is_x is_y =
      ap (λ g. g >>= λ v w n. eval s b us w n >>= λ y w n. Got (value.Bool (holds_op cmp.Lt v y)) w n) is_x
      ∙ ap (λ g. g >>= λ y w n. Got (value.Bool (holds_op cmp.Lt (value.Int x) y)) w n) is_y

  pub place_below : (at : Place) (t p : ℕ) (us : List Var) (xs : List Value) (w : W) (n : ℕ) → local_value us t ≡ value.List xs → IsLight (value.List xs) → local_value us (t + 1) ≡ value.Int (pos p)
      → eval s (PCompare at cmp.Lt at (PVar at (t + 1)) (PApply at (reserved_number (codes "len")) (PExpr (PVar at t) PNoExpr))) us w n ≡ Got (value.Bool (is_lt (int_cmp (pos p) (pos (length xs))))) w n
  place_below at t p us xs w n is light place =
      below_gives at (PVar at (t + 1)) (PApply at (reserved_number (codes "len")) (PExpr (PVar at t) PNoExpr)) us (pos p) (pos (length xs)) w n (local_gives at (t + 1) us (value.Int (pos p)) w n place (int_light (pos p))) (length_gives at t us xs w n is light)

  pub element_gives : (at : Place) (t p : ℕ) (us : List Var) (xs : List Value) (v : Value) (w : W) (n : ℕ) → local_value us t ≡ value.List xs → IsLight (value.List xs) → local_value us (t + 1) ≡ value.Int (pos p) → slice_get xs p ≡ Some v
      → eval s (PIndex at (PVar at t) (PVar at (t + 1))) us w n ≡ Got v w n
  unfolding eval
  element_gives at t p us xs v w n is light place there =
      ap (λ g. g >>= λ v w n. eval s (PVar at (t + 1)) us w n >>= λ i w n. told (element (items_of v) (int_of i)) w n) (local_gives at t us (value.List xs) w n is light)
      ∙ ap (λ g. g >>= λ i w n. told (element (items_of (value.List xs)) (int_of i)) w n) (local_gives at (t + 1) us (value.Int (pos p)) w n place (int_light (pos p)))
      ∙ ap (λ ys. told (element_at (slice_get ys p)) w n) (ap items_in (value.outs-List xs))
      ∙ ap (λ o. told (element_at o) w n) there

  -- a name is set, and the rest runs
  pub set_runs : (x : ℕ) (e : PlainExpr) (rest : List PlainFlatStmt) (us : List Var) (v : Value) (w : W) (n : ℕ) → eval s e us w n ≡ Got v w n → run s (FSet x e ∷ rest) us w n ≡ run s rest (assigned us x v) w n
  unfolding run_stmt
  set_runs x e rest us v w n is = ap (λ g. next (into_local x us g) (λ us w n. run s rest us w n)) is
