-- What operators and functions give fits.
use Rattle.std.proofs.Common.{◌≡◌, ℕ, ℤ, pos, negsuc, arith, ◌+◌, ◌-◌, ◌≤◌, Bool, true, false, cond, Option, Some, None, Ok, Err, List, ◌++◌, length, refl, sym, ap, subst}
use Rattle.std.specs.Prelude.{slice_get, nat_le, nat_lt}
use Rattle.std.specs.Ordering.{int_eq}
use Rattle.std.specs.declared.result.Result.{Result}
use Rattle.py_tree.specs.declared.expr.BinOp.{BinOp}
use Rattle.py_tree.specs.declared.expr.BinOp.TheVariants as op
use Rattle.py_tree.specs.PlainTypes.{PlainTy, TInt, TStr, TList}
use Rattle.py_tree.specs.ClassRules.{PlainTable}
use Rattle.py_tree.specs.ExpressionTypes.{Function, Length, Text, Absolute, Least, Greatest}
use Rattle.sf_value.specs.Arithmetic.{floor_quotient, floor_rest}
use Rattle.sf_value.specs.Weight.{weight_of}
use Rattle.sf_value.specs.declared.value.Value.{Value}
use Rattle.sf_value.specs.declared.value.Value.TheVariants as value
use Rattle.sf_value.specs.declared.Failure.{Failure}
use Rattle.program_meaning.specs.World.{zero_division_error, index_error, overflow_error, size_limit, told}
use Rattle.program_meaning.specs.Operations.{fits as in_bounds, in_range, weighed, items_in, items_of, element_at, element, sum_with, divided, combined, given_by}
use Rattle.program_meaning.specs.Fits.{Fits, int, str, list, AllFit, FailureFits}
use Rattle.program_meaning.specs.PointFits as point
use Rattle.program_meaning.specs.PointFits.{GivesFit}
use Rattle.program_meaning.proofs.FitsLaws.{as_int, as_str, as_list, fit_at, fit_behind}
use Rattle.program_meaning.proofs.TypedParts.{type_given, Joins, numbers, texts, lists}

pub failure_fits : (f : Failure) → 1 ≤ f.kind → f.kind ≤ 12 → FailureFits f
failure_fits f a b = record { least = a; most = b }

module _ (tables : List PlainTable) where
  -- a value that fits, or a failure that fits
  pub data ToldFits (ty : PlainTy) : Result Value Failure → Type 0 where
    ok : {v : Value} → Fits tables ty v → ToldFits ty (Ok v)
    err : {f : Failure} → FailureFits f → ToldFits ty (Err f)

  pub told_fits : {W : Type 0} (WorldFits : W → Type 0) (ty : PlainTy) (r : Result Value Failure) (w : W) (n : ℕ) → ToldFits ty r → WorldFits w → GivesFit WorldFits (Fits tables ty) (told r w n)
  told_fits WorldFits ty (Ok v) w n (ok fit) p = point.got fit p
  told_fits WorldFits ty (Err f) w n (err fit) p = point.fell fit p

  pub range_fits : (z : ℤ) → ToldFits TInt (in_range z)
  unfolding in_range
  range_fits z = by (in_bounds z)
    where
      by : (b : Bool) → ToldFits TInt (cond b (Ok (value.Int z)) (Err overflow_error))
      by true = ok (int z)
      by false = err (failure_fits overflow_error (omega arith) (omega arith))

  pub weighed_fits : (ty : PlainTy) (v : Value) → Fits tables ty v → ToldFits ty (weighed v)
  unfolding weighed
  weighed_fits ty v fit = by (nat_le (weight_of v) 65536)
    where
      by : (b : Bool) → ToldFits ty (cond b (Ok v) (Err size_limit))
      by true = ok fit
      by false = err (failure_fits size_limit (omega arith) (omega arith))

  pub items_are : (vs : List Value) → items_of (value.List vs) ≡ vs
  items_are vs = ap items_in (value.outs-List vs)

  element_fits : (ty : PlainTy) (o : Option Value) → ((v : Value) → o ≡ Some v → Fits tables ty v) → ToldFits ty (element_at o)
  element_fits ty None h = err (failure_fits index_error (omega arith) (omega arith))
  element_fits ty (Some v) h = ok (h v refl)

  pub index_fits : (ty : PlainTy) (vs : List Value) (z : ℤ) → AllFit tables ty vs → ToldFits ty (element vs z)
  index_fits ty vs (pos k) fit = element_fits ty (slice_get vs k) (λ v e. fit_at tables ty vs k v fit e)
  index_fits ty vs (negsuc k) fit = by (nat_lt k (length vs))
    where
      by : (b : Bool) → ToldFits ty (cond b (element_at (slice_get vs (length vs - (k + 1)))) (Err index_error))
      by true = element_fits ty (slice_get vs (length vs - (k + 1))) (λ v e. fit_at tables ty vs (length vs - (k + 1)) v fit e)
      by false = err (failure_fits index_error (omega arith) (omega arith))

  divided_fits : (y : ℤ) (r : Result Value Failure) → ToldFits TInt r → ToldFits TInt (divided y r)
  divided_fits y r fit = by (int_eq y (pos 0))
    where
      by : (b : Bool) → ToldFits TInt (cond b (Err zero_division_error) r)
      by true = err (failure_fits zero_division_error (omega arith) (omega arith))
      by false = fit

  ints_fit : (o : BinOp) (x y : ℤ) → ToldFits TInt (combined o (value.Int x) (value.Int y))
  unfolding combined
  ints_fit op.Add x y = subst (λ l. ToldFits TInt (sum_with l (value.Int y))) (sym (value.outs-Int x)) (range_fits _)
  ints_fit op.Sub x y = range_fits _
  ints_fit op.Mul x y = range_fits _
  ints_fit op.FloorDiv x y = divided_fits y (in_range (floor_quotient x y)) (range_fits (floor_quotient x y))
  ints_fit op.Mod x y = divided_fits y (in_range (floor_rest x y)) (range_fits (floor_rest x y))

  texts_fit : (a b : List ℕ) → ToldFits TStr (combined op.Add (value.Str a) (value.Str b))
  unfolding combined
  texts_fit a b = subst (λ l. ToldFits TStr (sum_with l (value.Str b))) (sym (value.outs-Str a)) (weighed_fits TStr (value.Str (a ++ b)) (str (a ++ b)))

  lists_fit : (u : PlainTy) (vs ws : List Value) → AllFit tables u vs → AllFit tables u ws → ToldFits (TList u) (combined op.Add (value.List vs) (value.List ws))
  unfolding combined
  lists_fit u vs ws f g =
      subst (λ l. ToldFits (TList u) (sum_with l (value.List ws))) (sym (value.outs-List vs))
      (subst (λ xs. ToldFits (TList u) (weighed (value.List (vs ++ xs)))) (sym (items_are ws)) (weighed_fits (TList u) (value.List (vs ++ ws)) (list (fit_behind tables u vs ws f g))))

  pub combined_fits : (o : BinOp) (s t : PlainTy) (v w : Value) → Joins o s t → Fits tables s v → Fits tables t w → ToldFits s (combined o v w)
  combined_fits o s t v w numbers f g =
      let x : (z : ℤ) × (v ≡ value.Int z) = as_int tables v f in
      let y : (z : ℤ) × (w ≡ value.Int z) = as_int tables w g in
      subst (λ u. ToldFits TInt (combined o u w)) (sym x.1) (subst (λ u. ToldFits TInt (combined o (value.Int x.0) u)) (sym y.1) (ints_fit o x.0 y.0))
  combined_fits o s t v w texts f g =
      let x : (a : List ℕ) × (v ≡ value.Str a) = as_str tables v f in
      let y : (a : List ℕ) × (w ≡ value.Str a) = as_str tables w g in
      subst (λ u. ToldFits TStr (combined op.Add u w)) (sym x.1) (subst (λ u. ToldFits TStr (combined op.Add (value.Str x.0) u)) (sym y.1) (texts_fit x.0 y.0))
  combined_fits o s t v w (lists {u = e}) f g =
      let x : (vs : List Value) × (v ≡ value.List vs) × AllFit tables e vs = as_list tables e v f in
      let y : (vs : List Value) × (w ≡ value.List vs) × AllFit tables e vs = as_list tables e w g in
      subst (λ u. ToldFits (TList e) (combined op.Add u w)) (sym x.1) (subst (λ u. ToldFits (TList e) (combined op.Add (value.List x.0) u)) (sym y.1) (lists_fit e x.0 y.0 x.2 y.2))

  pub given_fits : (f : Function) (args : List Value) → ToldFits (type_given f) (given_by f args)
  unfolding given_by
  given_fits Length args = ok (int _)
  given_fits Text args = weighed_fits TStr _ (str _)
  given_fits Absolute args = range_fits _
  given_fits Least args = ok (int _)
  given_fits Greatest args = ok (int _)
