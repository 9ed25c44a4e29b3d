-- The rules of types at the steps of a walk over an expression.
use Rattle.std.specs.Prelude.{not, ◌==◌}
use Rattle.std.proofs.Common.{◌≡◌, ℕ, suc, ◌+◌, ◌<◌, ◌≤◌, arith, Bool, true, false, Option, Some, None, Result, Ok, Err, List, [], ◌∷◌, length, map, drop, get_or, refl, sym, ap, ◌∙◌}
use Rattle.std.proofs.lemmas.List.{drop_all}
use Rattle.py_tree.specs.declared.names.Place.{Place}
use Rattle.py_tree.specs.declared.rule.Rule.{Rule}
use Rattle.py_tree.specs.declared.rule.Rule.TheVariants.{UnknownName, NoneUse, Operand, UnknownMethod, ArgCount, Mismatch, EmptyListType}
use Rattle.py_tree.specs.declared.rule.RuleFault.{RuleFault}
use Rattle.py_tree.specs.declared.expr.Expr.{Expr}
use Rattle.py_tree.specs.declared.expr.Link.{Link}
use Rattle.py_tree.specs.PlainTypes.{PlainTy, TBool, TList, TEntity}
use Rattle.py_tree.specs.PlainExpressions.{PCall, PApply, PIndex, PCond, PlainExprs, PNoExpr, PExpr, plain_expr, plain_exprs, exprs_of, plain_links, links_of}
use Rattle.py_tree.specs.ClassRules.{PlainSig, PlainTable}
use Rattle.py_tree.specs.FlowEnvironment.{PlainEnv, has_none, where_test}
use Rattle.py_tree.specs.ExpressionTypes.{Function, type_of, conditions, arguments, each_is, list_of, elements, linked, applied, function_of, table_named, method_of, class_of_ty, element_of, is_int, join, assignable, refuse_if, needs, with_found, operand, fits, fault, as_condition, combined, right_wanted, place_of, count_of}
use Rattle.py_tree.specs.ExpressionTypes as spec
use Rattle.py_tree.proofs.TypeRules.{place-expr, count-exprs}
use Rattle.entity_tables.specs.declared.table.SigParam.{SigParam}
use Rattle.entity_tables.specs.Views.{plain_sig_param}
use Rattle.entity_types.specs.Calls.{called, indexed}
use Rattle.entity_types.specs.Functions.{count_asked, asked, given}
use Rattle.py_tree.proofs.ListWalks.{from_item, exprs_from, exprs_end, links_from, links_end}

-- Rules in a row

refused_ok : (broken : Bool) (rule : Rule) (place : Place) (rest : Result PlainTy RuleFault) → refuse_if broken rule place (Ok TBool) ≡ Ok TBool → refuse_if broken rule place rest ≡ rest
refused_ok true rule place rest e = cc
refused_ok false rule place rest e = refl

refused_err : (broken : Bool) (rule : Rule) (place : Place) (rest : Result PlainTy RuleFault) (f : RuleFault) → refuse_if broken rule place (Ok TBool) ≡ Err f → refuse_if broken rule place rest ≡ Err f
refused_err true rule place rest f e = e
refused_err false rule place rest f e = cc

-- a value that fits what is asked is no more to be looked at
fits_ok : (found : Result PlainTy RuleFault) (t : PlainTy) (place : Place) (rest : Result PlainTy RuleFault) → with_found found (λ s. fits s t place (Ok TBool)) ≡ Ok TBool → with_found found (λ s. fits s t place rest) ≡ rest
fits_ok (Ok s) t place rest e = refused_ok (not (assignable s t)) Mismatch place rest e
fits_ok (Err f) t place rest e = cc

fits_err : (found : Result PlainTy RuleFault) (t : PlainTy) (place : Place) (rest : Result PlainTy RuleFault) (f : RuleFault) → with_found found (λ s. fits s t place (Ok TBool)) ≡ Err f → with_found found (λ s. fits s t place rest) ≡ Err f
fits_err (Ok s) t place rest f e = refused_err (not (assignable s t)) Mismatch place rest f e
fits_err (Err g) t place rest f e = cc

two_refused_ok : (a b : Bool) (place : Place) (rest : Result PlainTy RuleFault) → refuse_if a NoneUse place (refuse_if b Operand place (Ok TBool)) ≡ Ok TBool → refuse_if a NoneUse place (refuse_if b Operand place rest) ≡ rest
two_refused_ok true b place rest e = cc
two_refused_ok false b place rest e = refused_ok b Operand place rest e

two_refused_err : (a b : Bool) (place : Place) (rest : Result PlainTy RuleFault) (f : RuleFault) → refuse_if a NoneUse place (refuse_if b Operand place (Ok TBool)) ≡ Err f → refuse_if a NoneUse place (refuse_if b Operand place rest) ≡ Err f
two_refused_err true b place rest f e = e
two_refused_err false b place rest f e = refused_err b Operand place rest f e

-- an operand that stands is no more to be looked at
operand_ok : (t : PlainTy) (test : PlainTy → Bool) (place : Place) (rest : Result PlainTy RuleFault) → operand t test place (Ok TBool) ≡ Ok TBool → operand t test place rest ≡ rest
operand_ok t test place rest e = two_refused_ok (has_none t) (not (test t)) place rest e

operand_err : (t : PlainTy) (test : PlainTy → Bool) (place : Place) (rest : Result PlainTy RuleFault) (f : RuleFault) → operand t test place (Ok TBool) ≡ Err f → operand t test place rest ≡ Err f
operand_err t test place rest f e = two_refused_err (has_none t) (not (test t)) place rest f e

with_refused : {X A : Type 0} (broken : Bool) (rule : Rule) (place : Place) (found : Result X RuleFault) (f : X → Result A RuleFault) → with_found (refuse_if broken rule place found) f ≡ refuse_if broken rule place (with_found found f)
with_refused true rule place found f = refl
with_refused false rule place found f = refl

with_needed : {Y X A : Type 0} (o : Option Y) (rule : Rule) (place : Place) (g : Y → Result X RuleFault) (f : X → Result A RuleFault) → with_found (needs o rule place g) f ≡ needs o rule place (λ y. with_found (g y) f)
with_needed None rule place g f = refl
with_needed (Some y) rule place g f = refl

called_then : {A : Type 0} (tables : List PlainTable) (place : Place) (t : PlainTy) (name : ℕ) (name_at : Place) (count : ℕ) (f : PlainSig → Result A RuleFault) → with_found (called tables place t name name_at count) f ≡ refuse_if (has_none t) NoneUse place (needs (class_of_ty t) Operand place (λ class. needs (method_of tables class name) UnknownMethod name_at (λ m. refuse_if (not (count == length m.params)) ArgCount name_at (f m))))
unfolding called
called_then tables place t name name_at count f =
    with_refused (has_none t) NoneUse place (needs (class_of_ty t) Operand place (λ class. needs (method_of tables class name) UnknownMethod name_at (λ m. refuse_if (not (count == length m.params)) ArgCount name_at (Ok m)))) f
    ∙ ap (refuse_if (has_none t) NoneUse place) (
    with_needed (class_of_ty t) Operand place (λ class. needs (method_of tables class name) UnknownMethod name_at (λ m. refuse_if (not (count == length m.params)) ArgCount name_at (Ok m))) f
    ∙ ap (needs (class_of_ty t) Operand place) (λ i class. (
    with_needed (method_of tables class name) UnknownMethod name_at (λ m. refuse_if (not (count == length m.params)) ArgCount name_at (Ok m)) f
    ∙ ap (needs (method_of tables class name) UnknownMethod name_at) (λ j m. with_refused (not (count == length m.params)) ArgCount name_at (Ok m) f j)) i))

indexed_then : {A : Type 0} (place : Place) (t : PlainTy) (f : PlainTy → Result A RuleFault) → with_found (indexed place t) f ≡ refuse_if (has_none t) NoneUse place (needs (element_of t) Operand place f)
unfolding indexed
indexed_then place t f =
    with_refused (has_none t) NoneUse place (needs (element_of t) Operand place (λ element. Ok element)) f
    ∙ ap (refuse_if (has_none t) NoneUse place) (with_needed (element_of t) Operand place (λ element. Ok element) f)

module _ (tables : List PlainTable) (env : PlainEnv) where
  -- Calls

  pub call_is : (on : Expr) (name : ℕ) (name_at : Place) (args : List Expr) → type_of tables env None (PCall on.place (plain_expr on) name name_at (exprs_of (plain_exprs args))) ≡ with_found (type_of tables env None (plain_expr on)) (λ t. with_found (called tables on.place t name name_at (length args)) (λ m. arguments tables env (exprs_of (plain_exprs args)) m.params m.result))
  unfolding type_of
  call_is on name name_at args =
      ap (with_found (type_of tables env None (plain_expr on))) (λ i t. sym (
      (λ j. with_found (called tables (sym (place-expr on) j) t name name_at (sym (count-exprs args) j)) (λ m. arguments tables env (exprs_of (plain_exprs args)) m.params m.result))
      ∙ called_then tables (place_of (plain_expr on)) t name name_at (count_of (exprs_of (plain_exprs args))) (λ m. arguments tables env (exprs_of (plain_exprs args)) m.params m.result)) i)

  pub index_is : (on index : Expr) → type_of tables env None (PIndex on.place (plain_expr on) (plain_expr index)) ≡ with_found (type_of tables env None (plain_expr on)) (λ t. with_found (indexed on.place t) (λ element. with_found (type_of tables env None (plain_expr index)) (λ i. refuse_if (not (is_int i)) Operand index.place (Ok element))))
  unfolding type_of
  index_is on index =
      ap (with_found (type_of tables env None (plain_expr on))) (λ i t. sym (
      (λ j. with_found (indexed (sym (place-expr on) j) t) (λ element. with_found (type_of tables env None (plain_expr index)) (λ n. refuse_if (not (is_int n)) Operand (sym (place-expr index) j) (Ok element))))
      ∙ indexed_then (place_of (plain_expr on)) t (λ element. with_found (type_of tables env None (plain_expr index)) (λ n. refuse_if (not (is_int n)) Operand (place_of (plain_expr index)) (Ok element)))) i)

  pub choice_is : (wanted : Option PlainTy) (test a b : Expr) → type_of tables env wanted (PCond test.place (plain_expr test) (plain_expr a) (plain_expr b)) ≡ with_found (as_condition test.place (type_of tables env None (plain_expr test))) (λ c. with_found (type_of tables (where_test true (plain_expr test) env) wanted (plain_expr a)) (λ s. with_found (type_of tables (where_test false (plain_expr test) env) wanted (plain_expr b)) (λ t. needs (join s t) Mismatch b.place (λ u. Ok u))))
  unfolding type_of
  choice_is wanted test a b =
      λ j. with_found (as_condition (place-expr test j) (type_of tables env None (plain_expr test))) (λ c. with_found (type_of tables (where_test true (plain_expr test) env) wanted (plain_expr a)) (λ s. with_found (type_of tables (where_test false (plain_expr test) env) wanted (plain_expr b)) (λ t. needs (join s t) Mismatch (place-expr b j) (λ u. Ok u))))

  -- Functions and creations

  some_applied : (f : Function) (at : Place) (name count : ℕ) (each : (PlainTy → Bool) → PlainTy → Result PlainTy RuleFault) (fit : _) → applied (Some f) (table_named tables name) at count each fit ≡ refuse_if (not (count == count_asked f)) ArgCount at (each (asked f) (given f))
  unfolding applied
  some_applied spec.Length at name count each fit = refl
  some_applied spec.Text at name count each fit = refl
  some_applied spec.Absolute at name count each fit = refl
  some_applied spec.Least at name count each fit = refl
  some_applied spec.Greatest at name count each fit = refl

  pub function_is : (f : Function) (at : Place) (name : ℕ) (args : List Expr) → function_of name ≡ Some f → type_of tables env None (PApply at name (exprs_of (plain_exprs args))) ≡ refuse_if (not (length args == count_asked f)) ArgCount at (each_is (asked f) tables env (exprs_of (plain_exprs args)) (given f))
  unfolding type_of
  function_is f at name args is =
      (λ j. applied (is j) (table_named tables name) at (count-exprs args j) (λ test result. each_is test tables env (exprs_of (plain_exprs args)) result) (λ params result. arguments tables env (exprs_of (plain_exprs args)) params result))
      ∙ some_applied f at name (length args) (λ test result. each_is test tables env (exprs_of (plain_exprs args)) result) (λ params result. arguments tables env (exprs_of (plain_exprs args)) params result)

  pub creation_is : (at : Place) (name : ℕ) (args : List Expr) → function_of name ≡ None → type_of tables env None (PApply at name (exprs_of (plain_exprs args))) ≡ needs (table_named tables name) UnknownName at (λ c. refuse_if (not (length args == length c.init)) ArgCount at (arguments tables env (exprs_of (plain_exprs args)) c.init (TEntity c.name)))
  unfolding type_of applied
  creation_is at name args is =
      λ j. applied (is j) (table_named tables name) at (count-exprs args j) (λ test result. each_is test tables env (exprs_of (plain_exprs args)) result) (λ params result. arguments tables env (exprs_of (plain_exprs args)) params result)

  length_mapped : (params : List SigParam) → length (map plain_sig_param params) ≡ length params
  length_mapped [] = refl
  length_mapped (p ∷ params) = ap suc (length_mapped params)

  -- a creation of a class with this table
  pub creation_typed : (at : Place) (class : ℕ) (args : List Expr) (table : PlainTable) (params : List SigParam) (gives : PlainTy) → Some table ≡ table_named tables class → not (length args == length params) ≡ false → map plain_sig_param params ≡ table.init → gives ≡ TEntity table.name → needs (table_named tables class) UnknownName at (λ c. refuse_if (not (length args == length c.init)) ArgCount at (arguments tables env (exprs_of (plain_exprs args)) c.init (TEntity c.name))) ≡ arguments tables env (exprs_of (plain_exprs args)) (map plain_sig_param params) gives
  creation_typed at class args table params gives found as_many same made =
      (λ j. needs (sym found j) UnknownName at (λ c. refuse_if (not (length args == length c.init)) ArgCount at (arguments tables env (exprs_of (plain_exprs args)) c.init (TEntity c.name))))
      ∙ (λ j. refuse_if (not (length args == length (sym same j))) ArgCount at (arguments tables env (exprs_of (plain_exprs args)) (sym same j) (sym made j)))
      ∙ ap (λ n. refuse_if (not (length args == n)) ArgCount at (arguments tables env (exprs_of (plain_exprs args)) (map plain_sig_param params) gives)) (length_mapped params)
      ∙ ap (λ b. refuse_if b ArgCount at (arguments tables env (exprs_of (plain_exprs args)) (map plain_sig_param params) gives)) as_many

  -- Lists

  pub list_none : (at : Place) (xs : List Expr) → length xs ≤ 0 → list_of tables env None at (exprs_of (plain_exprs xs)) ≡ fault EmptyListType at
  unfolding type_of
  list_none at [] short = refl
  list_none at (x ∷ xs) short = absurd (omega arith)

  pub list_from : (at : Place) (xs : List Expr) (x : Expr) → 0 < length xs → x ≡ get_or xs 0 x → list_of tables env None at (exprs_of (plain_exprs xs)) ≡ with_found (type_of tables env None (plain_expr x)) (λ t. elements tables env t (exprs_of (plain_exprs (drop 1 xs))))
  unfolding type_of
  list_from at xs x within is = ap (list_of tables env None at) (exprs_from xs 0 x within is)

  pub list_wanted : (element : PlainTy) (at : Place) (xs : PlainExprs) → list_of tables env (Some element) at xs ≡ elements tables env element xs
  unfolding type_of
  list_wanted element at PNoExpr = refl
  list_wanted element at (PExpr x xs) = refl

  -- Arguments, from one of them on

  argument_from : (args : List Expr) (params : List SigParam) (i : ℕ) (x : Expr) (p : SigParam) (result : PlainTy) → i < length args → x ≡ get_or args i x → i < length params → p ≡ get_or params i p → arguments tables env (exprs_of (plain_exprs (drop i args))) (map plain_sig_param (drop i params)) result ≡ with_found (type_of tables env (Some (plain_sig_param p).ty) (plain_expr x)) (λ t. fits t (plain_sig_param p).ty x.place (arguments tables env (exprs_of (plain_exprs (drop (i + 1) args))) (map plain_sig_param (drop (i + 1) params)) result))
  unfolding type_of
  argument_from args params i x p result within is param_within param_is =
      (λ j. arguments tables env (exprs_from args i x within is j) (map plain_sig_param (from_item params i p param_within param_is j)) result)
      ∙ (λ j. with_found (type_of tables env (Some (plain_sig_param p).ty) (plain_expr x)) (λ t. fits t (plain_sig_param p).ty (place-expr x j) (arguments tables env (exprs_of (plain_exprs (drop (i + 1) args))) (map plain_sig_param (drop (i + 1) params)) result)))

  pub argument_passes : (args : List Expr) (params : List SigParam) (i : ℕ) (x : Expr) (p : SigParam) (result : PlainTy) → i < length args → x ≡ get_or args i x → i < length params → p ≡ get_or params i p → with_found (type_of tables env (Some (plain_sig_param p).ty) (plain_expr x)) (λ t. fits t (plain_sig_param p).ty x.place (Ok TBool)) ≡ Ok TBool → arguments tables env (exprs_of (plain_exprs (drop i args))) (map plain_sig_param (drop i params)) result ≡ arguments tables env (exprs_of (plain_exprs (drop (i + 1) args))) (map plain_sig_param (drop (i + 1) params)) result
  argument_passes args params i x p result within is param_within param_is fit =
      argument_from args params i x p result within is param_within param_is
      ∙ fits_ok (type_of tables env (Some (plain_sig_param p).ty) (plain_expr x)) (plain_sig_param p).ty x.place (arguments tables env (exprs_of (plain_exprs (drop (i + 1) args))) (map plain_sig_param (drop (i + 1) params)) result) fit

  pub argument_stops : (args : List Expr) (params : List SigParam) (i : ℕ) (x : Expr) (p : SigParam) (result : PlainTy) (f : RuleFault) → i < length args → x ≡ get_or args i x → i < length params → p ≡ get_or params i p → with_found (type_of tables env (Some (plain_sig_param p).ty) (plain_expr x)) (λ t. fits t (plain_sig_param p).ty x.place (Ok TBool)) ≡ Err f → arguments tables env (exprs_of (plain_exprs (drop i args))) (map plain_sig_param (drop i params)) result ≡ Err f
  argument_stops args params i x p result f within is param_within param_is fit =
      argument_from args params i x p result within is param_within param_is
      ∙ fits_err (type_of tables env (Some (plain_sig_param p).ty) (plain_expr x)) (plain_sig_param p).ty x.place (arguments tables env (exprs_of (plain_exprs (drop (i + 1) args))) (map plain_sig_param (drop (i + 1) params)) result) f fit

  no_more_arguments : (params : _) (result : PlainTy) → arguments tables env PNoExpr params result ≡ Ok result
  unfolding type_of
  no_more_arguments params result = refl

  no_more_params : (xs : PlainExprs) (result : PlainTy) → arguments tables env xs [] result ≡ Ok result
  unfolding type_of
  no_more_params PNoExpr result = refl
  no_more_params (PExpr x xs) result = refl

  pub arguments_end : (args : List Expr) (params : List SigParam) (i : ℕ) (result : PlainTy) → length args ≤ i → arguments tables env (exprs_of (plain_exprs (drop i args))) (map plain_sig_param (drop i params)) result ≡ Ok result
  arguments_end args params i result past = ap (λ xs. arguments tables env xs (map plain_sig_param (drop i params)) result) (exprs_end args i past) ∙ no_more_arguments (map plain_sig_param (drop i params)) result

  pub params_end : (args : List Expr) (params : List SigParam) (i : ℕ) (result : PlainTy) → length params ≤ i → arguments tables env (exprs_of (plain_exprs (drop i args))) (map plain_sig_param (drop i params)) result ≡ Ok result
  params_end args params i result past = ap (λ ps. arguments tables env (exprs_of (plain_exprs (drop i args))) (map plain_sig_param ps) result) (drop_all i params past) ∙ no_more_params (exprs_of (plain_exprs (drop i args))) result

  -- Elements, from one of them on

  element_from : (element : PlainTy) (xs : List Expr) (i : ℕ) (x : Expr) → i < length xs → x ≡ get_or xs i x → elements tables env element (exprs_of (plain_exprs (drop i xs))) ≡ with_found (type_of tables env (Some element) (plain_expr x)) (λ t. fits t element x.place (elements tables env element (exprs_of (plain_exprs (drop (i + 1) xs)))))
  unfolding type_of
  element_from element xs i x within is =
      ap (elements tables env element) (exprs_from xs i x within is)
      ∙ (λ j. with_found (type_of tables env (Some element) (plain_expr x)) (λ t. fits t element (place-expr x j) (elements tables env element (exprs_of (plain_exprs (drop (i + 1) xs))))))

  pub element_passes : (element : PlainTy) (xs : List Expr) (i : ℕ) (x : Expr) → i < length xs → x ≡ get_or xs i x → with_found (type_of tables env (Some element) (plain_expr x)) (λ t. fits t element x.place (Ok TBool)) ≡ Ok TBool → elements tables env element (exprs_of (plain_exprs (drop i xs))) ≡ elements tables env element (exprs_of (plain_exprs (drop (i + 1) xs)))
  element_passes element xs i x within is fit =
      element_from element xs i x within is ∙ fits_ok (type_of tables env (Some element) (plain_expr x)) element x.place (elements tables env element (exprs_of (plain_exprs (drop (i + 1) xs)))) fit

  pub element_stops : (element : PlainTy) (xs : List Expr) (i : ℕ) (x : Expr) (f : RuleFault) → i < length xs → x ≡ get_or xs i x → with_found (type_of tables env (Some element) (plain_expr x)) (λ t. fits t element x.place (Ok TBool)) ≡ Err f → elements tables env element (exprs_of (plain_exprs (drop i xs))) ≡ Err f
  element_stops element xs i x f within is fit =
      element_from element xs i x within is ∙ fits_err (type_of tables env (Some element) (plain_expr x)) element x.place (elements tables env element (exprs_of (plain_exprs (drop (i + 1) xs)))) f fit

  no_more_elements : (element : PlainTy) → elements tables env element PNoExpr ≡ Ok (TList element)
  unfolding type_of
  no_more_elements element = refl

  pub elements_end : (element : PlainTy) (xs : List Expr) (i : ℕ) → length xs ≤ i → elements tables env element (exprs_of (plain_exprs (drop i xs))) ≡ Ok (TList element)
  elements_end element xs i past = ap (elements tables env element) (exprs_end xs i past) ∙ no_more_elements element

  -- Arguments of a function, from one of them on

  each_from : (test : PlainTy → Bool) (result : PlainTy) (xs : List Expr) (i : ℕ) (x : Expr) → i < length xs → x ≡ get_or xs i x → each_is test tables env (exprs_of (plain_exprs (drop i xs))) result ≡ with_found (type_of tables env None (plain_expr x)) (λ t. operand t test x.place (each_is test tables env (exprs_of (plain_exprs (drop (i + 1) xs))) result))
  unfolding type_of
  each_from test result xs i x within is =
      ap (λ es. each_is test tables env es result) (exprs_from xs i x within is)
      ∙ (λ j. with_found (type_of tables env None (plain_expr x)) (λ t. operand t test (place-expr x j) (each_is test tables env (exprs_of (plain_exprs (drop (i + 1) xs))) result)))

  pub each_passes : (test : PlainTy → Bool) (result : PlainTy) (xs : List Expr) (i : ℕ) (x : Expr) (t : PlainTy) → i < length xs → x ≡ get_or xs i x → type_of tables env None (plain_expr x) ≡ Ok t → operand t test x.place (Ok TBool) ≡ Ok TBool → each_is test tables env (exprs_of (plain_exprs (drop i xs))) result ≡ each_is test tables env (exprs_of (plain_exprs (drop (i + 1) xs))) result
  each_passes test result xs i x t within is found stands =
      each_from test result xs i x within is
      ∙ ap (λ m. with_found m (λ s. operand s test x.place (each_is test tables env (exprs_of (plain_exprs (drop (i + 1) xs))) result))) found
      ∙ operand_ok t test x.place (each_is test tables env (exprs_of (plain_exprs (drop (i + 1) xs))) result) stands

  pub each_refuses : (test : PlainTy → Bool) (result : PlainTy) (xs : List Expr) (i : ℕ) (x : Expr) (t : PlainTy) (f : RuleFault) → i < length xs → x ≡ get_or xs i x → type_of tables env None (plain_expr x) ≡ Ok t → operand t test x.place (Ok TBool) ≡ Err f → each_is test tables env (exprs_of (plain_exprs (drop i xs))) result ≡ Err f
  each_refuses test result xs i x t f within is found stands =
      each_from test result xs i x within is
      ∙ ap (λ m. with_found m (λ s. operand s test x.place (each_is test tables env (exprs_of (plain_exprs (drop (i + 1) xs))) result))) found
      ∙ operand_err t test x.place (each_is test tables env (exprs_of (plain_exprs (drop (i + 1) xs))) result) f stands

  pub each_stops : (test : PlainTy → Bool) (result : PlainTy) (xs : List Expr) (i : ℕ) (x : Expr) (f : RuleFault) → i < length xs → x ≡ get_or xs i x → type_of tables env None (plain_expr x) ≡ Err f → each_is test tables env (exprs_of (plain_exprs (drop i xs))) result ≡ Err f
  each_stops test result xs i x f within is found =
      each_from test result xs i x within is
      ∙ ap (λ m. with_found m (λ s. operand s test x.place (each_is test tables env (exprs_of (plain_exprs (drop (i + 1) xs))) result))) found

  no_more_each : (test : PlainTy → Bool) (result : PlainTy) → each_is test tables env PNoExpr result ≡ Ok result
  unfolding type_of
  no_more_each test result = refl

  pub each_end : (test : PlainTy → Bool) (result : PlainTy) (xs : List Expr) (i : ℕ) → length xs ≤ i → each_is test tables env (exprs_of (plain_exprs (drop i xs))) result ≡ Ok result
  each_end test result xs i past = ap (λ es. each_is test tables env es result) (exprs_end xs i past) ∙ no_more_each test result

  -- Operands of `and` and `or`, from one of them on

  condition_from : (truth : Bool) (xs : List Expr) (i : ℕ) (x : Expr) → i < length xs → x ≡ get_or xs i x → conditions tables env truth (exprs_of (plain_exprs (drop i xs))) ≡ with_found (as_condition x.place (type_of tables env None (plain_expr x))) (λ c. conditions tables (where_test truth (plain_expr x) env) truth (exprs_of (plain_exprs (drop (i + 1) xs))))
  unfolding type_of
  condition_from truth xs i x within is =
      ap (conditions tables env truth) (exprs_from xs i x within is)
      ∙ (λ j. with_found (as_condition (place-expr x j) (type_of tables env None (plain_expr x))) (λ c. conditions tables (where_test truth (plain_expr x) env) truth (exprs_of (plain_exprs (drop (i + 1) xs)))))

  pub condition_passes : (more : PlainEnv) (truth : Bool) (xs : List Expr) (i : ℕ) (x : Expr) → i < length xs → x ≡ get_or xs i x → as_condition x.place (type_of tables env None (plain_expr x)) ≡ Ok TBool → more ≡ where_test truth (plain_expr x) env → conditions tables env truth (exprs_of (plain_exprs (drop i xs))) ≡ conditions tables more truth (exprs_of (plain_exprs (drop (i + 1) xs)))
  condition_passes more truth xs i x within is holds known =
      condition_from truth xs i x within is
      ∙ ap (λ m. with_found m (λ c. conditions tables (where_test truth (plain_expr x) env) truth (exprs_of (plain_exprs (drop (i + 1) xs))))) holds
      ∙ ap (λ e. conditions tables e truth (exprs_of (plain_exprs (drop (i + 1) xs)))) (sym known)

  pub condition_stops : (truth : Bool) (xs : List Expr) (i : ℕ) (x : Expr) (f : RuleFault) → i < length xs → x ≡ get_or xs i x → as_condition x.place (type_of tables env None (plain_expr x)) ≡ Err f → conditions tables env truth (exprs_of (plain_exprs (drop i xs))) ≡ Err f
  condition_stops truth xs i x f within is fails =
      condition_from truth xs i x within is
      ∙ ap (λ m. with_found m (λ c. conditions tables (where_test truth (plain_expr x) env) truth (exprs_of (plain_exprs (drop (i + 1) xs))))) fails

  no_more_conditions : (truth : Bool) → conditions tables env truth PNoExpr ≡ Ok TBool
  unfolding type_of
  no_more_conditions truth = refl

  pub conditions_end : (truth : Bool) (xs : List Expr) (i : ℕ) → length xs ≤ i → conditions tables env truth (exprs_of (plain_exprs (drop i xs))) ≡ Ok TBool
  conditions_end truth xs i past = ap (conditions tables env truth) (exprs_end xs i past) ∙ no_more_conditions truth

  -- Operators of a run, from one of them on

  link_from : (left : PlainTy) (ls : List Link) (i : ℕ) (l : Link) → i < length ls → l ≡ get_or ls i l → linked tables env left (links_of (plain_links (drop i ls))) ≡ with_found (type_of tables env (right_wanted l.op left) (plain_expr l.right)) (λ t. with_found (combined l.op l.place left t) (λ both. linked tables env both (links_of (plain_links (drop (i + 1) ls)))))
  unfolding type_of
  link_from left ls i l within is = ap (linked tables env left) (links_from ls i l within is)

  pub link_passes : (left t both : PlainTy) (ls : List Link) (i : ℕ) (l : Link) → i < length ls → l ≡ get_or ls i l → type_of tables env (right_wanted l.op left) (plain_expr l.right) ≡ Ok t → combined l.op l.place left t ≡ Ok both → linked tables env left (links_of (plain_links (drop i ls))) ≡ linked tables env both (links_of (plain_links (drop (i + 1) ls)))
  link_passes left t both ls i l within is found fit =
      link_from left ls i l within is
      ∙ ap (λ m. with_found m (λ s. with_found (combined l.op l.place left s) (λ b. linked tables env b (links_of (plain_links (drop (i + 1) ls)))))) found
      ∙ ap (λ m. with_found m (λ b. linked tables env b (links_of (plain_links (drop (i + 1) ls))))) fit

  pub link_refuses : (left t : PlainTy) (ls : List Link) (i : ℕ) (l : Link) (f : RuleFault) → i < length ls → l ≡ get_or ls i l → type_of tables env (right_wanted l.op left) (plain_expr l.right) ≡ Ok t → combined l.op l.place left t ≡ Err f → linked tables env left (links_of (plain_links (drop i ls))) ≡ Err f
  link_refuses left t ls i l f within is found fit =
      link_from left ls i l within is
      ∙ ap (λ m. with_found m (λ s. with_found (combined l.op l.place left s) (λ b. linked tables env b (links_of (plain_links (drop (i + 1) ls)))))) found
      ∙ ap (λ m. with_found m (λ b. linked tables env b (links_of (plain_links (drop (i + 1) ls))))) fit

  pub link_stops : (left : PlainTy) (ls : List Link) (i : ℕ) (l : Link) (f : RuleFault) → i < length ls → l ≡ get_or ls i l → type_of tables env (right_wanted l.op left) (plain_expr l.right) ≡ Err f → linked tables env left (links_of (plain_links (drop i ls))) ≡ Err f
  link_stops left ls i l f within is found =
      link_from left ls i l within is
      ∙ ap (λ m. with_found m (λ s. with_found (combined l.op l.place left s) (λ b. linked tables env b (links_of (plain_links (drop (i + 1) ls)))))) found

  no_more_links : (left : PlainTy) → linked tables env left (links_of []) ≡ Ok left
  unfolding type_of
  no_more_links left = refl

  pub links_ended : (left : PlainTy) (ls : List Link) (i : ℕ) → length ls ≤ i → linked tables env left (links_of (plain_links (drop i ls))) ≡ Ok left
  links_ended left ls i past = ap (linked tables env left) (links_end ls i past) ∙ no_more_links left

pub ruleset call_laws = (call_is)

pub ruleset index_laws = (index_is)

pub ruleset choice_laws = (choice_is)

pub ruleset apply_laws = (function_is, creation_is)

pub ruleset list_laws = (list_wanted)

pub ruleset argument_laws = (argument_passes, argument_stops, arguments_end, params_end)

pub ruleset element_laws = (element_passes, element_stops, elements_end)

pub ruleset each_laws = (each_passes, each_refuses, each_stops, each_end)

pub ruleset condition_laws = (condition_passes, condition_stops, conditions_end)

pub ruleset link_laws = (link_passes, link_refuses, link_stops, links_ended)
