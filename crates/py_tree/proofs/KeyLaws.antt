-- Where the key of a class stands: the place of a name in a list, the first source of a field, and both together.
use Rattle.std.proofs.Common.{◌≡◌, ℕ, suc, arith, nat_eq, Bool, true, false, if◌then◌else◌, ◌+◌, ◌<◌, ◌≤◌, Option, Some, None, List, [], ◌∷◌, length, map, drop, get_or, refl, sym, ap, subst, ◌∙◌}
use Rattle.std.specs.Prelude.{option_map, option_and_then, filter_map, slice_get}
use Rattle.std.specs.List.{cons_option}
use Rattle.std.proofs.lemmas.Bool.{eq-eqb, ne_eqb}
use Rattle.std.proofs.lemmas.List.{drop_all, length-map}
use Rattle.py_tree.specs.declared.stmt.Stmt.{Stmt}
use Rattle.py_tree.specs.declared.program.Param.{Param}
use Rattle.py_tree.specs.PlainStatements.{PlainStmt, plain_stmt, plain_stmts}
use Rattle.py_tree.specs.PlainProgram.{PlainParam, PlainMethod, plain_param}
use Rattle.py_tree.specs.ClassRules.{Declaration, declaration, field_declared, fields_of, place_among, field_place, param_place, source_in, source_of, init_of, params_of, body_of, key_method, key_name, PlainKey, key_at, key_among, key_told, key_of}
use Rattle.py_tree.proofs.ListWalks.{map_from}

-- where a name stands, counted from so many
pub place_from : ℕ → List ℕ → ℕ → Option ℕ
place_from n xs name = option_map (λ k. n + k) (place_among xs name)

shifted : (n : ℕ) (o : Option ℕ) → option_map (λ k. n + k) (option_map (λ k. k + 1) o) ≡ option_map (λ k. n + 1 + k) o
shifted n None = refl
shifted n (Some k) = let e : n + (k + 1) ≡ n + 1 + k = omega arith in ap Some e

from_start : (o : Option ℕ) → option_map (λ k. 0 + k) o ≡ o
from_start None = refl
from_start (Some k) = let e : 0 + k ≡ k = omega arith in ap Some e

module _ (n x : ℕ) (xs : List ℕ) (name : ℕ) where
  place_here : nat_eq x name ≡ true → place_from n (x ∷ xs) name ≡ Some n
  unfolding place_from
  place_here same =
      let zero : n + 0 ≡ n = omega arith in
      ap (λ b. option_map (λ k. n + k) (if b then Some 0 else option_map (λ k. k + 1) (place_among xs name))) same ∙ ap Some zero

  place_on : nat_eq x name ≡ false → place_from n (x ∷ xs) name ≡ place_from (n + 1) xs name
  unfolding place_from
  place_on other =
      ap (λ b. option_map (λ k. n + k) (if b then Some 0 else option_map (λ k. k + 1) (place_among xs name))) other ∙ shifted n (place_among xs name)

-- among the fields that the statements from one on declare, counted from so many
abbrev pub field_from : ℕ → ℕ → List Stmt → ℕ → Option ℕ
field_from n i body name = place_from n (map (λ f. f.name) (fields_of (plain_stmts (drop i body)))) name

pub field_start : (body : List Stmt) (name : ℕ) → field_place (fields_of (plain_stmts body)) name ≡ field_from 0 0 body name
unfolding field_place place_from
field_start body name = sym (from_start (place_among (map (λ f. f.name) (fields_of (plain_stmts body))) name))

module _ (n i : ℕ) (body : List Stmt) (name : ℕ) (x : Stmt) where
  declares : (o : Option Declaration) → i < length body → x ≡ get_or body i x → declaration (plain_stmt x) ≡ o → field_from n i body name ≡ place_from n (map (λ f. f.name) (cons_option (option_map field_declared o) (fields_of (plain_stmts (drop (i + 1) body))))) name
  unfolding fields_of
  declares o within is found =
      ap (λ ys. place_from n (map (λ f. f.name) (fields_of ys)) name) (map_from plain_stmt body i x within is)
      ∙ ap (λ o. place_from n (map (λ f. f.name) (cons_option (option_map field_declared o) (fields_of (plain_stmts (drop (i + 1) body))))) name) found

  module _ (within : i < length body) (is : x ≡ get_or body i x) where
    pub field_here : (d : Declaration) → declaration (plain_stmt x) ≡ Some d → d.field.name.0 ≡ name → field_from n i body name ≡ Some n
    field_here d found same =
        declares (Some d) within is found ∙ place_here n d.field.name.0 (map (λ f. f.name) (fields_of (plain_stmts (drop (i + 1) body)))) name (eq-eqb d.field.name.0 name same)

    pub field_on : (d : Declaration) → declaration (plain_stmt x) ≡ Some d → (d.field.name.0 ≡ name → ⊥) → field_from n i body name ≡ field_from (n + 1) (i + 1) body name
    field_on d found other =
        declares (Some d) within is found ∙ place_on n d.field.name.0 (map (λ f. f.name) (fields_of (plain_stmts (drop (i + 1) body)))) name (ne_eqb d.field.name.0 name other)

    pub field_past : declaration (plain_stmt x) ≡ None → field_from n i body name ≡ field_from n (i + 1) body name
    field_past none = declares None within is none

pub field_none : (n i : ℕ) (body : List Stmt) (name : ℕ) → length body ≤ i → field_from n i body name ≡ None
unfolding fields_of place_from
field_none n i body name past = ap (λ ys. place_from n (map (λ f. f.name) (fields_of (plain_stmts ys))) name) (drop_all i body past)

-- among the parameters from one on
abbrev pub param_from : ℕ → List Param → ℕ → Option ℕ
param_from i params name = place_from i (map (λ x. x.name) (map plain_param (drop i params))) name

pub param_start : (params : List Param) (name : ℕ) → param_place (map plain_param params) name ≡ param_from 0 params name
unfolding param_place place_from
param_start params name = sym (from_start (place_among (map (λ x. x.name) (map plain_param params)) name))

module _ (i : ℕ) (params : List Param) (name : ℕ) (x : Param) where
  pub param_here : i < length params → x ≡ get_or params i x → nat_eq x.name.0 name ≡ true → param_from i params name ≡ Some i
  param_here within is same =
      ap (λ ys. place_from i (map (λ y. y.name) ys) name) (map_from plain_param params i x within is) ∙ place_here i x.name.0 (map (λ y. y.name) (map plain_param (drop (i + 1) params))) name same

  pub param_on : i < length params → x ≡ get_or params i x → nat_eq x.name.0 name ≡ false → param_from i params name ≡ param_from (i + 1) params name
  param_on within is other =
      ap (λ ys. place_from i (map (λ y. y.name) ys) name) (map_from plain_param params i x within is) ∙ place_on i x.name.0 (map (λ y. y.name) (map plain_param (drop (i + 1) params))) name other

pub param_none : (i : ℕ) (params : List Param) (name : ℕ) → length params ≤ i → param_from i params name ≡ None
unfolding place_from
param_none i params name past = ap (λ ys. place_from i (map (λ y. y.name) (map plain_param ys)) name) (drop_all i params past)

-- the sources from a statement on
module _ (xs : List Stmt) (name i : ℕ) (x : Stmt) where
  source_from : (o : Option ℕ) → i < length xs → x ≡ get_or xs i x → source_in name (plain_stmt x) ≡ o → source_of (plain_stmts (drop i xs)) name ≡ slice_get (cons_option o (filter_map (source_in name) (plain_stmts (drop (i + 1) xs)))) 0
  unfolding source_of
  source_from o within is told =
      ap (λ ys. slice_get (filter_map (source_in name) ys) 0) (map_from plain_stmt xs i x within is) ∙ ap (λ o. slice_get (cons_option o (filter_map (source_in name) (plain_stmts (drop (i + 1) xs)))) 0) told

  pub source_here : (p : ℕ) → i < length xs → x ≡ get_or xs i x → source_in name (plain_stmt x) ≡ Some p → source_of (plain_stmts (drop i xs)) name ≡ Some p
  source_here p within is some = source_from (Some p) within is some

  pub source_on : i < length xs → x ≡ get_or xs i x → source_in name (plain_stmt x) ≡ None → source_of (plain_stmts (drop i xs)) name ≡ source_of (plain_stmts (drop (i + 1) xs)) name
  unfolding source_of
  source_on within is none = source_from None within is none

pub source_none : (xs : List Stmt) (name i : ℕ) → length xs ≤ i → source_of (plain_stmts (drop i xs)) name ≡ None
unfolding source_of
source_none xs name i past = ap (λ ys. slice_get (filter_map (source_in name) (plain_stmts ys)) 0) (drop_all i xs past)

-- the key of a class, by its `__key__` and its `__init__`
module _ (names : List (List ℕ)) (members : List PlainMethod) where
  pub no_teller : key_method names members ≡ None → key_of names members ≡ None
  unfolding key_of
  no_teller none = ap (option_and_then (λ m. key_told m (params_of (init_of names members)) (body_of (init_of names members)))) none

  pub told : (m init : PlainMethod) → key_method names members ≡ Some m → init_of names members ≡ Some init → key_of names members ≡ key_told m init.params init.body
  unfolding key_of
  told m init teller maker = λ i. option_and_then (λ m. key_told m (params_of (maker i)) (body_of (maker i))) (teller i)

-- without `__init__` there is no field, so no key
nothing_told : (o : Option ℕ) → option_and_then (key_among [] []) o ≡ None
unfolding key_among field_place fields_of
nothing_told None = refl
nothing_told (Some name) = refl

pub no_maker : (names : List (List ℕ)) (members : List PlainMethod) (m : PlainMethod) → key_method names members ≡ Some m → init_of names members ≡ None → key_of names members ≡ None
unfolding key_of
no_maker names members m teller none =
    (λ i. option_and_then (λ m. key_told m (params_of (none i)) (body_of (none i))) (teller i)) ∙ nothing_told (key_name m)

-- the numbers of a key are below how many there are
among_step : (b : Bool) (o : Option ℕ) (n k : ℕ) → ((j : ℕ) → o ≡ Some j → j < n) → (if b then Some 0 else option_map (λ k. k + 1) o) ≡ Some k → k < suc n
among_step true o n k below e = let zero : 0 ≡ k = cc in omega arith
among_step false None n k below e = cc
among_step false (Some j) n k below e =
    let next : j + 1 ≡ k = cc in
    let less : j < n = below j refl in
    omega arith

among_within : (xs : List ℕ) (name k : ℕ) → place_among xs name ≡ Some k → k < length xs
among_within [] name k e = cc
among_within (x ∷ xs) name k e = among_step (nat_eq x name) (place_among xs name) (length xs) k (λ j. among_within xs name j) e

param_within : (params : List PlainParam) (o : Option ℕ) (k : ℕ) → option_and_then (param_place params) o ≡ Some k → k < length params
unfolding param_place
param_within params None k e = cc
param_within params (Some name) k e = subst (λ n. k < n) (length-map params (λ x. x.name)) (among_within (map (λ x. x.name) params) name k e)

both_within : (field param : Option ℕ) (n m : ℕ) (k : PlainKey) → ((j : ℕ) → field ≡ Some j → j < n) → ((j : ℕ) → param ≡ Some j → j < m) → key_at field param ≡ Some k → (k.field < n) × (k.param < m)
both_within None param n m k low high e = cc
both_within (Some f) None n m k low high e = cc
both_within (Some f) (Some p) n m k low high e =
    let same : ◌≡◌ {A = PlainKey} (record { field = f; param = p }) k = cc in
    (subst (λ (k : PlainKey). k.field < n) same (low f refl), subst (λ (k : PlainKey). k.param < m) same (high p refl))

told_within : (params : List PlainParam) (body : List PlainStmt) (o : Option ℕ) (k : PlainKey) → option_and_then (key_among params body) o ≡ Some k → (k.field < length (fields_of body)) × (k.param < length params)
unfolding key_among field_place
told_within params body None k e = cc
told_within params body (Some name) k e =
    both_within (field_place (fields_of body) name) (option_and_then (param_place params) (source_of body name)) (length (fields_of body)) (length params) k
    (λ j found. subst (λ n. j < n) (length-map (fields_of body) (λ f. f.name)) (among_within (map (λ f. f.name) (fields_of body)) name j found))
    (λ j found. param_within params (source_of body name) j found) e

teller_within : (params : List PlainParam) (body : List PlainStmt) (o : Option PlainMethod) (k : PlainKey) → option_and_then (λ m. key_told m params body) o ≡ Some k → (k.field < length (fields_of body)) × (k.param < length params)
teller_within params body None k e = cc
teller_within params body (Some m) k e = told_within params body (key_name m) k e

pub key_within : (names : List (List ℕ)) (members : List PlainMethod) (k : PlainKey) → key_of names members ≡ Some k → (k.field < length (fields_of (body_of (init_of names members)))) × (k.param < length (params_of (init_of names members)))
unfolding key_of
key_within names members k e = teller_within (params_of (init_of names members)) (body_of (init_of names members)) (key_method names members) k e

pub ruleset field_laws = (field_start, field_none)

pub ruleset param_laws = (param_start, param_here, param_on, param_none)

pub ruleset source_laws = (source_here, source_on, source_none)

pub ruleset key_laws = (no_teller, no_maker)
