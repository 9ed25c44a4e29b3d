-- The arguments as the first locals, one after another.
use Rattle.std.proofs.Common.{◌≡◌, ◌<◌, ◌≤◌, ◌+◌, ℕ, zero, suc, List, [], ◌∷◌, drop, get_or, length, slice_get, unwrap_or, Some, None, refl, sym, ap, ◌∙◌, add-one, drop-cons, arith}
use Rattle.std.proofs.lemmas.List.{drop_all}
use Rattle.std.proofs.lemmas.Option.{slice_get_within, unwrap_or-slice_get}
use Rattle.py_tree.specs.declared.program.Param.{Param}
use Rattle.py_tree.specs.PlainProgram.{plain_param, plain_params, PlainParam}
use Rattle.sf_value.specs.declared.value.Value.{Value}
use Rattle.program_meaning.specs.Calls.{bound}

params_from : (ps : List Param) (i : ℕ) (p : Param) → i < length ps → p ≡ get_or ps i p → plain_params (drop i ps) ≡ plain_param p ∷ plain_params (drop (i + 1) ps)
params_from ps i p lt is =
    let cut : drop i ps ≡ get_or ps i p ∷ drop (i + 1) ps = rw (add-one, drop-cons ps i p) in
    ap plain_params cut ∙ ap (λ x. plain_param x ∷ plain_params (drop (i + 1) ps)) (sym is)

drop_at : {A : Type 0} (xs : List A) (i : ℕ) (x : A) → slice_get xs i ≡ Some x → drop i xs ≡ x ∷ drop (i + 1) xs
drop_at xs i x at =
    let within : i < length xs = slice_get_within xs i x at in
    let cut : drop i xs ≡ get_or xs i x ∷ drop (i + 1) xs = rw (add-one, drop-cons xs i x) in
    cut ∙ ap (λ y. y ∷ drop (i + 1) xs) (sym (unwrap_or-slice_get xs i x) ∙ ap (λ o. unwrap_or o x) at)

drop_none : {A : Type 0} (xs : List A) (i : ℕ) → slice_get xs i ≡ None → drop i xs ≡ []
drop_none [] i at = drop_all i [] (omega arith)
drop_none (x ∷ xs) zero at = cc
drop_none (x ∷ xs) (suc i) at = drop_none xs i at

bound_nothing : (ps : List PlainParam) → bound ps [] ≡ []
unfolding bound
bound_nothing [] = refl
bound_nothing (p ∷ ps) = refl

-- one more argument that there is
pub bound_more : (ps : List Param) (args : List Value) (i : ℕ) (p : Param) (v : Value) → i < length ps → p ≡ get_or ps i p → slice_get args i ≡ Some v
    → bound (plain_params (drop i ps)) (drop i args) ≡ record { name = p.name; value = v } ∷ bound (plain_params (drop (i + 1) ps)) (drop (i + 1) args)
unfolding bound
bound_more ps args i p v lt is at = λ j. bound (params_from ps i p lt is j) (drop_at args i v at j)

-- no argument more
pub bound_short : (ps : List Param) (args : List Value) (i : ℕ) → slice_get args i ≡ None → bound (plain_params (drop i ps)) (drop i args) ≡ []
unfolding bound
bound_short ps args i at = ap (bound (plain_params (drop i ps))) (drop_none args i at) ∙ bound_nothing (plain_params (drop i ps))

pub bound_end : (ps : List Param) (args : List Value) (i : ℕ) → length ps ≤ i → bound (plain_params (drop i ps)) (drop i args) ≡ []
unfolding bound
bound_end ps args i le = let cut : drop i ps ≡ [] = drop_all i ps le in ap (λ l. bound (plain_params l) (drop i args)) cut

-- where no parameter is left
pub bound_past : (ps : List Param) (args : List Value) (i : ℕ) → length ps ≤ i → bound (plain_params (drop i ps)) args ≡ []
unfolding bound
bound_past ps args i le = let cut : drop i ps ≡ [] = drop_all i ps le in ap (λ l. bound (plain_params l) args) cut

-- where no argument is left
pub bound_none : (ps : List Param) (args : List Value) → args ≡ [] → bound (plain_params ps) args ≡ []
bound_none ps args none = ap (bound (plain_params ps)) none ∙ bound_nothing (plain_params ps)

-- the first argument, and the others
pub bound_next : (ps : List Param) (args rest : List Value) (i : ℕ) (p : Param) (v : Value) → i < length ps → p ≡ get_or ps i p → args ≡ v ∷ rest
    → bound (plain_params (drop i ps)) args ≡ record { name = p.name; value = v } ∷ bound (plain_params (drop (i + 1) ps)) rest
unfolding bound
bound_next ps args rest i p v lt is first = λ j. bound (params_from ps i p lt is j) (first j)
