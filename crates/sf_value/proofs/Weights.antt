-- Equations of weights, one for each case.
use Rattle.std.proofs.Common.{◌≡◌, ℕ, ℤ, Bool as Truth, ◌+◌, ◌≤◌, List as Items, [], length, drop, min, refl, sym, ap, ◌∙◌, arith}
use Rattle.std.specs.List.{sum_by}
use Rattle.std.proofs.lemmas.List.{drop_all}
use Rattle.std.proofs.lemmas.List.Sums.{sum_by-cons}
use Rattle.std.specs.Str.{encode_utf8_all}
use Rattle.sf_value.specs.declared.text.Text.{Text}
use Rattle.sf_value.specs.declared.value.Ref.{Ref}
use Rattle.sf_value.specs.declared.value.Value.{Value, Int, Bool, Str, Nil, List, Entity, Row_of-Value, end_of-Value, more_of-Value, items-the_row-Value, items_hidden-the_row-Value-0}
use Rattle.sf_value.specs.declared.value.Value.TheBlock.{hidden-the_row-Value-0}
use Rattle.sf_value.specs.Weight.{weight_of, row_weight}

row-items : (n : _) (row : Row_of-Value n) → row_weight row ≡ sum_by weight_of (items-the_row-Value n row)
unfolding row_weight
row-items n end_of-Value = refl
row-items n (more_of-Value value row) = ap (λ w. weight_of value + w) (row-items _ row) ∙ sym (sum_by-cons weight_of value (items-the_row-Value _ row))

pub weight-Int : (n : ℤ) → weight_of (Int n) ≡ 1
unfolding weight_of
weight-Int n = refl

pub weight-Bool : (b : Truth) → weight_of (Bool b) ≡ 1
unfolding weight_of
weight-Bool b = refl

pub weight-Str : (text : Text) → weight_of (Str text) ≡ 1 + length (encode_utf8_all text)
unfolding weight_of
weight-Str text = refl

pub weight-Nil : weight_of Nil ≡ 1
unfolding weight_of
weight-Nil = refl

pub weight-List : (items : Items Value) → weight_of (List items) ≡ 1 + sum_by weight_of items
unfolding weight_of
weight-List items = ap (λ w. 1 + w) (row-items _ (hidden-the_row-Value-0 items) ∙ ap (λ values. sum_by weight_of values) (items_hidden-the_row-Value-0 items))

pub weight-Entity : (at : Ref) → weight_of (Entity at) ≡ 1 + length (encode_utf8_all at.key)
unfolding weight_of
weight-Entity at = refl

pub ruleset weights = (weight-Int, weight-Bool, weight-Str, weight-Nil, weight-List, weight-Entity)

-- a walk over a list that has passed its last element
pub weight-at_end : (total so_far i : ℕ) (seen items : Items Value) (value : Value) → value ≡ List items → seen ≡ items → (total ≤ 65537) × (min (total + sum_by weight_of (drop i seen)) 65537 ≡ min (so_far + (1 + sum_by weight_of seen)) 65537) → length seen ≤ i → total ≡ min (so_far + weight_of value) 65537
weight-at_end total so_far i seen items value is same h past =
    let gone : drop i seen ≡ [] = drop_all i seen past in
    let whole : weight_of value ≡ 1 + sum_by weight_of seen = ap weight_of is ∙ weight-List items ∙ ap (λ values. 1 + sum_by weight_of values) (sym same) in
    let left : sum_by weight_of (drop i seen) ≡ 0 = ap (λ values. sum_by weight_of values) gone in
    grind (arith, whole, left, h)
