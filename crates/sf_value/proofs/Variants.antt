-- What holds of each variant holds of every value.
use Rattle.std.proofs.Common.{ℤ, Bool as Truth, List as Items, subst, sym}
use Rattle.sf_value.specs.declared.text.Text.{Text}
use Rattle.sf_value.specs.declared.value.Ref.{Ref}
use Rattle.sf_value.specs.declared.value.Value.{Value, Int, Bool, Str, Nil, List, Entity, Value-F, out-Value, roll-Value, roll-out-Value}
use Rattle.sf_value.specs.declared.value.Value.TheVariants.{rolls-Int, rolls-Bool, rolls-Str, rolls-Nil, rolls-List, rolls-Entity}
use Rattle.sf_value.specs.declared.value.Value.TheOpen as open'

module _ (P : Value → Type 0) (ints : (n : ℤ) → P (Int n)) (truths : (b : Truth) → P (Bool b)) (texts : (text : Text) → P (Str text)) (none : P Nil)
    (lists : (items : Items Value) → P (List items)) (entities : (at : Ref) → P (Entity at)) where
  by_layer : (layer : Value-F Value) → P (roll-Value layer)
  by_layer (open'.Int n) = subst P (sym (rolls-Int n)) (ints n)
  by_layer (open'.Bool b) = subst P (sym (rolls-Bool b)) (truths b)
  by_layer (open'.Str text) = subst P (sym (rolls-Str text)) (texts text)
  by_layer open'.Nil = subst P (sym rolls-Nil) none
  by_layer (open'.List items) = subst P (sym (rolls-List items)) (lists items)
  by_layer (open'.Entity at) = subst P (sym (rolls-Entity at)) (entities at)

  pub by_variants : (value : Value) → P value
  by_variants value = subst P (roll-out-Value value) (by_layer (out-Value value))
