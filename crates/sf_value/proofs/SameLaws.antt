-- Two values are the same exactly where they are equal.
use Rattle.std.proofs.Common.{◌≡◌, Bool as Truth, true, false, ◌&&◌, ◌==◌, ◌∷◌, true≢false, refl, sym, ap, ◌∙◌}
use Rattle.std.specs.Prelude.{bytes_eq}
use Rattle.std.specs.Bool.{Decides}
use Rattle.std.proofs.lemmas.Bool.Decides.{Decides-int_eq, Decides-eqb, same_from_decides}
use Rattle.std.proofs.lemmas.Slice.Eq.{bytes_eq-Decides}
use denote.Hole.Carrier as Carrier
use Rattle.sf_value.specs.declared.value.Value.{Value, Int, Bool, Str, Nil, List', Entity, Row_of-Value, end_of-Value, more_of-Value, items-the_row-Value, items_shown-the_row-Value-0, out-Value, roll-Value, roll-out-Value}
use Rattle.sf_value.specs.declared.value.Value.TheBlock.{shown-the_row-Value-0}
use Rattle.sf_value.specs.declared.value.Value.TheOpen as open'
use Rattle.sf_value.specs.Sameness.{both_ways, same_value, same_row}

both_true : (a b : Truth) → (a && b) ≡ true → (a ≡ true) × (b ≡ true)
both_true true b h = (refl, h)
both_true false b h = absurd (true≢false (sym h))

and_true : (a b : Truth) → a ≡ true → b ≡ true → (a && b) ≡ true
and_true a b p q = (λ i. p i && q i)

same_truth : (a b : Truth) → both_ways a b ≡ true → a ≡ b
same_truth true true h = refl
same_truth true false h = absurd (true≢false (sym h))
same_truth false true h = absurd (true≢false (sym h))
same_truth false false h = refl

truth_itself : (a : Truth) → both_ways a a ≡ true
truth_itself true = refl
truth_itself false = refl

-- a list is what its elements make
opened : (n : _) (xs : Row_of-Value _) → out-Value (List' n xs) ≡ open'.List (shown-the_row-Value-0 n xs)
unfolding out-Value Carrier.out
opened n xs = refl

made : (n : _) (xs : Row_of-Value _) → List' n xs ≡ roll-Value (open'.List (items-the_row-Value _ xs))
made n xs = sym (roll-out-Value (List' n xs)) ∙ ap roll-Value (opened n xs ∙ ap open'.List (items_shown-the_row-Value-0 n xs))

mutual
  unfolding same_value

  pub equal : (v w : Value) → same_value v w ≡ true → v ≡ w
  equal (Int x) (Int y) h = ap Int ((Decides-int_eq x y).0 h)
  equal (Bool x) (Bool y) h = ap Bool (same_truth x y h)
  equal (Str x) (Str y) h = ap Str ((bytes_eq-Decides x y).0 h)
  equal Nil Nil h = refl
  equal (List' n xs) (List' m ys) h = made n xs ∙ ap (λ items. roll-Value (open'.List items)) (rows_equal _ _ xs ys h) ∙ sym (made m ys)
  equal (Entity a) (Entity b) h =
      let both = both_true (a.class == b.class) (bytes_eq a.key b.key) h in
      ap Entity (λ i. record { class = (Decides-eqb a.class b.class).0 both.0 i; key = (bytes_eq-Decides a.key b.key).0 both.1 i })
  equal _ _ h = absurd (true≢false (sym h))

  rows_equal : (n m : _) (xs : Row_of-Value n) (ys : Row_of-Value m) → same_row xs ys ≡ true → items-the_row-Value n xs ≡ items-the_row-Value m ys
  rows_equal n m end_of-Value end_of-Value h = refl
  rows_equal n m (more_of-Value x xs) (more_of-Value y ys) h =
      let both = both_true (same_value x y) (same_row xs ys) h in
      λ i. equal x y both.0 i ∷ rows_equal _ _ xs ys both.1 i
  rows_equal n m _ _ h = absurd (true≢false (sym h))

mutual
  unfolding same_value

  itself : (v : Value) → same_value v v ≡ true
  itself (Int x) = (Decides-int_eq x x).1 refl
  itself (Bool x) = truth_itself x
  itself (Str x) = (bytes_eq-Decides x x).1 refl
  itself Nil = refl
  itself (List' n xs) = row_itself _ xs
  itself (Entity a) = and_true (a.class == a.class) (bytes_eq a.key a.key) ((Decides-eqb a.class a.class).1 refl) ((bytes_eq-Decides a.key a.key).1 refl)

  row_itself : (n : _) (xs : Row_of-Value n) → same_row xs xs ≡ true
  row_itself n end_of-Value = refl
  row_itself n (more_of-Value x xs) = and_true (same_value x x) (same_row xs xs) (itself x) (row_itself _ xs)

pub same_value-Decides : (v w : Value) → Decides (same_value v w) (v ≡ w)
same_value-Decides v w = (equal v w, λ e. ap (same_value v) (sym e) ∙ itself v)

-- any test that decides whether two values are equal is this one
pub same_value-is : (b : Truth) (v w : Value) → Decides b (v ≡ w) → b ≡ same_value v w
same_value-is b v w h = same_from_decides b (same_value v w) h (same_value-Decides v w)
