-- Copies of lists of values.
use Rattle.std.proofs.Common.{◌≡◌, ◌∙◌, List, Ok, Err, Result}
use Rattle.std.specs.Prelude.{IfOk}
use Rattle.sf_list.specs.Copies.{AreCopies}
use Rattle.sf_list.proofs.CopyLaws.{equal_copies}
use Rattle.sf_value.specs.declared.value.Value.{Value}

pub copied_as : {E : Type 0} (r : Result (List Value) E) (xs ys : List Value) → IfOk r (AreCopies (λ old made. made ≡ old) xs) → xs ≡ ys → IfOk r (λ made. made ≡ ys)
copied_as (Ok made) xs ys h same = equal_copies xs made h ∙ same
copied_as (Err e) xs ys h same = tt
