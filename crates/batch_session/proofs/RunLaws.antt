-- Batches at the end of the input.
use Rattle.std.proofs.Common.{◌≡◌, ◌<◌, ◌↔◌, Bool, true, false, true≢false, List, [], ◌∷◌, length, Ok, Err, refl, sym, ◌∙◌, subst, arith}
use Rattle.std.specs.Prelude.{OnOk}
use Rattle.std.specs.declared.result.Result.{Result}

-- where a list isn't empty it has an element
pub some_wait : {T : Type 0} (empty : Bool) (xs ys : List T) → ((empty ≡ true) ↔ (xs ≡ [])) → empty ≡ false → xs ≡ ys → 0 < length ys
some_wait empty [] ys told is same = absurd (true≢false (sym (told.1 refl) ∙ is))
some_wait empty (x ∷ xs) ys told is same = subst (λ zs. 0 < length zs) same (omega arith)

-- what holds, holds after an Ok
pub on_ok : {T E : Type 0} (r : Result T E) (P : Type 0) → P → OnOk r P
on_ok (Ok value) P holds = holds
on_ok (Err error) P holds = tt
