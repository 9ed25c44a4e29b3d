-- What is found where there is one entity alone.
use Rattle.std.proofs.Common.{◌≡◌, ◌∙◌, Bool, true, false, cond, List, Some, None, refl, sym, ap, subst}
use Rattle.std.specs.FinMap as map
use Rattle.std.specs.Ordering.{eq_by_cmp}
use Rattle.sf_value.specs.Keys.{key_cmp, key_of}
use Rattle.sf_value.specs.declared.value.Ref.{Ref}
use Rattle.sf_value.specs.declared.value.Value.{Value}
use Rattle.sf_value.proofs.Maps.{key_total, tied_key}
use Rattle.program_meaning.specs.Serial.{no_state}
use Rattle.program_meaning.proofs.HereLaws.{alone_record}

pub own_found : (me at : Ref) (fields : List Value) → me ≡ at → Some fields ≡ map.get (map.insert no_state (key_of me) fields) (key_of at)
own_found me at fields same = sym (subst (λ (r : Ref). map.get (map.insert no_state (key_of me) fields) (key_of r) ≡ Some fields) same (alone_record (key_of me) fields))

one_entity : (me at : Ref) → key_of at ≡ key_of me → me ≡ at
one_entity me at same = sym (λ i. record { class = (same i).0; key = (same i).1 })

pub own_missed : (me at : Ref) (fields : List Value) → (me ≡ at → ⊥) → None ≡ map.get (map.insert no_state (key_of me) fields) (key_of at)
own_missed me at fields other = sym (map.get-insert key_total no_state (key_of me) fields (key_of at)
    ∙ ap (λ b. cond b (Some fields) (map.get no_state (key_of at))) (apart (eq_by_cmp key_cmp (key_of at) (key_of me)) refl)
    ∙ map.get-empty key_cmp (key_of at)) where
      apart : (b : Bool) → eq_by_cmp key_cmp (key_of at) (key_of me) ≡ b → b ≡ false
      apart true tie = absurd (other (one_entity me at (tied_key (key_of at) (key_of me) tie)))
      apart false tie = refl
