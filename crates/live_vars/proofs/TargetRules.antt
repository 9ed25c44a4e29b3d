-- How `op=` reads its target.
use Rattle.std.proofs.Common.{◌≡◌, ℕ, Bool, true, false, not, cond, refl, sym, ap, ◌∙◌}
use Rattle.std.specs.Prelude.{◌==◌}
use Rattle.std.proofs.lemmas.Bool.{eqb-true, eq-eqb}
use Rattle.py_tree.specs.declared.names.Place.{Place}
use Rattle.py_tree.specs.declared.names.PlacedName.{PlacedName}
use Rattle.py_tree.specs.declared.stmt.Target.{Target}
use Rattle.py_tree.specs.declared.stmt.Target.TheVariants.{Local, Field}
use Rattle.py_tree.specs.PlainExpressions.{PVar, PSelf}
use Rattle.py_tree.specs.Flow.{target_read}
use Rattle.live_laws.specs.Reads.{reads}

module _ (v : ℕ) (target : Target) (at : Place) where
  read_as : (x : PlacedName) → target ≡ Local x → (b : Bool) → (x.name.0 == 0) ≡ b → reads (target_read at target) v ≡ cond b false (x.name.0 == v)
  unfolding reads
  read_as x is true e = ap (λ t. reads (target_read at t) v) is ∙ ap (λ b. reads (cond b (PSelf x.place) (PVar x.place x.name.0)) v) e
  read_as x is false e = ap (λ t. reads (target_read at t) v) is ∙ ap (λ b. reads (cond b (PSelf x.place) (PVar x.place x.name.0)) v) e

  pub field_read : (f : PlacedName) → target ≡ Field f → false ≡ reads (target_read at target) v
  unfolding reads
  field_read f is = sym (ap (λ t. reads (target_read at t) v) is)

  pub self_read : (x : PlacedName) → target ≡ Local x → x.name.0 ≡ 0 → not (x.name.0 == 0) ≡ reads (target_read at target) v
  self_read x is e = ap not (eq-eqb x.name.0 0 e) ∙ sym (read_as x is true (eq-eqb x.name.0 0 e))

  pub local_read : (x : PlacedName) → target ≡ Local x → (x.name.0 ≡ 0 → ⊥) → (x.name.0 == v) ≡ reads (target_read at target) v
  local_read x is other = sym (read_as x is false (by (x.name.0 == 0) refl))
    where
      by : (b : Bool) → (x.name.0 == 0) ≡ b → (x.name.0 == 0) ≡ false
      by true e = absurd (other (eqb-true x.name.0 0 e))
      by false e = e
