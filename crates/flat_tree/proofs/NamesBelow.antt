-- Locals that have the same value under each name below a limit.
use Rattle.std.proofs.Common.{◌≡◌, ◌<◌, ◌≤◌, ℕ, arith, cond, List, refl, sym, ap, ◌∙◌}
use Rattle.std.specs.Prelude.{◌==◌}
use Rattle.std.proofs.lemmas.Bool.{eq-eqb, ne_eqb}
use Rattle.sf_value.specs.declared.value.Value.{Value}
use Rattle.program_meaning.specs.declared.vars.Var.{Var}
use Rattle.program_meaning.specs.World.{local_value, assigned}
use Rattle.program_meaning.proofs.SameLocals.{assigned_value}

-- Assignments

pub assigned_here : (vars : List Var) (x : ℕ) (v : Value) → local_value (assigned vars x v) x ≡ v
assigned_here vars x v = assigned_value vars x v x ∙ ap (λ b. cond b v (local_value vars x)) (eq-eqb x x refl)

pub assigned_elsewhere : (vars : List Var) (x : ℕ) (v : Value) (y : ℕ) → (x ≡ y → ⊥) → local_value (assigned vars x v) y ≡ local_value vars y
assigned_elsewhere vars x v y apart = assigned_value vars x v y ∙ ap (λ b. cond b v (local_value vars y)) (ne_eqb x y apart)

-- Agreement

pub record AgreeBelow (limit : ℕ) (us vs : List Var) : Type 0 where
  pub each : (x : ℕ) → x < limit → local_value us x ≡ local_value vs x

pub agree_with_itself : (limit : ℕ) (us : List Var) → AgreeBelow limit us us
agree_with_itself limit us = record { each = λ x below. refl }

pub agree_back : {limit : ℕ} {us vs : List Var} → AgreeBelow limit us vs → AgreeBelow limit vs us
agree_back a = record { each = λ x below. sym (a.each x below) }

pub agree_on : {limit : ℕ} {us vs ws : List Var} → AgreeBelow limit us vs → AgreeBelow limit vs ws → AgreeBelow limit us ws
agree_on a b = record { each = λ x below. a.each x below ∙ b.each x below }

pub agree_within : {limit most : ℕ} {us vs : List Var} → limit ≤ most → AgreeBelow most us vs → AgreeBelow limit us vs
agree_within {limit} {most} le a = record { each = λ x below. a.each x (further x below) }
  where
    further : (x : ℕ) → x < limit → x < most
    further x below = omega (arith, le, below)

-- a name from the limit on is assigned
pub agree_past : (limit x : ℕ) (us : List Var) (v : Value) → limit ≤ x → AgreeBelow limit us (assigned us x v)
agree_past limit x us v le = record { each = λ y below. sym (assigned_elsewhere us x v y (apart y below)) }
  where
    apart : (y : ℕ) → y < limit → x ≡ y → ⊥
    apart y below same = omega (arith, le, below, same)

-- the same name is assigned in both
pub agree_assigned : {limit : ℕ} {us vs : List Var} (x : ℕ) (v : Value) → AgreeBelow limit us vs → AgreeBelow limit (assigned us x v) (assigned vs x v)
agree_assigned {limit} {us} {vs} x v a = record { each = λ y below. assigned_value us x v y ∙ ap (cond (x == y) v) (a.each y below) ∙ sym (assigned_value vs x v y) }
