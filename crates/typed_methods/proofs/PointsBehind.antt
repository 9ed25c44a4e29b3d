-- The point behind a statement, where a way leads there.
use Rattle.std.proofs.Common.{◌≡◌, Bool, true, false, Some, None, Ok, List, [], ◌∷◌, refl, sym, ap, ◌∙◌, subst}
use Rattle.std.specs.Prelude.{if◌then◌else◌, IfSome}
use Rattle.py_tree.specs.PlainStatements.{PlainStmt}
use Rattle.py_tree.specs.FlowEnvironment.{PlainLocal}
use Rattle.py_tree.specs.Flow.{Context, known_at, settled, Way, flow}
use Rattle.program_meaning.proofs.LocalShapes.{Shape, shapes}
use Rattle.block_code.specs.PlainVars.{PlainVar}
use Rattle.block_code.specs.GraphFits.{Asked, at_start}
use Rattle.flat_types.specs.FlatTypes.{is_point, Supplies, Ends, BehindEnd}
use Rattle.hoisting.specs.Stages.{surely, locals_of, locals_behind}
use Rattle.typed_methods.proofs.KeptParts.{in_loop_if}
use Rattle.typed_methods.proofs.BegunAnew.{stmt_anew}

-- Locals of the same names and types, as they are known elsewhere

abbrev pub first_of_list : Shape → List Shape → Shape
first_of_list s [] = s
first_of_list s (t ∷ ts) = t

abbrev pub rest_of_list : List Shape → List Shape
rest_of_list [] = []
rest_of_list (t ∷ ts) = ts

abbrev pub local_as : Shape → Bool → Bool → PlainLocal
local_as s a n = record { name = s.0; ty = s.1; assigned = a; not_none = n }

pub settled_same : (last ls : List PlainLocal) → shapes last ≡ shapes ls → settled last (known_at ls) ≡ ls
unfolding settled known_at
settled_same [] [] e = refl
settled_same [] (m ∷ ls) e = absurd cc
settled_same (l ∷ last) [] e = absurd cc
settled_same (l ∷ last) (m ∷ ls) e =
    ap (λ s. local_as s m.assigned m.not_none ∷ settled last (known_at ls)) (ap (first_of_list (l.name, l.ty)) e) ∙ ap (λ ks. m ∷ ks) (settled_same last ls (ap rest_of_list e))

-- Behind a statement

pub behind_is : (c : Context) (looping : Bool) (w end : Way) (x : PlainStmt) → flow (in_loop_if c looping) w x ≡ Ok end → locals_behind c x w.locals ≡ end.locals
behind_is c looping w end x h = ap (locals_of w.locals) (stmt_anew c x looping true w end None (λ j t. refl) h).1

module _ (go : Bool) (ls : List PlainLocal) where
  pub ends_behind : (env : List PlainLocal) → go ≡ true → Supplies (surely ls) env → Ends (if go then Some (surely ls) else None) env
  ends_behind env e h = subst (λ b. Ends (if b then Some (surely ls) else None) env) (sym e) h

  pub behind_passes : (variables : List PlainVar) → is_point variables (surely ls) ≡ true → IfSome (if go then Some (surely ls) else None) (λ p. is_point variables p ≡ true)
  behind_passes variables h = by go
    where
      by : (b : Bool) → IfSome (if b then Some (surely ls) else None) (λ p. is_point variables p ≡ true)
      by true = h
      by false = tt

  pub behind_end : (variables : List PlainVar) (goal : Asked) → (go ≡ true → goal (at_start variables (surely ls))) → BehindEnd variables (if go then Some (surely ls) else None) goal
  behind_end variables goal h = by go refl
    where
      by : (b : Bool) → go ≡ b → BehindEnd variables (if b then Some (surely ls) else None) goal
      by true e = h e
      by false e = tt
