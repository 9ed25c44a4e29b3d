-- Locals as the rules on statements find them in text order, beside locals that all have their types beforehand, where code is hoisted.
use Rattle.std.proofs.Common.{◌≡◌, ℕ, Bool, true, Some, None, Ok, List, ◌++◌, append_assoc, refl, sym, ap, ◌∙◌, subst}
use Rattle.std.specs.Prelude.{is_some}
use Rattle.std.specs.declared.result.Result.{Result}
use Rattle.py_tree.specs.declared.rule.RuleFault.{RuleFault}
use Rattle.py_tree.specs.Bounded.{StmtNames}
use Rattle.py_tree.specs.PlainTypes.{PlainTy}
use Rattle.py_tree.specs.PlainStatements.{PlainStmt}
use Rattle.py_tree.specs.FlowEnvironment.{PlainLocal, narrowed}
use Rattle.py_tree.specs.Flow.{Context, known_at, settled, with_local, at_head, Way, begun, flow}
use Rattle.program_meaning.proofs.LocalShapes.{Shape, shapes, type_in, typed_behind, Grows, shapes_narrowed, shapes_at_head}
use Rattle.flat_types.proofs.FlowStays.{shapes_with}
use Rattle.typed_hoisting.specs.KnownLocals.{seen, Kept}
use Rattle.typed_hoisting.proofs.LocalLaws.{kept_narrowed}
use Rattle.typed_methods.proofs.KnownWays.{known_before}
use Rattle.typed_methods.proofs.StoredKnown.{AllKept, TypedThere, type_or, stored_type, stored_there, head_kept}
use Rattle.typed_methods.proofs.KeptParts.{in_loop_if}
use Rattle.typed_methods.proofs.FlowKept.{GoesSo, stmt_kept}
use Rattle.typed_methods.proofs.BegunAnew.{way_at, LeadsTo, stmt_anew}

-- by all names of a method with their types
module _ (all : List Shape) where
  -- these locals are the first of them
  pub record Early (locals : List PlainLocal) : Type 0 where
    pub rest : List Shape
    pub is : all ≡ shapes locals ++ rest

  pub early_before : (a b : List PlainLocal) → Grows a b → Early b → Early a
  early_before a b g e = record { rest = g.rest ++ e.rest; is = e.is ∙ ap (λ ss. ss ++ e.rest) g.is ∙ append_assoc (shapes a) g.rest e.rest }

  pub early_same : (a b : List PlainLocal) → shapes a ≡ shapes b → Early b → Early a
  early_same a b same e = record { rest = e.rest; is = e.is ∙ ap (λ ss. ss ++ e.rest) (sym same) }

  -- each name has its type there, and what is known here is known so there
  pub record Ahead (here there : List PlainLocal) : Type 0 where
    pub typed : (x : ℕ) (t : PlainTy) → type_in all x ≡ Some t → type_in (shapes there) x ≡ Some t
    pub kept : AllKept here there

  -- a type that is found so far stays
  early_type : (locals : List PlainLocal) (x : ℕ) (t : PlainTy) → Early locals → type_in (shapes locals) x ≡ Some t → type_in all x ≡ Some t
  early_type locals x t e h = ap (λ ss. type_in ss x) e.is ∙ typed_behind (shapes locals) e.rest x t h

  typed_ahead : (here there next : List PlainLocal) → Ahead here there → Early next → TypedThere next there
  typed_ahead here there next a e x t h = a.typed x t (early_type next x t e h)

  -- where names and types there stay
  same_ahead : (here there here2 there2 : List PlainLocal) → Ahead here there → shapes there2 ≡ shapes there → AllKept here2 there2 → Ahead here2 there2
  same_ahead here there here2 there2 a e kept = record { typed = λ x t h. ap (λ ss. type_in ss x) e ∙ a.typed x t h; kept = kept }

  pub ahead_narrowed : (names : List ℕ) (here there : List PlainLocal) → Ahead here there → Ahead (narrowed names here) (narrowed names there)
  ahead_narrowed names here there a = same_ahead here there (narrowed names here) (narrowed names there) a (shapes_narrowed names there) (λ x. kept_narrowed names here there x (a.kept x))

  pub ahead_at_head : (names : List ℕ) (here there : List PlainLocal) → Ahead here there → Ahead (at_head names here) (at_head names there)
  ahead_at_head names here there a = same_ahead here there (at_head names here) (at_head names there) a (shapes_at_head names there) (head_kept names here there a.kept)

  -- of locals that are found later no more is known than before
  pub ahead_later : (here later there : List PlainLocal) → Grows here later → Ahead here there → Ahead (settled later (known_at here)) there
  ahead_later here later there g a = record { typed = a.typed; kept = λ x. subst (λ o. Kept o (seen there x)) (sym (known_before here later x g)) (a.kept x) }

  -- a value is assigned
  pub ahead_stored : (n : ℕ) (first second ty : PlainTy) (here there : List PlainLocal) → Early (with_local n first ty here) → Ahead here there → Ahead (with_local n first ty here) (with_local n second ty there)
  ahead_stored n first second ty here there e a =
      let is : type_in (shapes there) n ≡ Some (type_or here n first) = a.typed n (type_or here n first) (early_type (with_local n first ty here) n (type_or here n first) e (stored_type n first ty here)) in
      same_ahead here there (with_local n first ty here) (with_local n second ty there) a (shapes_with n second ty there (ap is_some is)) (stored_there n first second ty here there is a.kept)

  -- A statement leads so far there too, whatever loop is around

  pub record GoesThere (next there : List PlainLocal) (r : Result Way RuleFault) : Type 0 where
    pub end : Way
    pub is : r ≡ Ok end
    pub ahead : Ahead next end.locals

  pub goes_there : (c : Context) (limit : ℕ) (x : PlainStmt) → StmtNames limit x → (b : Bool) (w next : Way) (there : List PlainLocal) → flow (in_loop_if c b) w x ≡ Ok next → Early next.locals → Ahead w.locals there
      → GoesThere next.locals there (flow (in_loop_if c true) (begun there) x)
  goes_there c limit x named b w next there h early a =
      let anew : LeadsTo next (flow (in_loop_if c true) (begun w.locals) x) = stmt_anew c x b true w next None (λ j loop. refl) h in
      let last : Way = way_at next.locals anew.0 in
      let g : GoesSo last (begun there) (flow (in_loop_if c true) (begun there) x) =
      stmt_kept c limit x true true (begun w.locals) (begun there) last named (λ j loop. loop) (record { kept = a.kept; breaks = tt }) (typed_ahead w.locals there next.locals a early) anew.1 in
      record { end = g.end; is = g.is; ahead = same_ahead w.locals there next.locals g.end.locals a g.same g.ahead.kept }
