-- Points where clauses around begin are supplied throughout an item, where they are wherever as much is known as before it.
use Rattle.std.proofs.Common.{◌≤◌, ◌+◌, arith, ℕ, Option, List, [], ◌∷◌, ◌++◌, ap, subst}
use Rattle.std.specs.Prelude.{is_some}
use Rattle.py_tree.specs.PlainTypes.{PlainTy}
use Rattle.py_tree.specs.PlainExpressions.{PlainExpr}
use Rattle.py_tree.specs.FlowEnvironment.{PlainLocal, narrowed}
use Rattle.py_tree.specs.Flow.{Context, with_local}
use Rattle.call_graph.specs.SuspendingCode.{Leaving}
use Rattle.block_code.specs.PlainVars.{PlainVar}
use Rattle.block_code.specs.PlainBlocks.{IMark, ISet, IPut, IGive, IFail}
use Rattle.block_code.specs.GraphFits.{HasType, AtEachItem}
use Rattle.flat_tree.specs.PlainFlat.{Point}
use Rattle.flat_types.specs.FlatTypes.{Supplies, Guarded}
use Rattle.flat_types.proofs.NoneAlike.{known_alike}
use Rattle.hoisting.specs.Stages.{temporary}
use Rattle.typed_hoisting.specs.KnownLocals.{seen, Alike, Stands}
use Rattle.typed_hoisting.specs.TypedHoisting.{Around, SuppliesAll, GuardsHold}
use Rattle.typed_hoisting.proofs.LocalLaws.{kept_then_under}
use Rattle.typed_hoisting.proofs.EnvironmentLaws.{as_least, forgotten_least, more_alike}
use Rattle.typed_hoisting.proofs.PointLaws.{Found}

-- Wherever as much is known

module _ (m : Around) where
  -- where no less is known, of no fewer names
  pub guards_on : (n k : ℕ) (here there : List PlainLocal) → n ≤ k → Alike n here there → GuardsHold m n here → GuardsHold m k there
  guards_on n k here there up alike guard env least =
      guard env (record { are = least.are; under = λ x below. kept_then_under (seen here x) (seen there x) (seen env x) (alike.alike x below) (least.under x (omega (arith, below, up))) })

  pub guards_narrowed : (n k : ℕ) (names : List ℕ) (locals : List PlainLocal) → n ≤ k → GuardsHold m n locals → GuardsHold m k (narrowed names locals)
  guards_narrowed n k names locals up guard env least = guard env (forgotten_least m.variables n k names locals env up least)

  pub guards_more : (n : ℕ) (locals : List PlainLocal) (ty : PlainTy) → GuardsHold m n locals → GuardsHold m (n + 1) (locals ++ temporary n ty ∷ [])
  guards_more n locals ty guard = guards_on n (n + 1) locals (locals ++ temporary n ty ∷ []) (omega arith) (more_alike n locals ty) guard

  pub guards_at : (n : ℕ) (locals env : List PlainLocal) → GuardsHold m n locals → Stands m.variables n locals env → SuppliesAll m.caught env
  guards_at n locals env guard stands = guard env (as_least m.variables n locals env stands)

-- Items

module _ (c : Context) where
  pub none_guarded : (ps : List Point) (env : List PlainLocal) → SuppliesAll ps env → Guarded c ps [] env
  unfolding AtEachItem
  none_guarded [] env h = tt
  none_guarded (p ∷ ps) env h = (h.0, none_guarded ps env h.1)

  pub mark_guarded : (ps : List Point) (env : List PlainLocal) → SuppliesAll ps env → Guarded c ps (IMark ∷ []) env
  unfolding AtEachItem
  mark_guarded [] env h = tt
  mark_guarded (p ∷ ps) env h = ((h.0, h.0), mark_guarded ps env h.1)

  pub put_guarded : (ps : List Point) (f : ℕ) (e : PlainExpr) (env : List PlainLocal) → SuppliesAll ps env → Guarded c ps (IPut f e ∷ []) env
  unfolding AtEachItem
  put_guarded [] f e env h = tt
  put_guarded (p ∷ ps) f e env h = ((h.0, h.0), put_guarded ps f e env h.1)

  pub give_guarded : (ps : List Point) (e : PlainExpr) (env : List PlainLocal) → SuppliesAll ps env → Guarded c ps (IGive e ∷ []) env
  unfolding AtEachItem
  give_guarded [] e env h = tt
  give_guarded (p ∷ ps) e env h = (h.0, give_guarded ps e env h.1)

  pub fail_guarded : (ps : List Point) (kind : ℕ) (e : Option PlainExpr) (env : List PlainLocal) → SuppliesAll ps env → Guarded c ps (IFail kind e ∷ []) env
  unfolding AtEachItem
  fail_guarded [] kind e env h = tt
  fail_guarded (p ∷ ps) kind e env h = (h.0, fail_guarded ps kind e env h.1)

  module _ (leaves : Leaving) (variables : List PlainVar) (x : ℕ) (e : PlainExpr) (s t : PlainTy) (env : List PlainLocal) where
    -- a variable takes a value, before which they are supplied, and behind which
    pub set_guarded : HasType c leaves env e s → Found variables env x t → (ps : List Point) → SuppliesAll ps env → SuppliesAll ps (with_local x s s env) → Guarded c ps (ISet x e ∷ []) env
    unfolding AtEachItem
    set_guarded has found [] h k = tt
    set_guarded has found (p ∷ ps) h k =
        ((h.0, λ wanted ty typed. subst (λ ls. Supplies p ls) (known_alike c env x e has.wanted wanted s ty (ap is_some found.1) has.typed typed) k.0), set_guarded has found ps h.1 k.1)
