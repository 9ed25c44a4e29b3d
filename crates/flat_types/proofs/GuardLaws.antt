-- A point that is supplied throughout an item, and throughout the items behind it, is supplied throughout all of them.
use Rattle.std.proofs.Common.{◌≡◌, Bool, true, false, cond, Ok, List, [], ◌∷◌, sym, ap, ◌∙◌, subst}
use Rattle.std.specs.Prelude.{is_some}
use Rattle.std.specs.declared.result.Result.{Result}
use Rattle.py_tree.specs.declared.rule.RuleFault.{RuleFault}
use Rattle.py_tree.specs.PlainStatements.{PlainStmt, PlainStmts, PNoStmt, PStmt}
use Rattle.py_tree.specs.FlowEnvironment.{PlainLocal}
use Rattle.py_tree.specs.ExpressionTypes.{with_found}
use Rattle.py_tree.specs.Reachability.{goes_on, all_go_on, assigns}
use Rattle.py_tree.specs.Flow.{Context, Way, begun, flow, flow_all}
use Rattle.call_graph.specs.SuspendingCode.{Leaving}
use Rattle.program_meaning.proofs.TypedParts.{done, same_ok, both_true}
use Rattle.program_meaning.proofs.FlowGrows.{all_parts}
use Rattle.block_code.specs.PlainBlocks.{PlainItem, IMark, ISet, IPut, IGive, IFail, ICode}
use Rattle.block_code.specs.GraphFits.{Asked, CodeFits, ItemFits, AtEachPoint, AtEachItem}
use Rattle.flat_tree.specs.PlainFlat.{Point}
use Rattle.flat_types.specs.FlatTypes.{Supplies, Guarded}
use Rattle.flat_types.proofs.FlowStays.{Stays, stmt_stays}
use Rattle.flat_types.proofs.CodeJoins.{left_unsaid}
use Rattle.flat_types.proofs.NoneAlike.{known_alike}

module _ (c : Context) (leaves : Leaving) where
  -- What is asked at each point

  module _ (P : Asked) where
    pub at_first : (is : List PlainItem) (locals : List PlainLocal) → AtEachItem P c is locals → P locals
    unfolding AtEachItem AtEachPoint
    at_first [] locals h = h
    at_first (IMark ∷ is) locals h = h.0
    at_first (ISet x e ∷ is) locals h = h.0
    at_first (IPut x e ∷ is) locals h = h.0
    at_first (IGive e ∷ is) locals h = h
    at_first (IFail kind e ∷ is) locals h = h
    at_first (ICode PNoStmt ∷ is) locals h = h.0
    at_first (ICode (PStmt x xs) ∷ is) locals h = h.0.0

    -- the item fits where this is asked behind it, too
    in_front : (i : PlainItem) (is : List PlainItem) (locals : List PlainLocal) → AtEachItem P c (i ∷ []) locals → ItemFits c leaves i (AtEachItem P c is) locals → AtEachItem P c (i ∷ is) locals
    unfolding AtEachItem
    in_front IMark is locals h f = (h.0, f)
    in_front (ISet x e) is locals h f =
        (h.0, λ wanted ty typed. subst (AtEachItem P c is) (known_alike c locals x e f.1.wanted wanted f.0 ty (ap is_some f.2.is) f.1.typed typed) f.2.goes)
    in_front (IPut x e) is locals h f = (h.0, f.1)
    in_front (IGive e) is locals h f = h
    in_front (IFail kind e) is locals h f = h
    in_front (ICode xs) is locals h f = (h.0, λ on end e. subst (λ (w : Way). AtEachItem P c is w.locals) (same_ok f.way end (sym f.flows ∙ e)) (f.goes on))

    -- a statement of the source that joins those behind it
    joins_code : c.in_loop ≡ false → (x : PlainStmt) (xs : PlainStmts) (is : List PlainItem) (goal : Asked) (locals : List PlainLocal) → goes_on x ≡ true → (f : CodeFits c leaves locals (PStmt x PNoStmt) goal) → AtEachItem P c (ICode (PStmt x PNoStmt) ∷ []) locals
        → AtEachItem P c (ICode xs ∷ is) f.way.locals → AtEachItem P c (ICode (PStmt x xs) ∷ is) locals
    unfolding AtEachItem AtEachPoint flow all_go_on
    joins_code outside x xs is goal locals on f h k =
        let a : (next : Way) × (flow c (begun locals) x ≡ Ok next) × (cond (goes_on x) (done next) (done next) ≡ Ok f.way) = all_parts c (begun locals) f.way x PNoStmt f.flows in
        let step : flow c (begun locals) x ≡ Ok f.way = a.1 ∙ ap Ok (either_way (goes_on x) a.0 a.2) in
        let stays : Stays c (assigns x) (begun locals) f.way = stmt_stays x c (begun locals) f.way step in
        let whole : begun f.way.locals ≡ f.way = left_unsaid f.way (stays.breaks outside) in (
          (h.0.0, h.0.1, λ going next e. subst (λ w. AtEachPoint P c w xs) (whole ∙ same_ok f.way next (sym step ∙ e)) k.0),
          λ going end e. k.1 (both_true (goes_on x) (all_go_on xs) going).1 end (ap (λ w. flow_all c w xs) whole ∙ from_there step end e),
        )
      where
        either_way : (b : Bool) (next : Way) → cond b (done next) (done next) ≡ Ok f.way → next ≡ f.way
        either_way true next e = same_ok next f.way e
        either_way false next e = same_ok next f.way e

        from_there : flow c (begun locals) x ≡ Ok f.way → (end : Way) → flow_all c (begun locals) (PStmt x xs) ≡ Ok end → flow_all c f.way xs ≡ Ok end
        from_there step end e = sym (ap (λ (r : Result Way RuleFault). with_found r (λ next. cond (goes_on x) (flow_all c next xs) (Ok next))) step ∙ ap (λ b. cond b (flow_all c f.way xs) (Ok f.way)) on) ∙ e

  -- Each of the points of clauses

  pub guarded_front : (ps : List Point) (i : PlainItem) (is : List PlainItem) (locals : List PlainLocal) → Guarded c ps (i ∷ []) locals → ((next : Asked) → ((after : List PlainLocal) → Guarded c ps is after → next after) → ItemFits c leaves i next locals) → Guarded c ps (i ∷ is) locals
  guarded_front [] i is locals h f = tt
  guarded_front (p ∷ ps) i is locals h f =
      (in_front (Supplies p) i is locals h.0 (f (AtEachItem (Supplies p) c is) (λ after g. g.0)), guarded_front ps i is locals h.1 (λ next on. f next (λ after g. on after g.1)))

  pub guarded_mark : (ps : List Point) (is : List PlainItem) (locals : List PlainLocal) → Guarded c ps [] locals → Guarded c ps is locals → Guarded c ps (IMark ∷ is) locals
  unfolding AtEachItem
  guarded_mark [] is locals h k = tt
  guarded_mark (p ∷ ps) is locals h k = ((h.0, k.0), guarded_mark ps is locals h.1 k.1)

  pub guarded_code : c.in_loop ≡ false → (ps : List Point) (x : PlainStmt) (xs : PlainStmts) (is : List PlainItem) (goal : Asked) (locals : List PlainLocal) → goes_on x ≡ true → (f : CodeFits c leaves locals (PStmt x PNoStmt) goal) → Guarded c ps (ICode (PStmt x PNoStmt) ∷ []) locals
      → Guarded c ps (ICode xs ∷ is) f.way.locals → Guarded c ps (ICode (PStmt x xs) ∷ is) locals
  guarded_code outside [] x xs is goal locals on f h k = tt
  guarded_code outside (p ∷ ps) x xs is goal locals on f h k = (joins_code (Supplies p) outside x xs is goal locals on f h.0 k.0, guarded_code outside ps x xs is goal locals on f h.1 k.1)
