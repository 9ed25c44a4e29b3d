-- The items of a block fit again, and so does what is asked at each of its points, where the same is known of each variable that they need.
use Rattle.std.proofs.Common.{◌≡◌, ℕ, true, false, Option, Some, None, List, [], ◌∷◌, refl, sym, ap, ◌∙◌}
use Rattle.std.specs.Prelude.{◌&&◌, ◌==◌, option_map}
use Rattle.std.specs.List.{list_all}
use Rattle.std.proofs.Math.Path.{fun_ext}
use Rattle.std.proofs.lemmas.Option.{same_Some, none-some}
use Rattle.py_tree.specs.PlainTypes.{PlainTy, TStr, TNil}
use Rattle.py_tree.specs.PlainExpressions.{PlainExpr, PlainExprs}
use Rattle.py_tree.specs.PlainStatements.{PlainStmts}
use Rattle.py_tree.specs.ClassRules.{PlainSigParam}
use Rattle.py_tree.specs.FlowEnvironment.{PlainLocal, local_of}
use Rattle.py_tree.specs.ExpressionTypes.{assignable}
use Rattle.py_tree.specs.Reachability.{all_go_on, assigned_in}
use Rattle.py_tree.specs.Flow.{Context, begun, with_local, flow_all, result_at}
use Rattle.call_graph.specs.SuspendingCode.{Leaving}
use Rattle.program_meaning.proofs.LocalShapes.{type_in, type_found}
use Rattle.block_code.specs.PlainBlocks.{PlainItem, IMark, ISet, IPut, IGive, IFail, ICode}
use Rattle.block_code.specs.GraphFits.{Asked, HasType, Takes, ValueSuits, are_variables, CodeFits, MessageFits, ItemsFit, ArgsFit, AtEachItem}
use Rattle.live_laws.specs.Reads.{reads, any_read, reads_if_there}
use Rattle.live_laws.specs.Live.{item_reads, item_spares, items_read, items_spare}
use Rattle.live_laws.proofs.AlikeLocals.{Names, Alike, none_met, fewer, same_shapes, as_typed, If, alike_with}
use Rattle.live_laws.proofs.AlikeTypes.{AllIn, or_left, or_right, arguments_same}
use Rattle.live_laws.proofs.Carried.{Found, goes}
use Rattle.live_laws.proofs.AlikeParts.{expr_same}
use Rattle.live_laws.proofs.AlikeWays.{Needed, by_reading, by_behind, by_break, by_always, OfAll, and_true, not_true, WayAlike, all_alike}
use Rattle.live_laws.proofs.AlikePoints.{Turns, points_alike}

-- items leave no loop
abbrev pub NoNames : Names
NoNames x = ⊥

-- of these items, where N is needed behind them
abbrev pub OfItems : Names → Names → List PlainItem → Names
OfItems C N is x = Needed (N x) ⊥ (C x) (items_read is x) (items_spare is x) false

module _ (C N : Names) (i : PlainItem) (is : List PlainItem) where
  pub of_rest : (x : ℕ) → item_spares i x ≡ true → OfItems C N is x → OfItems C N (i ∷ is) x
  unfolding items_read items_spare
  of_rest x e (by_reading r) = by_reading (or_right (item_reads i x) (item_spares i x && items_read is x) (and_true (item_spares i x) (items_read is x) e r))
  of_rest x e (by_behind f n) = by_behind (and_true (item_spares i x) (items_spare is x) e f) n
  of_rest x e (by_break f b) = absurd b
  of_rest x e (by_always c) = by_always c

  pub of_it : AllIn (item_reads i) (OfItems C N (i ∷ is))
  unfolding items_read
  of_it x r = by_reading (or_left (item_reads i x) (item_spares i x && items_read is x) r)

of_code : (C N : Names) (code : PlainStmts) (is : List PlainItem) (x : ℕ) → OfAll C (OfItems C N is) NoNames code x → OfItems C N (ICode code ∷ is) x
of_code C N code is x (by_reading r) = of_it C N (ICode code) is x r
of_code C N code is x (by_behind e n) = of_rest C N (ICode code) is x e n
of_code C N code is x (by_break e b) = absurd b
of_code C N code is x (by_always c) = by_always c

-- a local of this type
record TypedAs (o : Option PlainLocal) (ty : PlainTy) : Type 0 where
  local : PlainLocal
  is : o ≡ Some local
  typed : local.ty ≡ ty

typed_as : (o : Option PlainLocal) (ty : PlainTy) → option_map (λ (l : PlainLocal). l.ty) o ≡ Some ty → TypedAs o ty
typed_as None ty e = absurd (none-some ty e)
typed_as (Some l) ty e = record { local = l; is = refl; typed = same_Some l.ty ty e }

module _ (c : Context) (leaves : Leaving) where
  pub has_alike : {P : Names} {here there : List PlainLocal} → Alike P here there → (e : PlainExpr) (ty : PlainTy) → AllIn (reads e) P → HasType c leaves here e ty → HasType c leaves there e ty
  has_alike a e ty all h = record { wanted = h.wanted; typed = sym (expr_same c a h.wanted e all) ∙ h.typed; stays = h.stays }

  pub takes_alike : {P : Names} {here there : List PlainLocal} (R : Names) (G H : Asked) → Alike P here there → (x : ℕ) (ty : PlainTy) → ((y : ℕ) → R y → (x == y) ≡ false → P y) → ((a b : List PlainLocal) → Alike R a b → G a → H b) → Takes here x ty G → Takes there x ty H
  takes_alike {here = here} {there = there} R G H a x ty others goal t =
      let l : TypedAs (local_of there x) t.local.ty = typed_as (local_of there x) t.local.ty (type_found there x ∙ ap (λ ss. type_in ss x) (same_shapes a) ∙ sym (type_found here x) ∙ ap (option_map (λ (l : PlainLocal). l.ty)) t.is) in
      record { local = l.local; is = l.is; suits = ap (assignable ty) l.typed ∙ t.suits; goes = goal (with_local x ty ty here) (with_local x ty ty there) (alike_with x ty others ty a) t.goes }

  pub args_alike : {P : Names} {here there : List PlainLocal} → Alike P here there → (args : PlainExprs) (params : List PlainSigParam) → AllIn (any_read args) P → ArgsFit c leaves here args params → ArgsFit c leaves there args params
  args_alike a args params all f = record { count = f.count; typed = sym (arguments_same c.tables c.class c.method a args all params TNil) ∙ f.typed; stay = f.stay }

  suits_alike : {P : Names} {here there : List PlainLocal} → Alike P here there → (e : PlainExpr) (ty : PlainTy) → AllIn (reads e) P → ValueSuits c leaves here e ty → ValueSuits c leaves there e ty
  suits_alike a e ty all s = record { ty = s.ty; has = has_alike a e s.ty all s.has; suits = s.suits }

  message_alike : {P : Names} {here there : List PlainLocal} → Alike P here there → (e : Option PlainExpr) → AllIn (reads_if_there e) P → MessageFits c leaves here e → MessageFits c leaves there e
  message_alike a None all m = m
  message_alike a (Some e) all m = has_alike a e TStr all m

  variables_alike : {P : Names} {here there : List PlainLocal} → Alike P here there → (names : List ℕ) → are_variables here names ≡ true → are_variables there names ≡ true
  variables_alike a names h = ap (λ f. list_all f names) (fun_ext (λ x. as_typed x a)) ∙ h

  module _ (C N : Names) (G H : Asked) (goal : (here there : List PlainLocal) → Alike (OfItems C N []) here there → G here → H there) where
    code_alike : (code : PlainStmts) (is : List PlainItem) {here there : List PlainLocal} → Alike (OfItems C N (ICode code ∷ is)) here there
        → ((a b : List PlainLocal) → Alike (OfItems C N is) a b → ItemsFit c leaves is G a → ItemsFit c leaves is H b) → CodeFits c leaves here code (ItemsFit c leaves is G) → CodeFits c leaves there code (ItemsFit c leaves is H)
    code_alike code is {here} {there} a rest f =
        let second : Found (WayAlike (If (all_go_on code) (OfItems C N is)) NoNames) f.way (flow_all c (begun there) code) =
        goes (all_alike C code (OfItems C N is) NoNames c (begun here) (begun there) (fewer (of_code C N code is) a) none_met) f.way f.flows in
        record {
          way = second.found;
          flows = second.is;
          assigns = variables_alike a (assigned_in code) f.assigns;
          raises = f.raises;
          stays = f.stays;
          goes = λ h. rest f.way.locals second.found.locals (fewer (λ x n. (h, n)) second.related.locals) (f.goes h);
        }

    pub items_alike : (is : List PlainItem) {here there : List PlainLocal} → Alike (OfItems C N is) here there → ItemsFit c leaves is G here → ItemsFit c leaves is H there
    unfolding ItemsFit
    items_alike [] {here} {there} a f = goal here there a f
    items_alike (IMark ∷ is) a f = items_alike is (fewer (λ x n. of_rest C N IMark is x refl n) a) f
    items_alike (ISet x e ∷ is) a f =
        (f.0, has_alike a e f.0 (of_it C N (ISet x e) is) f.1, takes_alike (OfItems C N is) (ItemsFit c leaves is G) (ItemsFit c leaves is H) a x f.0 (λ y n other. of_rest C N (ISet x e) is y (not_true (x == y) other) n) (λ here there b g. items_alike is b g) f.2)
    items_alike (IPut field e ∷ is) a f =
        (record { ty = f.0.ty; is = f.0.is; fits = suits_alike a e f.0.ty (of_it C N (IPut field e) is) f.0.fits }, items_alike is (fewer (λ x n. of_rest C N (IPut field e) is x refl n) a) f.1)
    items_alike (IGive e ∷ is) a f = suits_alike a e (result_at c) (of_it C N (IGive e) is) f
    items_alike (IFail kind e ∷ is) a f = (f.0, f.1, message_alike a e (of_it C N (IFail kind e) is) f.2)
    items_alike (ICode code ∷ is) a f = code_alike code is a (λ here there b g. items_alike is b g) f

  -- At each point

  module _ (C N : Names) (P Q : Asked) (turns : Turns C P Q) where
    at_once : (is : List PlainItem) {here there : List PlainLocal} → Alike (OfItems C N is) here there → P there → Q here
    at_once is {here} {there} a p = turns here there (fewer (λ x k. by_always k) a) p

    pub each_item_alike : (is : List PlainItem) {here there : List PlainLocal} → Alike (OfItems C N is) here there → AtEachItem P c is there → AtEachItem Q c is here
    unfolding AtEachItem
    each_item_alike [] a p = at_once [] a p
    each_item_alike (IMark ∷ is) a p = (at_once (IMark ∷ is) a p.0, each_item_alike is (fewer (λ x n. of_rest C N IMark is x refl n) a) p.1)
    each_item_alike (ISet x e ∷ is) a p = (
      at_once (ISet x e ∷ is) a p.0,
      λ wanted ty h. each_item_alike is (alike_with x ty (λ y n other. of_rest C N (ISet x e) is y (not_true (x == y) other) n) ty a) (p.1 wanted ty (sym (expr_same c a wanted e (of_it C N (ISet x e) is)) ∙ h)),
    )
    each_item_alike (IPut field e ∷ is) a p = (at_once (IPut field e ∷ is) a p.0, each_item_alike is (fewer (λ x n. of_rest C N (IPut field e) is x refl n) a) p.1)
    each_item_alike (IGive e ∷ is) a p = at_once (IGive e ∷ is) a p
    each_item_alike (IFail kind e ∷ is) a p = at_once (IFail kind e ∷ is) a p
    each_item_alike (ICode code ∷ is) {here} {there} a p =
        let code_first : Alike (OfAll C (OfItems C N is) NoNames code) here there = fewer (of_code C N code is) a in (
          points_alike C P Q turns code (OfItems C N is) NoNames c (begun here) (begun there) code_first none_met p.0,
          λ go end e.
              let second : Found (WayAlike (If (all_go_on code) (OfItems C N is)) NoNames) end (flow_all c (begun there) code) = goes (all_alike C code (OfItems C N is) NoNames c (begun here) (begun there) code_first none_met) end e in
              each_item_alike is (fewer (λ x n. (go, n)) second.related.locals) (p.1 go second.found second.is),
        )
