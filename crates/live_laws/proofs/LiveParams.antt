-- Each variable that is live at a block is a parameter of it, where the blocks of a method fit; so the parameters of cut blocks are exactly
-- what is live.
use Rattle.std.proofs.Common.{◌≡◌, inl, inr, ℕ, suc, Bool, true, false, not, cond, Option, Some, None, List, [], ◌∷◌, ◌++◌, map, refl, sym, ap, ◌∙◌, subst, true≢false}
use Rattle.std.specs.Prelude.{◌||◌, ◌&&◌, ◌==◌, find, slice_get, is_some}
use Rattle.std.specs.List.{All, list_any}
use Rattle.std.proofs.lemmas.Bool.{eqb-true}
use Rattle.std.proofs.lemmas.Option.{same_Some, none-some}
use Rattle.py_tree.specs.PlainTypes.{PlainTy, TBool, TStr, TNil, TEntity}
use Rattle.py_tree.specs.PlainExpressions.{PlainExpr, PlainExprs}
use Rattle.py_tree.specs.PlainProgram.{PlainProgram}
use Rattle.py_tree.specs.ClassRules.{PlainSigParam, tables_of}
use Rattle.py_tree.specs.FlowEnvironment.{PlainLocal, local_of, shown}
use Rattle.py_tree.specs.ExpressionTypes.{assignable, read_ty}
use Rattle.py_tree.specs.Flow.{Context, begun, in_method}
use Rattle.call_graph.specs.SuspendingCode.{Leaving, leaving}
use Rattle.program_meaning.proofs.TableFacts.{all_at}
use Rattle.program_meaning.proofs.TypedParts.{either_false, both_true}
use Rattle.block_code.specs.PlainVars.{PlainVar}
use Rattle.block_code.specs.PlainBlocks.{PlainItem, IMark, ISet, IPut, IGive, IFail, ICode, PlainEnd, EJump, EBranch, ELeave, ECall, EMake, PlainBlock}
use Rattle.block_code.specs.Places.{blocks_of}
use Rattle.block_code.specs.GraphFits.{Asked, is_var, local_at, at_start, is_supplied, supplied, HasType, MessageFits, ItemsFit, Leads, ArgsFit, EndFits, CatchFits, BlockFits, var_of, MethodFits, GraphFits}
use Rattle.live_laws.specs.Reads.{reads, any_read, reads_if_there, all_spare, all_read_first}
use Rattle.live_laws.specs.Live.{items_read, items_spare, end_reads, block_reads, GoesOn, Live, here, behind, at_catch}
use Rattle.live_laws.specs.Cut.{Keeps, no_param, kept, dropped, Stays, IsCut, AreCut, HaveLiveParams, GraphHasLiveParams}
use Rattle.live_laws.proofs.LeavesOn.{in_either, never}
use Rattle.live_laws.proofs.Said.{hears}
use Rattle.live_laws.proofs.Unset.{Unset, no_local, one_local, unset_narrowed, unset_with, unset_found}
use Rattle.live_laws.proofs.UnsetTypes.{neither, arguments_denied}
use Rattle.live_laws.proofs.UnsetWays.{Clear, two_true, one_false, false_of, not_read, all_clear, spared_all_go}
use Rattle.live_laws.proofs.AlikeTypes.{or_left, or_right}
use Rattle.live_laws.proofs.SameRuns.{cut_found, CutFrom, cut_came}
use Rattle.live_laws.proofs.KeptParams.{kept_at}
use Rattle.live_laws.proofs.CutGraphs.{method_cut}

-- Parameters by name

record NamedAt (x : ℕ) (params : List PlainVar) : Type 0 where
  place : ℕ
  param : PlainVar
  is : slice_get params place ≡ Some param
  named : param.name ≡ x

named_at : (x : ℕ) (params : List PlainVar) → list_any (is_var x) params ≡ true → NamedAt x params
named_at x [] h = never h
named_at x (p ∷ ps) h = in_either (p.name == x) (list_any (is_var x) ps) (NamedAt x (p ∷ ps)) h (λ e. record { place = 0; param = p; is = refl; named = eqb-true p.name x e }) (λ k. later (named_at x ps k))
  where
    later : NamedAt x ps → NamedAt x (p ∷ ps)
    later a = record { place = suc a.place; param = a.param; is = a.is; named = a.named }

any_found : (x : ℕ) (params : List PlainVar) → is_some (find (is_var x) params) ≡ true → list_any (is_var x) params ≡ true
any_found x [] h = h
any_found x (p ∷ ps) h = by (p.name == x) h (any_found x ps)
  where
    by : (b : Bool) → is_some (cond b (Some p) (find (is_var x) ps)) ≡ true → (is_some (find (is_var x) ps) ≡ true → list_any (is_var x) ps ≡ true) → (b || list_any (is_var x) ps) ≡ true
    by true h rest = refl
    by false h rest = rest h

kept_any : {L : ℕ → Type 0} (x : ℕ) → L x → {ps qs : List PlainVar} → Keeps L ps qs → list_any (is_var x) ps ≡ true → list_any (is_var x) qs ≡ true
kept_any x l no_param h = h
kept_any x l (kept {p = p} {ps = ps} {qs = qs} m k) h = in_either (p.name == x) (list_any (is_var x) ps) ((p.name == x || list_any (is_var x) qs) ≡ true) h (or_left (p.name == x) (list_any (is_var x) qs)) (λ e. or_right (p.name == x) (list_any (is_var x) qs) (kept_any x l k e))
kept_any {L = L} x l (dropped {p = p} {ps = ps} {qs = qs} out k) h = in_either (p.name == x) (list_any (is_var x) ps) (list_any (is_var x) qs ≡ true) h (λ e. absurd (out (subst L (sym (eqb-true p.name x e)) l))) (kept_any x l k)

module _ (v : ℕ) where
  -- what is no parameter is unassigned where the block begins

  not_found : (params : List PlainVar) → list_any (is_var v) params ≡ false → (x : ℕ) → (x == v) ≡ true → find (is_var x) params ≡ None
  not_found [] absent x same = refl
  not_found (p ∷ ps) absent x same = let h = either_false (p.name == v) (list_any (is_var v) ps) absent in by (p.name == x) refl h.0 (not_found ps h.1 x same)
    where
      by : (b : Bool) → (p.name == x) ≡ b → (p.name == v) ≡ false → find (is_var x) ps ≡ None → cond b (Some p) (find (is_var x) ps) ≡ None
      by true e other rest = absurd (true≢false (sym (ap (λ n. n == v) (eqb-true p.name x e) ∙ same) ∙ other))
      by false e other rest = rest

  start_unset : (params : List PlainVar) → list_any (is_var v) params ≡ false → (variables : List PlainVar) → Unset v (at_start variables params)
  unfolding at_start
  start_unset params absent [] = no_local
  start_unset params absent (x ∷ xs) = by (find (is_var x.name) params) (not_found params absent x.name) (start_unset params absent xs)
    where
      by : (o : Option PlainVar) → ((x.name == v) ≡ true → o ≡ None) → Unset v (at_start xs params) → Unset v (local_at x o ∷ at_start xs params)
      by None none rest = one_local (λ e. refl) rest
      by (Some p) none rest = one_local (λ e. absurd (none-some p (sym (none e)))) rest

  not_supplied : {locals : List PlainLocal} → Unset v locals → (params : List PlainVar) → list_any (is_var v) params ≡ true → supplied locals params ≡ true → ⊥
  not_supplied u [] h s = never h
  not_supplied {locals} u (p ∷ ps) h s =
      let s2 = both_true (is_supplied (local_of locals p.name) p.ty) (supplied locals ps) s in
      in_either (p.name == v) (list_any (is_var v) ps) ⊥ h (λ e. unassigned (local_of locals p.name) refl e s2.0) (λ k. not_supplied u ps k s2.1)
    where
      unassigned : (o : Option PlainLocal) → local_of locals p.name ≡ o → (p.name == v) ≡ true → is_supplied o p.ty ≡ true → ⊥
      unassigned None f e t = never t
      unassigned (Some l) f e t = true≢false (sym t ∙ ap (λ b. b && assignable (read_ty l) p.ty) (unset_found v p.name e u l f))

  -- Items

  module _ (c : Context) (leaves : Leaving) where
    typed_not_read : {locals : List PlainLocal} → Unset v locals → (e : PlainExpr) (ty : PlainTy) → HasType c leaves locals e ty → reads e v ≡ false
    typed_not_read u e ty h = not_read v c u h.wanted e ty h.typed

    message_not_read : {locals : List PlainLocal} → Unset v locals → (e : Option PlainExpr) → MessageFits c leaves locals e → reads_if_there e v ≡ false
    message_not_read u None m = refl
    message_not_read u (Some e) m = typed_not_read u e TStr m

    args_not_read : {locals : List PlainLocal} → Unset v locals → (args : PlainExprs) (params : List PlainSigParam) → ArgsFit c leaves locals args params → any_read args v ≡ false
    args_not_read u args params f = hears (arguments_denied v c.tables c.class c.method u args params TNil f.count) TNil f.typed

    record ItemsClear (is : List PlainItem) (goal : Asked) : Type 0 where
      quiet : items_read is v ≡ false
      goes : items_spare is v ≡ true → (after : List PlainLocal) × goal after × Unset v after

    items_clear : (is : List PlainItem) (goal : Asked) {locals : List PlainLocal} → ItemsFit c leaves is goal locals → Unset v locals → ItemsClear is goal
    unfolding ItemsFit items_read items_spare
    items_clear [] goal {locals} f u = record { quiet = refl; goes = λ h. (locals, f, u) }
    items_clear (IMark ∷ is) goal f u = let rest : ItemsClear is goal = items_clear is goal f u in record { quiet = rest.quiet; goes = rest.goes }
    items_clear (ISet x e ∷ is) goal f u =
        let rest : (x == v) ≡ false → ItemsClear is goal = λ other. items_clear is goal f.2.goes (unset_with v x f.0 f.0 other u) in
        record {
          quiet = neither (reads e v) (not (x == v) && items_read is v) (typed_not_read u e f.0 f.1) (one_false (not (x == v)) (items_read is v) (λ h. (rest (false_of (x == v) h)).quiet));
          goes = λ h. let p = two_true (not (x == v)) (items_spare is v) h in (rest (false_of (x == v) p.0)).goes p.1;
        }
    items_clear (IPut field e ∷ is) goal f u =
        let rest : ItemsClear is goal = items_clear is goal f.1 u in
        record { quiet = neither (reads e v) (items_read is v) (typed_not_read u e f.0.fits.ty f.0.fits.has) rest.quiet; goes = rest.goes }
    items_clear (IGive e ∷ is) goal f u = record { quiet = neither (reads e v) false (typed_not_read u e f.ty f.has) refl; goes = never }
    items_clear (IFail kind e ∷ is) goal f u = record { quiet = neither (reads_if_there e v) false (message_not_read u e f.2) refl; goes = never }
    items_clear (ICode code ∷ is) goal {locals} f u =
        let a : Clear v (all_read_first code v) (all_spare code v) _ f.way = hears (all_clear v code c (begun locals) u) f.way f.flows in
        let rest : all_spare code v ≡ true → ItemsClear is goal = λ h. items_clear is goal (f.goes (spared_all_go v code h)) (a.behind h) in
        record {
          quiet = neither (all_read_first code v) (all_spare code v && items_read is v) a.read (one_false (all_spare code v) (items_read is v) (λ h. (rest h).quiet));
          goes = λ h. let p = two_true (all_spare code v) (items_spare is v) h in (rest p.0).goes p.1;
        }

    -- Ends

    module _ (variables : List PlainVar) (blocks : List PlainBlock) (fits : All (BlockFits c leaves variables blocks) blocks) where
      end_quiet : (e : PlainEnd) {locals : List PlainLocal} → EndFits c leaves blocks e locals → Unset v locals → end_reads e v ≡ false
      end_quiet (EJump to) f u = refl
      end_quiet (EBranch test holds fails) f u = typed_not_read u test TBool f.0
      end_quiet ELeave f u = refl
      end_quiet (ECall on class method args into next) f u = neither (reads on v) (any_read args v) (typed_not_read u on (TEntity f.table.name) f.receiver) (args_not_read u args f.sig.params f.args_fit)
      end_quiet (EMake class args into next) f u = args_not_read u args f.table.init f.args_fit

      -- it is a parameter there
      abbrev IsParam : ℕ → Type 0
      IsParam n = (b : PlainBlock) → slice_get blocks n ≡ Some b → list_any (is_var v) b.params ≡ true

      not_led : {locals : List PlainLocal} → Unset v locals → (to : ℕ) → Leads blocks to locals → IsParam to → ⊥
      not_led u to l p = not_supplied u l.target.params (p l.target l.is) l.enough

      not_gone : (e : PlainEnd) (next : ℕ) {locals : List PlainLocal} → GoesOn e v next → IsParam next → EndFits c leaves blocks e locals → Unset v locals → ⊥
      not_gone (EJump to) next on p f u = not_led u to f (subst IsParam on p)
      not_gone (EBranch test holds fails) next (inl on) p f u = not_led (unset_narrowed v (shown true test) u) holds f.1 (subst IsParam on p)
      not_gone (EBranch test holds fails) next (inr on) p f u = not_led (unset_narrowed v (shown false test) u) fails f.2 (subst IsParam on p)
      not_gone ELeave next on p f u = on
      not_gone (ECall receiver class method args into to) next on p f u = not_led (unset_with v into f.sig.result f.sig.result on.1 u) to f.takes.goes (subst IsParam on.0 p)
      not_gone (EMake class args into to) next on p f u = not_led (unset_with v into (TEntity f.table.name) (TEntity f.table.name) on.1 u) to f.takes.goes (subst IsParam on.0 p)

      -- Blocks

      param_unless : (b a : PlainBlock) (n : ℕ) → slice_get blocks n ≡ Some b → slice_get blocks n ≡ Some a → (list_any (is_var v) b.params ≡ false → ⊥) → list_any (is_var v) a.params ≡ true
      param_unless b a n is also absent = subst (λ (b : PlainBlock). list_any (is_var v) b.params ≡ true) (same_Some b a (sym is ∙ also)) (by (list_any (is_var v) b.params) refl)
        where
          by : (d : Bool) → list_any (is_var v) b.params ≡ d → d ≡ true
          by true e = refl
          by false e = absurd (absent e)

      block_clear : (n : ℕ) (b : PlainBlock) → slice_get blocks n ≡ Some b → list_any (is_var v) b.params ≡ false → ItemsClear b.code (EndFits c leaves blocks b.end)
      block_clear n b is absent = items_clear b.code (EndFits c leaves blocks b.end) (all_at (BlockFits c leaves variables blocks) blocks n b fits is).fits (start_unset b.params absent variables)

      pub live_is_param : (n : ℕ) → Live blocks v n → IsParam n
      live_is_param n (here {b = b} is r) a also = param_unless b a n is also (λ absent.
          let i : ItemsClear b.code (EndFits c leaves blocks b.end) = block_clear n b is absent in
          true≢false (sym r ∙ neither (items_read b.code v) (items_spare b.code v && end_reads b.end v) i.quiet (one_false (items_spare b.code v) (end_reads b.end v) (λ h. let g = i.goes h in end_quiet b.end g.1 g.2))))
      live_is_param n (behind {next = next} {b = b} is e on l) a also = param_unless b a n is also (λ absent. let g = (block_clear n b is absent).goes e in not_gone b.end next on (live_is_param next l) g.1 g.2)
      live_is_param n (at_catch {b = b} {k = k} place is k_is l) a also =
          let f : CatchFits c blocks b (at_start variables b.params) k = all_at (CatchFits c blocks b (at_start variables b.params)) b.catches place k (all_at (BlockFits c leaves variables blocks) blocks n b fits is).catches k_is in
          let q : NamedAt v f.target.params = named_at v f.target.params (live_is_param k.to l f.target f.is) in
          let there : is_some (find (is_var q.param.name) b.params) ≡ true = all_at (λ (p : PlainVar). is_some (find (is_var p.name) b.params) ≡ true) f.target.params q.place q.param f.params q.is in
          subst (λ (b : PlainBlock). list_any (is_var v) b.params ≡ true) (same_Some b a (sym is ∙ also)) (any_found v b.params (subst (λ y. is_some (find (is_var y) b.params) ≡ true) q.named there))

-- Cut blocks

-- what is live doesn't depend on parameters
module _ (x : ℕ) (before after : List PlainBlock) (cut : IsCut before after) where
  live_after : (n : ℕ) → Live before x n → Live after x n
  live_after n (here {b = b} is r) = here (cut_found (Stays before n) (slice_get before n) (slice_get after n) (cut.at n) b is).is r
  live_after n (behind {next = next} {b = b} is e on l) = behind (cut_found (Stays before n) (slice_get before n) (slice_get after n) (cut.at n) b is).is e on (live_after next l)
  live_after n (at_catch {b = b} {k = k} place is k_is l) = at_catch {k = k} place (cut_found (Stays before n) (slice_get before n) (slice_get after n) (cut.at n) b is).is k_is (live_after k.to l)

  live_before : (n : ℕ) → Live after x n → Live before x n
  live_before n (here {b = a} is r) =
      let t : CutFrom (Stays before n) (slice_get before n) a = cut_came (Stays before n) (slice_get before n) (slice_get after n) (cut.at n) a is in
      here t.is (subst (λ (b : PlainBlock). block_reads b x ≡ true) (sym t.same) r)
  live_before n (behind {next = next} {b = a} is e on l) =
      let t : CutFrom (Stays before n) (slice_get before n) a = cut_came (Stays before n) (slice_get before n) (slice_get after n) (cut.at n) a is in
      behind t.is (subst (λ (b : PlainBlock). items_spare b.code x ≡ true) (sym t.same) e) (subst (λ (b : PlainBlock). GoesOn b.end x next) (sym t.same) on) (live_before next l)
  live_before n (at_catch {b = a} {k = k} place is k_is l) =
      let t : CutFrom (Stays before n) (slice_get before n) a = cut_came (Stays before n) (slice_get before n) (slice_get after n) (cut.at n) a is in
      at_catch {k = k} place t.is (subst (λ (b : PlainBlock). slice_get b.catches place ≡ Some k) (sym t.same) k_is) (live_before k.to l)

live_params : (c : Context) (leaves : Leaving) (variables : List PlainVar) (before after : List PlainBlock) → IsCut before after → All (BlockFits c leaves variables before) before → HaveLiveParams after
live_params c leaves variables before after cut fits n a is x =
    let t : CutFrom (Stays before (suc n)) (slice_get before (suc n)) a = cut_came (Stays before (suc n)) (slice_get before (suc n)) (slice_get after (suc n)) (cut.at (suc n)) a is in (
      λ h.
          let q : NamedAt x a.params = named_at x a.params h in
          live_after x before after cut (suc n) (subst (λ y. Live before y (suc n)) q.named (kept_at t.keeps q.place q.param q.is).2),
      λ l. let l2 : Live before x (suc n) = live_before x before after cut (suc n) l in kept_any x l2 t.keeps (live_is_param x c leaves variables before fits (suc n) l2 t.whole t.is),
    )

pub graph_live : (names : List (List ℕ)) (program : PlainProgram) (before after : List (List PlainBlock)) → AreCut before after → GraphFits names program before → GraphHasLiveParams names program after
graph_live names program before after cut f class number m is =
    let q : MethodFits names program (leaving names program f.marks class) class number m (blocks_of (tables_of names program) before class number) = f.methods class number m is in
    live_params (in_method (tables_of names program) class number) (leaving names program f.marks class) (map var_of q.locals ++ q.temporaries) (blocks_of (tables_of names program) before class number) (blocks_of (tables_of names program) after class number)
    (method_cut (tables_of names program) before after cut class number) q.each
