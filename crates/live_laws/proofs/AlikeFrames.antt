-- What frames of a cut graph keep: what those of the whole one keep too, and with as much known of it behind a result.
use Rattle.std.proofs.Common.{◌≡◌, ◌∙◌, ◌⊎◌, inl, inr, ℕ, zero, suc, Bool, true, false, not, cond, Option, Some, None, List, [], ◌∷◌, ◌++◌, refl, sym, ap, subst}
use Rattle.std.specs.Prelude.{◌==◌, slice_get, filter}
use Rattle.std.specs.List.{flat_map}
use Rattle.std.proofs.lemmas.Option.{same_Some, none-some}
use Rattle.std.proofs.lemmas.List.Elements.{filter_passes}
use Rattle.sf_value.specs.declared.Failure.{Failure}
use Rattle.sf_value.specs.declared.value.Value.{Value}
use Rattle.program_meaning.specs.declared.vars.Var.{Var}
use Rattle.program_meaning.specs.World.{local_value, assigned}
use Rattle.program_meaning.specs.Evaluation.{Site}
use Rattle.program_meaning.proofs.SameLocals.{assigned_value}
use Rattle.program_meaning.proofs.TableFacts.{all_at, filtered_at}
use Rattle.block_code.specs.PlainVars.{PlainVar}
use Rattle.block_code.specs.PlainBlocks.{PlainCatch, PlainBlock}
use Rattle.block_code.specs.EventsFit.{Awaits, awaited, params_if_there, kept_params}
use Rattle.block_runs.specs.BlockRuns.{Go, Exits, at_block, run_blocks}
use Rattle.block_runs.specs.EventStep.{kept_if, kept_at, names_it}
use Rattle.block_runs.proofs.Entries.{Among, among_first, among_second, among_passing}
use Rattle.request_events.proofs.Agreeing.{Same, kept_value}
use Rattle.live_laws.specs.Cut.{Stays, with_params, CutAt, no_block, one_block, IsCut}
use Rattle.live_laws.proofs.AlikeLocals.{other_way}
use Rattle.live_laws.proofs.AlikeWays.{not_true}
use Rattle.live_laws.proofs.KeptParams.{kept_at as kept_place}
use Rattle.live_laws.proofs.AlikeCalls.{SameAt}

-- What a frame of the cut graph keeps a frame of the whole one keeps

among_either : {A : Type 0} (xs ys : List A) (k : ℕ) (x : A) → slice_get (xs ++ ys) k ≡ Some x → Among xs x ⊎ Among ys x
among_either [] ys k x is = inr (k, is)
among_either (y ∷ xs) ys zero x is = inl (0, is)
among_either (y ∷ xs) ys (suc k) x is = by (among_either xs ys k x is)
  where
    by : Among xs x ⊎ Among ys x → Among (y ∷ xs) x ⊎ Among ys x
    by (inl p) = inl (suc p.0, p.1)
    by (inr p) = inr p

module _ (before after : List PlainBlock) (cut : IsCut before after) where
  params_kept : (n k : ℕ) (p : PlainVar) → slice_get (params_if_there (slice_get after n)) k ≡ Some p → Among (params_if_there (slice_get before n)) p
  params_kept n k p is = by (slice_get before n) (slice_get after n) (cut.at n) is
    where
      by : (o q : Option PlainBlock) → CutAt (Stays before n) o q → slice_get (params_if_there q) k ≡ Some p → Among (params_if_there o) p
      by _ _ no_block is = absurd (none-some p is)
      by _ _ (one_block keeps) is = let from = kept_place keeps k p is in (from.0, from.1)

  abbrev at_catches : List PlainBlock → List PlainCatch → List PlainVar
  at_catches blocks ks = flat_map (λ (k : PlainCatch). params_if_there (slice_get blocks k.to)) ks

  caught_kept : (ks : List PlainCatch) (k : ℕ) (p : PlainVar) → slice_get (at_catches after ks) k ≡ Some p → Among (at_catches before ks) p
  caught_kept [] k p is = absurd (none-some p is)
  caught_kept (c ∷ ks) k p is = by (among_either (params_if_there (slice_get after c.to)) (at_catches after ks) k p is) (λ k is. caught_kept ks k p is)
    where
      by : Among (params_if_there (slice_get after c.to)) p ⊎ Among (at_catches after ks) p → ((k : ℕ) → slice_get (at_catches after ks) k ≡ Some p → Among (at_catches before ks) p) → Among (at_catches before (c ∷ ks)) p
      by (inl q) rest = let r = params_kept c.to q.0 p q.1 in among_first (params_if_there (slice_get before c.to)) (at_catches before ks) r.0 p r.1
      by (inr q) rest = let r = rest q.0 q.1 in among_second (params_if_there (slice_get before c.to)) (at_catches before ks) r.0 p r.1

  all_kept : (b : PlainBlock) (params : List PlainVar) (for : Awaits) (k : ℕ) (p : PlainVar) → slice_get (kept_params after (with_params b params) for) k ≡ Some p → Among (kept_params before b for) p
  all_kept b params for k p is = by (among_either (filter other (params_if_there (slice_get after for.after))) (at_catches after b.catches) k p is)
    where
      other : PlainVar → Bool
      other p = not (p.name == for.into)

      by : Among (filter other (params_if_there (slice_get after for.after))) p ⊎ Among (at_catches after b.catches) p → Among (kept_params before b for) p
      by (inl q) =
          let passes : other p ≡ true = all_at (λ (p : PlainVar). other p ≡ true) (filter other (params_if_there (slice_get after for.after))) q.0 p (filter_passes other (params_if_there (slice_get after for.after))) q.1 in
          let from = filtered_at other (params_if_there (slice_get after for.after)) q.0 p q.1 in
          let r = params_kept for.after from.0 p from.1 in
          let t = among_passing other (params_if_there (slice_get before for.after)) r.0 p r.1 passes in
          among_first (filter other (params_if_there (slice_get before for.after))) (at_catches before b.catches) t.0 p t.1
      by (inr q) = let r = caught_kept b.catches q.0 p q.1 in among_second (filter other (params_if_there (slice_get before for.after))) (at_catches before b.catches) r.0 p r.1

  pub frame_keeps : (number : ℕ) (us vs : List Var) → SameAt after number us vs → SameAt after number (kept_at before (slice_get before number) us) (kept_at after (slice_get after number) vs)
  frame_keeps number us vs same a for a_is a_for = by (slice_get before number) (slice_get after number) (cut.at number) a_is
    where
      Keeps : PlainBlock → Option PlainBlock → Option PlainBlock → Type 0
      Keeps a o q = Same (kept_params after a for) (kept_at before o us) (kept_at after q vs)

      waits : (b : PlainBlock) (params : List PlainVar) → Same (kept_params after (with_params b params) for) us vs → (w : Option Awaits) → w ≡ Some for → Same (kept_params after (with_params b params) for) (kept_if before b w us) (kept_if after (with_params b params) w vs)
      waits b params both w e =
          subst (λ w. Same (kept_params after (with_params b params) for) (kept_if before b w us) (kept_if after (with_params b params) w vs)) (sym e)
          (λ k p p_is. let q = all_kept b params for k p p_is in kept_value (kept_params before b for) us q.0 p q.1 ∙ both k p p_is ∙ sym (kept_value (kept_params after (with_params b params) for) vs k p p_is))

      by : (o q : Option PlainBlock) → CutAt (Stays before number) o q → q ≡ Some a → Keeps a o q
      by _ _ no_block e = absurd (none-some a e)
      by _ _ (one_block {b = b} {params = params} keeps) e =
          let is_a : with_params b params ≡ a = same_Some (with_params b params) a e in
          subst (λ a. Keeps a (Some b) (Some (with_params b params))) is_a
          (waits b params (subst (λ a. Same (kept_params after a for) us vs) (sym is_a) (same a for a_is a_for)) (awaited b.end) (subst (λ (a : PlainBlock). awaited a.end ≡ Some for) (sym is_a) a_for))

  pub names_same : (number : ℕ) (f : Failure) → names_it (slice_get before number) f ≡ names_it (slice_get after number) f
  names_same number f = by (slice_get before number) (slice_get after number) (cut.at number)
    where
      by : (o q : Option PlainBlock) → CutAt (Stays before number) o q → names_it o f ≡ names_it q f
      by _ _ no_block = refl
      by _ _ (one_block keeps) = refl

-- Behind a result

pub assigned_same : (into : ℕ) (v : Value) (ps : List PlainVar) (us vs : List Var) → Same (filter (λ (p : PlainVar). not (p.name == into)) ps) us vs → Same ps (assigned us into v) (assigned vs into v)
assigned_same into v ps us vs same k p is = assigned_value us into v p.name ∙ by (into == p.name) refl ∙ sym (assigned_value vs into v p.name)
  where
    by : (c : Bool) → (into == p.name) ≡ c → cond c v (local_value us p.name) ≡ cond c v (local_value vs p.name)
    by true e = refl
    by false e = let q = among_passing (λ (p : PlainVar). not (p.name == into)) ps k p is (not_true (p.name == into) (other_way into p.name e)) in same q.0 p q.1

at_none : {W R : Type 0} (o : Option PlainBlock) → o ≡ None → (go : PlainBlock → Go W R) (vars : List Var) (w : W) (n : ℕ) → at_block o go vars w n ≡ None
at_none o none go vars w n = ap (λ o. at_block o go vars w n) none

pub none_runs : {W R : Type 0} (s : Site W) (x : Exits W R) (blocks : List PlainBlock) (number : ℕ) → slice_get blocks number ≡ None → (fuel : ℕ) (vars : List Var) (w : W) (n : ℕ) → run_blocks s x blocks fuel number vars w n ≡ None
unfolding run_blocks
none_runs s x blocks number none zero vars w n = refl
none_runs s x blocks number none (suc fuel) vars w n = at_none _ none _ vars w n
