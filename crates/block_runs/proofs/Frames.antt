-- Frames that fit: one more, the last one, and those that stay where a failure goes on.
use Rattle.std.proofs.Common.{◌≡◌, ℕ, Bool, true, false, Option, Some, None, List, [], ◌∷◌, ◌++◌, refl, sym, ap, ◌∙◌, subst}
use Rattle.std.proofs.lemmas.Option.{same_Some, none-some}
use Rattle.py_tree.specs.ClassRules.{PlainTable}
use Rattle.sf_value.specs.declared.Failure.{Failure}
use Rattle.sf_value.specs.declared.Outcome.TheVariants as outcome
use Rattle.program_meaning.specs.ClassTables.{Source}
use Rattle.program_meaning.specs.Fits.{FailureFits}
use Rattle.block_code.specs.declared.event.Frame.{Frame}
use Rattle.block_code.specs.PlainBlocks.{PlainBlock}
use Rattle.block_code.specs.EventsFit.{FrameFits, CallsIt, AnswersIt, WaitsSo, CallsNext, FramesFit, OfLast}
use Rattle.block_runs.specs.EventStep.{names_it, behind_it, up_to, Lasts, one_before, lasts, block_of, caught}

module _ (tables : List PlainTable) (graph : List (List PlainBlock)) where
  -- a frame waits for this method
  abbrev pub WaitsFor : ℕ → ℕ → Frame → Type 0
  WaitsFor class method = WaitsSo tables graph (λ b. CallsIt b.end class method)

  pub last_more : (P Q : Frame → Type 0) (fs : List Frame) → ((f : Frame) → P f → Q f) → OfLast tables graph P fs → OfLast tables graph Q fs
  last_more P Q [] h p = tt
  last_more P Q (f ∷ []) h p = h f p
  last_more P Q (f ∷ g ∷ fs) h p = last_more P Q (g ∷ fs) h p

  -- One more

  pub last_pushed : (P : Frame → Type 0) (fs : List Frame) (g : Frame) → P g → OfLast tables graph P (fs ++ g ∷ [])
  last_pushed P [] g p = p
  last_pushed P (f ∷ []) g p = p
  last_pushed P (f ∷ h ∷ fs) g p = last_pushed P (h ∷ fs) g p

  pub pushed_fit : (fs : List Frame) (g : Frame) → FramesFit tables graph fs → FrameFits tables graph g → OfLast tables graph (WaitsFor g.at.class g.method) fs → FramesFit tables graph (fs ++ g ∷ [])
  unfolding FramesFit
  pushed_fit [] g fit one waits = (one, tt, tt)
  pushed_fit (f ∷ []) g fit one waits = (fit.0, waits, (one, tt, tt))
  pushed_fit (f ∷ h ∷ fs) g fit one waits = (fit.0, fit.1, pushed_fit (h ∷ fs) g fit.2 one waits)

  -- The last one

  pub record LastFits (fs : List Frame) (l : Lasts) : Type 0 where
    pub before : FramesFit tables graph l.before
    pub last : FrameFits tables graph l.last
    pub waited : OfLast tables graph (WaitsFor l.last.at.class l.last.method) l.before
    pub next : (f : Frame) → CallsNext tables graph f fs → CallsNext tables graph f l.before
    pub behind : (f : Frame) → CallsNext tables graph f fs → OfLast tables graph (WaitsFor l.last.at.class l.last.method) (f ∷ l.before)

  pub no_last : (fs : List Frame) → lasts fs ≡ None → fs ≡ []
  unfolding lasts
  no_last [] e = refl
  no_last (f ∷ fs) e = absurd (by (lasts fs) e)
    where
      by : (o : Option Lasts) → one_before f o ≡ None → ⊥
      by None e = none-some _ (sym e)
      by (Some k) e = none-some _ (sym e)

  longer : (f : Frame) (fs : List Frame) (l : Lasts) → FrameFits tables graph f → CallsNext tables graph f fs → LastFits fs l → LastFits (f ∷ fs) (record { before = f ∷ l.before; last = l.last })
  unfolding FramesFit
  longer f fs l fit calls k = record { before = (fit, k.next f calls, k.before); last = k.last; waited = k.behind f calls; next = λ g c. c; behind = λ g c. k.behind f calls }

  pub lasts_fit : (fs : List Frame) (l : Lasts) → lasts fs ≡ Some l → FramesFit tables graph fs → LastFits fs l
  unfolding lasts FramesFit
  lasts_fit [] l e fit = absurd (none-some l e)
  lasts_fit (f ∷ fs) l e fit = by (lasts fs) refl e (λ k is. lasts_fit fs k is fit.2)
    where
      alone : (gs : List Frame) → gs ≡ [] → LastFits (f ∷ gs) (record { before = []; last = f })
      alone [] e = record { before = tt; last = fit.0; waited = tt; next = λ g c. tt; behind = λ g c. c }
      alone (g ∷ gs) e = absurd cc

      by : (o : Option Lasts) → lasts fs ≡ o → one_before f o ≡ Some l → ((k : Lasts) → lasts fs ≡ Some k → LastFits fs k) → LastFits (f ∷ fs) l
      by None is e rest = subst (LastFits (f ∷ fs)) (same_Some _ _ e) (alone fs (no_last fs is))
      by (Some k) is e rest = subst (LastFits (f ∷ fs)) (same_Some _ _ e) (longer f fs k fit.0 fit.1 (rest k is))

  pub last_holds : (P : Frame → Type 0) (fs : List Frame) (l : Lasts) → lasts fs ≡ Some l → OfLast tables graph P fs → P l.last
  unfolding lasts
  last_holds P [] l e p = absurd (none-some l e)
  last_holds P (f ∷ []) l e p = subst (λ (k : Lasts). P k.last) (same_Some _ _ e) p
  last_holds P (f ∷ g ∷ fs) l e p = by (lasts (g ∷ fs)) refl e (λ k is. last_holds P (g ∷ fs) k is p)
    where
      by : (o : Option Lasts) → lasts (g ∷ fs) ≡ o → one_before f o ≡ Some l → ((k : Lasts) → lasts (g ∷ fs) ≡ Some k → P k.last) → P l.last
      by None is e rest = absurd (by_none (no_last (g ∷ fs) is))
        where
          by_none : g ∷ fs ≡ [] → ⊥
          by_none e = cc
      by (Some k) is e rest = subst (λ (k : Lasts). P k.last) (same_Some _ _ e) (rest k is)

  -- Those that stay

  module _ (src : Source) (e : Failure) (fit : FailureFits e) where
    abbrev Catches : Frame → Type 0
    Catches = WaitsSo tables graph (λ b. AnswersIt tables b (outcome.Failed e))

    abbrev passes : Frame → Bool
    passes f = names_it (block_of src tables graph f) e

    pub record StayFit (fs left : List Frame) : Type 0 where
      pub frames : FramesFit tables graph left
      pub last : OfLast tables graph Catches left
      pub next : (f : Frame) → CallsNext tables graph f fs → CallsNext tables graph f left

    stays : (f : Frame) (fs : List Frame) → FrameFits tables graph f → CallsNext tables graph f fs → (rest : List Frame) (b : Bool) → passes f ≡ b → StayFit fs rest → StayFit (f ∷ fs) (behind_it f rest b)
    unfolding FramesFit
    stays f fs one calls [] true is k = record {
      frames = (one, tt, tt);
      last = record { waits = one.waits; is_block = one.is_block; so = (fit, sym (ap (λ o. names_it o e) one.is_block) ∙ is) };
      next = λ g c. c;
    }
    stays f fs one calls [] false is k = record { frames = tt; last = tt; next = λ g c. tt }
    stays f fs one calls (g ∷ gs) true is k = record { frames = (one, k.next f calls, k.frames); last = k.last; next = λ g c. c }
    stays f fs one calls (g ∷ gs) false is k = record { frames = (one, k.next f calls, k.frames); last = k.last; next = λ g c. c }

    pub caught_fit : (fs : List Frame) → FramesFit tables graph fs → StayFit fs (caught src tables graph fs e)
    unfolding up_to FramesFit
    caught_fit [] all = record { frames = tt; last = tt; next = λ f c. tt }
    caught_fit (f ∷ fs) all = stays f fs all.0 all.1 (caught src tables graph fs e) (passes f) refl (caught_fit fs all.2)
