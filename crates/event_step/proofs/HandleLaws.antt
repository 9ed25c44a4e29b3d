-- An event that is ready is due, and what it leaves fits.
use Rattle.std.proofs.Common.{◌≡◌, ◌<◌, ℕ, true, Option, Some, None, List, refl, sym, ◌∙◌, subst, true≢false}
use Rattle.std.specs.Prelude.{slice_get, is_some}
use Rattle.std.specs.List.{All}
use Rattle.std.proofs.lemmas.List.Elements.{All-weaker}
use Rattle.std.proofs.lemmas.Option.{same_Some, none-some}
use Rattle.py_tree.specs.CheckedViews.{checked_program, checked_names}
use Rattle.py_tree.specs.PlainProgram.{PlainProgram}
use Rattle.py_tree.specs.ClassRules.{PlainSig, PlainTable, tables_of}
use Rattle.py_tree.specs.FlowEnvironment.{PlainLocal}
use Rattle.py_tree.specs.Flow.{Context, sig_at}
use Rattle.call_graph.specs.SuspendingCode.{Leaving}
use Rattle.sf_value.specs.declared.value.Value.{Value}
use Rattle.sf_value.specs.declared.value.Ref.{Ref}
use Rattle.program_meaning.specs.Fits.{HasTable}
use Rattle.program_meaning.specs.NothingGoesWrong.{IsKnownAccepted}
use Rattle.program_meaning.proofs.Soundness.{checked_are_known}
use Rattle.program_meaning.proofs.TableFacts.{then_found}
use Rattle.block_code.specs.declared.event.Frame.{Frame}
use Rattle.block_code.specs.declared.event.Event.{Event}
use Rattle.block_code.specs.declared.event.EventKind.{EventKind}
use Rattle.block_code.specs.declared.event.EventKind.TheVariants as kind
use Rattle.block_code.specs.PlainVars.{PlainVar}
use Rattle.block_code.specs.PlainBlocks.{PlainCatch, PlainBlock}
use Rattle.block_code.specs.Places.{blocks_of}
use Rattle.block_code.specs.GraphFits.{GraphFits, MethodFits, BlockFits, CatchFits, BelowRank, at_start}
use Rattle.block_code.specs.EventsFit.{FramesFit, KindFits, EventFits}
use Rattle.block_runs.specs.EventStep.{lasts, Step, StepsTo, target_of}
use Rattle.block_runs.specs.StepFits.{HeldFits, IsReady, StepsWell}
use Rattle.block_runs.proofs.FuelLaws.{steps_are_one}
use Rattle.block_runs.proofs.Frames.{lasts_fit}
use Rattle.program_meaning.proofs.NamesApart.{IsMethod, method_is}
use Rattle.block_runs.proofs.WellSteps.{events_step_well}
use Rattle.event_step.specs.declared.entered.Code.{Code}
use Rattle.event_step.specs.Turns.{RankFalls, RanksFall}
use Rattle.event_step.specs.Steps.{source_in, tables_in, blocks_in, step_in, ComesTo, RanksFor, IsDue, FitsAt, TargetFits}

-- Ranks

catch_falls : (c : Context) (blocks : List PlainBlock) (b : PlainBlock) (start : List PlainLocal) (k : PlainCatch) → CatchFits c blocks b start k → BelowRank blocks b.rank k.to
catch_falls c blocks b start k f target is = subst (λ (t : PlainBlock). t.rank < b.rank) (same_Some _ _ (sym f.is ∙ is)) f.below

ranks_fall : (c : Context) (leaves : Leaving) (variables : List PlainVar) (blocks bs : List PlainBlock) → All (BlockFits c leaves variables blocks) bs → All (RankFalls blocks) bs
ranks_fall c leaves variables blocks bs each = All-weaker (BlockFits c leaves variables blocks) (RankFalls blocks)
    (λ b f. record { ends = f.ranks; catches = All-weaker (CatchFits c blocks b (at_start variables b.params)) (λ (k : PlainCatch). BelowRank blocks b.rank k.to) (λ k g. catch_falls c blocks b (at_start variables b.params) k g) b.catches f.catches }) bs each

module _ (code : Code) (same : tables_in code ≡ tables_of (checked_names code.program.now) (checked_program code.program.now)) (fits : GraphFits (checked_names code.program.now) (checked_program code.program.now) (blocks_in code)) where
  abbrev names : List (List ℕ)
  names = checked_names code.program.now

  abbrev program : PlainProgram
  program = checked_program code.program.now

  abbrev tables : List PlainTable
  tables = tables_of names program

  accepted : IsKnownAccepted names program
  accepted = checked_are_known code.program.now

  method_falls : (class method : ℕ) (t : PlainTable) (sig : PlainSig) → HasTable tables class t → slice_get t.methods method ≡ Some sig → RanksFall (blocks_of tables (blocks_in code) class method)
  method_falls class method t sig has at =
      let m : IsMethod names program accepted.rules.classes accepted.rules.flow class method sig = method_is names program accepted.rules.classes accepted.rules.flow class method t sig has at in
      let f : MethodFits names program _ class method m.is (blocks_of tables (blocks_in code) class method) = fits.methods class method m.is m.at in
      ranks_fall _ _ _ (blocks_of tables (blocks_in code) class method) (blocks_of tables (blocks_in code) class method) f.each

  some_sig : (o : Option PlainSig) → is_some o ≡ true → (sig : PlainSig) × (o ≡ Some sig)
  some_sig None h = absurd (true≢false (sym h))
  some_sig (Some sig) h = (sig, refl)

  sig_falls : (class method : ℕ) → is_some (sig_at tables class method) ≡ true → RanksFall (blocks_of tables (blocks_in code) class method)
  sig_falls class method has =
      let sig : (sig : PlainSig) × (sig_at tables class method ≡ Some sig) = some_sig (sig_at tables class method) has in
      let t : (t : PlainTable) × HasTable tables class t × (slice_get t.methods method ≡ Some sig.0) = then_found (λ (t : PlainTable). slice_get t.methods method) (slice_get tables class) sig.0 sig.1 in
      method_falls class method t.0 sig.0 t.1 t.2

  falls_for : (k : EventKind) (frames : List Frame) → FramesFit tables (blocks_in code) frames → KindFits tables (blocks_in code) k frames → RanksFor code k frames
  falls_for (kind.Enter to method args) frames fit asked =
      subst (λ ts. RanksFall (blocks_of ts (blocks_in code) to.class method)) (sym same) (method_falls to.class method asked.0.table asked.0.sig asked.0.has_table asked.0.has_method)
  falls_for (kind.Make to args) frames fit asked = tt
  falls_for (kind.Resume o) frames fit asked = λ l is. subst (λ ts. RanksFall (blocks_of ts (blocks_in code) l.last.at.class l.last.method)) (sym same) (sig_falls l.last.at.class l.last.method (lasts_fit tables (blocks_in code) frames l is fit).last.has_method)
  falls_for (kind.Done o) frames fit asked = tt

  -- Events

  module _ (e : Event) (held : Option (List Value)) (ready : IsReady (tables_in code) (blocks_in code) e held) where
    ready_too : IsReady tables (blocks_in code) e held
    ready_too = subst (λ ts. IsReady ts (blocks_in code) e held) same ready

    well : StepsWell (source_in code) tables (blocks_in code) e held ready_too.target.class
    well = events_step_well names program accepted (blocks_in code) fits e held ready_too

    comes : StepsTo (source_in code) (tables_in code) (blocks_in code) e held well.step
    comes = subst (λ ts. StepsTo (source_in code) ts (blocks_in code) e held well.step) (sym same) well.by

    next : EventFits (tables_in code) (blocks_in code) well.step.next
    next = subst (λ ts. EventFits ts (blocks_in code) well.step.next) (sym same) well.next_fits

    pub is_due : IsDue code e.kind e.tx e.frames e.steps held
    is_due = record { step = well.step; comes = record { fuel = comes.fuel; by = comes.by }; next_fits = next; fall = falls_for e.kind e.frames ready_too.fits.frames ready_too.fits.kind }

    fits_at : (at : Option Ref) → at ≡ Some ready_too.target → FitsAt (tables_in code) at well.step.held
    fits_at None is = absurd (none-some _ is)
    fits_at (Some at) is = subst (λ (r : Ref). HeldFits (tables_in code) r.class well.step.held) (sym (same_Some _ _ is)) (subst (λ ts. HeldFits ts ready_too.target.class well.step.held) (sym same) well.held_fits)

    -- the step that the code finds is the one that there is
    module _ (s : Step) (found : ComesTo (step_in code e.kind e.tx e.frames e.steps held) s) where
      pub steps : StepsTo (source_in code) (tables_in code) (blocks_in code) e held s
      steps = record { fuel = found.fuel; by = found.by }

      one : well.step ≡ s
      one = steps_are_one (source_in code) (tables_in code) (blocks_in code) e held well.step s comes steps

      pub next_fits : EventFits (tables_in code) (blocks_in code) s.next
      next_fits = subst (λ (s : Step). EventFits (tables_in code) (blocks_in code) s.next) one next

      pub target_fits : TargetFits (tables_in code) e s.held
      target_fits = subst (λ (s : Step). TargetFits (tables_in code) e s.held) one (fits_at (target_of e.kind (lasts e.frames)) ready_too.is_target)
