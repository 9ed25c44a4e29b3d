-- What lines and batches leave in the store of a session, one call after another.
use Rattle.std.proofs.Common.{◌≡◌, ℕ, ◌+◌, ◌≤◌, ◌<◌, Bool, List, [], ◌∷◌, length, refl, sym, subst, arith}
use Rattle.std.specs.declared.option.Option.{Option}
use Rattle.sf_outside.specs.DiskModel.{DiskFacts}
use Rattle.serial_order.specs.ConflictFree.{Access}
use Rattle.reservations.specs.CommitRules.{Chosen}
use Rattle.request_json.specs.RequestLines.{longest}
use Rattle.request_json.specs.Actions.{Line}
use Rattle.input_lines.specs.Reads.{IsStart}
use Rattle.engine.specs.declared.engine.Engine.{Engine}
use Rattle.engine.specs.Cores.{Core}
use Rattle.engine.specs.EngineViews.{source_of, compiled_of, limit_of, RunsProgram}
use Rattle.session_store.proofs.StoreLaws.{same_source}
use Rattle.session_steps.specs.Vocabulary.{cut, Service, program_of, before, move_at, ran_by, Logs, StoreSettings}
use Rattle.session_steps.specs.Steps.{Step, Answer, RunWaiting, endings}
use Rattle.session_steps.specs.Doings.{Point, going, LogsSteps}
use Rattle.session_steps.proofs.Vocabulary.{Logs-same}
use Rattle.session_steps.proofs.Leaves.{move_as}
use Rattle.session_steps.proofs.Endings.{Ending, runs}
use Rattle.session_steps.proofs.LoggedSteps.{Logged-line, Logged-run, Logged-endings}
use Rattle.batch_session.proofs.LineLaws.{asks_the_same}

-- an engine of the same program, and a store of the same settings
pub ended_logs : (e now : Engine) → RunsProgram now (compiled_of e) (limit_of e) → (rule : List Access → Chosen) (settings at : Option StoreSettings) (core : Core) (old new : DiskFacts) → at ≡ settings
    → Logs (source_of now) rule at [] core core old new → Logs (source_of e) rule settings [] core core old new
ended_logs e now runs rule settings at core old new same l =
    subst (λ s. Logs (source_of e) rule s [] core core old new) same
    (Logs-same (source_of now) (source_of e) rule at [] [] core core core old new (sym (same_source e now runs)) refl refl l)

module _ (v : Service) (settings : Option StoreSettings) where
  pub Logged-same : (v' : Service) (at : Option StoreSettings) (core : Core) (lines : ℕ) (steps : List Step) (first last : Core) (old new : DiskFacts) → v' ≡ v → at ≡ settings
      → LogsSteps v' at core lines steps first last old new → LogsSteps v settings core lines steps first last old new
  Logged-same v' at core lines steps first last old new same held l =
      subst (λ s. LogsSteps v s core lines steps first last old new) held (subst (λ x. LogsSteps x at core lines steps first last old new) same l)

  -- ---- lines

  -- a line of which the start was answered
  pub start_logged : (core : Core) (lines : ℕ) (shown : Line) (ended : Bool) (kept line : List ℕ) (first last : Core) (old new : DiskFacts)
      → shown ≡ cut ended kept → IsStart longest kept line
      → Logs (program_of v) v.rule settings (ran_by v (move_at v (before core (lines + 1)) shown)) first last old new
      → LogsSteps v settings core lines (Answer (cut ended line) ∷ []) first last old new
  start_logged core lines shown ended kept line first last old new is start l =
      Logged-line v settings core lines (cut ended line) first last old new
      (subst (λ m. Logs (program_of v) v.rule settings (ran_by v m) first last old new)
      (move_as v (before core (lines + 1)) shown (cut ended line) (asks_the_same (program_of v) shown ended kept line is start)) l)

  -- ---- batches

  module _ (traces : Bool) (p q : Point) (first mid : Core) (old between : DiskFacts) (e : Ending v traces p q) (l : LogsSteps v settings p.core p.lines (runs e.count) first mid old between) where
    pub Logged-over : LogsSteps v settings p.core p.lines (endings (going p)) first mid old between
    Logged-over =
        let fewer : length q.core.pending + e.count ≤ length p.core.pending = e.fewer in
        Logged-endings v settings e.count p first mid old between (omega arith) l

    pub Logged-stop : (last : Core) (new : DiskFacts) → 0 < length q.core.pending → LogsSteps v settings q.core q.lines (RunWaiting ∷ []) mid last between new
        → LogsSteps v settings p.core p.lines (endings (going p)) first last old new
    Logged-stop last new some m =
        let fewer : length q.core.pending + e.count ≤ length p.core.pending = e.fewer in
        Logged-endings v settings (e.count + 1) p first last old new (omega arith) (Logged-run v settings traces e.count p q first mid last old between new e.did l m)
