-- How an audit ends, by its status.
use Rattle.std.proofs.Common.{◌≡◌, ℕ, ◌≤◌, ◌⊎◌, inl, inr, List, [], ◌∷◌, length, take, Some, Ok, Err, refl, sym, ap, ◌∙◌, subst, arith}
use Rattle.std.proofs.lemmas.Option.{none-some}
use Rattle.std.specs.declared.option.Option.{Option}
use Rattle.std.specs.Io.KnownBytes.{Appends}
use Rattle.batch_run.proofs.Vocabulary.{prefix_whole}
use Rattle.program_meaning.specs.ClassTables.{Source}
use Rattle.run_audit.specs.Fronts.{decided}
use Rattle.run_audit.specs.Audits.{Audits}
use Rattle.run_audit.specs.declared.fault.AuditFault.TheVariants.{InputTooLong}
use Rattle.run_audit.specs.declared.verdict.Verdict.{Verdict}
use Rattle.run_audit.specs.declared.verdict.Verdict.TheVariants.{Serial, Differs, BadRun}
use Rattle.stateflow_cli.specs.Devices.{Devices, Output, with_err}
use Rattle.stateflow_cli.specs.StatusLines.{status_of, line_of}
use Rattle.stateflow_cli.specs.Verdicts.{verdict_text, verdict_ending}
use Rattle.stateflow_cli.specs.AuditEnds.{IsVerdict, DecidesNothing, FilesRose, AuditWays, TurnsDown, CannotRead, WantsMemory, Concludes, ConcludesInPart, ComesToNothing, AuditEnds}
use Rattle.stateflow_cli.specs.AuditPromise.{TellsVerdict, PrintsVerdictFront, OfRun, GivesVerdict, GivesNone, AreTold}
use Rattle.stateflow_cli.specs.Answers.{TellsFault}
use Rattle.stateflow_cli.specs.Causes.{IsFault, WasUnread, WasUnwritten, WantedMemory, OfText, HasNoProgram, HasProgram, IsTold}
use Rattle.stateflow_cli.specs.Session.{IsOneOf}
use Rattle.stateflow_cli.specs.declared.ending.Ending.{Ending}
use Rattle.stateflow_cli.proofs.OneCause.{told_of, one_of_text}

-- ---- statuses

verdict_status : (v : Verdict) → IsOneOf (status_of (verdict_ending v)) (0 ∷ 13 ∷ 14 ∷ [])
verdict_status (Serial entries) = inl refl
verdict_status (Differs place wanted said) = inr (inl refl)
verdict_status (BadRun line) = inr (inr (inl refl))

-- the status of a verdict is none from 1 to 9
not_between : (n : ℕ) → 1 ≤ n → n ≤ 9 → IsOneOf n (0 ∷ 13 ∷ 14 ∷ []) → ⊥
not_between n low high (inl is) = omega (arith, is, low)
not_between n low high (inr (inl is)) = omega (arith, is, high)
not_between n low high (inr (inr (inl is))) = omega (arith, is, high)
not_between n low high (inr (inr (inr none))) = absurd none

no_verdict : {P : Type 0} (n m : ℕ) (v : Verdict) → n ≡ status_of (verdict_ending v) → n ≡ m → 1 ≤ m → m ≤ 9 → P
no_verdict n m v own is low high =
    absurd (not_between n (omega (arith, is, low)) (omega (arith, is, high)) (subst (λ k. IsOneOf k (0 ∷ 13 ∷ 14 ∷ [])) (sym own) (verdict_status v)))

pub not_unwritten : (n : ℕ) → IsOneOf n (0 ∷ 13 ∷ 14 ∷ []) → n ≡ 4 → ⊥
not_unwritten n one four = not_between n (omega (arith, four)) (omega (arith, four)) one

record IsSilent (n : ℕ) : Type 0 where
  low : 1 ≤ n
  high : n ≤ 9
  written : n ≡ 4 → ⊥

is_silent : (n : ℕ) → IsOneOf n (1 ∷ 3 ∷ 8 ∷ 9 ∷ []) → IsSilent n
is_silent n (inl is) = record { low = omega (arith, is); high = omega (arith, is); written = λ four. omega (arith, is, four) }
is_silent n (inr (inl is)) = record { low = omega (arith, is); high = omega (arith, is); written = λ four. omega (arith, is, four) }
is_silent n (inr (inr (inl is))) = record { low = omega (arith, is); high = omega (arith, is); written = λ four. omega (arith, is, four) }
is_silent n (inr (inr (inr (inl is)))) = record { low = omega (arith, is); high = omega (arith, is); written = λ four. omega (arith, is, four) }
is_silent n (inr (inr (inr (inr none)))) = absurd none

-- ---- by the ending

module _ (limit : ℕ) (before after : Devices) (behind : Output) (file run : List ℕ) (e : Ending) (a : AuditEnds limit file run before (with_err behind after) e) where
  abbrev Ways : Type 0
  Ways = AuditWays limit file run before (with_err behind after) e

  pub audit_front : (after.out ≡ before.out) ⊎ PrintsVerdictFront limit file run before after
  audit_front = by a.ways
    where
      by : Ways → (after.out ≡ before.out) ⊎ PrintsVerdictFront limit file run before after
      by (TurnsDown fault same refused kept) = inl kept
      by (CannotRead same rose kept) = inl kept
      by (WantsMemory same kept) = inl kept
      by (Concludes holds v same is wrote) =
          inr (record { verdict = v; has = record { holds = holds; is = is }; front = prefix_whole before.out.held after.out.held (verdict_text v) wrote })
      by (ConcludesInPart holds v same is front rose) = inr (record { verdict = v; has = record { holds = holds; is = is }; front = front })
      by (ComesToNothing holds same none kept) = inl kept

  module _ (status : ℕ) where
    -- why it has its status
    pub audit_cause : status ≡ status_of e
        → OfText (before.content file) (OfRun limit run before) status ⊎ IsFault (FilesRose file run before after) ⊥ before after status
    audit_cause own = by a.ways
      where
        by : Ways → OfText (before.content file) (OfRun limit run before) status ⊎ IsFault (FilesRose file run before after) ⊥ before after status
        by (TurnsDown fault same refused kept) = inl (HasNoProgram fault (own ∙ ap status_of same) refused)
        by (CannotRead same rose kept) = inr (WasUnread (own ∙ ap status_of same) rose)
        by (WantsMemory same kept) = inr (WantedMemory (own ∙ ap status_of same))
        by (Concludes holds v same is wrote) = inl (HasProgram holds (GivesVerdict v (own ∙ ap status_of same) is))
        by (ConcludesInPart holds v same is front rose) = inr (WasUnwritten (own ∙ ap status_of same) (inl rose))
        by (ComesToNothing holds same none kept) = inl (HasProgram holds (GivesNone (own ∙ ap status_of same) none))

    module _ (own : (status ≡ 4 → ⊥) → status ≡ status_of e) where
      pub audit_verdict : IsOneOf status (0 ∷ 13 ∷ 14 ∷ []) → Appends before.err.held after.err.held (line_of file e) → TellsVerdict limit file run before after status
      audit_verdict one line = by a.ways
        where
          mine : status ≡ status_of e
          mine = own (not_unwritten status one)

          never : (n : ℕ) → status_of e ≡ n → 1 ≤ n → n ≤ 9 → TellsVerdict limit file run before after status
          never n is low high = let at : status ≡ n = mine ∙ is in absurd (not_between status (omega (arith, at, low)) (omega (arith, at, high)) one)

          by : Ways → TellsVerdict limit file run before after status
          by (TurnsDown fault same refused kept) = never 1 (ap status_of same) (omega arith) (omega arith)
          by (CannotRead same rose kept) = never 3 (ap status_of same) (omega arith) (omega arith)
          by (WantsMemory same kept) = never 8 (ap status_of same) (omega arith) (omega arith)
          by (Concludes holds v same is wrote) = record {
            verdict = v;
            has = record { holds = holds; is = is };
            own = mine ∙ ap status_of same;
            wrote = wrote;
            line = subst (λ x. Appends before.err.held after.err.held (line_of file x)) same line;
          }
          by (ConcludesInPart holds v same is front rose) = never 4 (ap status_of same) (omega arith) (omega arith)
          by (ComesToNothing holds same none kept) = never 9 (ap status_of same) (omega arith) (omega arith)

      pub audit_nothing : IsOneOf status (1 ∷ 3 ∷ 8 ∷ 9 ∷ []) → after.out ≡ before.out
      audit_nothing one = by a.ways
        where
          silent : IsSilent status
          silent = is_silent status one

          by : Ways → after.out ≡ before.out
          by (TurnsDown fault same refused kept) = kept
          by (CannotRead same rose kept) = kept
          by (WantsMemory same kept) = kept
          by (Concludes holds v same is wrote) = no_verdict status status v (own silent.written ∙ ap status_of same) refl silent.low silent.high
          by (ConcludesInPart holds v same is front rose) = absurd (silent.written (own silent.written ∙ ap status_of same))
          by (ComesToNothing holds same none kept) = kept

    pub audit_told : status ≡ 1 → status_of e ≡ 1 → Appends before.err.held after.err.held (line_of file e) → TellsFault file before after
    audit_told at own line = by a.ways
      where
        other : (n : ℕ) → status_of e ≡ n → (n ≡ 1 → ⊥) → TellsFault file before after
        other n is apart = absurd (apart (sym is ∙ own))

        by : Ways → TellsFault file before after
        by (TurnsDown fault same refused kept) = record {
          fault = fault;
          refused = refused;
          line = subst (λ x. Appends before.err.held after.err.held (line_of file x)) same line;
        }
        by (CannotRead same rose kept) = other 3 (ap status_of same) (λ z. omega (arith, z))
        by (WantsMemory same kept) = other 8 (ap status_of same) (λ z. omega (arith, z))
        by (Concludes holds v same is wrote) = no_verdict status 1 v (at ∙ sym own ∙ ap status_of same) at (omega arith) (omega arith)
        by (ConcludesInPart holds v same is front rose) = other 4 (ap status_of same) (λ z. omega (arith, z))
        by (ComesToNothing holds same none kept) = other 9 (ap status_of same) (λ z. omega (arith, z))

-- ---- a run has one verdict

module _ (limit : ℕ) (src : Source) (all : List ℕ) where
  abbrev Is : Verdict → Type 0
  Is v = Audits src limit all (Ok v)

  one_verdict : (v w : Verdict) → Is v → Is w → v ≡ w
  one_verdict v w a b = sym a.0 ∙ b.0

  verdict_or_none : (v : Verdict) → Is v → Audits src limit all (Err InputTooLong) → ⊥
  verdict_or_none v a none = by a.1
    where
      by : (length all ≤ limit) ⊎ (decided src (take limit all) ≡ Some v) → ⊥
      by (inl short) = omega (arith, short, none.0)
      by (inr is) = none-some v (sym none.1 ∙ is)

module _ (limit : ℕ) (file run : List ℕ) (before : Devices) where
  past_text : (src : Source) (text : List ℕ) (k : ℕ) → OfRun limit run before src text k → k ≡ 1 → ⊥
  past_text src text k (GivesVerdict v is has) same = no_verdict k 1 v is same (omega arith) (omega arith)
  past_text src text k (GivesNone is none) same = omega (arith, is, same)

  module _ (src : Source) (text : List ℕ) (known : IsTold (before.content run)) where
    verdict_so : (v : Verdict) → IsVerdict limit src (before.content run) v → Audits src limit known.0 (Ok v)
    verdict_so v is = told_of (before.content run) known (λ all. Audits src limit all (Ok v)) is

    none_so : DecidesNothing limit src (before.content run) → Audits src limit known.0 (Err InputTooLong)
    none_so none = told_of (before.content run) known (λ all. Audits src limit all (Err InputTooLong)) none

    one_of_lines : (k m : ℕ) → OfRun limit run before src text k → OfRun limit run before src text m → k ≡ m
    one_of_lines k m (GivesVerdict v is has) (GivesVerdict w same other) =
        is ∙ ap (λ x. status_of (verdict_ending x)) (one_verdict limit src known.0 v w (verdict_so v has) (verdict_so w other)) ∙ sym same
    one_of_lines k m (GivesVerdict v is has) (GivesNone same none) = absurd (verdict_or_none limit src known.0 v (verdict_so v has) (none_so none))
    one_of_lines k m (GivesNone is none) (GivesVerdict v same has) = absurd (verdict_or_none limit src known.0 v (verdict_so v has) (none_so none))
    one_of_lines k m (GivesNone is none) (GivesNone same other) = is ∙ sym same

  pub one_of_audit : (k m : ℕ) → AreTold file run before k → OfText (before.content file) (OfRun limit run before) k
      → OfText (before.content file) (OfRun limit run before) m → k ≡ m
  one_of_audit k m known =
      one_of_text (before.content file) (OfRun limit run before) known.text k m
      (λ src text cause other. one_of_lines src text (known.lines (past_text src text k cause)) k m cause other)

-- ---- the run, by what its file had before the program was read

pub verdict_then : (limit : ℕ) (src : Source) (is was : Option (List ℕ)) (v : Verdict) → is ≡ was → IsVerdict limit src is v → IsVerdict limit src was v
verdict_then limit src is was v same has = subst (λ content. IsVerdict limit src content v) same has

pub none_then : (limit : ℕ) (src : Source) (is was : Option (List ℕ)) → is ≡ was → DecidesNothing limit src is → DecidesNothing limit src was
none_then limit src is was same none = subst (λ content. DecidesNothing limit src content) same none
