-- From an ending that was told to what the call promises.
use Rattle.std.proofs.Common.{◌≡◌, ℕ, ◌≤◌, ◌⊎◌, inl, inr, List, [], Some, None, refl, sym, ap, ◌∙◌, subst, arith}
use Rattle.std.specs.declared.option.Option.{Option}
use Rattle.std.specs.Io.KnownBytes.{Appends}
use Rattle.sf_outside.specs.DiskModel.{DiskFacts}
use Rattle.stateflow_cli.proofs.GainedLaws.{Rose-earlier}
use Rattle.stateflow_cli.proofs.OneCause.{has_its_status, one_of_report, one_of_run}
use Rattle.stateflow_cli.proofs.ReportEndings.{report_cause, report_err, report_prints, report_silent, report_done, report_told}
use Rattle.stateflow_cli.proofs.LocalEndings.{local_cause, local_err, local_does}
use Rattle.stateflow_cli.proofs.StoreEndings.{not_fewer, run_cause, run_later, run_does}
use Rattle.stateflow_cli.proofs.GenEndings.{gen_cause, gen_status, gen_done, gen_prints, gen_silent, gen_unread, gen_tells}
use Rattle.stateflow_cli.proofs.AuditEndings.{not_unwritten, audit_front, audit_cause, audit_verdict, audit_nothing, audit_told, one_of_audit}
use Rattle.stateflow_cli.proofs.ExportEndings.{export_store, export_front, export_cause, export_found, export_all, export_whole, export_nothing, export_told, export_bad, one_of_export}
use Rattle.stateflow_cli.specs.Words.{Asked, Local, Run, Gen, Export, Audit}
use Rattle.stateflow_cli.specs.Devices.{Devices, Output, with_err}
use Rattle.stateflow_cli.specs.Endings.{Report, ReportEnds, GenEnds}
use Rattle.stateflow_cli.specs.StatusLines.{status_of, line_of}
use Rattle.stateflow_cli.specs.Telling.{Told, Whole, Part}
use Rattle.stateflow_cli.specs.Answers.{TellsStatus}
use Rattle.stateflow_cli.specs.Deeds.{file_of, file_in}
use Rattle.stateflow_cli.specs.Causes.{IsFault, WasUnwritten, WantedMemory, FileRose, ServedRose, OfText, IsTold, IsToldFor}
use Rattle.stateflow_cli.specs.GenClauses.{SumsUpByStatus}
use Rattle.stateflow_cli.specs.StoreClauses.{DiskFails}
use Rattle.stateflow_cli.specs.WordsPromise.{WordsPromise}
use Rattle.stateflow_cli.specs.ReportPromise.{ReportPromise}
use Rattle.stateflow_cli.specs.LocalPromise.{at_once, LocalPromise}
use Rattle.stateflow_cli.specs.RunPromise.{RunCause, RunPromise}
use Rattle.stateflow_cli.specs.GenPromise.{GenPromise}
use Rattle.stateflow_cli.specs.StoredRuns.{DiskRose}
use Rattle.stateflow_cli.specs.ExportPromise as of_export
use Rattle.stateflow_cli.specs.ExportPromise.{OfStore, ExportPromise}
use Rattle.stateflow_cli.specs.AuditEnds.{FilesRose}
use Rattle.stateflow_cli.specs.AuditPromise.{OfRun, AreTold, AuditPromise}
use Rattle.stateflow_cli.specs.Promise.{Answers}
use Rattle.stateflow_cli.specs.declared.ending.Ending.{Ending}
use Rattle.stateflow_cli.specs.declared.ending.Ending.TheVariants.{Misused, NoMemory}
use Rattle.command_words.specs.Commands as words

-- a status other than that of a write fault is the ending's own
own_status : (line : List ℕ) (own : ℕ) (said said' : Option (List ℕ)) (errors errors' status n : ℕ) → Told line own said said' errors errors' status → status ≡ n → (4 ≡ n → ⊥) → own ≡ n
own_status line own said said' errors errors' status n (Whole is wrote) s d = sym is ∙ s
own_status line own said said' errors errors' status n (Part is rose wrote) s d = absurd (d (sym is ∙ s))

-- and so is the line
own_line : (line : List ℕ) (own : ℕ) (said said' : Option (List ℕ)) (errors errors' status n : ℕ) → Told line own said said' errors errors' status → status ≡ n → (4 ≡ n → ⊥) → Appends said said' line
own_line line own said said' errors errors' status n (Whole is wrote) s d = wrote
own_line line own said said' errors errors' status n (Part is rose wrote) s d = absurd (d (sym is ∙ s))

-- the status of a call that wrote its line is the ending's
told_status : (line : List ℕ) (own : ℕ) (said said' : Option (List ℕ)) (errors errors' status : ℕ) → Told line own said said' errors errors' status → (status ≡ 4 → ⊥) → status ≡ own
told_status line own said said' errors errors' status (Whole is wrote) q = is
told_status line own said said' errors errors' status (Part is rose wrote) q = absurd (q is)

-- it is the ending's, or that of a write fault
one_status : (line : List ℕ) (own : ℕ) (said said' : Option (List ℕ)) (errors errors' status : ℕ) → Told line own said said' errors errors' status → (status ≡ own) ⊎ (status ≡ 4)
one_status line own said said' errors errors' status (Whole is wrote) = inl is
one_status line own said said' errors errors' status (Part is rose wrote) = inr is

-- the line of a command that writes nothing else to the error stream
line_alone : (file : List ℕ) (old behind new : Output) (e : Ending) (status : ℕ) → behind ≡ old → Told (line_of file e) (status_of e) behind.held new.held behind.faults new.faults status
    → TellsStatus file old new status
line_alone file old behind new e status same told =
    record { ending = e; told = subst (λ (o : Output). Told (line_of file e) (status_of e) o.held new.held o.faults new.faults status) same told }

module _ (limit : ℕ) (before after : Devices) (was now : DiskFacts) (status : ℕ) where
  module _ (Cause Unread Unstored : Type 0) (behind : Output) (line : List ℕ) (own : ℕ) where
    -- what comes of an ending comes of its status, or the error stream failed
    told_cause : Told line own behind.held after.err.held behind.faults after.err.faults status → before.err.faults ≤ behind.faults
        → (status ≡ own → Cause ⊎ IsFault Unread Unstored before after status) → Cause ⊎ IsFault Unread Unstored before after status
    told_cause (Whole is wrote) earlier by = by is
    told_cause (Part is rose wrote) earlier by = inr (WasUnwritten is (inr (Rose-earlier before.err.faults behind.faults after.err.faults earlier rose)))

  module _ (asked : Option Asked) (a : Answers limit asked before after was now status) where
    own : (n : ℕ) → status ≡ n → (4 ≡ n → ⊥) → status_of a.ending ≡ n
    own n s d = own_status _ _ a.behind.held after.err.held a.behind.faults after.err.faults status n a.told s d

    line : (n : ℕ) → status ≡ n → (4 ≡ n → ⊥) → Appends a.behind.held after.err.held (line_of (file_in asked) a.ending)
    line n s d = own_line _ _ a.behind.held after.err.held a.behind.faults after.err.faults status n a.told s d

    own_or_unwritten : (status ≡ 4 → ⊥) → status ≡ status_of a.ending
    own_or_unwritten p = told_status _ _ a.behind.held after.err.held a.behind.faults after.err.faults status a.told p

  -- ---- words that ask for nothing

  misused_or_unread : (e : Ending) → status ≡ status_of e → (e ≡ Misused) ⊎ (e ≡ NoMemory) → (status ≡ 2) ⊎ IsFault ⊥ ⊥ before after status
  misused_or_unread e s (inl is) = inl (s ∙ ap status_of is)
  misused_or_unread e s (inr is) = inr (WantedMemory (s ∙ ap status_of is))

  pub words_promise : Answers limit None before after was now status → after ≡ with_err after.err before → WordsPromise before after status
  words_promise a aside = record {
    untouched = aside;
    line = line_alone [] before.err a.behind after.err a.ending status a.ends.1.err a.told;
    causes = has_its_status (λ k. k ≡ 2) (λ k. Unit {0}) (IsFault ⊥ ⊥ before after) status (λ k m known is same. is ∙ sym same)
        (told_cause (status ≡ 2) ⊥ ⊥ a.behind (line_of [] a.ending) (status_of a.ending) a.told (not_fewer before.err a.behind a.ends.1.err)
        (λ is. misused_or_unread a.ending is a.ends.0));
  }

  -- ---- a report

  module _ (Is : Report) (file : List ℕ) (behind : Output) (e : Ending) (ends : ReportEnds Is file before (with_err behind after) e)
      (told : Told (line_of file e) (status_of e) behind.held after.err.held behind.faults after.err.faults status) where
    own_report : (n : ℕ) → status ≡ n → (4 ≡ n → ⊥) → status_of e ≡ n
    own_report n s d = own_status _ _ behind.held after.err.held behind.faults after.err.faults status n told s d

    same_err : behind ≡ before.err
    same_err = report_err Is before after behind file e ends

    -- the line was written behind what the error stream held before
    line_of_report : (n : ℕ) → status ≡ n → (4 ≡ n → ⊥) → Appends before.err.held after.err.held (line_of file e)
    line_of_report n s d =
        subst (λ (o : Output). Appends o.held after.err.held (line_of file e)) same_err
        (own_line _ _ behind.held after.err.held behind.faults after.err.faults status n told s d)

    pub report_promise : after.input ≡ before.input → ReportPromise Is file before after status
    report_promise aside = record {
      input = aside;
      printed = λ s. report_done Is before after behind file e before.err.held after.err.held ends (line_of_report 0 s (λ z. omega (arith, z))) (own_report 0 s (λ z. omega (arith, z)));
      told = λ s.
          let t = report_told Is before after behind file e before.err.held after.err.held ends (line_of_report 1 s (λ z. omega (arith, z))) (own_report 1 s (λ z. omega (arith, z))) in
          record { fault = t.0; refused = t.1; line = t.2 };
      front = report_prints Is before after behind file e ends;
      nothing = λ p q. report_silent Is before after behind file e ends
          (λ s. p (told_status _ _ behind.held after.err.held behind.faults after.err.faults status told q ∙ s))
          (λ s. q (told_status _ _ behind.held after.err.held behind.faults after.err.faults status told q ∙ s));
      line = line_alone file before.err behind after.err e status same_err told;
      causes = has_its_status (OfText (before.content file) (λ src text k. k ≡ 0)) (λ k. IsTold (before.content file)) (IsFault (FileRose file before after) ⊥ before after) status
          (one_of_report file before)
          (told_cause (OfText (before.content file) (λ src text k. k ≡ 0) status) (FileRose file before after) ⊥ behind (line_of file e) (status_of e) told
          (not_fewer before.err behind same_err) (λ is. report_cause Is before after behind file status e ends is));
    }

  -- ---- a session of the direct interpreter

  pub local_promise : (file : List ℕ) → Answers limit (Some (Local file)) before after was now status → LocalPromise limit file before after was now status
  local_promise file a =
      let same : a.behind ≡ before.err = local_err limit before after a.behind file a.ending a.ends in
      record {
        did = local_does limit before after was now a.behind file status a.ending (own (Some (Local file)) a) (line (Some (Local file)) a)
            (one_status _ _ a.behind.held after.err.held a.behind.faults after.err.faults status a.told) a.ends
            (line_alone file before.err a.behind after.err a.ending status same a.told);
        causes = has_its_status (RunCause limit file at_once before) (IsToldFor file None before) (IsFault (ServedRose file before after) ⊥ before after) status
            (one_of_run limit file at_once before)
            (told_cause (RunCause limit file at_once before status) (ServedRose file before after) ⊥ a.behind (line_of file a.ending) (status_of a.ending) a.told
            (not_fewer before.err a.behind same) (λ is. local_cause limit before after a.behind file status a.ending a.ends is));
      }

  -- ---- a run

  pub run_promise : (file : List ℕ) (w : words.RunSettings) → Answers limit (Some (Run file w)) before after was now status → RunPromise limit file w before after was now status
  run_promise file w a = record {
    did = run_does limit before after was now a.behind file w status a.ending (own (Some (Run file w)) a) (line (Some (Run file w)) a) (own_or_unwritten (Some (Run file w)) a)
        (one_status _ _ a.behind.held after.err.held a.behind.faults after.err.faults status a.told) a.ends a.told;
    causes = has_its_status (RunCause limit file w before) (IsToldFor file w.store before)
        (IsFault (ServedRose file before after) (DiskFails limit file w before after now) before after) status (one_of_run limit file w before)
        (told_cause (RunCause limit file w before status) (ServedRose file before after) (DiskFails limit file w before after now) a.behind (line_of file a.ending) (status_of a.ending) a.told
        (run_later limit before after was now a.behind file w a.ending a.ends)
        (λ is. run_cause limit before after was now a.behind file w status a.later a.ending a.ends is));
  }

  -- ---- generated work

  one_of : (w : words.GenSettings) (behind : Output) (e : Ending) → GenEnds w before (with_err behind after) e
      → Told (line_of (file_of (Gen w)) e) (status_of e) behind.held after.err.held behind.faults after.err.faults status
      → (status ≡ 0) ⊎ ((status ≡ 4) ⊎ (status ≡ 8))
  one_of w behind e ends (Whole is wrote) = gen_status w before after behind e status ends is
  one_of w behind e ends (Part is rose wrote) = inr (inl is)

  module _ (w : words.GenSettings) (a : Answers limit (Some (Gen w)) before after was now status) where
    -- the line was written behind what the error stream held before
    line_of_work : (n : ℕ) → status ≡ n → (4 ≡ n → ⊥) → Appends before.err.held after.err.held (line_of (file_of (Gen w)) a.ending)
    line_of_work n s d = subst (λ (o : Output). Appends o.held after.err.held (line_of (file_of (Gen w)) a.ending)) a.ends.err (line (Some (Gen w)) a n s d)

    sums_up : SumsUpByStatus w before after status
    sums_up = record {
      whole = λ s. gen_done w before after a.behind a.ending before.err.held after.err.held a.ends
          (line_of_work 0 s (λ z. omega (arith, z))) (own (Some (Gen w)) a 0 s (λ z. omega (arith, z)));
      front = gen_prints w before after a.behind a.ending a.ends;
      nothing = λ p q. gen_silent w before after a.behind a.ending a.ends
          (λ s. p (own_or_unwritten (Some (Gen w)) a q ∙ s)) (λ s. q (own_or_unwritten (Some (Gen w)) a q ∙ s));
      one_of = one_of w a.behind a.ending a.ends a.told;
    }

    pub gen_promise : GenPromise w before after status
    gen_promise = record {
      unread = gen_unread w before after a.behind a.ending a.ends;
      text = sums_up;
      events = gen_tells w before after a.behind status a.ending (own_or_unwritten (Some (Gen w)) a) a.ends;
      line = line_alone (file_of (Gen w)) before.err a.behind after.err a.ending status a.ends.err a.told;
      causes = has_its_status (λ k. k ≡ 0) (λ k. Unit {0}) (IsFault ⊥ ⊥ before after) status (λ k m known is same. is ∙ sym same)
          (told_cause (status ≡ 0) ⊥ ⊥ a.behind (line_of (file_of (Gen w)) a.ending) (status_of a.ending) a.told (not_fewer before.err a.behind a.ends.err)
          (λ is. gen_cause w before after a.behind status a.ending a.ends is));
    }

  -- ---- an export

  module _ (file dir : List ℕ) (a : Answers limit (Some (Export file dir)) before after was now status) where
    line_of_export : (n : ℕ) → status ≡ n → (4 ≡ n → ⊥) → Appends before.err.held after.err.held (line_of file a.ending)
    line_of_export n s d = subst (λ (o : Output). Appends o.held after.err.held (line_of file a.ending)) a.ends.err (line (Some (Export file dir)) a n s d)

    pub export_promise : ExportPromise file dir before after was now status
    export_promise = record {
      input = a.ends.input;
      outside = a.ends.outside;
      store = export_store before after was now a.behind file dir a.ending a.ends;
      found = export_found before after was now a.behind file dir a.ending a.ends status (own_or_unwritten (Some (Export file dir)) a);
      all = export_all before after was now a.behind file dir a.ending a.ends status (own_or_unwritten (Some (Export file dir)) a);
      whole = export_whole before after was now a.behind file dir a.ending a.ends status (own_or_unwritten (Some (Export file dir)) a);
      front = export_front before after was now a.behind file dir a.ending a.ends;
      nothing = export_nothing before after was now a.behind file dir a.ending a.ends status (own_or_unwritten (Some (Export file dir)) a);
      told = λ s. export_told before after was now a.behind file dir a.ending a.ends status (line_of_export 1 s (λ z. omega (arith, z)))
          (own (Some (Export file dir)) a 1 s (λ z. omega (arith, z)));
      bad = λ s. export_bad before after was now a.behind file dir a.ending a.ends status (line_of_export 6 s (λ z. omega (arith, z)))
          (own (Some (Export file dir)) a 6 s (λ z. omega (arith, z)));
      line = line_alone file before.err a.behind after.err a.ending status a.ends.err a.told;
      causes = has_its_status (OfText (before.content file) (OfStore dir before)) (of_export.AreTold file dir before)
          (IsFault (FileRose file before after) (DiskRose dir before.disk after.disk) before after) status (one_of_export file dir before)
          (told_cause (OfText (before.content file) (OfStore dir before) status) (FileRose file before after) (DiskRose dir before.disk after.disk) a.behind (line_of file a.ending)
          (status_of a.ending) a.told (not_fewer before.err a.behind a.ends.err) (λ is. export_cause before after was now a.behind file dir a.ending a.ends status is));
    }

  -- ---- an audit

  module _ (file run : List ℕ) (a : Answers limit (Some (Audit file run)) before after was now status) where
    -- the line was written behind what the error stream held before
    line_of_audit : (n : ℕ) → status ≡ n → (4 ≡ n → ⊥) → Appends before.err.held after.err.held (line_of file a.ending)
    line_of_audit n s d = subst (λ (o : Output). Appends o.held after.err.held (line_of file a.ending)) a.ends.err (line (Some (Audit file run)) a n s d)

    pub audit_promise : AuditPromise limit file run before after status
    audit_promise = record {
      input = a.ends.input;
      outside = a.ends.outside;
      verdict = λ one. audit_verdict limit before after a.behind file run a.ending a.ends status (own_or_unwritten (Some (Audit file run)) a) one
          (line_of_audit status refl (λ four. not_unwritten status one (sym four)));
      told = λ s. audit_told limit before after a.behind file run a.ending a.ends status s (own (Some (Audit file run)) a 1 s (λ z. omega (arith, z)))
          (line_of_audit 1 s (λ z. omega (arith, z)));
      front = audit_front limit before after a.behind file run a.ending a.ends;
      nothing = audit_nothing limit before after a.behind file run a.ending a.ends status (own_or_unwritten (Some (Audit file run)) a);
      line = line_alone file before.err a.behind after.err a.ending status a.ends.err a.told;
      causes = has_its_status (OfText (before.content file) (OfRun limit run before)) (AreTold file run before) (IsFault (FilesRose file run before after) ⊥ before after) status
          (one_of_audit limit file run before)
          (told_cause (OfText (before.content file) (OfRun limit run before) status) (FilesRose file run before after) ⊥ a.behind (line_of file a.ending) (status_of a.ending) a.told
          (not_fewer before.err a.behind a.ends.err) (λ is. audit_cause limit before after a.behind file run a.ending a.ends status is));
    }
