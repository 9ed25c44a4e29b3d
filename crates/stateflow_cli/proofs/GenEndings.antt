-- How generated work ends, by its status.
use Rattle.std.proofs.Common.{◌≡◌, ℕ, ◌⊎◌, inl, inr, List, [], Ok, Err, refl, sym, subst, arith}
use Rattle.std.proofs.KnownBytes.{Keeps-refl}
use Rattle.std.specs.Prelude.{alloc_error}
use Rattle.std.specs.declared.option.Option.{Option}
use Rattle.std.specs.declared.alloc.AllocError.{AllocError}
use Rattle.std.specs.Io.KnownBytes.{Appends, Keeps}
use Rattle.std.specs.declared.result.Result.{Result}
use Rattle.sf_outside.specs.Bytes.{AppendsPrefix}
use Rattle.sf_outside.specs.Causes.{Rose}
use Rattle.work_gen.specs.Requests as work
use Rattle.operator_graph.specs.Turns.{Outside}
use Rattle.block_step.specs.declared.compiled.Compiled.{Compiled}
use Rattle.entity_compiler.specs.Compiling.{IsCompiledOf}
use Rattle.batch_run.proofs.Vocabulary.{prefix_whole}
use Rattle.generated_run.specs.declared.running.GenSettings.{GenSettings}
use Rattle.generated_run.specs.declared.summing.Summary.{Summary}
use Rattle.generated_run.specs.Summaries.{summary_line}
use Rattle.generated_run.specs.Generated.{SumsUp, GivesUp, Gives, service_by, input_of, batch_cores}
use Rattle.batch_run.proofs.EventLaws.{run_have_begun}
use Rattle.command_words.specs.Commands as words
use Rattle.stateflow_cli.specs.Words.{Gen}
use Rattle.stateflow_cli.specs.Deeds.{file_of}
use Rattle.stateflow_cli.specs.Devices.{Devices, Input, Output, StoreDisk, devices, with_err, IsIdle, AreUnread}
use Rattle.stateflow_cli.specs.Endings.{PrintsSummary, PrintsSummaryFront, IsGivenUp, GenEnds, work_for}
use Rattle.stateflow_cli.specs.Causes.{IsFault, WasUnwritten, WantedMemory}
use Rattle.stateflow_cli.specs.GenClauses.{TellsWork, WorkTells}
use Rattle.stateflow_cli.specs.StatusLines.{status_of, line_of}
use Rattle.stateflow_cli.specs.declared.ending.Ending.{Ending}
use Rattle.stateflow_cli.specs.declared.ending.Ending.TheVariants.{Misused, Refused, FileFault, NoMemory, Printed, Unprinted, Served, Stopped, Unopened, Found}

module _ (s : words.GenSettings) (before after : Devices) (behind : Output) where
  abbrev mid : Devices
  mid = with_err behind after

  -- it ends in one of three ways
  by_ending : (P : Ending → Type 0) → (PrintsSummary s before mid → P Printed)
      → (PrintsSummaryFront s before mid × Rose before.out.faults after.out.faults → P Unprinted) → (IsGivenUp s before mid → P NoMemory)
      → (e : Ending) → GenEnds s before mid e → P e
  by_ending P whole front none Misused ends = absurd ends.sums
  by_ending P whole front none (Refused fault) ends = absurd ends.sums
  by_ending P whole front none FileFault ends = absurd ends.sums
  by_ending P whole front none NoMemory ends = none ends.sums
  by_ending P whole front none Printed ends = whole ends.sums
  by_ending P whole front none Unprinted ends = front ends.sums
  by_ending P whole front none Served ends = absurd ends.sums
  by_ending P whole front none (Stopped stop) ends = absurd ends.sums
  by_ending P whole front none (Unopened stop) ends = absurd ends.sums
  by_ending P whole front none (Found finding) ends = absurd ends.sums

  printed_whole : PrintsSummary s before mid → PrintsSummary s before after
  printed_whole p = record { summary = p.summary; gives = p.gives; wrote = p.wrote }

  printed_front : PrintsSummaryFront s before mid → PrintsSummaryFront s before after
  printed_front p = record { summary = p.summary; gives = p.gives; front = p.front }

  kept_out : after.out ≡ before.out → Keeps before.out.held after.out.held
  kept_out same = subst (λ (o : Output). Keeps before.out.held o.held) (sym same) (Keeps-refl before.out.held)

  kept_input : after.input ≡ before.input → Keeps before.input.left after.input.left
  kept_input same = subst (λ (i : Input). Keeps before.input.left i.left) (sym same) (Keeps-refl before.input.left)

  -- why it has its status
  pub gen_cause : (status : ℕ) (e : Ending) → GenEnds s before mid e → status ≡ status_of e → (status ≡ 0) ⊎ IsFault ⊥ ⊥ before after status
  gen_cause status e ends n =
      by_ending (λ e. status ≡ status_of e → (status ≡ 0) ⊎ IsFault ⊥ ⊥ before after status) (λ p m. inl m) (λ p m. inr (WasUnwritten m (inl p.1)))
      (λ g m. inr (WantedMemory m)) e ends n

  -- By the status

  pub gen_status : (e : Ending) (status : ℕ) → GenEnds s before mid e → status ≡ status_of e → (status ≡ 0) ⊎ ((status ≡ 4) ⊎ (status ≡ 8))
  gen_status e status ends n =
      by_ending (λ e. status ≡ status_of e → (status ≡ 0) ⊎ ((status ≡ 4) ⊎ (status ≡ 8))) (λ p m. inl m) (λ p m. inr (inl m)) (λ g m. inr (inr m)) e ends n

  -- what was printed with the first
  pub gen_done : (e : Ending) (said said' : Option (List ℕ)) → GenEnds s before mid e → Appends said said' (line_of (file_of (Gen s)) e) → status_of e ≡ 0
      → PrintsSummary s before after × Appends said said' []
  gen_done e said said' ends wrote n =
      by_ending (λ e. Appends said said' (line_of (file_of (Gen s)) e) → status_of e ≡ 0 → PrintsSummary s before after × Appends said said' [])
      (λ p line m. (printed_whole p, line)) (λ p line m. absurd (omega (arith, m))) (λ g line m. absurd (omega (arith, m))) e ends wrote n

  -- Whatever the status

  pub gen_prints : (e : Ending) → GenEnds s before mid e → Keeps before.out.held after.out.held ⊎ PrintsSummaryFront s before after
  gen_prints e ends =
      by_ending (λ e. Keeps before.out.held after.out.held ⊎ PrintsSummaryFront s before after)
      (λ p. inr (record { summary = p.summary; gives = p.gives; front = prefix_whole before.out.held after.out.held (summary_line p.summary) p.wrote }))
      (λ p. inr (printed_front p.0)) (λ g. inl (kept_out g.out)) e ends

  pub gen_silent : (e : Ending) → GenEnds s before mid e → (status_of e ≡ 0 → ⊥) → (status_of e ≡ 4 → ⊥) → Keeps before.out.held after.out.held
  gen_silent e ends a b =
      by_ending (λ e. (status_of e ≡ 0 → ⊥) → (status_of e ≡ 4 → ⊥) → Keeps before.out.held after.out.held) (λ p first fourth. absurd (first refl))
      (λ p first fourth. absurd (fourth refl)) (λ g first fourth. kept_out g.out) e ends a b

  pub gen_unread : (e : Ending) → GenEnds s before mid e → AreUnread before after
  gen_unread e ends = record { content = ends.unread.content; file_faults = ends.unread.file_faults; input = ends.unread.input }

  -- what was chosen and told

  module _ (status : ℕ) where
    summed_told : (summary : Summary) (compiled : Compiled) → IsCompiledOf work.program compiled
        → SumsUp (work_for s) compiled summary before.outside after.outside → TellsWork s before after status
    summed_told summary compiled is t =
        let v = service_by (work_for s) compiled in
        record {
          compiled = compiled;
          is = is;
          started = t.started;
          starts = t.starts;
          counts = t.served.counts;
          begun = run_have_begun v (batch_cores v (input_of (work_for s))) t.served.counts t.started after.outside t.served.ran;
          whole = λ n. t.served.ran;
          outcomes = t.outcomes;
        }

    given_up_told : (status ≡ 0 → ⊥) → (compiled : Compiled) → IsCompiledOf work.program compiled
        → GivesUp (work_for s) compiled before.outside after.outside → TellsWork s before after status
    given_up_told not compiled is t = record {
      compiled = compiled;
      is = is;
      started = t.started;
      starts = t.starts;
      counts = t.served.counts;
      begun = t.served.begun_on;
      whole = λ n. absurd (not n);
      outcomes = t.outcomes;
    }

    -- memory was wanted before anything was begun, or behind that
    given_up : (status ≡ 0 → ⊥) → IsIdle before after
        → (after.outside ≡ before.outside) ⊎ ((compiled : Compiled) × IsCompiledOf work.program compiled × GivesUp (work_for s) compiled before.outside after.outside)
        → WorkTells s before after status
    given_up not idle (inl same) = inl (idle, same)
    given_up not idle (inr t) = inr (given_up_told not t.0 t.1 t.2)

    pub gen_tells : (e : Ending) → ((status ≡ 4 → ⊥) → status ≡ status_of e) → GenEnds s before mid e → WorkTells s before after status
    gen_tells e own ends =
        by_ending (λ e. ((status ≡ 4 → ⊥) → status ≡ status_of e) → WorkTells s before after status) (λ p is. inr (summed_told p.summary p.gives.0 p.gives.1 p.gives.2))
        (λ p is. inr (summed_told p.0.summary p.0.gives.0 p.0.gives.1 p.0.gives.2))
        (λ g is. given_up (λ n. omega (arith, n, is (λ m. omega (arith, n, m)))) (record { left = kept_input ends.unread.input; held = kept_out g.out }) g.gives) e ends own

-- From a run on generated work to how it ends the call

module _ (w : words.GenSettings) (made : GenSettings) (same : made ≡ work_for w) (content : List ℕ → Option (List ℕ)) (file_faults : List ℕ → ℕ) (input : Input) (err : Output) (disk : StoreDisk) (old new : Outside) where
  given_for : (result : Result Summary AllocError) → Gives made result old new → Gives (work_for w) result old new
  given_for result g = subst (λ (x : GenSettings). Gives x result old new) same g

  unread_beside : (out out' : Output) → AreUnread (devices content file_faults input out err old disk) (devices content file_faults input out' err new disk)
  unread_beside out out' = record { content = refl; file_faults = refl; input = refl }

  pub work_given_up : (out : Output) → Gives made (Err alloc_error) old new
      → GenEnds w (devices content file_faults input out err old disk) (devices content file_faults input out err new disk) NoMemory
  work_given_up out g = record { unread = unread_beside out out; err = refl; sums = record { gives = given_for (Err alloc_error) g; out = refl } }

  pub work_printed : (out out' : Output) (summary : Summary) → Gives made (Ok summary) old new → Appends out.held out'.held (summary_line summary)
      → GenEnds w (devices content file_faults input out err old disk) (devices content file_faults input out' err new disk) Printed
  work_printed out out' summary g wrote = record {
    unread = unread_beside out out';
    err = refl;
    sums = record { summary = summary; gives = given_for (Ok summary) g; wrote = wrote };
  }

  pub work_printed_in_part : (out out' : Output) (summary : Summary) → Gives made (Ok summary) old new → AppendsPrefix out.held out'.held (summary_line summary)
      → Rose out.faults out'.faults → GenEnds w (devices content file_faults input out err old disk) (devices content file_faults input out' err new disk) Unprinted
  work_printed_in_part out out' summary g front rose = record {
    unread = unread_beside out out';
    err = refl;
    sums = (record { summary = summary; gives = given_for (Ok summary) g; front = front }, rose);
  }
