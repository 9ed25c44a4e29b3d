-- A run on generated work, from its start to its sums.
use Rattle.std.proofs.Common.{◌≡◌, ℕ, ◌≤◌, inl, inr, Option, Ok, Err, List, [], ◌∷◌, IfOk, subst, arith}
use Rattle.std.specs.declared.result.Result.{Result}
use Rattle.std.specs.declared.alloc.AllocError.{AllocError}
use Rattle.py_tree.specs.ClassRules.{PlainTable}
use Rattle.work_gen.specs.Requests as work
use Rattle.entity_compiler.specs.Compiling.{IsCompiledOf}
use Rattle.block_code.specs.PlainBlocks.{PlainBlock}
use Rattle.block_step.specs.declared.compiled.Compiled.{Compiled}
use Rattle.block_step.specs.CompiledViews.{IsWhole, compiled_program, compiled_names}
use Rattle.operator_graph.specs.Telling.{Told, AlsoTold, GraphTold}
use Rattle.operator_graph.specs.Turns.{Outside}
use Rattle.engine.specs.Cores.{Core, empty_core}
use Rattle.engine.proofs.EmptyLaws.{empty_fits}
use Rattle.batch_session.specs.Vocabulary.{Tally, Service, all_steps}
use Rattle.batch_run.specs.BatchOutcomes.{CommitsWhatEnded}
use Rattle.batch_run.proofs.EventLaws.{run_have_begun}
use Rattle.batch_run.proofs.OutcomeLaws.{fitting_commits}
use Rattle.batch_run.proofs.StandingLaws.{each_fitting}
use Rattle.generated_run.specs.declared.running.GenSettings.{GenSettings}
use Rattle.generated_run.specs.declared.summing.Summary.{Summary}
use Rattle.generated_run.specs.Summaries.{counted_by, IsSummary}
use Rattle.generated_run.specs.Generated.{service_by, input_of, batch_cores, ServesSome, Serves, EachCommitsWhatEnded, Starts, Comes, Gives}
use Rattle.generated_run.proofs.CountedRuns.{run_of, counts_plain}

-- the graph that was told is the one of these tables and blocks
pub told_as : (old new : Option (List Told)) (tables tables' : List PlainTable) (blocks blocks' : List (List PlainBlock)) → tables ≡ tables' → blocks ≡ blocks'
    → AlsoTold old new (GraphTold tables blocks ∷ []) → AlsoTold old new (GraphTold tables' blocks' ∷ [])
told_as old new tables tables' blocks blocks' same_tables same_blocks told =
    subst (λ t. AlsoTold old new (GraphTold t blocks' ∷ [])) same_tables (subst (λ b. AlsoTold old new (GraphTold tables b ∷ [])) same_blocks told)

-- nothing waits where the work begins, so each of its batches runs on a core that fits
each_commits : (s : GenSettings) (compiled : Compiled) → IsWhole compiled → s.batch ≤ 256 → EachCommitsWhatEnded s compiled
each_commits s compiled whole few =
    each_fitting compiled (run_of s) few empty_core (empty_fits (compiled_names compiled) (compiled_program compiled)) (omega arith) (CommitsWhatEnded compiled s.parts)
    (λ core fits. fitting_commits compiled whole core fits s.parts) (all_steps (service_by s compiled) empty_core (input_of s))

module _ (s : GenSettings) (compiled made : Compiled) (same : made ≡ compiled) (whole : IsWhole compiled) (least : s.size ≤ 100000) (few : s.batch ≤ 256)
    (input : List ℕ) (is : input ≡ input_of s) (old started new : Outside) (starts : Starts s compiled old started) where
  -- the session wanted memory
  pub came_short : ServesSome (service_by s made) input started new → (error : AllocError) → Comes s compiled (Err error) old new
  came_short some error = inr record {
    started = started;
    starts = starts;
    served =
        subst (λ c. ServesSome (service_by s c) (input_of s) started new) same
        (subst (λ bytes. ServesSome (service_by s made) bytes started new) is some);
    outcomes = each_commits s compiled whole few;
  }

  -- it served all, and that was summed up, or memory was wanted for the sum
  pub came : (core : Core) (tally : Tally) → Serves (service_by s made) input (Ok tally) core started new → (r : Result Summary AllocError)
      → IfOk r (λ summary. IsSummary s.size core (counted_by tally) summary) → Comes s compiled r old new
  came core tally all (Ok summary) sums =
      let served : Serves (service_by s compiled) (input_of s) (Ok tally) core started new =
      subst (λ c. Serves (service_by s c) (input_of s) (Ok tally) core started new) same
      (subst (λ bytes. Serves (service_by s made) bytes (Ok tally) core started new) is all) in
      record {
        started = started;
        starts = starts;
        core = core;
        served = served.0;
        summed =
            subst (λ counted. IsSummary s.size core counted summary)
            (counts_plain s compiled whole least few served.0.counts started new served.0.ran tally served.1) sums;
        outcomes = each_commits s compiled whole few;
      }
  came core tally all (Err error) sums =
      let v : Service = service_by s made in
      came_short (record { counts = all.0.counts; begun_on = run_have_begun v (batch_cores v input) all.0.counts started new all.0.ran }) error

-- what came of a compiled program came of the bank's, where that is the one
pub of_bank : (s : GenSettings) (compiled : Compiled) (old new : Outside) → IsCompiledOf work.program compiled → (r : Result Summary AllocError)
    → Comes s compiled r old new → Gives s r old new
of_bank s compiled old new is (Ok summary) sums = (compiled, is, sums)
of_bank s compiled old new is (Err error) (inl nothing) = inl nothing
of_bank s compiled old new is (Err error) (inr some) = inr (compiled, is, some)
