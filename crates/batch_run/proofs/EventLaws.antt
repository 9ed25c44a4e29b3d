-- From what a session in batches came to, to what a run told and traced.
use Rattle.std.proofs.Common.{◌≡◌, ℕ, ◌+◌, ◌^◌, ◌≤◌, ◌<◌, ◌⊎◌, length, inl, inr, List, [], ◌∷◌, Ok, Err, refl, sym, ap, ◌∙◌, subst, append-nil, arith}
use Rattle.std.specs.List.{AllByRecursion}
use Rattle.std.specs.declared.option.Option.{Option}
use Rattle.std.specs.declared.result.Result.{Result}
use Rattle.sf_outside.specs.Bytes.{AppendsPrefix}
use Rattle.sf_outside.specs.DiskModel.{DiskFacts}
use Rattle.block_step.specs.declared.compiled.Compiled.{Compiled}
use Rattle.block_step.specs.CompiledViews.{IsWhole}
use Rattle.operator_graph.specs.Turns.{Outside}
use Rattle.engine.specs.Cores.{Core, CoreFits}
use Rattle.batch_output.specs.BatchOutput.{Standing}
use Rattle.batch_session.specs.Vocabulary.{Tally, Step, no_batch, tally_after, trace_text, RunBatches, BeginBatches, AreCounted, ToldAs, TracedAs, Stop, Service, StoreSettings, BatchCounts, Point, Does, Comes}
use Rattle.batch_session.specs.StopVariants as stop
use Rattle.batch_session.specs.declared.serving.SessionFault.{SessionFault}
use Rattle.batch_session.specs.declared.serving.SessionFault.TheVariants.{ReadFault, WriteFault, DiskFault, InputTooLong, HistoryFull, NoMemory}
use Rattle.batch_session.specs.Served.{View, first_point, point_at, Served}
use Rattle.batch_run.specs.RunViews.{Shown, run_service}
use Rattle.batch_run.specs.RunEvents.{Starts, AreTold, TellsBatches, TracesBatches, TellsRun, batches_of}
use Rattle.batch_run.specs.BatchOutcomes.{CommitsWhatEnded}
use Rattle.batch_run.specs.declared.running.RunSettings.{RunSettings}
use Rattle.batch_session.proofs.Vocabulary.{comes_begin, counts_of_each}
use Rattle.batch_session.proofs.ServeLaws.{EndedAt, ended_at, some_steps}
use Rattle.batch_run.proofs.StandingLaws.{tables, each_fitting}
use Rattle.batch_run.proofs.FewBatches.{few_batches, few_told}
use Rattle.batch_run.proofs.OutcomeLaws.{fitting_commits}
use Rattle.batch_run.proofs.TextLaws.{whole_is_prefix, at_begin}

-- batches that were run have begun
pub run_have_begun : (v : Service) (cores : List Core) (counts : List BatchCounts) (old new : Outside) → RunBatches v cores counts old new → BeginBatches v cores counts old new
run_have_begun v [] [] old new h = h
run_have_begun v [] (c ∷ more) old new h = absurd h
run_have_begun v (core ∷ cores) [] old new h = absurd h
run_have_begun v (core ∷ cores) (c ∷ more) old new h = (h.0, h.1, run_have_begun v cores more h.0 new h.2)

begun_as : (v : Service) (r : Result (Unit {0}) Stop) (cores : List Core) (counts : List BatchCounts) (old new : Outside) → ToldAs v r cores counts old new → BeginBatches v cores counts old new
begun_as v (Ok value) cores counts old new h = run_have_begun v cores counts old new h
begun_as v (Err stop.HistoryFull) cores counts old new h = run_have_begun v cores counts old new h
begun_as v (Err stop.NoMemory) cores counts old new h = h
begun_as v (Err stop.DiskFault) cores counts old new h = h
begun_as v (Err stop.WriteFault) cores counts old new h = h

traced_in_part : (r : Result (Unit {0}) Stop) (a b : Option (List ℕ)) (text : List ℕ) → TracedAs r a b text → AppendsPrefix a b text
traced_in_part (Ok value) a b text h = whole_is_prefix a b text h
traced_in_part (Err stop.HistoryFull) a b text h = whole_is_prefix a b text h
traced_in_part (Err stop.NoMemory) a b text h = whole_is_prefix a b text h
traced_in_part (Err stop.DiskFault) a b text h = whole_is_prefix a b text h
traced_in_part (Err stop.WriteFault) a b text h = h

told_in_part : (r : Result (Unit {0}) Stop) (told ran : ℕ) → AreCounted r told ran → (told ≡ ran) ⊎ (told + 1 ≡ ran)
told_in_part (Ok value) told ran h = inl h
told_in_part (Err stop.HistoryFull) told ran h = inl h
told_in_part (Err stop.NoMemory) told ran h = inl h
told_in_part (Err stop.DiskFault) told ran h = inl h
told_in_part (Err stop.WriteFault) told ran h = h

told_within : (r : Result (Unit {0}) Stop) (told ran : ℕ) → AreCounted r told ran → told ≤ ran
told_within r told ran h = by (told_in_part r told ran h)
  where
    by : (told ≡ ran) ⊎ (told + 1 ≡ ran) → told ≤ ran
    by (inl same) = omega (arith, same)
    by (inr less) = omega (arith, less)

module _ (compiled : Compiled) (whole : IsWhole compiled) (s : RunSettings) (few : s.batch ≤ 256) (start : Core) (fits : CoreFits (tables compiled s few) start)
    (waiting : length start.pending < 256) (limit : s.limit ≤ 2 ^ 62) (store : Option StoreSettings) (left held handed said : Option (List ℕ)) (before started : Outside) (starts : Starts compiled s before started)
    (new : View) (logged logged' : Core) (f g : DiskFacts) where
  abbrev v : Service
  v = run_service compiled s

  abbrev old : View
  old = at_begin start left held handed said started

  abbrev first : Shown
  first = record { left = left; held = held; handed = handed; said = said; outside = before }

  abbrev last : Shown
  last = record { left = new.left; held = new.held; handed = new.handed; said = new.traced; outside = new.outside }

  abbrev ServedBy : Result Tally SessionFault → Type 0
  ServedBy result = Served v s.trace store s.limit result old new logged logged' f g

  -- what was told, of which the tally counts the batches
  pub record TellsCounted (steps : List Step) (result : Result Tally SessionFault) (tally : Tally) : Type 0 where
    pub tells : TellsRun compiled s start new.core steps result first last
    pub tally_is : tally ≡ tally_after no_batch tells.counts

  outcomes_so : (steps : List Step) → AllByRecursion (CommitsWhatEnded compiled s.partitions) (batches_of compiled s start steps)
  outcomes_so steps =
      each_fitting compiled s few start fits waiting (CommitsWhatEnded compiled s.partitions) (λ core there. fitting_commits compiled whole core there s.partitions) steps

  few_so : (result : Result Tally SessionFault) (t : ServedBy result) → length (batches_of compiled s start t.steps) < 2 ^ 63
  few_so result t =
      few_batches compiled s few start fits waiting t.taken new.left t.steps limit (some_steps v s.limit t.ended start t.taken new.left t.steps t.of_taken)

  -- where it came to this
  tells : (fault : SessionFault) (t : ServedBy (Err fault)) (r : Result (Unit {0}) Stop) → t.stop ≡ r
      → ((counts : List BatchCounts) → ToldAs v r (batches_of compiled s start t.steps) counts started new.outside
      → TellsBatches compiled s (Err fault) (batches_of compiled s start t.steps) counts started new.outside)
      → ((counts : List BatchCounts) → TracedAs r said new.traced (trace_text s.trace no_batch counts)
      → TracesBatches compiled s (Err fault) counts said new.traced)
      → ((told ran : ℕ) → AreCounted r told ran → AreTold (Err fault) told ran) → TellsCounted t.steps (Err fault) t.tally
  tells fault t r is told traced counted =
      let end : Point = point_at new t.lines t.tally in
      let h = comes_begin v s.trace r t.steps (first_point old) end (subst (λ (x : Result (Unit {0}) Stop). Comes v s.trace x t.steps (first_point old) end) is t.came) in
      record {
        tells = record {
          started = started;
          starts = starts;
          counts = h.counts;
          few = few_told compiled s few start fits waiting (length h.counts) t.steps h.ended.first h.ended.rest h.ended.split (few_so (Err fault) t)
              (told_within r (length h.counts) (length (batches_of compiled s start h.ended.first)) h.ended.ran);
          told = told h.counts h.told;
          traced = traced h.counts h.traced;
          counted = tt;
          flushes = h.flushes;
          ended = record {
            first = h.ended.first;
            rest = h.ended.rest;
            split = h.ended.split;
            core = h.ended.core;
            ran = counted (length h.counts) (length (batches_of compiled s start h.ended.first)) h.ended.ran;
          };
          lacks = h.lacks;
          outcomes = outcomes_so t.steps;
        };
        tally_is = h.tally;
      }

  -- all was served
  tells_all : (tally : Tally) (t : ServedBy (Ok tally)) → t.stop ≡ Ok (tt {0}) → TellsCounted t.steps (Ok tally) t.tally
  tells_all tally t is =
      let end : Point = point_at new t.lines t.tally in
      let did : Does v s.trace t.steps (first_point old) end =
      subst (λ (x : Result (Unit {0}) Stop). Comes v s.trace x t.steps (first_point old) end) is t.came in
      record {
        tells = record {
          started = started;
          starts = starts;
          counts = did.counts;
          few =
              let each : length did.counts ≡ length (batches_of compiled s start t.steps) =
              counts_of_each v (batches_of compiled s start t.steps) did.counts started new.outside did.ran in
              let most = few_so (Ok tally) t in
              omega (arith, each, most);
          told = did.ran;
          traced = did.traced;
          counted = sym t.counted ∙ did.tally;
          flushes = did.flushes;
          ended = record {
            first = t.steps;
            rest = [];
            split = sym (append-nil t.steps);
            core = inl (sym (ap (λ (x : Standing). x.core) did.stands));
            ran = counts_of_each v (batches_of compiled s start t.steps) did.counts started new.outside did.ran;
          };
          lacks = inl did.traced;
          outcomes = outcomes_so t.steps;
        };
        tally_is = did.tally;
      }

  abbrev Known : (result : Result Tally SessionFault) → ServedBy result → Result (Unit {0}) SessionFault → Type 0
  Known result t e = EndedAt v s.trace store s.limit result old new logged logged' f g t e

  known : (result : Result Tally SessionFault) (t : ServedBy result) (e : Result (Unit {0}) SessionFault) → t.ended ≡ e → Known result t e
  known result t e same = ended_at v s.trace store s.limit result old new logged logged' f g t e same

  pub served_tells : (result : Result Tally SessionFault) (t : ServedBy result) → TellsCounted t.steps result t.tally
  served_tells (Ok tally) t = tells_all tally t (known (Ok tally) t (Ok (tt {0})) t.ends).is_stop
  served_tells (Err ReadFault) t =
      tells ReadFault t (Ok (tt {0})) (known (Err ReadFault) t (Err ReadFault) t.ends).is_stop (λ counts h. h) (λ counts h. h) (λ told ran h. h)
  served_tells (Err InputTooLong) t =
      tells InputTooLong t (Ok (tt {0})) (known (Err InputTooLong) t (Err InputTooLong) t.ends).is_stop (λ counts h. h) (λ counts h. h) (λ told ran h. h)
  served_tells (Err HistoryFull) t =
      tells HistoryFull t (Err stop.HistoryFull) (known (Err HistoryFull) t (Err HistoryFull) t.ends).is_stop (λ counts h. h) (λ counts h. h) (λ told ran h. h)
  served_tells (Err NoMemory) t =
      tells NoMemory t (Err stop.NoMemory) (known (Err NoMemory) t (Err NoMemory) t.ends).is_stop (λ counts h. h) (λ counts h. h) (λ told ran h. h)
  served_tells (Err DiskFault) t =
      tells DiskFault t (Err stop.DiskFault) (known (Err DiskFault) t (Err DiskFault) t.ends).is_stop (λ counts h. h) (λ counts h. h) (λ told ran h. h)
  served_tells (Err WriteFault) t =
      tells WriteFault t t.stop refl (λ counts h. begun_as v t.stop _ counts started new.outside h) (λ counts h. traced_in_part t.stop said new.traced _ h)
      (λ told ran h. told_in_part t.stop told ran h)
