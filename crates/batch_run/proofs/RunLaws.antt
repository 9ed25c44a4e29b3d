-- From an engine, and the session that it served, to what the run has done.
use Rattle.std.proofs.Common.{◌≡◌, ℕ, ◌^◌, ◌≤◌, ◌<◌, List, length, Err, refl, subst}
use Rattle.std.specs.declared.option.Option.{Option}
use Rattle.std.specs.declared.result.Result.{Result}
use Rattle.sf_outside.specs.DiskModel.{DiskFacts}
use Rattle.block_step.specs.declared.compiled.Compiled.{Compiled}
use Rattle.block_step.specs.CompiledViews.{IsWhole}
use Rattle.operator_graph.specs.Turns.{Outside}
use Rattle.aria_batch.specs.BatchRun as batch
use Rattle.engine.specs.declared.engine.Engine.{Engine}
use Rattle.engine.specs.Cores.{Core, CoreFits, IsSoundCore}
use Rattle.engine.specs.EngineViews.{core_of, limit_of, RunsProgram}
use Rattle.batch_session.specs.Vocabulary.{Tally, Store, StoreSettings, service_of, limits_of}
use Rattle.batch_session.specs.declared.serving.SessionFault.{SessionFault}
use Rattle.batch_session.specs.StopVariants as stop
use Rattle.batch_session.specs.declared.serving.SessionFault.TheVariants.{WriteFault}
use Rattle.batch_session.specs.InTurn.{IsInTurn}
use Rattle.batch_session.specs.Served.{View, first_point, point_at, Served, ServedInTurn}
use Rattle.batch_session.proofs.ServeLaws.{unwritten_told}
use Rattle.batch_run.specs.RunViews.{Shown, run_service, rule_of}
use Rattle.batch_run.specs.RunEvents.{Starts}
use Rattle.batch_run.specs.Runs.{IsSerialRun, Ran, RanLogged}
use Rattle.batch_run.specs.declared.running.RunSettings.{RunSettings}
use Rattle.batch_run.proofs.TextLaws.{at_begin, served_in_part, served_prints}
use Rattle.batch_run.proofs.StandingLaws.{tables, goes_on, each_takes_writes}
use Rattle.batch_run.proofs.SerialLaws.{serial_session, replies_by}
use Rattle.batch_run.proofs.EventLaws.{served_tells}

abbrev pub shown_by : View → Shown
shown_by view = record { left = view.left; held = view.held; handed = view.handed; said = view.traced; outside = view.outside }

module _ (compiled : Compiled) (s : RunSettings) (result : Result Tally SessionFault) (whole : IsWhole compiled) (few : s.batch ≤ 256) (start : Core)
    (fits : CoreFits (tables compiled s few) start) (waiting : length start.pending < 256) (limit : s.limit ≤ 2 ^ 62) (store : Option StoreSettings) (left held handed said : Option (List ℕ)) (before started : Outside)
    (new : View) (logged logged' : Core) (f g : DiskFacts) (kept : Option Store) where
  abbrev old : View
  old = at_begin start left held handed said started

  abbrev first : Shown
  first = record { left = left; held = held; handed = handed; said = said; outside = before }

  abbrev ServedSo : Type 0
  ServedSo = Served (run_service compiled s) s.trace store s.limit result old new logged logged' f g

  serial : ServedSo → IsSoundCore (batch.source_of compiled) start → IsSerialRun compiled s start new.core result first (shown_by new)
  serial t sound =
      let runs = serial_session compiled s few t.stop t.steps (first_point old) (point_at new t.lines t.tally) t.came refl sound waiting in
      record {
        prints = runs.0;
        replies = replies_by (batch.source_of compiled) s start new.core held new.held (t.stop ≡ Err stop.WriteFault) (result ≡ Err WriteFault)
            (unwritten_told result t.ended t.stop t.ends t.is_stop) runs.1;
      }

  begun_so : Starts compiled s before started → ServedInTurn (run_service compiled s) s.trace store s.limit result old new logged logged' f g kept
      → RanLogged compiled s store start new.core result first (shown_by new) logged logged' f g kept
  begun_so starts by =
      let t = by.served in
      let told = served_tells compiled whole s few start fits waiting limit store left held handed said before started starts new logged logged' f g result t in
      record {
        ran = record {
          taken = t.taken;
          consumed = t.consumed;
          ended = t.ended;
          ends = t.ends;
          steps = t.steps;
          of_taken = t.of_taken;
          prints = served_prints compiled s start store left held handed said started new logged logged' f g result t;
          answers = served_in_part compiled s start store left held handed said started new logged logged' f g result t;
          tells = told.tells;
          goes_on = goes_on compiled s few start fits waiting t.steps new.core _ told.tells.ended;
          writes = each_takes_writes compiled s few start fits waiting t.steps;
          serial = serial t;
        };
        logs = t.logs;
        in_turn = subst (λ (tally : Tally). IsInTurn s.trace result kept tally.batches) told.tally_is by.in_turn;
      }

-- an engine with this core, of this program
pub runs_so : (compiled : Compiled) → IsWhole compiled → (s : RunSettings) (result : Result Tally SessionFault) (few : s.batch ≤ 256) (e : Engine) → RunsProgram e compiled s.history
    → CoreFits (tables compiled s few) (core_of e) → length (core_of e).pending < 256 → s.limit ≤ 2 ^ 62 → (store : Option StoreSettings) (left held handed said : Option (List ℕ)) (before started : Outside) (new : View)
    (logged logged' : Core) (f g : DiskFacts) (kept : Option Store) → Starts compiled s before started
    → ServedInTurn (service_of e (rule_of s) s.batch s.partitions) s.trace store s.limit result (at_begin (core_of e) left held handed said started) new logged logged' f g kept
    → RanLogged compiled s store (core_of e) new.core result (record { left = left; held = held; handed = handed; said = said; outside = before }) (shown_by new) logged logged' f g kept
runs_so compiled whole s result few e runs fits waiting limit store left held handed said before started new logged logged' f g kept starts served =
    let of_compiled = subst (λ (c : Compiled). ServedInTurn (record { compiled = c; parts = s.partitions; rule = (rule_of s); limits = limits_of s.batch (limit_of e) })
    s.trace store s.limit result (at_begin (core_of e) left held handed said started) new logged logged' f g kept) runs.compiled_is served in
    let of_limit = subst (λ (n : ℕ). ServedInTurn (record { compiled = compiled; parts = s.partitions; rule = (rule_of s); limits = limits_of s.batch n })
    s.trace store s.limit result (at_begin (core_of e) left held handed said started) new logged logged' f g kept) runs.limit_is of_compiled in
    begun_so compiled s result whole few (core_of e) fits waiting limit store left held handed said before started new logged logged' f g kept starts of_limit

-- the same program, from the same core
pub ran_from : (compiled made : Compiled) (s : RunSettings) (start core last : Core) (result : Result Tally SessionFault) (old new : Shown) → made ≡ compiled
    → core ≡ start → Ran made s core last result old new → Ran compiled s start last result old new
ran_from compiled made s start core last result old new program same ran =
    subst (λ c. Ran compiled s c last result old new) same (subst (λ (k : Compiled). Ran k s core last result old new) program ran)
