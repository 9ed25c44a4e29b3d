use Rattle.std.proofs.Common.{◌≡◌, ℕ, ◌≤◌, arith, List, length, Some, None, inl, inr, refl, sym, ap, subst}
use Rattle.std.specs.declared.result.Result.{Result}
use Rattle.std.specs.declared.alloc.AllocError.{AllocError}
use Rattle.sf_outside.specs.DiskModel.{untold}
use Rattle.work_gen.specs.Requests as work
use Rattle.reservations.specs.BatchRule.{batch_rule}
use Rattle.reservations.specs.BatchRuleLaws.{batch_rule_is_lawful}
use Rattle.engine.specs.EngineViews.{core_of, source_of, compiled_of, fresh_of}
use Rattle.engine.proofs.GrowthLaws.{grows_sound}
use Rattle.batch_session.proofs.Vocabulary.{never_failed}
use Rattle.batch_session.specs.Vocabulary.{Tally, Service, service_of, limits_of}
use Rattle.batch_session.specs.Faults.{disk_failed}
use Rattle.batch_session.specs.Served.{View, view_of}
use Rattle.generated_run.specs.declared.running.GenSettings.{GenSettings}
use Rattle.generated_run.specs.Generated.{Serves, service_by}
use Rattle.generated_run.proofs.WorkLaws.{line_ends, requests_short}
use Rattle.generated_run.proofs.ServedLaws.{no_fault, serves_work}
use Rattle.generated_run.proofs.running.serve_work.Goals as goal

-- the work has few bytes and lines
pub record IsFew (input : List ℕ) : Type 0 where
  pub bytes : length input ≤ 20000000
  pub lines : line_ends input ≤ 100000

few : (s : GenSettings) (input : List ℕ) → s.size ≤ 100000 → input ≡ work.requests s.size 1 s.number → IsFew input
few s input least is =
    let short = requests_short s.size 1 s.number (omega arith) in
    record { bytes = omega (arith, ap length is, short.few); lines = omega (arith, ap line_ends is, short.counted) }

pub serve-served-requires-clause-limit : goal.serve-served-requires-clause-limit
serve-served-requires-clause-limit g c = omega (arith, (few c.args.settings.now c.args.input.now c.requires.size c.requires.input).bytes)

pub tally_of-requires : goal.tally_of-requires
tally_of-requires g c =
    let old : View =
    view_of c.args.engine.now (Some c.args.input.now) None None None (g.C.Chooser.choices c.args.chooser.now) (g.W.Watch.told c.args.watch.now) in
    let new : View =
    view_of c.serve-served.new.engine (Some c.serve-served.new.input.left.now) None None None (g.C.Chooser.choices c.serve-served.new.chooser)
    (g.W.Watch.told c.serve-served.new.watch) in
    let v : Service = service_of c.args.engine.now batch_rule c.args.settings.now.batch c.args.settings.now.parts in
    let e = c.serve-served.new.engine in
    let undisked =
    never_failed batch_rule c.serve-served.new.store (source_of e) (core_of e) (fresh_of e) untold (disk_failed c.serve-served.result)
    c.serve-served.ensures.settings c.serve-served.ensures.disk_cause in
    no_fault v c.args.input.now old new c.serve-served.new.input.left.now c.requires.empty refl refl _ _ _ _ _ (λ batch short. batch_rule_is_lawful batch)
    c.requires.history (few c.args.settings.now c.args.input.now c.requires.size c.requires.input).lines c.serve-served.result
    c.serve-served.ensures.served.served (λ is. omega (arith, c.serve-served.ensures.read_cause is))
    (λ is. elim (c.serve-served.ensures.write_cause is) [ inl rose ↦ omega (arith, rose) | inr rose ↦ omega (arith, rose) ]) undisked

pub returns : goal.returns
returns g c =
    let old : View =
    view_of c.args.engine.now (Some c.args.input.now) None None None (g.C.Chooser.choices c.args.chooser.now) (g.W.Watch.told c.args.watch.now) in
    let new : View =
    view_of c.serve-served.new.engine (Some c.serve-served.new.input.left.now) None None None (g.C.Chooser.choices c.serve-served.new.chooser)
    (g.W.Watch.told c.serve-served.new.watch) in
    let v : Service = service_of c.args.engine.now batch_rule c.args.settings.now.batch c.args.settings.now.parts in
    let e = c.serve-served.new.engine in
    let undisked =
    never_failed batch_rule c.serve-served.new.store (source_of e) (core_of e) (fresh_of e) untold (disk_failed c.serve-served.result)
    c.serve-served.ensures.settings c.serve-served.ensures.disk_cause in
    let By : ℕ → Service =
    λ history. record {
      compiled = compiled_of c.args.engine.now;
      parts = c.args.settings.now.parts;
      rule = batch_rule;
      limits = limits_of c.args.settings.now.batch history;
    } in
    let same : v ≡ service_by c.args.settings.now (compiled_of c.args.engine.now) = ap By c.requires.history in
    let Here : Service → Result Tally AllocError → Type 0 = λ w r. Serves w c.args.input.now r new.core old.outside new.outside in
    let served =
    serves_work v c.args.input.now old new c.serve-served.new.input.left.now c.requires.empty refl refl _ _ _ _ _ (λ batch short. batch_rule_is_lawful batch)
    c.requires.history (few c.args.settings.now c.args.input.now c.requires.size c.requires.input).lines c.steps_print.ensures c.comes_begin.ensures
    c.serve-served.result c.serve-served.ensures.served.served (λ is. omega (arith, c.serve-served.ensures.read_cause is))
    (λ is. elim (c.serve-served.ensures.write_cause is) [ inl rose ↦ omega (arith, rose) | inr rose ↦ omega (arith, rose) ]) undisked
    (grows_sound (source_of c.args.engine.now) (core_of c.args.engine.now) (core_of c.serve-served.new.engine) c.requires.sound c.serve-served.ensures.grows) in
    subst (λ w. Here w c.tally_of.result) same (subst (λ r. Here v r) (sym c.tally_of.ensures) served)
