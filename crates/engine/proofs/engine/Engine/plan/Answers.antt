use Rattle.std.proofs.Common.{◌<◌, ◌^◌, ◌∙◌, ap, sym, subst, length, arith}
use Rattle.std.specs.List.{AllByRecursion}
use Rattle.std.proofs.lemmas.List.{length-map}
use Rattle.program_meaning.specs.Fits.{ActFits}
use Rattle.reservations.specs.Accesses.{accesses_of, access_of_work}
use Rattle.engine.specs.EngineViews.{core_of, source_of, tables_of}
use Rattle.ordered_runs.specs.Vocabulary.{acts_of}
use Rattle.engine.proofs.RunLaws.{asked_fit, works_accesses, is_run, some_committed}
use Rattle.engine.proofs.engine.Engine.plan.Goals as goal

pub run_batch-requires-clause-fit : goal.run_batch-requires-clause-fit
run_batch-requires-clause-fit g c =
    subst (λ tables. AllByRecursion (ActFits tables) (acts_of c.args.self.now.pending)) (sym c.requires.whole.has_tables) (asked_fit (tables_of c.args.self.now) c.args.self.now.pending c.requires.fits.pending.requests)

pub planned-requires-clause-ran : goal.planned-requires-clause-ran
planned-requires-clause-ran g c =
    let works = c.in_ok-ran.ensures.works in
    let works_count = length-map c.in_ok-ran.ran.works access_of_work in
    let many = works.as_many in
    let acts_count = length-map c.args.self.now.pending (λ r. r.act) in
    let waiting = c.args.self.now.few in
    let few : length (accesses_of c.in_ok-ran.ran.works) < 2 ^ 32 = omega arith in
    is_run (source_of c.args.self.now) (core_of c.args.self.now) c.in_ok-ran.ran (g.R.CommitRule.choice c.args.rule.now (accesses_of c.in_ok-ran.ran.works)) works
    (g.met.R.CommitRule.lawful c.args.rule.now (accesses_of c.in_ok-ran.ran.works) few) c.in_ok-ran.ensures.committed c.in_ok-ran.ensures.carried c.in_ok-ran.ensures.outcomes c.in_ok-ran.ensures.serial

pub make_room-requires : goal.make_room-requires
make_room-requires g c = c.in_ok-planned.ensures.made.there

pub returns-clause-chosen : goal.returns-clause-chosen
returns-clause-chosen g c =
    c.in_ok-planned.ensures.committed
    ∙ c.in_ok-ran.ensures.committed
    ∙ ap (λ accesses. (g.R.CommitRule.choice c.args.rule.now accesses).committed) (works_accesses (source_of c.args.self.now) (core_of c.args.self.now).state (acts_of c.args.self.now.pending) c.in_ok-ran.ran.works c.in_ok-ran.ensures.works)

pub returns-clause-some : goal.returns-clause-some
returns-clause-some g c = λ waits.
    let works = c.in_ok-ran.ensures.works.as_many in
    let works_count = length-map c.in_ok-ran.ran.works access_of_work in
    let acts_count = length-map c.args.self.now.pending (λ r. r.act) in
    let waiting = c.args.self.now.few in
    let few : length (accesses_of c.in_ok-ran.ran.works) < 2 ^ 32 = omega arith in
    some_committed (accesses_of c.in_ok-ran.ran.works) (g.R.CommitRule.choice c.args.rule.now (accesses_of c.in_ok-ran.ran.works)) c.in_ok-planned.planned.batch.committed
    (g.met.R.CommitRule.lawful c.args.rule.now (accesses_of c.in_ok-ran.ran.works) few) (c.in_ok-planned.ensures.committed ∙ c.in_ok-ran.ensures.committed) (omega (arith, works, works_count, acts_count, waits))
