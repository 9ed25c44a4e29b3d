use Rattle.std.proofs.Common.{sym, ◌∙◌, subst, true≢false, refl}
use Rattle.engine.specs.Cores.{CoreFits}
use Rattle.engine.specs.Growth.{GrowsSerially}
use Rattle.engine.specs.EngineViews.{core_of, source_of, tables_of}
use Rattle.engine.proofs.GrowthLaws.{grows_same}
use Rattle.engine.proofs.ArrivalLaws.{arrival_fits, arrival_grows, met, new_core, new_fresh, old_core, old_fresh}
use Rattle.engine.proofs.engine.Engine.arrive.Goals as goal

pub returns-in_ok-push-clause-arrival : goal.returns-in_ok-push-clause-arrival
returns-in_ok-push-clause-arrival c = met (core_of c.args.self.now) c.args.request c.as_slice.result.now c.arrival_at-arrival.result c.as_slice.ensures c.arrival_at-arrival.ensures

pub returns-in_ok-push-clause-core : goal.returns-in_ok-push-clause-core
returns-in_ok-push-clause-core c =
    new_core (core_of c.args.self.now) c.args.request c.push.new.self
    (sym (met (core_of c.args.self.now) c.args.request c.as_slice.result.now c.arrival_at-arrival.result c.as_slice.ensures c.arrival_at-arrival.ensures) ∙ c.if-is_new.ensures.0 refl) c.in_ok-push.ensures.ok

pub returns-in_ok-push-clause-fresh : goal.returns-in_ok-push-clause-fresh
returns-in_ok-push-clause-fresh c =
    new_fresh (core_of c.args.self.now) c.args.request c.args.self.now.fresh
    (sym (met (core_of c.args.self.now) c.args.request c.as_slice.result.now c.arrival_at-arrival.result c.as_slice.ensures c.arrival_at-arrival.ensures) ∙ c.if-is_new.ensures.0 refl)

pub returns-in_ok-push-clause-core_fits : goal.returns-in_ok-push-clause-core_fits
returns-in_ok-push-clause-core_fits c = λ fits.
    subst (CoreFits (tables_of c.args.self.now)) (sym (returns-in_ok-push-clause-core c)) (arrival_fits (tables_of c.args.self.now) (core_of c.args.self.now) c.args.request c.requires.fits fits)

pub returns-in_ok-push-clause-grows : goal.returns-in_ok-push-clause-grows
returns-in_ok-push-clause-grows c =
    subst (GrowsSerially (source_of c.args.self.now) (core_of c.args.self.now)) (sym (returns-in_ok-push-clause-core c))
    (arrival_grows (source_of c.args.self.now) (core_of c.args.self.now) c.args.request c.requires.fits)

pub returns-else-is_new-clause-arrival : goal.returns-else-is_new-clause-arrival
returns-else-is_new-clause-arrival c = met (core_of c.args.self.now) c.args.request c.as_slice.result.now c.arrival_at-arrival.result c.as_slice.ensures c.arrival_at-arrival.ensures

pub returns-else-is_new-clause-core : goal.returns-else-is_new-clause-core
returns-else-is_new-clause-core c =
    old_core (core_of c.args.self.now) c.args.request
    (λ is. true≢false (sym (c.if-is_new.ensures.1 (met (core_of c.args.self.now) c.args.request c.as_slice.result.now c.arrival_at-arrival.result c.as_slice.ensures c.arrival_at-arrival.ensures ∙ is))))

pub returns-else-is_new-clause-fresh : goal.returns-else-is_new-clause-fresh
returns-else-is_new-clause-fresh c =
    old_fresh (core_of c.args.self.now) c.args.request c.args.self.now.fresh
    (λ is. true≢false (sym (c.if-is_new.ensures.1 (met (core_of c.args.self.now) c.args.request c.as_slice.result.now c.arrival_at-arrival.result c.as_slice.ensures c.arrival_at-arrival.ensures ∙ is))))

pub returns-in_err-push-clause-grows : goal.returns-in_err-push-clause-grows
returns-in_err-push-clause-grows c =
    let core = core_of c.args.self.now in
    subst (λ pending. GrowsSerially (source_of c.args.self.now) core (record { history = core.history; state = core.state; pending = pending })) (sym c.in_err-push.ensures.err)
    (grows_same (source_of c.args.self.now) core)

pub returns-else-is_new-clause-grows : goal.returns-else-is_new-clause-grows
returns-else-is_new-clause-grows c = grows_same (source_of c.args.self.now) (core_of c.args.self.now)
