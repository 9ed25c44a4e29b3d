use Rattle.std.proofs.Common.{◌∙◌, sym, subst}
use Rattle.engine.specs.Cores.{CoreFits}
use Rattle.engine.specs.Growth.{GrowsSerially}
use Rattle.engine.specs.EngineViews.{core_of, source_of, tables_of}
use Rattle.engine.proofs.PlanLaws.{can_move, plan_fits, plan_grows}
use Rattle.engine.proofs.engine.Engine.commit.Goals as goal

pub join-requires-clause-can : goal.join-requires-clause-can
join-requires-clause-can c = can_move c.args.self.now c.args.planned c.requires

pub returns-clause-core : goal.returns-clause-core
returns-clause-core c = c.join.ensures.core ∙ c.requires.made.behind

pub returns-clause-core_fits : goal.returns-clause-core_fits
returns-clause-core_fits c = λ fits. subst (CoreFits (tables_of c.args.self.now)) (sym (returns-clause-core c)) (plan_fits c.args.self.now c.args.planned c.requires fits)

pub returns-clause-grows : goal.returns-clause-grows
returns-clause-grows c = subst (GrowsSerially (source_of c.args.self.now) (core_of c.args.self.now)) (sym (returns-clause-core c)) (plan_grows c.args.self.now c.args.planned c.requires)
