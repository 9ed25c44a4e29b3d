use Rattle.std.proofs.Common.{sym, subst}
use Rattle.block_code.specs.GraphViews.{graph_tables, graph_blocks}
use Rattle.block_code.specs.EventsFit.{EventFits}
use Rattle.source_meaning.proofs.HereAnswers.{mapped_ok}
use Rattle.event_step.specs.declared.entered.Code.{Code}
use Rattle.event_step.specs.Steps.{as_step, fields_of, lent, step_in, ComesTo, IsDue, TargetFits}
use Rattle.event_step.proofs.HandleLaws.{is_due, next_fits, target_fits}
use Rattle.event_step.proofs.handling.handle.Goals as goal

pub handle_kind-handled-requires : goal.handle_kind-handled-requires
handle_kind-handled-requires c =
    let code : Code = record { alloc = c.args.alloc; program = c.args.program; graph = c.args.graph } in
    subst (IsDue code c.args.event.kind c.args.event.tx c.args.event.frames c.args.event.steps) (sym c.in-Ok.ensures) (is_due code c.requires.tables c.requires.graph c.args.event (lent c.args.held) c.requires.event)

pub returns-in-Ok-clause-record : goal.returns-in-Ok-clause-record
returns-in-Ok-clause-record c =
    let code : Code = record { alloc = c.args.alloc; program = c.args.program; graph = c.args.graph } in
    mapped_ok c.handle_kind-handled.result (λ h. ComesTo (step_in code c.args.event.kind c.args.event.tx c.args.event.frames c.args.event.steps (fields_of c.in-Ok.held)) (as_step h)) (λ h. TargetFits (graph_tables c.args.graph.now) c.args.event (fields_of h.held))
    (λ h found. target_fits code c.requires.tables c.requires.graph c.args.event (lent c.args.held) c.requires.event (as_step h) (subst (λ x. ComesTo (step_in code c.args.event.kind c.args.event.tx c.args.event.frames c.args.event.steps x) (as_step h)) c.in-Ok.ensures found)) c.handle_kind-handled.ensures

pub returns-in-Ok-clause-next : goal.returns-in-Ok-clause-next
returns-in-Ok-clause-next c =
    let code : Code = record { alloc = c.args.alloc; program = c.args.program; graph = c.args.graph } in
    mapped_ok c.handle_kind-handled.result (λ h. ComesTo (step_in code c.args.event.kind c.args.event.tx c.args.event.frames c.args.event.steps (fields_of c.in-Ok.held)) (as_step h)) (λ h. EventFits (graph_tables c.args.graph.now) (graph_blocks c.args.graph.now) h.next)
    (λ h found. next_fits code c.requires.tables c.requires.graph c.args.event (lent c.args.held) c.requires.event (as_step h) (subst (λ x. ComesTo (step_in code c.args.event.kind c.args.event.tx c.args.event.frames c.args.event.steps x) (as_step h)) c.in-Ok.ensures found)) c.handle_kind-handled.ensures
