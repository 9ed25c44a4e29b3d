use Rattle.std.proofs.Common.{◌∙◌, ap, sym, subst}
use Rattle.engine.specs.EngineViews.{source_of, tables_of}
use Rattle.request_json.specs.Actions.{action_of}
use Rattle.batch_replies.proofs.Vocabulary.{engine_accepted}
use Rattle.line_answers.specs.LineViews.{line_of, ActionFits, ActionIsSpelt}
use Rattle.line_answers.proofs.LineLaws.{line_fits, line_spelt, same_source}
use Rattle.line_answers.proofs.TakingLaws.{Takes-itself}
use Rattle.line_answers.proofs.taking.take_line.Goals as goal

pub take_action-requires-clause-fits : goal.take_action-requires-clause-fits
take_action-requires-clause-fits c =
    let e = c.args.engine.now in
    let line = line_of c.args.line in
    subst (ActionFits (tables_of e))
    (sym (c.in_ok-action.ensures ∙ ap (λ src. action_of src line) (same_source c.program.result.now e.compiled c.compiled.result.now c.program.ensures.program c.program.ensures.names c.compiled.ensures)))
    (line_fits (source_of e) line)

pub take_action-requires-clause-spelt : goal.take_action-requires-clause-spelt
take_action-requires-clause-spelt c =
    let e = c.args.engine.now in
    let line = line_of c.args.line in
    subst ActionIsSpelt
    (sym (c.in_ok-action.ensures ∙ ap (λ src. action_of src line) (same_source c.program.result.now e.compiled c.compiled.result.now c.program.ensures.program c.program.ensures.names c.compiled.ensures)))
    (line_spelt (source_of e) (engine_accepted e) line)

pub returns-in_err-action-clause-takes : goal.returns-in_err-action-clause-takes
returns-in_err-action-clause-takes c = Takes-itself c.args.engine.now
