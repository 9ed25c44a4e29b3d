use Rattle.program_meaning.specs.Sources.{source_of}
use Rattle.session.proofs.ServeLaws.{Served-flushed}
use Rattle.session.proofs.serving.serve.Goals as goal

pub returns-clause-served : goal.returns-clause-served
returns-clause-served g c =
    Served-flushed (source_of c.args.program.now) c.args.limit c.args.history _ _ _ _ _ _ _
    c.flushed.ensures.flushed c.answer_all-served.ensures.served c.flushed.ensures.kept
