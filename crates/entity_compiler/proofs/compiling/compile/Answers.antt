use Rattle.entity_compiler.proofs.TextsCompiled.{accepted_text}
use Rattle.entity_compiler.proofs.compiling.compile.Goals as goal

pub returns-clause-compiles : goal.returns-clause-compiles
returns-clause-compiles c =
    accepted_text c.args.text.now c.in_ok-accepted.accepted.program c.in_ok-compiled.compiled c.in_ok-accepted.ensures.is_accepted c.in_ok-compiled.ensures.program c.in_ok-compiled.ensures.names c.in_ok-compiled.ensures.live
    c.in_ok-compiled.ensures.whole
