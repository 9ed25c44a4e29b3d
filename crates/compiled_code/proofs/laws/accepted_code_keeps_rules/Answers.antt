use Rattle.compiled_code.proofs.CompiledCode.{accepted_code_keeps_rules}
use Rattle.compiled_code.proofs.laws.accepted_code_keeps_rules.Goals as goal

pub returns : goal.returns
returns c = accepted_code_keeps_rules
