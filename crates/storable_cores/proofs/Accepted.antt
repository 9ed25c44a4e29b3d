-- What an engine runs is known to be an accepted program.
use Rattle.program_meaning.specs.NothingGoesWrong.{IsKnownAccepted}
use Rattle.program_meaning.proofs.Soundness.{checked_are_known}
use Rattle.block_step.specs.declared.compiled.Compiled.{Compiled}
use Rattle.block_step.specs.CompiledViews.{compiled_program, compiled_names, IsWhole}
use Rattle.engine.specs.declared.engine.Engine.{Engine}
use Rattle.engine.specs.EngineViews.{source_of, compiled_of}

pub compiled_accepted : (c : Compiled) → IsKnownAccepted (compiled_names c) (compiled_program c)
compiled_accepted c = search checked_are_known

pub whole_accepted : (c : Compiled) → IsWhole c → IsKnownAccepted (compiled_names c) (compiled_program c)
whole_accepted c whole = compiled_accepted c

pub engine_accepted : (e : Engine) → IsKnownAccepted (source_of e).names (source_of e).program
engine_accepted e = compiled_accepted (compiled_of e)
