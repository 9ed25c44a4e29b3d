use Rattle.std.proofs.Common.{◌≡◌, sym, subst}
use Rattle.block_step.specs.CompiledViews.{compiled_program, compiled_names}
use Rattle.quiet_methods.specs.MarksKeepWithin.{source}
use Rattle.py_tree.specs.ClassRules.{tables_of}
use Rattle.engine.specs.Cores.{empty_core, CoreFits, IsSoundCore}
use Rattle.engine.proofs.EmptyLaws.{empty_fits, empty_sound}
use Rattle.engine.proofs.engine.Engine.new.Goals as goal

pub returns-clause-core_fits : goal.returns-clause-core_fits
returns-clause-core_fits c =
    let same : record { history = c.new.result.entries; state = c.new-2.result.contents; pending = c.new-3.result } ≡ empty_core =
    λ i. record { history = c.new.ensures i; state = c.new-2.ensures i; pending = c.new-3.ensures i } in
    subst (CoreFits (tables_of (compiled_names c.args.compiled) (compiled_program c.args.compiled))) (sym same) (empty_fits (compiled_names c.args.compiled) (compiled_program c.args.compiled))

pub returns-clause-sound : goal.returns-clause-sound
returns-clause-sound c =
    let same : record { history = c.new.result.entries; state = c.new-2.result.contents; pending = c.new-3.result } ≡ empty_core =
    λ i. record { history = c.new.ensures i; state = c.new-2.ensures i; pending = c.new-3.ensures i } in
    subst (IsSoundCore (source (compiled_names c.args.compiled) (compiled_program c.args.compiled))) (sym same) (empty_sound (source (compiled_names c.args.compiled) (compiled_program c.args.compiled)))
