use Rattle.std.proofs.Common.{IfOk, subst}
use Rattle.py_tree.specs.CheckedViews.{checked_program, checked_names}
use Rattle.py_tree.specs.ClassRules.{tables_of}
use Rattle.block_step.specs.CompiledViews.{compiled_program, compiled_names}
use Rattle.request_history.specs.SoundHistory.{RequestFits}
use Rattle.line_driver.proofs.RequestLaws.{read_fits}
use Rattle.line_driver.proofs.request_lines.request_of.Goals as goal

pub returns : goal.returns
returns c =
    let read = read_fits (checked_names c.program.result.now) (checked_program c.program.result.now) c.as_bytes.result.now c.read_line.result c.read_line.ensures in
    let of_program = subst (λ p. IfOk c.read_line.result (RequestFits (tables_of (checked_names c.program.result.now) p))) c.program.ensures.program read in
    let of_names = subst (λ n. IfOk c.read_line.result (RequestFits (tables_of n (compiled_program c.compiled.result.now)))) c.program.ensures.names of_program in
    subst (λ k. IfOk c.read_line.result (RequestFits (tables_of (compiled_names k) (compiled_program k)))) c.compiled.ensures of_names
