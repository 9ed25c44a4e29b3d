use Rattle.std.proofs.lemmas.Result.{err_from_is_err_and}
use Rattle.program_text.proofs.ReadLaws.{reads_no_lines, reads_no_tree, reads_broken, reads_no_memory, reads_accepted}
use Rattle.program_text.proofs.acceptance.accept.Goals as goal

pub returns-in_err-lines : goal.returns-in_err-lines
returns-in_err-lines c =
    let p = err_from_is_err_and c.from_residual.result c.from_residual.ensures.1 in
    rw (p.1, p.2) (reads_no_lines c.args.text.now _ c.in_err-lines.ensures.lines)

pub returns-in_err-parsed : goal.returns-in_err-parsed
returns-in_err-parsed c =
    let p = err_from_is_err_and c.from_residual-in_err-parsed.result c.from_residual-in_err-parsed.ensures.1 in
    rw (p.1, p.2) (reads_no_tree c.args.text.now c.in_ok-lines.lines _ c.in_ok-lines.ensures.lines c.in_err-parsed.ensures.outcome)

pub returns-in_err-tables : goal.returns-in_err-tables
returns-in_err-tables c =
    let p = err_from_is_err_and c.from_residual-in_err-tables.result c.from_residual-in_err-tables.ensures.1 in
    rw (p.1, p.2) (reads_broken c.args.text.now c.in_ok-lines.lines c.in_ok-parsed.parsed c.in_ok-lines.ensures.lines c.in_ok-parsed.ensures.outcome _ c.in_err-tables.ensures)

pub returns-in_err-program : goal.returns-in_err-program
returns-in_err-program c =
    let p = err_from_is_err_and c.from_residual-in_err-program.result c.from_residual-in_err-program.ensures.1 in
    rw (p.1) (reads_no_memory c.args.text.now _ p.2)

pub returns : goal.returns
returns c =
    reads_accepted c.args.text.now c.in_ok-lines.lines c.in_ok-parsed.parsed c.in_ok-lines.ensures.lines c.in_ok-parsed.ensures.outcome
    c.in_ok-program.program c.in_ok-tables.tables c.in_ok-tables.ensures c.in_ok-program.ensures.program c.in_ok-program.ensures.names
