use Rattle.std.proofs.Common.{◌∙◌, ℕ, List, [], map, sym, ap, subst}
use Rattle.std.proofs.lemmas.Result.{err_from_is_err_and}
use Rattle.py_tree.specs.PlainProgram.{plain_classes}
use Rattle.py_tree.specs.Grammar.{IsProgram, has_tree}
use Rattle.py_lexer.specs.declared.token.Line.{Line}
use Rattle.py_lexer.specs.Views.{plain_line}
use Rattle.py_parser.specs.Reads.{input}
use Rattle.py_parser.proofs.Counted.{text_bounded}
use Rattle.py_parser.proofs.ProgramLaws.{text_short, parsed, refused}
use Rattle.py_parser.proofs.program.parse.Goals as goal

pub returns-in_err-classes-clause-outcome : goal.returns-in_err-classes-clause-outcome
returns-in_err-classes-clause-outcome c =
    let p = err_from_is_err_and c.from_residual-in_err-classes.result c.from_residual-in_err-classes.ensures.1 in
    let begun = c.new-reader.ensures ∙ ap (λ (ls : List Line). input c.args.text.now [] (record { line = 1; col = 1 }) ls c.in_ok-reserved_names.field-0) c.as_slice.ensures in
    rw (p.1, p.2) (refused c.args.text.now c.args.lines.now c.in_ok-reserved_names.field-0 c.new-reader.result c.file.new.reader c.in_err-classes.field-0.0 c.in_ok-reserved_names.ensures begun c.in_err-classes.ensures)

pub returns-clause-outcome : goal.returns-clause-outcome
returns-clause-outcome c =
    let begun = c.new-reader.ensures ∙ ap (λ (ls : List Line). input c.args.text.now [] (record { line = 1; col = 1 }) ls c.in_ok-reserved_names.field-0) c.as_slice.ensures in
    let whole = parsed c.args.text.now c.args.lines.now c.in_ok-reserved_names.field-0 c.new-reader.result c.file.new.reader (plain_classes c.in_ok-classes.classes) c.in_ok-reserved_names.ensures begun c.in_ok-classes.ensures in
    subst (λ (ns : List (List ℕ)). IsProgram (map (plain_line c.args.text.now) c.args.lines.now) (has_tree (plain_classes c.in_ok-classes.classes) ns)) (sym c.into_names.ensures.names) whole

pub returns-clause-bounded : goal.returns-clause-bounded
returns-clause-bounded c =
    let short = text_short c.args.text.now (map (plain_line c.args.text.now) c.args.lines.now) c.requires.lexed in
    (text_bounded c.args.text.now c.args.lines.now (plain_classes c.in_ok-classes.classes) c.into_names.result short c.requires.spans (returns-clause-outcome c)).0

pub returns-clause-reserved : goal.returns-clause-reserved
returns-clause-reserved c =
    let short = text_short c.args.text.now (map (plain_line c.args.text.now) c.args.lines.now) c.requires.lexed in
    (text_bounded c.args.text.now c.args.lines.now (plain_classes c.in_ok-classes.classes) c.into_names.result short c.requires.spans (returns-clause-outcome c)).1
