use Rattle.std.proofs.Common.{sym}
use Rattle.std.proofs.lemmas.Result.{err_from_is_err_and}
use Rattle.py_tree.specs.PlainProgram.{plain_classes}
use Rattle.py_parser.proofs.BlockLoops.{items_refuses, items_import_fails, items_class_fails}
use Rattle.py_parser.proofs.program.items.Goals as goal

pub returns-then-not-is_first : goal.returns-then-not-is_first
returns-then-not-is_first c =
    items_refuses c.args.reader.now c.items.reader c.begin_line.new.self c.begin_line.new.self (plain_classes c.items.items) c.refusal.result c.items.invariant (sym c.items-test.ensures.has_line) (sym c.if-not-is_first.ensures.is_at) c.begin_line.ensures.next_line c.refusal.ensures

pub returns-in_err-import : goal.returns-in_err-import
returns-in_err-import c =
    let p = err_from_is_err_and c.from_residual.result c.from_residual.ensures.1 in
    rw (p.1, p.2) (items_import_fails c.args.reader.now c.items.reader c.begin_line.new.self c.import.new.reader c.import.new.reader (plain_classes c.items.items) c.in_err-import.field-0.0 c.items.invariant (sym c.items-test.ensures.has_line) (sym c.if-not-is_first.ensures.is_at) (sym c.if-begins_import.ensures) c.begin_line.ensures.next_line c.in_err-import.ensures.comes)

pub returns-in_err-class : goal.returns-in_err-class
returns-in_err-class c =
    let p = err_from_is_err_and c.from_residual-in_err-class.result c.from_residual-in_err-class.ensures.1 in
    rw (p.1, p.2) (items_class_fails c.args.reader.now c.items.reader c.begin_line.new.self c.class.new.reader c.class.new.reader (plain_classes c.items.items) c.in_err-class.field-0.0 c.items.invariant (sym c.items-test.ensures.has_line) (sym c.if-not-is_first.ensures.is_at) (sym c.if-begins_import.ensures) c.begin_line.ensures.next_line c.in_err-class.ensures.comes)
