use Rattle.std.proofs.Common.{◌≡◌, map, take, drop}
use Rattle.py_tree.specs.PlainStatements.{plain_stmts}
use Rattle.py_tree.specs.PlainProgram.{plain_class, plain_method}
use Rattle.py_tree.specs.ClassRules.{first_behind, field_names, init_body_fault}
use Rattle.py_tree.specs.ClassViews.{numbers_of}
use Rattle.entity_tables.proofs.InitLaws.{stmt_fault}
use Rattle.entity_tables.proofs.init.check_init_body.Given as goal

abbrev pub invariant-loop-stmt : goal.invariant-loop-stmt
invariant-loop-stmt l = record {
  so_far : init_body_fault l.names (map plain_class l.classes) (map plain_method l.members) (plain_stmts l.body) ≡ first_behind (stmt_fault l.names (map plain_class l.classes) (map plain_method l.members)) (plain_stmts (take l.stmt-index l.body)) (plain_stmts (drop l.stmt-index l.body));
  names : numbers_of l.declared.items ≡ field_names (plain_stmts (take l.stmt-index l.body));
}
