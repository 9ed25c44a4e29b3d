use Rattle.std.proofs.Common.{◌≡◌, map, take}
use Rattle.py_tree.specs.PlainProgram.{plain_method}
use Rattle.py_tree.specs.ClassRules.{sig_of, methods_of}
use Rattle.entity_tables.specs.Views.{plain_sig}
use Rattle.entity_tables.proofs.build.sigs_of.Given as goal

abbrev pub invariant-loop-member : goal.invariant-loop-member
invariant-loop-member l = map plain_sig l.made ≡ map sig_of (methods_of l.names (map plain_method (take l.member-index l.members)))
