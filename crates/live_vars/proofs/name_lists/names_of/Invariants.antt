use Rattle.std.proofs.Common.{◌≡◌, take}
use Rattle.py_tree.specs.ClassViews.{numbers_of}
use Rattle.live_vars.proofs.name_lists.names_of.Given as goal

abbrev pub invariant-loop-number : goal.invariant-loop-number
invariant-loop-number l = numbers_of l.names ≡ take l.number-index l.number-items
