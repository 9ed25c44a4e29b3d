use Rattle.std.proofs.Common.{◌≡◌, take, false}
use Rattle.std.specs.List.{list_any}
use Rattle.call_graph.specs.Marks.{suspends}
use Rattle.call_graph.proofs.closure.any_suspends.Given as goal

abbrev pub invariant-loop-site : goal.invariant-loop-site
invariant-loop-site l = list_any (suspends l.marks) (take l.site-index l.sites) ≡ false
