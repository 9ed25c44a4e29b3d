use Rattle.std.proofs.Common.{◌≡◌, ◌≤◌, ◌-◌, length}
use Rattle.stateflow_cli.specs.Loading.{MayBegin, AreKept}
use Rattle.stateflow_cli.proofs.loading.read_first.Given as goal

abbrev pub decreases-loop-piece : goal.decreases-loop-piece
decreases-loop-piece g l = l.bound - length l.text.items

-- the first bytes of the file were read
abbrev pub invariant-loop-piece : goal.invariant-loop-piece
invariant-loop-piece g l = record {
  begins : MayBegin (g.F.Files.content l.fn.files l.name) (length l.text.items) l.text.items;
  within : length l.text.items ≤ l.bound;
  kept : g.F.Files.content l.files l.name ≡ g.F.Files.content l.fn.files l.name;
  later : g.F.Files.faults l.fn.files l.name ≤ g.F.Files.faults l.files l.name;
  stays : AreKept (g.F.Files.content l.fn.files) (g.F.Files.content l.files) (g.F.Files.faults l.fn.files) (g.F.Files.faults l.files);
}
