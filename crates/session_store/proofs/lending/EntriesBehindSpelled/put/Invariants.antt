use Rattle.std.proofs.Common.{◌≤◌, take, drop}
use Rattle.std.specs.List.{flat_map, AllByRecursion}
use Rattle.byte_sizes.specs.Spelt.{IsRealEntry}
use Rattle.sf_bytes.specs.ByteForms.{entry_bytes}
use Rattle.store_meaning.specs.Vocabulary.{core_of}
use Rattle.session_store.proofs.lending.EntriesBehindSpelled.put.Given as goal

-- the entries before this one were put, but for the first so many
abbrev pub invariant-loop-place : goal.invariant-loop-place
invariant-loop-place g l = record {
  begun : l.self.kept ≤ l.place;
  puts : g.O.Out.puts l.fn.out l.fn.on l.out l.on (flat_map entry_bytes (drop l.self.kept (take l.place (core_of l.self.engine.now).history)));
  real : AllByRecursion IsRealEntry (drop l.self.kept (take l.place (core_of l.self.engine.now).history));
}
