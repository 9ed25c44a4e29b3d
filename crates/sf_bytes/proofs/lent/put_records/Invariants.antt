use Rattle.std.proofs.Common.{◌++◌, take}
use Rattle.std.specs.List.{flat_map, AllByRecursion}
use Rattle.sf_bytes.specs.ByteForms.{long_bytes, held_bytes}
use Rattle.sf_bytes.specs.Spelt.{IsRealHeld}
use Rattle.sf_bytes.proofs.lent.put_records.Given as goal

-- the count and the records so far were put
abbrev pub invariant-loop-place : goal.invariant-loop-place
invariant-loop-place g l =
    g.O.Out.puts l.fn.out l.fn.on l.out l.on (long_bytes l.count ++ flat_map held_bytes (take l.place (g.R.LentRecords.listed l.records))) × AllByRecursion IsRealHeld (take l.place (g.R.LentRecords.listed l.records))
