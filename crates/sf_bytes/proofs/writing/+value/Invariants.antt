use Rattle.std.proofs.Common.{◌++◌, length, take}
use Rattle.std.specs.List.{flat_map}
use Rattle.sf_bytes.specs.ByteForms.{number_bytes, value_bytes}
use Rattle.sf_bytes.specs.Spelt.{AreReal}
use Rattle.sf_bytes.proofs.writing.+value.Given as goal

abbrev pub invariant-put_values-loop-value : goal.invariant-put_values-loop-value
invariant-put_values-loop-value g l =
    g.O.Out.puts l.fn.out l.fn.on l.out l.on (number_bytes (length l.values) ++ flat_map value_bytes (take l.value-index l.values)) × AreReal (take l.value-index l.values)
