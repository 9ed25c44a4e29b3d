use Rattle.hoisting.proofs.Flatness.{flat_methods_are_flat, flat_by_marks}
use Rattle.hoisting.proofs.laws.flat_methods_are_flat.Goals as goal

pub returns : goal.returns
returns c = record { on_self = flat_methods_are_flat; by_marks = flat_by_marks }
