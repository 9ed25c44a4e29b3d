use Rattle.std.proofs.Common.{◌∙◌, sym, ap}
use Rattle.block_code.specs.Places.{firsts_from}
use Rattle.block_code.proofs.ListCopies.{copied_tables, copied_methods}
use Rattle.block_code.proofs.graph.GraphTryClone.try_clone.Goals as goal

pub invariant_of-result : goal.invariant_of-result
invariant_of-result c = record { has_firsts = c.in_ok-firsts.ensures ∙ c.args.self.now.has_firsts ∙ ap (firsts_from 0) (sym (copied_tables c.args.self.now.tables c.in_ok-tables.tables c.in_ok-tables.ensures)) }

pub returns : goal.returns
returns c = (copied_tables c.args.self.now.tables c.in_ok-tables.tables c.in_ok-tables.ensures, copied_methods c.args.self.now.methods c.in_ok-methods.methods c.in_ok-methods.ensures)
