use Rattle.std.proofs.Common.{◌∙◌, option_map, Some, sym, ap, arith}
use Rattle.py_tree.specs.Functions.{plain_function}
use Rattle.source_meaning.specs.Sites.{site_of}
use Rattle.source_meaning.specs.Transactions.{world_of}
use Rattle.source_meaning.proofs.InPlaceLaws.{length_told}
use Rattle.source_meaning.proofs.in_place.own_length.Goals as goal

pub returns : goal.returns
returns c = λ n. length_told (site_of c.args.site.now) c.args.vars.now (world_of c.args.site.now.state.now c.args.tx.now) n c.args.name.0 c.args.args.now c.arg-item.result c.in_ok-value.value.now c.weighed_length.result (sym c.function_of.ensures ∙ ap (option_map plain_function) (c.in-Some-Length.is ∙ ap Some c.in-Some-Length.field-0-is)) (omega (arith, c.in-len1.len_at_least)) (omega (arith, c.in-len1.len_below)) c.arg-item.is (c.in_ok-value.ensures n) (c.weighed_length.ensures _ n)
