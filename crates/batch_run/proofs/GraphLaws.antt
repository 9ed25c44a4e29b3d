-- What a watch was told of a graph.
use Rattle.std.proofs.Common.{◌≡◌, List, [], ◌∷◌, subst}
use Rattle.std.specs.declared.option.Option.{Option}
use Rattle.py_tree.specs.ClassRules.{PlainTable}
use Rattle.block_code.specs.PlainBlocks.{PlainBlock}
use Rattle.operator_graph.specs.Telling.{Told, GraphTold, AlsoTold}

-- a graph that was told, by what is seen of it
pub graph_told : (a b : Option (List Told)) (ts ts' : List PlainTable) (bs bs' : List (List PlainBlock)) → ts ≡ ts' → bs ≡ bs' → AlsoTold a b (GraphTold ts bs ∷ []) → AlsoTold a b (GraphTold ts' bs' ∷ [])
graph_told a b ts ts' bs bs' t e told = subst (λ x. AlsoTold a b (GraphTold ts' x ∷ [])) e (subst (λ x. AlsoTold a b (GraphTold x bs ∷ [])) t told)
