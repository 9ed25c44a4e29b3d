use Rattle.std.proofs.Common.{◌≡◌, refl, ap, ◌∙◌}
use Rattle.std.specs.Ordering.{nat_cmp}
use Rattle.std.specs.Str.Iter.{chars_rest}
use Rattle.std.proofs.lemmas.Iterator.{YieldsList-from_chars}
use Rattle.std.proofs.lemmas.Iterator.Search.{cmp_from_yields_List}
use Rattle.source_meaning.proofs.operations.order_of_texts.Goals as goal

pub returns : goal.returns
returns c = cmp_from_yields_List (λ u it. it ≡ u) c.chars-2.result nat_cmp c.cmp.result c.cmp.ensures.ran (YieldsList-from_chars c.args.left.now c.utf8.left cc) (λ it same. YieldsList-from_chars c.args.right.now c.utf8.right (ap chars_rest same ∙ c.chars-2.ensures.rest)) (λ x y. refl)
