-- What is found is one part with one rest.
use Rattle.std.proofs.Common.{◌≡◌}
use Rattle.py_tree.specs.Reading.{Input, found}

pub same_rest : {A : Type 0} {x y : A} {i j : Input} → found x i ≡ found y j → i ≡ j
same_rest e = cc

pub same_part : {A : Type 0} {x y : A} {i j : Input} → found x i ≡ found y j → x ≡ y
same_part e = cc
