-- Copies of locals, as plain ones.
use Rattle.std.proofs.Common.{◌≡◌, List, map}
use Rattle.sf_list.specs.Copies.{AreCopies}
use Rattle.sf_list.proofs.CopyLaws.{map-AreCopies}
use Rattle.entity_types.specs.declared.env.Local.{Local}
use Rattle.entity_types.specs.Views.{plain_local}

pub copied_locals : (xs ys : List Local) → AreCopies (λ old made. plain_local made ≡ plain_local old) xs ys → map plain_local ys ≡ map plain_local xs
copied_locals xs ys h = map-AreCopies (λ old made. plain_local made ≡ plain_local old) plain_local (λ x y e. e) xs ys h
