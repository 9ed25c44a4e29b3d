-- Copies of the lists of a table, as their plain tables.
use Rattle.std.proofs.Common.{◌≡◌, List, map}
use Rattle.sf_list.specs.Copies.{AreCopies}
use Rattle.sf_list.proofs.CopyLaws.{map-AreCopies}
use Rattle.entity_tables.specs.declared.table.Field.{Field}
use Rattle.entity_tables.specs.declared.table.SigParam.{SigParam}
use Rattle.entity_tables.specs.declared.table.Sig.{Sig}
use Rattle.entity_tables.specs.Views.{plain_field, plain_sig_param, plain_sig}

pub copied_fields : (xs ys : List Field) → AreCopies (λ old made. plain_field made ≡ plain_field old) xs ys → map plain_field ys ≡ map plain_field xs
copied_fields xs ys h = map-AreCopies (λ old made. plain_field made ≡ plain_field old) plain_field (λ x y e. e) xs ys h

pub copied_params : (xs ys : List SigParam) → AreCopies (λ old made. plain_sig_param made ≡ plain_sig_param old) xs ys → map plain_sig_param ys ≡ map plain_sig_param xs
copied_params xs ys h = map-AreCopies (λ old made. plain_sig_param made ≡ plain_sig_param old) plain_sig_param (λ x y e. e) xs ys h

pub copied_sigs : (xs ys : List Sig) → AreCopies (λ old made. plain_sig made ≡ plain_sig old) xs ys → map plain_sig ys ≡ map plain_sig xs
copied_sigs xs ys h = map-AreCopies (λ old made. plain_sig made ≡ plain_sig old) plain_sig (λ x y e. e) xs ys h

pub ruleset list_copies = (copied_fields, copied_params, copied_sigs)
