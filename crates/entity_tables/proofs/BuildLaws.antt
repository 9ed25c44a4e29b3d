-- Lists that grow along a walk over a tree's lists.
use Rattle.std.proofs.Common.{◌≡◌, ℕ, ◌+◌, ◌<◌, List, [], ◌∷◌, ◌++◌, length, map, take, get_or, refl, ap, ◌∙◌}
use Rattle.std.proofs.lemmas.List.{map-append}
use Rattle.std.proofs.lemmas.List.Elements.{filter_map-append, filter-append}
use Rattle.py_tree.specs.declared.stmt.Stmt.{Stmt}
use Rattle.py_tree.specs.declared.program.Param.{Param}
use Rattle.py_tree.specs.declared.program.Method.{Method}
use Rattle.py_tree.specs.PlainStatements.{plain_stmt, plain_stmts}
use Rattle.py_tree.specs.PlainProgram.{plain_param, plain_method}
use Rattle.py_tree.specs.ClassRules.{sig_param, sig_params, sig_of, methods_of, fields_of}
use Rattle.entity_tables.specs.declared.table.Field.{Field}
use Rattle.entity_tables.specs.declared.table.SigParam.{SigParam}
use Rattle.entity_tables.specs.declared.table.Sig.{Sig}
use Rattle.entity_tables.specs.Views.{plain_field, plain_sig_param, plain_sig}
use Rattle.py_tree.proofs.ListWalks.{grown}

pub params_more : (xs : List Param) (i : ℕ) (x : Param) (old new : List SigParam) (y : SigParam) → i < length xs → x ≡ get_or xs i x → map plain_sig_param old ≡ sig_params (map plain_param (take i xs)) → plain_sig_param y ≡ sig_param (plain_param x) → new ≡ old ++ y ∷ [] → map plain_sig_param new ≡ sig_params (map plain_param (take (i + 1) xs))
params_more xs i x old new y within is so_far one more =
    grown plain_param sig_params (map-append sig_param) xs i x (map plain_sig_param old) (map plain_sig_param new) within is so_far (ap (map plain_sig_param) more ∙ map-append plain_sig_param old (y ∷ []) ∙ (λ j. map plain_sig_param old ++ one j ∷ []))

pub sigs_more : (names : List (List ℕ)) (xs : List Method) (i : ℕ) (x : Method) (old new : List Sig) → i < length xs → x ≡ get_or xs i x → map plain_sig old ≡ map sig_of (methods_of names (map plain_method (take i xs))) → map plain_sig new ≡ map plain_sig old ++ map sig_of (methods_of names (plain_method x ∷ [])) → map plain_sig new ≡ map sig_of (methods_of names (map plain_method (take (i + 1) xs)))
unfolding methods_of
sigs_more names xs i x old new within is so_far more =
    grown plain_method (λ ms. map sig_of (methods_of names ms)) (λ ms ns. ap (map sig_of) (filter-append _ ms ns) ∙ map-append sig_of (methods_of names ms) (methods_of names ns)) xs i x (map plain_sig old) (map plain_sig new) within is so_far more

pub fields_more : (xs : List Stmt) (i : ℕ) (x : Stmt) (old new : List Field) → i < length xs → x ≡ get_or xs i x → map plain_field old ≡ fields_of (plain_stmts (take i xs)) → map plain_field new ≡ map plain_field old ++ fields_of (plain_stmt x ∷ []) → map plain_field new ≡ fields_of (plain_stmts (take (i + 1) xs))
unfolding fields_of
fields_more xs i x old new within is so_far more = grown plain_stmt fields_of (filter_map-append _) xs i x (map plain_field old) (map plain_field new) within is so_far more

pub no_sigs : (names : List (List ℕ)) → methods_of names [] ≡ []
unfolding methods_of
no_sigs names = refl

pub no_fields : fields_of [] ≡ []
unfolding fields_of
no_fields = refl

pub ruleset walk_laws = (params_more, sigs_more, fields_more, no_sigs, no_fields)
