-- What the methods of a class give, as its members are gone over.
use Rattle.std.proofs.Common.{◌≡◌, ℕ, ◌+◌, ◌<◌, List, [], ◌∷◌, ◌++◌, length, map, take, get_or, refl, sym, ap, ◌∙◌}
use Rattle.std.proofs.lemmas.List.{map-append}
use Rattle.std.proofs.lemmas.List.Elements.{filter-append}
use Rattle.py_tree.specs.declared.names.Name.{Name}
use Rattle.py_tree.specs.declared.program.Method.{Method}
use Rattle.py_tree.specs.PlainProgram.{PlainMethod, PlainProgram, plain_method}
use Rattle.py_tree.specs.ClassRules.{methods_of}
use Rattle.call_graph.specs.declared.sites.Site.{Site}
use Rattle.call_graph.specs.Suspending.{method_names, method_sites}
use Rattle.py_tree.specs.ClassViews.{numbers_of}
use Rattle.py_tree.proofs.ListWalks.{map_more}

grown : {X : Type 0} (give : PlainMethod → X) (names : List (List ℕ)) (xs : List Method) (i : ℕ) (x : Method) (old new : List X) → i < length xs → x ≡ get_or xs i x → old ≡ map give (methods_of names (map plain_method (take i xs))) → new ≡ old ++ map give (methods_of names (plain_method x ∷ [])) → new ≡ map give (methods_of names (map plain_method (take (i + 1) xs)))
unfolding methods_of
grown give names xs i x old new within is so_far more =
    let before = map plain_method (take i xs) in
    let last = plain_method x ∷ [] in
    more
    ∙ ap (λ ys. ys ++ map give (methods_of names last)) so_far
    ∙ sym (map-append give (methods_of names before) (methods_of names last))
    ∙ ap (map give) (sym (filter-append _ before last))
    ∙ ap (λ ms. map give (methods_of names ms)) (sym (map_more plain_method xs i x within is))

pub names_more : (names : List (List ℕ)) (xs : List Method) (i : ℕ) (x : Method) (old new : List Name) → i < length xs → x ≡ get_or xs i x → numbers_of old ≡ method_names (methods_of names (map plain_method (take i xs))) → numbers_of new ≡ numbers_of old ++ method_names (methods_of names (plain_method x ∷ [])) → numbers_of new ≡ method_names (methods_of names (map plain_method (take (i + 1) xs)))
names_more names xs i x old new = grown (λ m. m.name) names xs i x (numbers_of old) (numbers_of new)

pub no_names : (names : List (List ℕ)) → method_names (methods_of names []) ≡ []
unfolding methods_of
no_names names = refl

module _ (program : PlainProgram) (methods : List ℕ) (names : List (List ℕ)) where
  pub rows_more : (xs : List Method) (i : ℕ) (x : Method) (old new : List (List Site)) → i < length xs → x ≡ get_or xs i x → old ≡ map (method_sites program methods) (methods_of names (map plain_method (take i xs))) → new ≡ old ++ map (method_sites program methods) (methods_of names (plain_method x ∷ [])) → new ≡ map (method_sites program methods) (methods_of names (map plain_method (take (i + 1) xs)))
  rows_more xs i x old new = grown (method_sites program methods) names xs i x old new

  pub no_rows : map (method_sites program methods) (methods_of names []) ≡ []
  unfolding methods_of
  no_rows = refl

pub ruleset name_laws = (names_more, no_names)

pub ruleset row_laws = (rows_more, no_rows)
