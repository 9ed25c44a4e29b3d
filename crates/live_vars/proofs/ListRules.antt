-- Lists of names that are made of sets, one by one.
use Rattle.std.proofs.Common.{◌≡◌, ◌<◌, ◌+◌, ℕ, List, [], ◌∷◌, ◌++◌, take, get_or, length, sym, ap, ◌∙◌}
use Rattle.std.proofs.lemmas.List.{take_more, map-append}
use Rattle.py_tree.specs.declared.names.Name.{Name}
use Rattle.py_tree.specs.ClassViews.{numbers_of}
use Rattle.py_tree.proofs.ListWalks.{map_more}
use Rattle.live_vars.specs.declared.sets.NameSet.{NameSet}
use Rattle.live_vars.specs.Saved.{lists_of, names_in, sets_of}

pub name_more : (names : List Name) (name : Name) (items : List ℕ) (i n : ℕ) → i < length items → n ≡ get_or items i n → name.0 ≡ n → numbers_of names ≡ take i items → numbers_of (names ++ name ∷ []) ≡ take (i + 1) items
name_more names name items i n within is named e = map-append (λ (n : Name). n.0) names (name ∷ []) ∙ (λ j. e j ++ named j ∷ []) ∙ ap (λ n. take i items ++ n ∷ []) is ∙ sym (take_more items i n within)

pub list_more : (lists : List (List Name)) (names : List Name) (sets : List NameSet) (i : ℕ) (set : NameSet) → i < length sets → set ≡ get_or sets i set → numbers_of names ≡ names_in set → lists_of lists ≡ sets_of (take i sets) → lists_of (lists ++ names ∷ []) ≡ sets_of (take (i + 1) sets)
list_more lists names sets i set within is named e = map-append numbers_of lists (names ∷ []) ∙ (λ j. e j ++ named j ∷ []) ∙ sym (map_more names_in sets i set within is)
