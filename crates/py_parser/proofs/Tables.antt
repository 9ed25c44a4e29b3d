-- Tables that are given several texts.
use Rattle.std.proofs.Common.{◌≡◌, ℕ, ◌+◌, ◌<◌, ◌≤◌, Bool, true, false, cond, List, [], ◌∷◌, ◌++◌, length, map, take, get_or, Option, Some, None, refl, sym, ap, ◌∙◌, arith, length-append}
use Rattle.std.specs.Prelude.{is_some, unwrap_or}
use Rattle.std.proofs.lemmas.Option.{same_Some}
use Rattle.py_tree.proofs.NameLaws.{place-end}
use Rattle.py_tree.specs.Reading.{number_of}
use Rattle.std.specs.List.{fold}
use Rattle.std.proofs.lemmas.List.{take_more, map-append}
use Rattle.std.proofs.lemmas.List.Sums.{fold-append}
use Rattle.py_tree.specs.NameTable.{place_of, with_name}

-- one more text in a walk over a list
pub fold_step : {X : Type 0} (text : X → List ℕ) (words : List X) (start names new : List (List ℕ)) (i : ℕ) (d : X) → i < length words → names ≡ fold with_name start (map text (take i words)) → new ≡ with_name names (text (get_or words i d)) → new ≡ fold with_name start (map text (take (i + 1) words))
fold_step text words start names new i d within so_far one =
    one ∙ ap (λ t. with_name t (text (get_or words i d))) so_far ∙ sym (fold-append with_name start (map text (take i words)) (text (get_or words i d) ∷ [])) ∙ ap (fold with_name start) (sym (map-append text (take i words) (get_or words i d ∷ [])) ∙ sym (ap (map text) (take_more words i d within)))

grown : (b : Bool) (names : List (List ℕ)) (text : List ℕ) → length (cond b names (names ++ text ∷ [])) ≤ length names + 1
grown true names text = omega arith
grown false names text = omega (arith, length-append names (text ∷ []))

-- a table grows by one text at most
pub length-with_name : (names : List (List ℕ)) (text : List ℕ) → length (with_name names text) ≤ length names + 1
length-with_name names text = grown (is_some (place_of names text)) names text

pub grows-by_one : (names new : List (List ℕ)) (text : List ℕ) → new ≡ with_name names text → length new ≤ length names + 1
grows-by_one names new text e = omega (arith, ap length e, length-with_name names text)

numbered : (o : Option ℕ) (names : List (List ℕ)) (text : List ℕ) (n : ℕ) → place_of names text ≡ o → place_of (cond (is_some o) names (names ++ text ∷ [])) text ≡ Some n → n ≡ unwrap_or o (length names)
numbered None names text n is e = same_Some n (length names) (sym e ∙ place-end names text is)
numbered (Some i) names text n is e = same_Some n i (sym e ∙ is)

-- the place of a text in the table that has it is its number
pub number-is : (names : List (List ℕ)) (text : List ℕ) (n : ℕ) → place_of (with_name names text) text ≡ Some n → n ≡ number_of names text
number-is names text n e = numbered (place_of names text) names text n refl e

pub ruleset table_rules = (number-is, grows-by_one)
