-- What a sink gained, piece after piece.
use Rattle.std.proofs.Common.{◌≡◌, ℕ, ◌+◌, ◌<◌, List, [], ◌∷◌, ◌++◌, length, map, take, drop, get_or, take-append-drop, min, refl, sym, ap, ◌∙◌, subst, append-nil}
use Rattle.std.proofs.lemmas.List.{take_at, take_more, map-append}
use Rattle.std.proofs.lemmas.List.Folds.{concat-append}
use Rattle.std.specs.List.{concat}
use Rattle.std.proofs.KnownBytes.{Appends-trans, Appends-nil}
use Rattle.std.specs.declared.option.Option.{Option}
use Rattle.std.specs.Io.KnownBytes.{Appends}
use Rattle.sf_outside.specs.Bytes.{AppendsPrefix}
use Rattle.sf_outside.proofs.Fronts.{take_into, take_first}

-- all of it is a prefix
pub prefix_whole : (a b : Option (List ℕ)) (xs : List ℕ) → Appends a b xs → AppendsPrefix a b xs
prefix_whole a b xs p = (length xs, subst (Appends a b) (sym (take_at xs [] (length xs) refl) ∙ ap (take (length xs)) (append-nil xs)) p)

pub prefix_none : (a : Option (List ℕ)) (xs : List ℕ) → AppendsPrefix a a xs
prefix_none a xs = (0, Appends-nil a)

-- a prefix of the first piece is one of the whole
pub prefix_more : (a b : Option (List ℕ)) (xs ys : List ℕ) → AppendsPrefix a b xs → AppendsPrefix a b (xs ++ ys)
prefix_more a b xs ys p = (min p.0 (length xs), subst (Appends a b) (sym (take_first xs ys p.0)) p.1)

-- the first piece, and then a prefix of the next
pub prefix_after : (a b c : Option (List ℕ)) (xs ys : List ℕ) → Appends a b xs → AppendsPrefix b c ys → AppendsPrefix a c (xs ++ ys)
prefix_after a b c xs ys p q = (length xs + q.0, subst (Appends a c) (sym (take_into xs ys q.0)) (Appends-trans a b c xs (take q.0 ys) p q.1))

-- pieces, written one after another
module _ {X : Type 0} (text : X → List ℕ) (pieces : List X) (i : ℕ) (d : X) (within : i < length pieces) where
  concat_more : concat (map text (take (i + 1) pieces)) ≡ concat (map text (take i pieces)) ++ text (get_or pieces i d)
  concat_more =
      ap (λ ps. concat (map text ps)) (take_more pieces i d within) ∙ ap concat (map-append text (take i pieces) (get_or pieces i d ∷ []))
      ∙ concat-append (map text (take i pieces)) (text (get_or pieces i d) ∷ [])
      ∙ ap (λ l. concat (map text (take i pieces)) ++ l) (append-nil (text (get_or pieces i d)))

  concat_split : concat (map text pieces) ≡ (concat (map text (take i pieces)) ++ text (get_or pieces i d)) ++ concat (map text (drop (i + 1) pieces))
  concat_split =
      ap (λ ps. concat (map text ps)) (sym (take-append-drop (i + 1) pieces)) ∙ ap concat (map-append text (take (i + 1) pieces) (drop (i + 1) pieces))
      ∙ concat-append (map text (take (i + 1) pieces)) (map text (drop (i + 1) pieces)) ∙ ap (λ l. l ++ concat (map text (drop (i + 1) pieces))) concat_more

  module _ (a b c : Option (List ℕ)) (so_far : Appends a b (concat (map text (take i pieces)))) where
    -- one more, whole
    pub one_more : Appends b c (text (get_or pieces i d)) → Appends a c (concat (map text (take (i + 1) pieces)))
    one_more p = subst (Appends a c) (sym concat_more) (Appends-trans a b c (concat (map text (take i pieces))) (text (get_or pieces i d)) so_far p)

    -- one more, in part
    pub part_more : AppendsPrefix b c (text (get_or pieces i d)) → AppendsPrefix a c (concat (map text pieces))
    part_more p = subst (AppendsPrefix a c) (sym concat_split)
        (prefix_more a c (concat (map text (take i pieces)) ++ text (get_or pieces i d)) (concat (map text (drop (i + 1) pieces)))
        (prefix_after a b c (concat (map text (take i pieces))) (text (get_or pieces i d)) so_far p))
