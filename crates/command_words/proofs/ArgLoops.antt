-- Arguments that are added one by one.
use Rattle.std.proofs.Common.{◌≡◌, ℕ, ◌+◌, ◌<◌, List, [], ◌∷◌, length, map, take, refl, sym, ap, ◌∙◌}
use Rattle.std.specs.Prelude.{fold}
use Rattle.std.specs.List.{slice_index_or}
use Rattle.std.specs.Borrow.{Bor}
use Rattle.std.proofs.lemmas.List.Sums.{fold_more}
use Rattle.clap.specs.Words.{App, Rule, with_rule}
use Rattle.command_words.specs.WordReading.{Text}
use Rattle.command_words.specs.ClapCommands.{with_args}

fold_map : {A X Y : Type 0} (f : A → Y → A) (g : X → Y) (a : A) (xs : List X) → fold f a (map g xs) ≡ fold (λ b x. f b (g x)) a xs
fold_map f g a [] = refl
fold_map f g a (x ∷ xs) = fold_map f g (f a (g x)) xs

-- one more name
pub one_more : (rule : Text → Rule) (a : App) (names : List (Bor Text)) (i : ℕ) (d : Bor Text) → i < length names
    → with_rule (with_args rule a (map (λ n. n.now) (take i names))) (rule (slice_index_or names i d).now) ≡ with_args rule a (map (λ n. n.now) (take (i + 1) names))
one_more rule a names i d lt =
    let step = λ (more : App) (n : Bor Text). with_rule more (rule n.now) in
    ap (λ (x : App). with_rule x (rule (slice_index_or names i d).now)) (fold_map (λ more name. with_rule more (rule name)) (λ n. n.now) a (take i names))
    ∙ sym (fold_more step a names i d lt)
    ∙ sym (fold_map (λ more name. with_rule more (rule name)) (λ n. n.now) a (take (i + 1) names))
