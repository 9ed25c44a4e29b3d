-- Trailers as the interpreter keeps them, the last one first.
use Rattle.std.proofs.Common.{◌≡◌, ◌+◌, ℕ, List, [], ◌∷◌, ◌++◌, length, map, refl, ap, ◌∙◌, arith}
use Rattle.std.proofs.lemmas.List.{map-append}
use Rattle.sf_value.specs.declared.value.Value.{Value}
use Rattle.program_meaning.specs.declared.vars.Var.{Var}
use Rattle.program_meaning.specs.World.{Gives, Got}
use Rattle.program_meaning.specs.Evaluation.{Site}
use Rattle.source_meaning.specs.declared.Stop.{Stop}
use Rattle.source_meaning.specs.declared.Stop.TheVariants as stops
use Rattle.source_meaning.specs.declared.trailers.Trailer.{Trailer}
use Rattle.source_meaning.specs.Agrees.{FallsIn}
use Rattle.program_meaning.specs.Trailers.{PlainTrailer, trailer_size, followed, all_followed}
use Rattle.source_meaning.specs.TrailerViews.{plain_trailer}
use Rattle.program_meaning.proofs.TrailerLaws.{all_sizes, sizes_more, follow_first, follow_fallen}

pub sizes_last : (old new : List Trailer) (t : Trailer) → old ≡ new ++ t ∷ [] → all_sizes (map plain_trailer old) ≡ all_sizes (map plain_trailer new) + (1 + trailer_size (plain_trailer t))
sizes_last old new t is = ap (λ ts. all_sizes (map plain_trailer ts)) is ∙ ap all_sizes (map-append plain_trailer new (t ∷ [])) ∙ sizes_more (map plain_trailer new) (plain_trailer t)

module _ {W : Type 0} (s : Site W) (vars : List Var) where
  -- where none is left, what is given stays
  pub follow_ended : (ts : List Trailer) (g : Gives W Value) → length ts ≡ 0 → all_followed s (map plain_trailer ts) vars g ≡ g
  unfolding all_followed
  follow_ended [] g none = refl
  follow_ended (t ∷ ts) g none = absurd (omega arith)

  pub follow_last : (old new : List Trailer) (t : Trailer) (v : Value) (w : W) (n : ℕ) → old ≡ new ++ t ∷ [] → all_followed s (map plain_trailer old) vars (Got v w n) ≡ all_followed s (map plain_trailer new) vars (followed s (plain_trailer t) vars v w n)
  follow_last old new t v w n is =
      ap (λ ts. all_followed s (map plain_trailer ts) vars (Got v w n)) is
      ∙ ap (λ ts. all_followed s ts vars (Got v w n)) (map-append plain_trailer new (t ∷ []))
      ∙ follow_first s vars (map plain_trailer new) (plain_trailer t) (Got v w n)

  pub chain_falls : (stop : Stop) (ts : List PlainTrailer) (w : W) (n : ℕ) (g h : Gives W Value) → h ≡ all_followed s ts vars g → FallsIn stop w n g → FallsIn stop w n h
  chain_falls stops.NoMemory ts w n g h same falls = tt
  chain_falls (stops.Failed f) ts w n g h same falls = same ∙ ap (all_followed s ts vars) falls ∙ follow_fallen s vars ts f w n
