-- What a sink gains by lines that are written one after another.
use Rattle.std.proofs.Common.{◌≡◌, ℕ, ◌+◌, ◌<◌, List, [], ◌∷◌, ◌++◌, length, take, drop, get_or, Ok, Err, refl, sym, ap, ◌∙◌, subst, append-nil, take-append-drop}
use Rattle.std.proofs.lemmas.List.{take_at}
use Rattle.std.proofs.KnownBytes.{Appends-kept}
use Rattle.std.specs.declared.option.Option.{Option}
use Rattle.std.specs.declared.result.Result.{Result}
use Rattle.std.specs.Io.KnownBytes.{Keeps, Appends}
use Rattle.sf_outside.specs.Bytes.{AppendsPrefix}
use Rattle.sf_outside.specs.declared.gains.WriteStop.{WriteStop}
use Rattle.sf_outside.specs.declared.gains.WriteStop.TheVariants.{WriteFault}
use Rattle.sf_outside.specs.Gains.{joined, Wrote}
use Rattle.sf_outside.proofs.GainLaws.{Wrote-line, Wrote-part, Wrote-after, Wrote-more}
use Rattle.batch_output.proofs.Vocabulary.{copied_more}

module _ (start between end : Option (List ℕ)) (lines : List (List ℕ)) (i : ℕ) (line : List ℕ) (within : i < length lines) (is : line ≡ get_or lines i line) (so_far : Appends start between (joined (take i lines))) where
  -- the next line is written whole
  pub line_more : Appends between end line → Appends start end (joined (take (i + 1) lines))
  line_more whole =
      subst (λ l. Appends start end (joined l)) (sym (copied_more lines i line within is))
      (Wrote-after {T = Unit {0}} {U = Unit {0}} tt (Ok tt) start between end (take i lines) (line ∷ []) so_far (Wrote-line {U = Unit {0}} tt between end line whole))

  -- or in part, and then all lines are
  pub line_part : AppendsPrefix between end line → AppendsPrefix start end (joined lines)
  line_part part =
      let stop : Result (Unit {0}) WriteStop = Err WriteFault in
      let first : Wrote stop start end (take i lines ++ line ∷ []) = Wrote-after {U = Unit {0}} tt stop start between end (take i lines) (line ∷ []) so_far (Wrote-part stop between end line refl part) in
      let more : Wrote stop start end (take (i + 1) lines) = subst (Wrote stop start end) (sym (copied_more lines i line within is)) first in
      subst (λ l. AppendsPrefix start end (joined l)) (take-append-drop (i + 1) lines) (Wrote-more stop start end (take (i + 1) lines) (drop (i + 1) lines) refl more)

-- what is written whole is its own first part
pub whole_is_part : (start end : Option (List ℕ)) (bytes : List ℕ) → Appends start end bytes → AppendsPrefix start end bytes
whole_is_part start end bytes whole = (length bytes, subst (Appends start end) (sym (take_at bytes [] (length bytes) refl) ∙ ap (take (length bytes)) (append-nil bytes)) whole)

-- a flush adds nothing
pub flushed : (start between end : Option (List ℕ)) (bytes : List ℕ) → Appends start between bytes → Keeps between end → Appends start end bytes
flushed start between end bytes whole kept = Appends-kept start between end bytes whole kept
