-- The lines of a history, entry by entry.
use Rattle.std.proofs.Common.{◌≡◌, ℕ, zero, suc, ◌+◌, ◌<◌, List, [], ◌∷◌, ◌++◌, length, take, Option, Result, Ok, IsErr, refl, sym, ap, ◌∙◌, subst, append-nil, arith}
use Rattle.std.proofs.lemmas.List.{take_all}
use Rattle.std.specs.Prelude.{slice_get}
use Rattle.std.specs.Option.{option_map}
use Rattle.sf_outside.specs.declared.gains.WriteStop.{WriteStop}
use Rattle.sf_outside.specs.Gains.{Wrote}
use Rattle.sf_outside.proofs.GainLaws.{Wrote-after, Wrote-more}
use Rattle.sf_value.specs.declared.Entry.{Entry}
use Rattle.program_meaning.specs.ClassTables.{Source}
use Rattle.request_history.specs.Repeats.{placed, kept_in}
use Rattle.export_laws.specs.Exports.{entry_lines, kept_lines, lines_from, history_lines}

module _ (src : Source) where
  -- the lines of one entry more
  next_from : (place k : ℕ) (es : List Entry) → k < length es
      → lines_from src place (take (suc k) es) ≡ lines_from src place (take k es) ++ kept_lines src (option_map (placed (k + place)) (slice_get es k))
  next_from place k [] within = absurd (omega arith)
  next_from place zero (e ∷ es) within =
      let same : place ≡ 0 + place = omega arith in
      append-nil (entry_lines src (placed place e)) ∙ ap (λ p. entry_lines src (placed p e)) same
  next_from place (suc k) (e ∷ es) within =
      let same : k + suc place ≡ suc k + place = omega arith in
      ap (λ l. entry_lines src (placed place e) ++ l) (next_from (suc place) k es (omega arith) ∙ ap (λ p. lines_from src (suc place) (take k es) ++ kept_lines src (option_map (placed p) (slice_get es k))) same)

  pub next_entry : (k place : ℕ) (es : List Entry) → k < length es → place ≡ suc k → history_lines src (take place es) ≡ history_lines src (take k es) ++ kept_lines src (kept_in es place)
  next_entry k place es within is =
      let same : k + 1 ≡ suc k = omega arith in
      ap (λ p. history_lines src (take p es)) is ∙ next_from 1 k es within ∙ ap (λ p. history_lines src (take k es) ++ kept_lines src (option_map (placed p) (slice_get es k))) same
      ∙ ap (λ p. history_lines src (take k es) ++ kept_lines src (kept_in es p)) (sym is)

  -- and those behind them
  pub others_from : (place k : ℕ) (es : List Entry) → (others : List (List ℕ)) × (lines_from src place es ≡ lines_from src place (take k es) ++ others)
  others_from place zero es = (lines_from src place es, refl)
  others_from place (suc k) [] = ([], refl)
  others_from place (suc k) (e ∷ es) = let behind = others_from (suc place) k es in (behind.0, ap (λ l. entry_lines src (placed place e) ++ l) behind.1)

  -- all entries
  pub all_entries : (n : ℕ) (es : List Entry) → n ≡ length es → history_lines src (take n es) ≡ history_lines src es
  all_entries n es is = ap (history_lines src) (take_all n es (omega (arith, is)))

  module _ {T U : Type 0} (done : U) (result : Result T WriteStop) (start between end : Option (List ℕ)) (es : List Entry) (k place : ℕ) (within : k < length es) (at : place ≡ suc k)
      (so_far : Wrote (Ok done) start between (history_lines src (take k es))) (one : Wrote result between end (kept_lines src (kept_in es place))) where
    -- what was written behind the next entry
    pub written_on : Wrote result start end (history_lines src (take place es))
    written_on =
        subst (Wrote result start end) (sym (next_entry k place es within at))
        (Wrote-after done result start between end (history_lines src (take k es)) (kept_lines src (kept_in es place)) so_far one)

    -- and where it stops there
    pub stopped_on : IsErr result → Wrote result start end (history_lines src es)
    stopped_on stopped =
        let behind = others_from 1 place es in
        subst (Wrote result start end) (sym behind.1) (Wrote-more result start end (history_lines src (take place es)) behind.0 stopped written_on)
