-- The line of a summary, from its pieces.
use Rattle.std.proofs.Common.{◌≡◌, ℕ, List, [], ◌∷◌, ◌++◌, codes, decimal, sym, ap, ◌∙◌, append_assoc}
use Rattle.std.specs.Fmt.{signed_decimal}
use Rattle.std.specs.List.{concat}
use Rattle.wide_sums.specs.Sums.{sum_of}
use Rattle.generated_run.specs.declared.summing.Summary.{Summary}
use Rattle.generated_run.specs.Summaries.{summary_line}

-- three parts, one behind the other, are one
joined_parts : (sign front back whole rest : List ℕ) → sign ++ (front ++ back) ≡ whole → sign ++ (front ++ (back ++ rest)) ≡ whole ++ rest
joined_parts sign front back whole rest is = ap (λ l. sign ++ l) (sym (append_assoc front back rest)) ∙ sym (append_assoc sign (front ++ back) rest) ∙ ap (λ l. l ++ rest) is

module _ (s : Summary) (requests committed failed batches events sign front back : List ℕ) where
  pub line_of_pieces : requests ≡ decimal s.requests → committed ≡ decimal s.committed → failed ≡ decimal s.failed → batches ≡ decimal s.batches → events ≡ decimal s.events
      → sign ++ (front ++ back) ≡ signed_decimal (sum_of s.total)
      → concat
      (codes "requests " ∷ requests ∷ codes " committed " ∷ committed ∷ codes " failed " ∷ failed ∷ codes " batches " ∷ batches ∷ codes " events " ∷ events
      ∷ codes " total " ∷ sign ∷ front ∷ back ∷ codes "\n" ∷ [])
      ≡ summary_line s
  line_of_pieces r c f b e t =
      let total : sign ++ (front ++ (back ++ codes "\n")) ≡ signed_decimal (sum_of s.total) ++ codes "\n" = joined_parts sign front back (signed_decimal (sum_of s.total)) (codes "\n") t in
      λ i.
      codes "requests "
      ++ (r i ++ (codes " committed " ++ (c i ++ (codes " failed " ++ (f i ++ (codes " batches " ++ (b i ++ (codes " events " ++ (e i ++ (codes " total " ++ total i))))))))))
