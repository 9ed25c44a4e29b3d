-- What is counted and traced of batches, as long as there are no more than a count can hold.
use Rattle.std.proofs.Common.{◌≡◌, ◌+◌, ◌^◌, ◌<◌, Bool, true, false, List, [], ◌∷◌, length, refl, ap, ◌∙◌, arith}
use Rattle.sf_outside.specs.Gains.{joined}
use Rattle.line_answers.specs.Vocabulary.{BatchCounts}
use Rattle.session_steps.specs.declared.tally.Tally.{Tally}
use Rattle.session_steps.specs.Traces.{no_batch, with_batch, tally_after, events_in, trace_line, trace_lines, trace_text, lines_from, numbered_text}

module _ (t : Tally) (counts : BatchCounts) where
  one_more : t.batches + 1 < 2 ^ 64 → (with_batch t counts).batches ≡ t.batches + 1
  one_more few = omega (arith, few)

lines_plain : (t : Tally) (counts : List BatchCounts) → t.batches + length counts < 2 ^ 64 → trace_lines t counts ≡ lines_from t.batches counts
unfolding trace_lines lines_from
lines_plain t [] few = refl
lines_plain t (c ∷ more) few =
    let next : (with_batch t c).batches ≡ t.batches + 1 = one_more t c (omega (arith, few)) in
    ap (λ n. trace_line n c ∷ trace_lines (with_batch t c) more) next
    ∙ ap (λ l. trace_line (t.batches + 1) c ∷ l) (lines_plain (with_batch t c) more (omega (arith, few, next)) ∙ ap (λ n. lines_from n more) next)

batches_behind : (t : Tally) (counts : List BatchCounts) → t.batches + length counts < 2 ^ 64 → (tally_after t counts).batches ≡ t.batches + length counts
unfolding tally_after
batches_behind t [] few = omega arith
batches_behind t (c ∷ more) few =
    let next : (with_batch t c).batches ≡ t.batches + 1 = one_more t c (omega (arith, few)) in
    let rest : (tally_after (with_batch t c) more).batches ≡ (with_batch t c).batches + length more = batches_behind (with_batch t c) more (omega (arith, few, next)) in
    omega (arith, rest, next)

events_behind : (t : Tally) (counts : List BatchCounts) → t.events + events_in counts < 2 ^ 64 → (tally_after t counts).events ≡ t.events + events_in counts
unfolding tally_after events_in
events_behind t [] few = omega arith
events_behind t (c ∷ more) few =
    let next : (with_batch t c).events ≡ t.events + c.events = omega (arith, few) in
    let rest : (tally_after (with_batch t c) more).events ≡ (with_batch t c).events + events_in more = events_behind (with_batch t c) more (omega (arith, few, next)) in
    omega (arith, rest, next)

-- the text that is traced, and how many batches and events there were
pub text_plain : (traces : Bool) (counts : List BatchCounts) → length counts < 2 ^ 64 → trace_text traces no_batch counts ≡ numbered_text traces counts
text_plain true counts few = ap joined (lines_plain no_batch counts (omega (arith, few)))
text_plain false counts few = refl

pub batches_plain : (counts : List BatchCounts) → length counts < 2 ^ 64 → (tally_after no_batch counts).batches ≡ length counts
batches_plain counts few = let so = batches_behind no_batch counts (omega (arith, few)) in omega (arith, so)

pub events_plain : (counts : List BatchCounts) → events_in counts < 2 ^ 64 → (tally_after no_batch counts).events ≡ events_in counts
events_plain counts few = let so = events_behind no_batch counts (omega (arith, few)) in omega (arith, so)
