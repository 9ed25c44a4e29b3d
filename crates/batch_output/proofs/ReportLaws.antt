-- What was printed in parts, as one report.
use Rattle.std.proofs.Common.{◌≡◌, ℕ, zero, suc, ◌+◌, ◌<◌, ◌≤◌, Some, List, [], ◌∷◌, ◌++◌, map as over, length, refl, sym, ap, ◌∙◌, subst, append_assoc, append-nil, arith}
use Rattle.std.specs.List.{range_with_len, slice_get}
use Rattle.std.proofs.lemmas.List.{length-append, map-append}
use Rattle.std.proofs.lemmas.List.FromFn.{length-range_with_len}
use Rattle.sf_value.specs.declared.Entry.{Entry}
use Rattle.program_meaning.specs.ClassTables.{Source}
use Rattle.request_json.specs.ReplyLines.{reply_line, bad_line}
use Rattle.request_history.specs.Repeats.{entry_at}
use Rattle.engine.specs.Cores.{Core, IsSoundCore}
use Rattle.batch_output.specs.BatchOutput.{entry_lines}
use Rattle.batch_output.specs.SerialBatches.{Printed, Refused, Reply, Again, text_of_entry, printed_text, printed_texts, places, RepeatsStand, AreNumbered}

-- Lists of what was printed

places-append : (xs ys : List Printed) → places (xs ++ ys) ≡ places xs ++ places ys
places-append [] ys = refl
places-append (Refused number what ∷ xs) ys = places-append xs ys
places-append (Reply place ∷ xs) ys = ap (λ l. place ∷ l) (places-append xs ys)
places-append (Again place ∷ xs) ys = places-append xs ys

repeats-append : (before : ℕ) (xs ys : List Printed) → RepeatsStand before xs → RepeatsStand (before + length (places xs)) ys → RepeatsStand before (xs ++ ys)
repeats-append before [] ys first later = let same : before + 0 ≡ before = omega arith in subst (λ n. RepeatsStand n ys) same later
repeats-append before (Refused number what ∷ xs) ys first later = repeats-append before xs ys first later
repeats-append before (Reply place ∷ xs) ys first later =
    let same : before + suc (length (places xs)) ≡ before + 1 + length (places xs) = omega arith in
    repeats-append (before + 1) xs ys first (subst (λ n. RepeatsStand n ys) same later)
repeats-append before (Again place ∷ xs) ys first later = (first.0, first.1, repeats-append before xs ys first.2 later)

numbered_earlier : (earlier before last : ℕ) (xs : List Printed) → earlier ≤ before → AreNumbered before last xs → AreNumbered earlier last xs
numbered_earlier earlier before last [] low told = tt
numbered_earlier earlier before last (Refused number what ∷ xs) low told = let above : before < number = told.0 in (omega arith, told.1, told.2)
numbered_earlier earlier before last (Reply place ∷ xs) low told = numbered_earlier earlier before last xs low told
numbered_earlier earlier before last (Again place ∷ xs) low told = numbered_earlier earlier before last xs low told

pub numbered_later : (before last later : ℕ) (xs : List Printed) → last ≤ later → AreNumbered before last xs → AreNumbered before later xs
numbered_later before last later [] high told = tt
numbered_later before last later (Refused number what ∷ xs) high told =
    let below : number ≤ last = told.1 in
    (told.0, omega arith, numbered_later number last later xs high told.2)
numbered_later before last later (Reply place ∷ xs) high told = numbered_later before last later xs high told
numbered_later before last later (Again place ∷ xs) high told = numbered_later before last later xs high told

numbered-append : (before middle last : ℕ) (xs ys : List Printed) → before ≤ middle → middle ≤ last → AreNumbered before middle xs → AreNumbered middle last ys → AreNumbered before last (xs ++ ys)
numbered-append before middle last [] ys low high first later = numbered_earlier before middle last ys low later
numbered-append before middle last (Refused number what ∷ xs) ys low high first later =
    let below : number ≤ middle = first.1 in
    (first.0, omega arith, numbered-append number middle last xs ys below high first.2 later)
numbered-append before middle last (Reply place ∷ xs) ys low high first later = numbered-append before middle last xs ys low high first later
numbered-append before middle last (Again place ∷ xs) ys low high first later = numbered-append before middle last xs ys low high first later

range-append : (a m n : ℕ) → range_with_len a m ++ range_with_len (a + m) n ≡ range_with_len a (m + n)
range-append a zero n =
    let first : a + 0 ≡ a = omega arith in
    let count : n ≡ 0 + n = omega arith in
    ap (λ b. range_with_len b n) first ∙ ap (range_with_len a) count
range-append a (suc m) n =
    let next : a + suc m ≡ a + 1 + m = omega arith in
    let count : suc (m + n) ≡ suc m + n = omega arith in
    ap (λ b. a ∷ (range_with_len (a + 1) m ++ range_with_len b n)) next ∙ ap (λ l. a ∷ l) (range-append (a + 1) m n) ∙ ap (range_with_len a) count

-- Texts in a longer history

entry_stays : (history more : List Entry) (i : ℕ) → i < length history → slice_get (history ++ more) i ≡ slice_get history i
entry_stays [] more i within = absurd (omega arith)
entry_stays (e ∷ es) more zero within = refl
entry_stays (e ∷ es) more (suc i) within = entry_stays es more i (omega arith)

text_stays : (history more : List Entry) (place : ℕ) → place ≤ length history → text_of_entry (entry_at (history ++ more) place) place ≡ text_of_entry (entry_at history place) place
text_stays history more zero within = refl
text_stays history more (suc i) within = ap (λ o. text_of_entry o (suc i)) (entry_stays history more i (omega arith))

texts_stay : (history more : List Entry) (before count : ℕ) (xs : List Printed) → before + count ≤ length history → places xs ≡ range_with_len (before + 1) count → RepeatsStand before xs
    → printed_texts (history ++ more) xs ≡ printed_texts history xs
texts_stay history more before count [] fit counted repeats = refl
texts_stay history more before count (Refused number what ∷ xs) fit counted repeats = ap (λ l. bad_line what number ∷ l) (texts_stay history more before count xs fit counted repeats)
texts_stay history more before zero (Reply place ∷ xs) fit counted repeats = absurd cc
texts_stay history more before (suc count) (Reply place ∷ xs) fit counted repeats =
    let here : place ≡ before + 1 = cc in
    let rest : places xs ≡ range_with_len (before + 1 + 1) count = cc in
    λ i. text_stays history more place (omega arith) i ∷ texts_stay history more (before + 1) count xs (omega arith) rest repeats i
texts_stay history more before count (Again place ∷ xs) fit counted repeats =
    let below : place ≤ before = repeats.1 in
    λ i. text_stays history more place (omega arith) i ∷ texts_stay history more before count xs fit counted repeats.2 i

-- Reports

-- from one core to another this was printed, while the lines from one number to another came
pub record Goes (src : Source) (old new : Core) (first last : ℕ) (texts : List (List ℕ)) : Type 0 where
  pub sound : IsSoundCore src new
  pub added : List Entry
  pub printed : List Printed
  pub history : new.history ≡ old.history ++ added
  pub counted : places printed ≡ range_with_len (length old.history + 1) (length added)
  pub repeats : RepeatsStand (length old.history) printed
  pub rises : first ≤ last
  pub numbered : AreNumbered first last printed
  pub texts_are : texts ≡ printed_texts new.history printed

module _ (src : Source) where
  pub Goes-none : (core : Core) (first last : ℕ) → first ≤ last → IsSoundCore src core → Goes src core core first last []
  Goes-none core first last rises sound =
      record { sound = sound; added = []; printed = []; history = sym (append-nil core.history); counted = refl; repeats = tt; rises = rises; numbered = tt; texts_are = refl }

  pub Goes-then : (old middle new : Core) (first next last : ℕ) (xs ys : List (List ℕ)) → Goes src old middle first next xs → Goes src middle new next last ys → Goes src old new first last (xs ++ ys)
  Goes-then old middle new first next last xs ys a b =
      let grown : length middle.history ≡ length old.history + length a.added = ap length a.history ∙ length-append old.history a.added in
      let more : length (a.added ++ b.added) ≡ length a.added + length b.added = length-append a.added b.added in
      let place : length middle.history + 1 ≡ length old.history + 1 + length a.added = omega (arith, grown) in
      let replies : length (places a.printed) ≡ length a.added = ap length a.counted ∙ length-range_with_len (length old.history + 1) (length a.added) in
      let stand : length middle.history ≡ length old.history + length (places a.printed) = omega (arith, grown, replies) in
      let fit : length old.history + length a.added ≤ length middle.history = omega (arith, grown) in
      let low : first ≤ next = a.rises in
      let high : next ≤ last = b.rises in
      record {
        sound = b.sound;
        added = a.added ++ b.added;
        printed = a.printed ++ b.printed;
        history = b.history ∙ ap (λ h. h ++ b.added) a.history ∙ append_assoc old.history a.added b.added;
        counted =
            places-append a.printed b.printed
            ∙ (λ i. a.counted i ++ (b.counted ∙ ap (λ n. range_with_len n (length b.added)) place) i)
            ∙ range-append (length old.history + 1) (length a.added) (length b.added)
            ∙ ap (range_with_len (length old.history + 1)) (sym more);
        repeats = repeats-append (length old.history) a.printed b.printed a.repeats (subst (λ n. RepeatsStand n b.printed) stand b.repeats);
        rises = omega (arith, low, high);
        numbered = numbered-append first next last a.printed b.printed low high a.numbered b.numbered;
        texts_are =
            (λ i. (a.texts_are ∙ sym (texts_stay middle.history b.added (length old.history) (length a.added) a.printed fit a.counted a.repeats) ∙ ap (λ h. printed_texts h a.printed) (sym b.history)) i ++ b.texts_are i)
            ∙ sym (map-append (printed_text new.history) a.printed b.printed);
      }

-- The entries of a batch

pub first_replies : List ℕ → List Printed
first_replies = over Reply

places_of_replies : (ps : List ℕ) → places (first_replies ps) ≡ ps
unfolding first_replies
places_of_replies [] = refl
places_of_replies (p ∷ ps) = ap (λ l. p ∷ l) (places_of_replies ps)

no_repeats : (before : ℕ) (ps : List ℕ) → RepeatsStand before (first_replies ps)
unfolding first_replies
no_repeats before [] = tt
no_repeats before (p ∷ ps) = no_repeats (before + 1) ps

no_refusals : (before last : ℕ) (ps : List ℕ) → AreNumbered before last (first_replies ps)
unfolding first_replies
no_refusals before last [] = tt
no_refusals before last (p ∷ ps) = no_refusals before last ps

seam : (es : List Entry) (e : Entry) (more : List Entry) → slice_get (es ++ e ∷ more) (length es) ≡ Some e
seam [] e more = refl
seam (x ∷ es) e more = seam es e more

reply_there : (es : List Entry) (e : Entry) (more : List Entry) → printed_text (es ++ e ∷ more) (Reply (length es + 1)) ≡ reply_line e.request.id e.outcome (length es + 1)
reply_there es e more =
    let place : length es + 1 ≡ suc (length es) = omega arith in
    ap (λ k. text_of_entry (entry_at (es ++ e ∷ more) k) (length es + 1)) place ∙ ap (λ o. text_of_entry o (length es + 1)) (seam es e more)

entry_texts : (history es : List Entry) → entry_lines (length history + 1) es ≡ printed_texts (history ++ es) (first_replies (range_with_len (length history + 1) (length es)))
unfolding first_replies
entry_texts history [] = refl
entry_texts history (e ∷ es) =
    let longer : length (history ++ e ∷ []) ≡ length history + 1 = length-append history (e ∷ []) in
    let later : entry_lines (length history + 1 + 1) es ≡ printed_texts (history ++ e ∷ es) (over Reply (range_with_len (length history + 1 + 1) (length es))) =
    ap (λ n. entry_lines (n + 1) es) (sym longer)
    ∙ entry_texts (history ++ e ∷ []) es
    ∙ (λ i. printed_texts (append_assoc history (e ∷ []) es i) (over Reply (range_with_len (longer i + 1) (length es)))) in
    λ i. sym (reply_there history e es) i ∷ later i

pub Goes-batch : (src : Source) (old new : Core) (es : List Entry) (first last : ℕ) → first ≤ last → IsSoundCore src new → new.history ≡ old.history ++ es → Goes src old new first last (entry_lines (length old.history + 1) es)
Goes-batch src old new es first last rises sound grown =
    let ps : List ℕ = range_with_len (length old.history + 1) (length es) in
    record {
      sound = sound;
      added = es;
      printed = first_replies ps;
      history = grown;
      counted = places_of_replies ps;
      repeats = no_repeats (length old.history) ps;
      rises = rises;
      numbered = no_refusals first last ps;
      texts_are = entry_texts old.history es ∙ ap (λ h. printed_texts h (first_replies ps)) (sym grown);
    }
