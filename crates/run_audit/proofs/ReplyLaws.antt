-- A reply line, with and without its LF, and what a new request is.
use Rattle.std.proofs.Common.{◌≡◌, ℕ, ◌<◌, ◌↔◌, Bool, true, false, true≢false, ◌||◌, nat_le, List, [], ◌∷◌, ◌++◌, length, take, Option, Some, None, refl, sym, ap, ◌∙◌, arith, if◌then◌else◌, length-append}
use Rattle.std.specs.Prelude.{bytes_eq, option_to_list, IsSome}
use Rattle.std.specs.List.{list_any}
use lib.Seq.{take-append_seam}
use Rattle.std.proofs.lemmas.Bool.Decides.{nat_tests}
use Rattle.std.proofs.lemmas.Option.{none-some}
use Rattle.sf_value.specs.declared.Outcome.{Outcome}
use Rattle.sf_value.specs.declared.Request.{Request}
use Rattle.request_json.specs.ReplyLines.{reply_line}
use Rattle.run_audit.specs.Verdict.{last_entry, if_new, reply_text}

pub line_of_reply : (id : List ℕ) (o : Outcome) (place : ℕ) → reply_line id o place ≡ reply_text id o place ++ 10 ∷ []
unfolding reply_line
line_of_reply id o place = refl

-- what stands before the last byte
pub popped : (line new text : List ℕ) (o : Option ℕ) → line ≡ new ++ option_to_list o → IsSome o ↔ (0 < length line) → line ≡ text ++ 10 ∷ [] → new ≡ text
popped line new text None taken some whole = absurd (true≢false (sym (some.1 (omega (arith, ap length whole, length-append text (10 ∷ []))))))
popped line new text (Some x) taken some whole =
    let same : length new ≡ length text = omega (arith, ap length taken, ap length whole, length-append new (x ∷ []), length-append text (10 ∷ [])) in
    sym (take-append_seam new (x ∷ [])) ∙ ap (take (length new)) (sym taken ∙ whole) ∙ ap (λ n. take n (text ++ 10 ∷ [])) same ∙ take-append_seam text (10 ∷ [])

-- a new request finds a place
pub has_place : (ids : List (List ℕ)) (r : Request) → if_new ids r ≡ Some r → length ids < 4294967295
has_place ids r is = by (list_any (bytes_eq r.id) ids) (nat_le last_entry (length ids)) refl is
  where
    by : (known full : Bool) → nat_le last_entry (length ids) ≡ full → (if known || full then None else Some r) ≡ Some r → length ids < 4294967295
    by true full test is = absurd (none-some r is)
    by false true test is = absurd (none-some r is)
    by false false test is = grind (arith, nat_tests)
