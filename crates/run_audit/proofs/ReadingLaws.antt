-- How the reading of a front goes on behind it.
use Rattle.std.proofs.Common.{◌≡◌, ℕ, ◌+◌, ◌*◌, ◌<◌, Bool, true, false, nat_le, List, [], ◌∷◌, ◌++◌, length, Option, Some, None, refl, sym, ap, ◌∙◌, arith, if◌then◌else◌}
use Rattle.std.proofs.lemmas.Bool.Decides.{nat_tests}
use Rattle.std.specs.Result.{result_ok}
use Rattle.sf_value.specs.declared.Request.{Request}
use Rattle.program_meaning.specs.ClassTables.{Source}
use Rattle.request_json.specs.Arguments.{◌>>?◌}
use Rattle.request_json.specs.RequestLines.{longest, reading_of}
use Rattle.request_json.specs.Actions.{Line, bytes_of, content_of}
use Rattle.run_audit.specs.Verdict.{longest_reply, Pair, if_new, asked_by, is_reply, Reading, bad_line, behind_entry, Extent, Whole, Front, read_last, read_pair, read_lines}
use Rattle.run_audit.specs.Fronts.{most_behind}

-- The reading of a front is that of the whole file, or it met nothing bad, and the file's entries begin with its own.
pub data Begins (front full : Reading) : Type 0 where
  Same : front ≡ full → Begins front full
  More : (others : List Pair) → front.bad ≡ None → full.entries ≡ front.entries ++ others → Begins front full

behind_both : (p : Pair) (front full : Reading) → Begins front full → Begins (behind_entry p front) (behind_entry p full)
behind_both p front full (Same same) = Same (ap (behind_entry p) same)
behind_both p front full (More others none is) = More others none (ap (λ ps. p ∷ ps) is)

-- two lines of both
pair_begins : (n : ℕ) (o : Option Request) (even : Line) (front full : Request → Reading) → ((r : Request) → Begins (front r) (full r)) → Begins (read_pair n o even front) (read_pair n o even full)
pair_begins n None even front full later = Same refl
pair_begins n (Some r) even front full later = by (is_reply even)
  where
    by : (b : Bool) → Begins (if b then behind_entry (record { asked = r; said = content_of even }) (front r) else bad_line (2 * n + 2))
        (if b then behind_entry (record { asked = r; said = content_of even }) (full r) else bad_line (2 * n + 2))
    by true = behind_both (record { asked = r; said = content_of even }) (front r) (full r) (later r)
    by false = Same refl

-- a last odd line of the front, with the lines behind it
last_begins : (src : Source) (earlier : List (List ℕ)) (odd : Line) (more : List Line)
    → Begins (read_last Front (length earlier) (asked_by src earlier odd)) (read_lines src Whole earlier (odd ∷ more))
unfolding read_lines
last_begins src earlier odd [] = by (asked_by src earlier odd)
  where
    by : (o : Option Request) → Begins (read_last Front (length earlier) o) (read_last Whole (length earlier) o)
    by None = Same refl
    by (Some r) = More [] refl refl
last_begins src earlier odd (even ∷ more) = by (asked_by src earlier odd)
  where
    by : (o : Option Request) → Begins (read_last Front (length earlier) o) (read_pair (length earlier) o even (λ r. read_lines src Whole (earlier ++ r.id ∷ []) more))
    by None = Same refl
    by (Some r) = More _ refl refl

pub lines_begin : (src : Source) (earlier : List (List ℕ)) (ls more : List Line) → Begins (read_lines src Front earlier ls) (read_lines src Whole earlier (ls ++ more))
unfolding read_lines
lines_begin src earlier [] more = More _ refl refl
lines_begin src earlier (odd ∷ []) more = last_begins src earlier odd more
lines_begin src earlier (odd ∷ even ∷ ls) more =
    pair_begins (length earlier) (asked_by src earlier odd) even (λ r. read_lines src Front (earlier ++ r.id ∷ []) ls) (λ r. read_lines src Whole (earlier ++ r.id ∷ []) (ls ++ more))
    (λ r. lines_begin src (earlier ++ r.id ∷ []) ls more)

-- ---- a line that is too long is bad, whatever of it and behind it stands

over : (most n : ℕ) → most < n → nat_le n most ≡ false
over most n h = grind (arith, nat_tests)

pub asks_nothing : (src : Source) (earlier : List (List ℕ)) (l : Line) → longest < length (bytes_of l) → asked_by src earlier l ≡ None
asks_nothing src earlier l long = ap (λ b. if b then result_ok (reading_of src (content_of l)) >>? if_new earlier else None) (over longest (length (bytes_of l)) long)

pub long_odd : (src : Source) (extent : Extent) (earlier : List (List ℕ)) (l : Line) (more : List Line) → longest < length (bytes_of l)
    → read_lines src extent earlier (l ∷ more) ≡ bad_line (2 * length earlier + 1)
unfolding read_lines
long_odd src extent earlier l [] long = ap (read_last extent (length earlier)) (asks_nothing src earlier l long)
long_odd src extent earlier l (even ∷ more) long = ap (λ o. read_pair (length earlier) o even (λ r. read_lines src extent (earlier ++ r.id ∷ []) more)) (asks_nothing src earlier l long)

pub long_even : (n : ℕ) (o : Option Request) (l l' : Line) (front full : Request → Reading) → longest_reply < length (bytes_of l) → longest_reply < length (bytes_of l') → read_pair n o l front ≡ read_pair n o l' full
long_even n None l l' front full long long' = refl
long_even n (Some r) l l' front full long long' =
    ap (λ b. if b then behind_entry (record { asked = r; said = content_of l }) (front r) else bad_line (2 * n + 2)) (over longest_reply (length (bytes_of l)) long)
    ∙ sym (ap (λ b. if b then behind_entry (record { asked = r; said = content_of l' }) (full r) else bad_line (2 * n + 2)) (over longest_reply (length (bytes_of l')) long'))

pub long_begins : (src : Source) (earlier : List (List ℕ)) (ls : List Line) (l l' : Line) (more : List Line) → most_behind ls < length (bytes_of l) → most_behind ls < length (bytes_of l')
    → Begins (read_lines src Front earlier (ls ++ l ∷ [])) (read_lines src Whole earlier (ls ++ l' ∷ more))
unfolding read_lines
long_begins src earlier [] l l' more long long' = Same (long_odd src Front earlier l [] long ∙ sym (long_odd src Whole earlier l' more long'))
long_begins src earlier (odd ∷ []) l l' more long long' = Same (long_even (length earlier) (asked_by src earlier odd) l l' _ _ long long')
long_begins src earlier (odd ∷ even ∷ ls) l l' more long long' =
    pair_begins (length earlier) (asked_by src earlier odd) even (λ r. read_lines src Front (earlier ++ r.id ∷ []) (ls ++ l ∷ [])) (λ r. read_lines src Whole (earlier ++ r.id ∷ []) (ls ++ l' ∷ more))
    (λ r. long_begins src (earlier ++ r.id ∷ []) ls l l' more long long')
