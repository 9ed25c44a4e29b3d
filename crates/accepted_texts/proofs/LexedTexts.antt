-- Reading a text stays within its longest front that is UTF-8, so a text that is read to its end is UTF-8.
use Rattle.std.proofs.Common.{◌≡◌, ℕ, ◌+◌, ◌<◌, ◌≤◌, Bool, true, false, List, [], length, take, Some, refl, subst, arith, ⊎_elim}
use Rattle.std.specs.Prelude.{◌==◌, if◌then◌else◌, slice_index, IsUtf8}
use Rattle.std.specs.Str.Lossy.{utf8_valid_len}
use Rattle.std.proofs.Math.Seq.{take-length}
use Rattle.std.proofs.lemmas.Bool.{and_parts, cases_lt, leb-true}
use Rattle.std.proofs.lemmas.Bool.Decides.{nat_tests}
use Rattle.std.proofs.lemmas.Str.{utf8_valid_len_le}
use Rattle.py_tree.specs.declared.names.Place.{Place}
use Rattle.py_tree.specs.StringText.{escape}
use Rattle.py_tree.specs.Tokens.{PlainToken, PlainLine}
use Rattle.py_lexer.specs.declared.strings.Quote.{Quote}
use Rattle.py_lexer.specs.Cursor.{At, start, at_end, byte, rest, moved, past_line, is_word, is_numeric, is_blank, is_backslash, is_quote, word_len, digits, blanks, sign}
use Rattle.py_lexer.specs.LogicalLines.{Outcome, found, stops, Nothing, led_by, IsComment, comment_ends, comment_stops, comment_more, joins, IsGap, gap_blank, gap_comment, gap_stops, gap_line, gap_join, gap_ends, stands_thrice, quote_at, quote_len, closes, IsPiece, piece_stops, piece_byte, piece_escape, piece_bad, IsBody, body_open, body_broken, body_closed, body_cut, body_line, body_stops, body_more, sign_len, behind_word, behind_digits, IsNumber, number_bad, number_wide, number_is, IsString, string_stops, string_is, IsSign, sign_is, sign_none, IsToken, token_broken, token_word, token_number, token_string, token_sign, IsTokens, tokens_stop, tokens_gap, tokens_end, tokens_open, tokens_more, unblanked, IsBare, bare_ends, bare_comment, IsColumn, column_tab, column_broken, column_dedent, column_is, IsLine, line_misplaced, line_stops, line_is, IsLines, lines_end, lines_bare, lines_bare_stops, lines_stop, lines_more, Lexed, has_lines, has_fault, IsText, text_too_long, text_stops, text_lines}
use Rattle.accepted_texts.proofs.ValidFronts.{valid_is_utf8, stops_before_wide}
use Rattle.accepted_texts.proofs.AsciiFronts.{is_byte, run_is_ascii, escape_is_ascii, sign_front_is_ascii}
use Rattle.accepted_texts.proofs.FrontPlaces.{AreAscii, ascii_from, ascii_one, ascii_more, IsInFront, not_stray, not_at_end, byte_passes, ascii_passes, line_passes}

-- ---- what the tests say of a byte

blank_is_ascii : (b : ℕ) → is_blank b ≡ true → b < 128
blank_is_ascii b e = grind (arith, nat_tests)

numeric_is_ascii : (b : ℕ) → is_numeric b ≡ true → b < 128
numeric_is_ascii b e = grind (arith, nat_tests)

word_is_ascii : (b : ℕ) → is_word b ≡ true → b < 128
word_is_ascii b e = grind (arith, nat_tests)

quote_is_ascii : (b : ℕ) → is_quote b ≡ true → b < 128
quote_is_ascii b e = grind (arith, nat_tests)

thrice_is_ascii : (mark : ℕ) (i : At) → mark < 128 → stands_thrice mark i ≡ true → AreAscii 3 i
thrice_is_ascii mark i small e =
    let both = and_parts _ _ e in
    let first = and_parts _ _ both.0 in
    let is_mark : (b : ℕ) → b == mark ≡ true → b < 128 = λ b. is_byte b mark small in
    ascii_more 2 i (ascii_more 1 i (ascii_one i (is_mark (byte i) first.0)) (is_mark (byte (moved 1 i)) first.1)) (is_mark (byte (moved 2 i)) both.1)

-- the quotes that close a string
closing_is_ascii : (triple : Bool) (mark : ℕ) (i : At)
    → mark < 128 → (if triple then stands_thrice mark i else byte i == mark) ≡ true → AreAscii (if triple then 3 else 1) i
closing_is_ascii true mark i small e = thrice_is_ascii mark i small e
closing_is_ascii false mark i small e = ascii_one i (is_byte (byte i) mark small e)

-- and those that begin it
opening_is_ascii : (triple : Bool) (i : At) → stands_thrice (byte i) i ≡ triple → byte i < 128 → AreAscii (if triple then 3 else 1) i
opening_is_ascii true i e small = thrice_is_ascii (byte i) i small e
opening_is_ascii false i e small = ascii_one i small

-- ---- what is read stays in front

-- where something is found, the place behind it is in front
abbrev Stays : {A : Type 0} → List ℕ → Outcome A → Type 0
Stays text (found x m) = IsInFront text m
Stays text (stops f) = Unit {0}

led_stays : {A : Type 0} (text : List ℕ) (x : A) (o : Outcome (List A)) → Stays text o → Stays text (led_by x o)
led_stays text x (found xs m) s = s
led_stays text x (stops f) s = tt

moved_on : (text : List ℕ) (n k : ℕ) (i : At) → IsInFront text (moved k (moved n i)) → IsInFront text (moved (n + k) i)
unfolding moved
moved_on text n k i s = record { same = s.same; within = omega (arith, s.within) }

module _ (text : List ℕ) (wide : 128 ≤ slice_index text (utf8_valid_len text)) where
  passes : (i : At) (n : ℕ) → AreAscii n i → IsInFront text i → IsInFront text (moved n i)
  passes = ascii_passes text wide

  passes_one : (i : At) → byte i < 128 → IsInFront text i → IsInFront text (moved 1 i)
  passes_one i small = passes i 1 (ascii_one i small)

  passes_blanks : (i : At) → IsInFront text i → IsInFront text (unblanked i)
  unfolding unblanked blanks
  passes_blanks i = passes i _ (ascii_from _ i (run_is_ascii is_blank (rest i) blank_is_ascii))

  comment : (i : At) (o : Outcome Nothing) → IsComment i o → IsInFront text i → Stays text o
  comment i o (comment_ends e) s = s
  comment i o (comment_stops e k) s = tt
  comment i o (comment_more e k more) s = comment _ o more (byte_passes text i (not_at_end i e) (not_stray i k) s)

  joined : (i : At) → joins i ≡ true → IsInFront text i → IsInFront text (past_line (moved 1 i))
  unfolding joins
  joined i e s = line_passes text wide (moved 1 i) (passes_one i (is_byte (byte i) 92 (omega arith) (and_parts _ _ e).0) s)

  gap : (d : ℕ) (i : At) (o : Outcome Nothing) → IsGap d i o → IsInFront text i → Stays text o
  gap d i o (gap_blank b more) s = gap d _ o more (passes_one i (blank_is_ascii (byte i) b) s)
  gap d i o (gap_comment h c more) s = gap d _ o more (comment _ _ c (passes_one i (is_byte (byte i) 35 (omega arith) h) s))
  gap d i o (gap_stops h c) s = tt
  gap d i o (gap_line p more) s = gap d _ o more (line_passes text wide i s)
  gap d i o (gap_join j more) s = gap d _ o more (joined i j s)
  gap d i o (gap_ends a b c e) s = s

  escaped : (i : At) (e : ℕ × ℕ) → is_backslash (byte i) ≡ true → escape (rest (moved 1 i)) ≡ Some e → IsInFront text i → IsInFront text (moved (1 + e.1) i)
  escaped i e b is s =
      let behind : IsInFront text (moved 1 i) = passes_one i (is_byte (byte i) 92 (omega arith) b) s in
      moved_on text 1 e.1 i (passes (moved 1 i) e.1 (ascii_from e.1 (moved 1 i) (escape_is_ascii (rest (moved 1 i)) e is)) behind)

  piece : (i : At) (o : Outcome Nothing) → at_end i ≡ false → IsPiece i o → IsInFront text i → Stays text o
  piece i o a (piece_stops k) s = tt
  piece i o a (piece_byte k b) s = byte_passes text i a (not_stray i k) s
  piece i o a (piece_escape k b e) s = escaped i _ b e s
  piece i o a (piece_bad k b e) s = tt

  closed : (q : Quote) (i : At) → q.mark < 128 → closes q i ≡ true → IsInFront text i → IsInFront text (moved (quote_len q) i)
  unfolding closes
  closed q i small c s = passes i (quote_len q) (closing_is_ascii q.is_triple q.mark i small c) s

  body : (q : Quote) (b i : At) (o : Outcome Nothing) → q.mark < 128 → IsBody q b i o → IsInFront text i → Stays text o
  body q b i o m (body_open a) s = tt
  body q b i o m (body_broken a z) s = tt
  body q b i o m (body_closed a z c) s = closed q i m c s
  body q b i o m (body_cut a z c l t) s = tt
  body q b i o m (body_line a z c l t more) s = body q b _ o m more (line_passes text wide i s)
  body q b i o m (body_stops a z c l p) s = tt
  body q b i o m (body_more a z c l p more) s = body q b _ o m more (piece i _ a p s)

  opened : (i : At) → byte i < 128 → IsInFront text i → IsInFront text (moved (quote_len (quote_at i)) i)
  unfolding quote_at
  opened i small s = passes i (quote_len (quote_at i)) (opening_is_ascii (stands_thrice (byte i) i) i refl small) s

  quoted : (i : At) (o : Outcome Nothing) → byte i < 128 → IsBody (quote_at i) i (moved (quote_len (quote_at i)) i) o → IsInFront text i → Stays text o
  unfolding quote_at
  quoted i o small b s = body (quote_at i) i _ o small b (opened i small s)

  string : (i : At) (o : Outcome PlainToken) → is_quote (byte i) ≡ true → IsString i o → IsInFront text i → Stays text o
  string i o q (string_stops b) s = tt
  string i o q (string_is b) s = quoted i _ (quote_is_ascii (byte i) q) b s

  number : (i : At) (o : Outcome PlainToken) → IsNumber i o → IsInFront text i → Stays text o
  unfolding behind_digits digits
  number i o (number_bad e) s = tt
  number i o (number_wide e w) s = tt
  number i o (number_is e w) s = passes i _ (ascii_from _ i (run_is_ascii is_numeric (rest i) numeric_is_ascii)) s

  sign_stays : (i : At) (o : Outcome PlainToken) → IsSign i o → IsInFront text i → Stays text o
  unfolding sign sign_len
  sign_stays i o (sign_is e) s = passes i _ (ascii_from _ i (sign_front_is_ascii (rest i) _ e)) s
  sign_stays i o (sign_none e) s = tt

  passes_word : (i : At) → IsInFront text i → IsInFront text (behind_word i)
  unfolding behind_word word_len
  passes_word i = passes i _ (ascii_from _ i (run_is_ascii is_word (rest i) word_is_ascii))

  token : (i : At) (o : Outcome PlainToken) → IsToken i o → IsInFront text i → Stays text o
  token i o (token_broken z) s = tt
  token i o (token_word z l) s = passes_word i s
  token i o (token_number z l d n) s = number i o n s
  token i o (token_string z l d q t) s = string i o q t s
  token i o (token_sign z l d q t) s = sign_stays i o t s

  tokens : (b : List Place) (i : At) (o : Outcome (List PlainToken)) → IsTokens b i o → IsInFront text i → Stays text o
  tokens b i o (tokens_stop t) s = tt
  tokens b i o (tokens_gap t g) s = tt
  tokens b i o (tokens_end t g e n) s = gap _ _ _ g (token i _ t s)
  tokens b i o (tokens_open t g e n) s = tt
  tokens b i o (tokens_more t g e more) s = led_stays text _ _ (tokens _ _ _ more (gap _ _ _ g (token i _ t s)))

  bare : (i : At) (o : Outcome Nothing) → IsBare i o → IsInFront text i → Stays text o
  bare i o (bare_ends e) s = s
  bare i o (bare_comment e h c) s = comment _ o c (passes_one i (is_byte (byte i) 35 (omega arith) h) s)

  column : (cs : List ℕ) (i : At) (o : Outcome ℕ) → IsColumn cs i o → IsInFront text i → Stays text o
  column cs i o (column_tab t) s = tt
  column cs i o (column_broken t z) s = tt
  column cs i o (column_dedent t z d) s = tt
  column cs i o (column_is t z d) s = passes_blanks i s

  line : (cs : List ℕ) (i : At) (o : Outcome PlainLine) → IsLine cs i o → IsInFront text i → Stays text o
  line cs i o (line_misplaced c) s = tt
  line cs i o (line_stops c t) s = tt
  line cs i o (line_is c t) s = tokens _ _ _ t (column cs i _ c s)

  -- lines are read to the text's end
  abbrev Ends : Outcome (List PlainLine) → Type 0
  Ends (found ls m) = IsInFront text m × (at_end m ≡ true)
  Ends (stops f) = Unit {0}

  led_ends : (l : PlainLine) (o : Outcome (List PlainLine)) → Ends o → Ends (led_by l o)
  led_ends l (found ls m) s = s
  led_ends l (stops f) s = tt

  lines : (cs : List ℕ) (i : At) (o : Outcome (List PlainLine)) → IsLines cs i o → IsInFront text i → Ends o
  lines cs i o (lines_end a) s = (s, a)
  lines cs i o (lines_bare a t b more) s = lines _ _ o more (line_passes text wide _ (bare _ _ b (passes_blanks i s)))
  lines cs i o (lines_bare_stops a t b) s = tt
  lines cs i o (lines_stop a t l) s = tt
  lines cs i o (lines_more a t l more) s = led_ends _ _ (lines _ _ _ more (line_passes text wide _ (line cs i _ l s)))

  -- so the text ends no later than its front
  past_end : (m : At) → IsInFront text m → at_end m ≡ true → length text ≤ utf8_valid_len text
  unfolding at_end
  past_end m s e = let reached : length text ≤ m.at = subst (λ t. length t ≤ m.at) s.same (leb-true (length m.text) m.at e) in omega (arith, reached, s.within)

  all_in_front : (ls : List PlainLine) (m : At) → IsLines [] (start text) (found ls m) → length text ≤ utf8_valid_len text
  all_in_front ls m h = let e = lines [] (start text) (found ls m) h (record { same = refl; within = omega arith }) in past_end m e.0 e.1

lines_are_utf8 : (text : List ℕ) (ls : List PlainLine) (m : At) → IsLines [] (start text) (found ls m) → IsUtf8 text
lines_are_utf8 text ls m h =
    let within = utf8_valid_len_le text in
    let whole : length text ≤ utf8_valid_len text =
    ⊎_elim (λ less. all_in_front text (stops_before_wide text less) ls m h) (λ whole. whole) (cases_lt (utf8_valid_len text) (length text)) in
    let same : utf8_valid_len text ≡ length text = omega (arith, within, whole) in
    subst IsUtf8 (take-length text) (subst (λ n. IsUtf8 (take n text)) same (valid_is_utf8 text))

-- what a text is that has lines
record IsRead (text : List ℕ) : Type 0 where
  pub utf8 : IsUtf8 text
  pub size : length text ≤ 1048576

abbrev ReadsTo : List ℕ → Lexed → Type 0
ReadsTo text (has_lines ls) = IsRead text
ReadsTo text (has_fault f) = Unit {0}

reads_to : (text : List ℕ) (read : Lexed) → IsText text read → ReadsTo text read
reads_to text read (text_too_long n) = tt
reads_to text read (text_stops n h) = tt
reads_to text read (text_lines n h) = record { utf8 = lines_are_utf8 text _ _ h; size = n }

pub lexed_is_utf8 : (text : List ℕ) (ls : List PlainLine) → IsText text (has_lines ls) → IsUtf8 text
lexed_is_utf8 text ls is = (reads_to text (has_lines ls) is).utf8

pub lexed_is_small : (text : List ℕ) (ls : List PlainLine) → IsText text (has_lines ls) → length text ≤ 1048576
lexed_is_small text ls is = (reads_to text (has_lines ls) is).size
