-- A reader of the logical lines of one text that is UTF-8. It knows words, signs, strings of one line and bare lines; numbers, escapes,
-- comments and faults it doesn't know. A reader's line of words that unfold names all that it is run with.
use Rattle.std.proofs.Common.{◌≡◌, ℕ, ◌+◌, zero, suc, Bool, true, false, List, [], ◌∷◌, ◌++◌, length, Some, None, refl, sym, subst}
use Rattle.std.specs.Prelude.{not, ◌||◌, ◌&&◌, ◌==◌, nat_le, if◌then◌else◌}
use Rattle.std.specs.Str.Lossy.{utf8_valid_len}
use Rattle.py_tree.specs.declared.names.Place.{Place}
use Rattle.py_tree.specs.Tokens.{LWord, LStr, LSign, PlainLine}
use Rattle.py_lexer.specs.declared.strings.Quote.{Quote}
use Rattle.py_lexer.specs.Cursor as cursor
use Rattle.py_lexer.specs.Cursor.{At, at_end, byte, rest, moved, next_line, past_line, is_line_end, line_end, ends, is_broken, stray, is_letter, is_digit, is_backslash, is_hash, is_quote, is_blank, word_len, blanks, spaces, sign}
use Rattle.py_lexer.specs.LogicalLines.{Outcome, found, IsGap, gap_blank, gap_ends, joins, passes_line, quote_at, quote_len, closes, piece_byte, IsBody, body_closed, body_more, token, sign_len, behind_word, IsString, string_is, IsSign, sign_is, IsToken, token_word, token_string, token_sign, open_behind, innermost, IsTokens, tokens_end, tokens_more, unblanked, unspaced, has_tab, has_token, bare_ends, IsColumn, column_is, IsLine, line_is, IsLines, lines_end, lines_bare, lines_more}
use Rattle.py_lexer.specs.OpenColumns.{AreOpen, is_bad_dedent, opened}
use Rattle.py_lexer.proofs.ColumnLaws.{good_is, opens}
use Rattle.bank_text.proofs.Readers as r
use Rattle.bank_text.proofs.Readers.{◌>>=◌, holds, fails, present, absent, by_test}

-- where a reader stands
pub record Spot : Type 0 where
  pub at : ℕ
  pub line : ℕ
  pub col : ℕ

abbrev pub first_spot : Spot
first_spot = record { at = 0; line = 1; col = 1 }

abbrev pub ahead : ℕ → Spot → Spot
ahead n s = record { at = s.at + n; line = s.line; col = s.col + n }

abbrev pub below : ℕ → Spot → Spot
below n s = record { at = s.at + n; line = s.line + 1; col = 1 }

-- how many bytes of a string, tokens of a line and lines are read at most
abbrev pub far : ℕ
far = 1000

not_both : (b : Bool) → (not b && b) ≡ false
not_both true = refl
not_both false = refl

module _ (text : List ℕ) (valid : utf8_valid_len text ≡ length text) where
  abbrev pub place : Spot → At
  place s = record { text = text; at = s.at; line = s.line; col = s.col }

  abbrev pub Reads : {A : Type 0} → (Outcome A → Type 0) → Type 0
  Reads Is = r.Reads (λ x s. Is (found x (place s)))

  -- nothing is broken in it
  pub unbroken : (s : Spot) → is_broken (place s) ≡ false
  unfolding is_broken at_end
  unbroken s = rw valid (not_both (nat_le (length text) s.at))

  pub no_stray : (s : Spot) → (byte (place s) == 0 || byte (place s) == 13) ≡ false → stray (place s) ≡ None
  unfolding stray
  no_stray s e = rw (unbroken s, e) refl

  -- past a line end, where one is
  abbrev pub past : Spot → Spot
  past s = if is_line_end (place s) then below (line_end (place s)) s else s

  placed_if : (b : Bool) (s t : Spot) → (if b then place s else place t) ≡ place (if b then s else t)
  placed_if true s t = refl
  placed_if false s t = refl

  pub past_is : (s : Spot) → past_line (place s) ≡ place (past s)
  unfolding past_line next_line
  past_is s = placed_if (is_line_end (place s)) (below (line_end (place s)) s) s

  pub goes_past : {cs : List ℕ} {o : Outcome (List PlainLine)} (s : Spot) → IsLines cs (place (past s)) o → IsLines cs (past_line (place s)) o
  goes_past {cs = cs} {o = o} s more = subst (λ i. IsLines cs i o) (sym (past_is s)) more

  -- Tokens

  unfoldable pub gap : ℕ → (d : ℕ) (s : Spot) → Reads (IsGap d (place s))
  unfolding byte moved line_end is_line_end passes_line joins
  gap zero d s = None
  gap (suc n) d s =
      by_test (is_blank (byte (place s)))
      (λ blank. do
        (x, m, more) ← gap n d (ahead 1 s)
        Some (x, m, gap_blank blank more))
      (λ blank. do
        hash ← fails (is_hash (byte (place s)))
        line ← fails (passes_line d (place s))
        join ← fails (joins (place s))
        Some (tt, s, gap_ends blank hash line join))

  unfoldable pub body : ℕ → (q : Quote) (from s : Spot) → Reads (IsBody q (place from) (place s))
  unfolding at_end byte moved line_end is_line_end closes
  body zero q from s = None
  body (suc n) q from s = do
    end ← fails (at_end (place s))
    by_test (closes q (place s))
        (λ close. Some (tt, ahead (quote_len q) s, body_closed end (unbroken s) close))
        (λ close. do
          line ← fails (is_line_end (place s))
          stray ← fails (byte (place s) == 0 || byte (place s) == 13)
          escape ← fails (is_backslash (byte (place s)))
          (x, m, more) ← body n q from (ahead 1 s)
          Some (x, m, body_more end (unbroken s) close line (piece_byte (no_stray s stray) escape) more))

  unfoldable pub string : (s : Spot) → Reads (IsString (place s))
  unfolding byte moved cursor.place quote_at token body
  string s = do
    let q = quote_at (place s)
    (x, m, is) ← body far q s (ahead (quote_len q) s)
    Some (token LStr (place s) (place m), m, string_is is)

  unfoldable pub a_sign : (s : Spot) → Reads (IsSign (place s))
  unfolding moved rest cursor.place sign sign_len token
  a_sign s = do
    (n, is) ← present (sign (place s))
    let m = ahead (sign_len n) s
    Some (token (LSign n) (place s) (place m), m, sign_is is)

  unfoldable pub a_token : (s : Spot) → Reads (IsToken (place s))
  unfolding byte moved rest cursor.place word_len behind_word token string a_sign
  a_token s =
      by_test (is_letter (byte (place s)))
      (λ letter. let m = ahead (word_len (place s)) s in Some (token LWord (place s) (place m), m, token_word (unbroken s) letter))
      (λ letter. do
        digit ← fails (is_digit (byte (place s)))
        by_test (is_quote (byte (place s)))
            (λ quote. do
              (t, m, is) ← string s
              Some (t, m, token_string (unbroken s) letter digit quote is))
            (λ quote. do
              (t, m, is) ← a_sign s
              Some (t, m, token_sign (unbroken s) letter digit quote is)))

  unfoldable pub tokens : ℕ → (b : List Place) (s : Spot) → Reads (IsTokens b (place s))
  unfolding at_end byte moved line_end is_line_end ends gap a_token
  tokens zero b s = None
  tokens (suc n) b s = do
    (t, m, one) ← a_token s
    let open_now = open_behind b t
    (x, k, blank) ← gap far (length open_now) m
    by_test (ends (place k))
        (λ end. do
          shut ← absent (innermost open_now)
          Some (t ∷ [], k, tokens_end one blank end shut))
        (λ end. do
          (ts, last, more) ← tokens n open_now k
          Some (t ∷ ts, last, tokens_more {o = found ts (place last)} one blank end more))

  -- Lines

  unfoldable pub column : (cs kept : List ℕ) → AreOpen kept cs → (s : Spot) → Reads (IsColumn cs (place s))
  unfolding byte moved rest blanks spaces unblanked unspaced has_tab
  column cs kept are s = do
    let m = ahead (blanks (place s)) s
    tab ← fails (has_tab (place s))
    bad ← fails (is_bad_dedent (spaces (place s)) kept)
    Some (spaces (place s), m, column_is tab (unbroken m) (good_is (spaces (place s)) kept cs are bad))

  unfoldable pub line : (cs kept : List ℕ) → AreOpen kept cs → (s : Spot) → Reads (IsLine cs (place s))
  unfolding column tokens
  line cs kept are s = do
    (c, m, is) ← column cs kept are s
    (ts, last, all) ← tokens far [] m
    Some (record { column = c; tokens = ts }, last, line_is is all)

  -- the open columns are kept beside those of all lines before
  unfoldable pub lines : ℕ → (cs kept : List ℕ) → AreOpen kept cs → (s : Spot) → Reads (IsLines cs (place s))
  unfolding at_end byte moved rest blanks line_end is_line_end ends unblanked has_token line
  lines zero cs kept are s = None
  lines (suc n) cs kept are s =
      let m = ahead (blanks (place s)) s in
      by_test (at_end (place s))
      (λ end. Some ([], s, lines_end end))
      (λ end.
      by_test (has_token (place m))
      (λ has. do
        (l, k, one) ← line cs kept are s
        (ls, last, more) ← lines n (cs ++ l.column ∷ []) (opened l.column kept) (opens l.column kept cs are) (past k)
        Some (l ∷ ls, last, lines_more {o = found ls (place last)} end has one (goes_past k more)))
      (λ has. do
        bare ← holds (ends (place m))
        (ls, last, more) ← lines n cs kept are (past m)
        Some (ls, last, lines_bare end has (bare_ends bare) (goes_past m more))))
