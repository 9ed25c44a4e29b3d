-- Tokens and lines that are read stand in their text.
use Rattle.std.proofs.Common.{◌≡◌, ℕ, zero, suc, ◌+◌, ◌-◌, ◌<◌, ◌≤◌, List, [], ◌∷◌, ◌++◌, Some, None, length, map, take, drop, get_or, refl, sym, ap, subst, ◌∙◌, arith}
use Rattle.std.specs.Prelude.{slice_get, slice_index_or, unwrap_or, IsTrue}
use Rattle.std.proofs.lemmas.List.{take_more, take_rest}
use Rattle.std.proofs.lemmas.Option.{slice_get-get_or}
use Rattle.py_tree.specs.declared.names.Place.{Place}
use Rattle.py_tree.specs.Reading.{no_token, first_token, is_str_kind, past_byte, past_bytes, other_tokens, other_lines, first_of_lines}
use Rattle.py_lexer.specs.declared.token.TokenKind.{TokenKind}
use Rattle.py_lexer.specs.declared.token.TokenKind.TheVariants.{Word, Int, Str, Sign}
use Rattle.py_lexer.specs.declared.token.Token.{Token}
use Rattle.py_lexer.specs.declared.token.Line.{Line}
use Rattle.py_lexer.specs.Spans.{IsOf, Rise, risen, rise, LinesRise, lines_risen, lines_rise}
use Rattle.py_lexer.specs.Views.{bytes_of, plain_kind, plain_token, plain_line}
use Rattle.py_lexer.proofs.SpanLaws.{one_of}
use Rattle.py_parser.specs.Reads.{IsReading, AreOf, tokens_of_first, first_is_string}

rise-forward : (text : List ℕ) (from upto : ℕ) (ts : List Token) → Rise text from ts upto → from ≤ upto
rise-forward text from upto ts (risen le) = le
rise-forward text from upto ts (rise {t = t} le of more) = omega (arith, le, of.some, rise-forward text t.end upto _ more)

lines-forward : (text : List ℕ) (from : ℕ) → LinesRise text from [] (length text) → from ≤ length text
lines-forward text from (lines_risen le) = le

not_there : {A : Type 0} {x : A} → None ≡ Some x → ⊥
not_there e = cc

same_some : {A : Type 0} {x y : A} → Some x ≡ Some y → x ≡ y
same_some {x = x} e = ap (λ o. unwrap_or o x) e

-- before the first line
pub reading_begins : (text : List ℕ) (lines : List Line) (names : List (List ℕ)) → length text ≤ 1048576 → LinesRise text 0 lines (length text) → length names ≤ 18 → IsReading text [] lines names
reading_begins text lines names short rises few = record { from = 0; upto = 0; short = short; rise = risen (omega arith); lines_rise = rises; few = omega (arith, few) }

passed : (text : List ℕ) (from upto : ℕ) (t : Token) (ts : List Token) (lines : List Line) (names more : List (List ℕ)) → length text ≤ 1048576 → LinesRise text upto lines (length text) → Rise text from (t ∷ ts) upto → length names ≤ from + 18 → length more ≤ length names + 1 → IsReading text ts lines more
passed text from upto t ts lines names more short below (rise le of rest) few grown = record { from = t.end; upto = upto; short = short; rise = rest; lines_rise = below; few = omega (arith, le, of.some, few, grown) }

-- past a token, with one more name at most
pub reading_passes : (text : List ℕ) (tokens : List Token) (lines : List Line) (names more : List (List ℕ)) → IsReading text tokens lines names → 0 < length tokens → length more ≤ length names + 1 → IsReading text (take (length tokens - 1) (drop 1 tokens)) lines more
reading_passes text [] lines names more r some grown = absurd (omega (arith, some))
reading_passes text (t ∷ ts) lines names more r some grown = subst (λ us. IsReading text us lines more) (sym (take_rest (t ∷ ts) 1)) (passed text r.from r.upto t ts lines names more r.short r.lines_rise r.rise r.few grown)

begun : (text : List ℕ) (from upto : ℕ) (l : Line) (ls : List Line) (names : List (List ℕ)) → length text ≤ 1048576 → LinesRise text upto (l ∷ ls) (length text) → from ≤ upto → length names ≤ from + 18 → IsReading text l.tokens ls names
begun text from upto l ls names short (lines_rise {mid = mid} tokens below) le few = record { from = upto; upto = mid; short = short; rise = tokens; lines_rise = below; few = omega (arith, le, few) }

-- at the beginning of the next line
pub reading_begins_line : (text : List ℕ) (tokens : List Token) (lines : List Line) (names : List (List ℕ)) → IsReading text tokens lines names → 0 < length lines → IsReading text (tokens_of_first lines) (take (length lines - 1) (drop 1 lines)) names
reading_begins_line text tokens [] names r some = absurd (omega (arith, some))
reading_begins_line text tokens (l ∷ ls) names r some = subst (λ ms. IsReading text l.tokens ms names) (sym (take_rest (l ∷ ls) 1)) (begun text r.from r.upto l ls names r.short r.lines_rise (rise-forward text r.from r.upto tokens r.rise) r.few)

-- at the end of the text
ended : (text : List ℕ) (tokens : List Token) (names : List (List ℕ)) → IsReading text tokens [] names → IsReading text [] [] names
ended text tokens names r = record { from = r.from; upto = r.from; short = r.short; rise = risen (omega arith); lines_rise = lines_risen (omega (arith, rise-forward text r.from r.upto tokens r.rise, lines-forward text r.upto r.lines_rise)); few = r.few }

pub reading_ends : (text : List ℕ) (tokens : List Token) (lines : List Line) (names : List (List ℕ)) → IsReading text tokens lines names → length lines ≡ 0 → IsReading text (tokens_of_first lines) lines names
reading_ends text tokens [] names r none = ended text tokens names r
reading_ends text tokens (l ∷ ls) names r none = absurd (omega (arith, none))

lines-within : (text : List ℕ) (from upto : ℕ) (ls : List Line) → LinesRise text from ls upto → from ≤ upto
lines-within text from upto ls (lines_risen le) = le
lines-within text from upto ls (lines_rise {mid = mid} tokens more) = omega (arith, rise-forward text from mid _ tokens, lines-within text mid upto _ more)

pub few-names : (text : List ℕ) (tokens : List Token) (lines : List Line) (names : List (List ℕ)) → IsReading text tokens lines names → length names ≤ 1048594
few-names text tokens lines names r = omega (arith, r.few, r.short, rise-forward text r.from r.upto tokens r.rise, lines-within text r.upto (length text) lines r.lines_rise)

pub first-string : (text : List ℕ) (tokens : List Token) → is_str_kind (first_token (map (plain_token text) tokens)).kind ≡ first_is_string tokens
first-string text [] = refl
first-string text (t ∷ ts) = refl

pub are_of : (text : List ℕ) (tokens : List Token) (lines : List Line) (names : List (List ℕ)) → IsReading text tokens lines names → AreOf text tokens
are_of text tokens lines names r = record { each = λ n t e. one_of text r.from r.upto tokens n t r.rise e }

pub are_of_line : (text : List ℕ) (tokens : List Token) (lines : List Line) (names : List (List ℕ)) → IsReading text tokens lines names → AreOf text (tokens_of_first lines)
are_of_line text tokens [] names r = record { each = λ n t e. absurd (not_there e) }
are_of_line text tokens (l ∷ ls) names r = are_of text l.tokens ls names (begun text r.from r.upto l ls names r.short r.lines_rise (rise-forward text r.from r.upto tokens r.rise) r.few)

pub nth-of : (text : List ℕ) (tokens : List Token) (n : ℕ) (d : Token) → AreOf text tokens → n < length tokens → IsOf text (slice_index_or tokens n d)
nth-of text tokens n d are within = are.each n (slice_index_or tokens n d) (slice_get-get_or tokens n d within)

-- the tokens as the grammar sees them
pub passed-tokens : (text : List ℕ) (tokens : List Token) → map (plain_token text) (drop 1 tokens) ≡ other_tokens (map (plain_token text) tokens)
passed-tokens text [] = refl
passed-tokens text (t ∷ ts) = refl

pub passed-lines : (text : List ℕ) (lines : List Line) → map (plain_line text) (drop 1 lines) ≡ other_lines (map (plain_line text) lines)
passed-lines text [] = refl
passed-lines text (l ∷ ls) = refl

pub first-tokens : (text : List ℕ) (lines : List Line) → map (plain_token text) (tokens_of_first lines) ≡ first_of_lines (map (plain_line text) lines)
first-tokens text [] = refl
first-tokens text (l ∷ ls) = refl

pub nth-token : (text : List ℕ) (tokens : List Token) (n : ℕ) (d : Token) → n < length tokens → slice_index_or (map (plain_token text) tokens) n no_token ≡ plain_token text (slice_index_or tokens n d)
nth-token text [] n d within = absurd (omega (arith, within))
nth-token text (x ∷ xs) zero d within = refl
nth-token text (x ∷ xs) (suc n) d within = nth-token text xs n d (omega (arith, within))

pub no-token : (text : List ℕ) (tokens : List Token) (n : ℕ) → length tokens ≤ n → slice_index_or (map (plain_token text) tokens) n no_token ≡ no_token
no-token text [] n past = refl
no-token text (x ∷ xs) zero past = absurd (omega (arith, past))
no-token text (x ∷ xs) (suc n) past = no-token text xs n (omega (arith, past))

pub ruleset place_rules = (reading_begins, reading_passes, reading_begins_line, reading_ends, few-names, are_of, are_of_line, nth-of, nth-token, no-token, first-tokens, first-string)

past-append : (bs : List ℕ) (b : ℕ) (p : Place) → past_bytes (bs ++ b ∷ []) p ≡ past_byte b (past_bytes bs p)
past-append [] b p = refl
past-append (x ∷ xs) b p = past-append xs b (past_byte x p)

-- one more byte in a walk over bytes
pub past_step : (bytes : List ℕ) (start now new : Place) (i d : ℕ) → i < length bytes → now ≡ past_bytes (take i bytes) start → new ≡ past_byte (get_or bytes i d) now → new ≡ past_bytes (take (i + 1) bytes) start
past_step bytes start now new i d within so_far one =
    one ∙ ap (past_byte (get_or bytes i d)) so_far ∙ sym (past-append (take i bytes) (get_or bytes i d) start) ∙ ap (λ bs. past_bytes bs start) (sym (take_more bytes i d within))

pub ruleset past_rules = (past_step)

string-kind : (kind : TokenKind) → IsTrue (is_str_kind (plain_kind kind)) → kind ≡ Str
string-kind Word h = absurd cc
string-kind (Int n) h = absurd cc
string-kind Str h = refl
string-kind (Sign n) h = absurd cc

pub literal-bytes : (text : List ℕ) (tokens : List Token) (t : Token) → slice_get tokens 0 ≡ Some t → (first_token (map (plain_token text) tokens)).bytes ≡ bytes_of text t
literal-bytes text [] t e = absurd (not_there e)
literal-bytes text (x ∷ xs) t e = ap (bytes_of text) (same_some e)

pub literal-string : (tokens : List Token) (t : Token) → slice_get tokens 0 ≡ Some t → IsTrue (first_is_string tokens) → t.kind ≡ Str
literal-string [] t e h = absurd (not_there e)
literal-string (x ∷ xs) t e h = ap (λ s. s.kind) (sym (same_some e)) ∙ string-kind x.kind h

pub string-some : (tokens : List Token) → IsTrue (first_is_string tokens) → 0 < length tokens
string-some [] h = absurd cc
string-some (t ∷ ts) h = omega arith

pub ruleset literal_rules = (literal-bytes, literal-string, string-some, nth-of)
