-- Tokens rise, and what a string encloses is UTF-8.
use Rattle.std.proofs.Common.{◌≡◌, ℕ, ◌+◌, ◌-◌, ◌<◌, ◌≤◌, Bool, true, false, List, [], ◌∷◌, ◌++◌, length, take, drop, refl, sym, ap, subst, ◌∙◌, arith, length-take}
use Rattle.std.specs.Prelude.{slice_range, slice_index, IsUtf8}
use Rattle.std.specs.Str.Lossy.{utf8_valid_len}
use Rattle.std.specs.Prelude.{IsCharBoundary, if◌then◌else◌, ℤ}
use Rattle.py_lexer.specs.declared.token.TokenKind.TheVariants.{Word, Int, Str, Sign}
use Rattle.std.proofs.lemmas.List.{drop-take, take-take, drop-drop, length-drop, get_or-take, get_or-drop}
use Rattle.std.proofs.lemmas.Bool.Decides.{nat_tests}
use Rattle.std.proofs.lemmas.Str.{utf8_valid_len_le, IsUtf8-between, IsCharBoundary-before_ascii, IsCharBoundary-after_ascii}
use Rattle.py_tree.specs.StringText.{quotes, enclosed}
use Rattle.py_lexer.specs.declared.strings.Quote.{Quote}
use Rattle.py_lexer.specs.Cursor.{At, byte, moved}
use Rattle.py_lexer.specs.LogicalLines.{stands_thrice, quote_at, quote_len}
use Rattle.std.proofs.Common.{Option, Some, None, Result}
use Rattle.std.proofs.Common.{zero, suc}
use Rattle.std.specs.Prelude.{IfOk, slice_get, unwrap_or}
use Rattle.py_tree.specs.declared.names.Place.{Place}
use Rattle.py_lexer.specs.declared.fault.LexError.{LexError}
use Rattle.py_lexer.specs.Views.{Closes}
use Rattle.py_lexer.specs.declared.token.Token.{Token}
use Rattle.py_lexer.specs.declared.token.Line.{Line}
use Rattle.py_lexer.specs.Spans.{ClosedBetween, IsOf, Rise, risen, rise, LinesRise, lines_risen, lines_rise}

pub rise_begin : (text : List ℕ) (at : ℕ) → Rise text at [] at
rise_begin text at = risen (omega arith)

pub lines_rise_begin : (text : List ℕ) (at : ℕ) → LinesRise text at [] at
lines_rise_begin text at = lines_risen (omega arith)

pub rise_wider : (text : List ℕ) (from b c : ℕ) (ts : List Token) → Rise text from ts b → b ≤ c → Rise text from ts c
rise_wider text from b c ts (risen le) wider = risen (omega (arith, le, wider))
rise_wider text from b c ts (rise le t more) wider = rise le t (rise_wider text _ b c _ more wider)

pub rise_more : (text : List ℕ) (from b c : ℕ) (ts : List Token) (t : Token) → Rise text from ts b → b ≤ t.start → IsOf text t → t.end ≤ c → Rise text from (ts ++ t ∷ []) c
rise_more text from b c ts t (risen le) behind one wider = rise (omega (arith, le, behind)) one (risen wider)
rise_more text from b c ts t (rise le s more) behind one wider = rise le s (rise_more text _ b c _ t more behind one wider)

pub lines_rise_wider : (text : List ℕ) (from b c : ℕ) (ls : List Line) → LinesRise text from ls b → b ≤ c → LinesRise text from ls c
lines_rise_wider text from b c ls (lines_risen le) wider = lines_risen (omega (arith, le, wider))
lines_rise_wider text from b c ls (lines_rise r more) wider = lines_rise r (lines_rise_wider text _ b c _ more wider)

rise_earlier : (text : List ℕ) (a from b : ℕ) (ts : List Token) → a ≤ from → Rise text from ts b → Rise text a ts b
rise_earlier text a from b ts le (risen more) = risen (omega (arith, le, more))
rise_earlier text a from b ts le (rise more t rest) = rise (omega (arith, le, more)) t rest

pub lines_rise_more : (text : List ℕ) (from b c d : ℕ) (ls : List Line) (l : Line) → LinesRise text from ls b → b ≤ c → Rise text c l.tokens d → LinesRise text from (ls ++ l ∷ []) d
lines_rise_more text from b c d ls l (lines_risen le) behind r = lines_rise (rise_earlier text from c d l.tokens (omega (arith, le, behind)) r) (lines_risen (omega arith))
lines_rise_more text from b c d ls l (lines_rise s more) behind r = lines_rise s (lines_rise_more text _ b c d _ l more behind r)

-- what stands between two ASCII bytes of UTF-8 is UTF-8
inner_utf8 : (text : List ℕ) (at n k : ℕ) → IsUtf8 (take (at + (n + k)) text) → at + (n + k) ≤ length text → 0 < at → 0 < k → slice_index text (at - 1) < 128 → slice_index text (at + n) < 128 → IsUtf8 (take n (drop at text))
inner_utf8 text at n k utf8 within some more before behind =
    let bs : List ℕ = take (at + (n + k)) text in
    let len : length bs ≡ at + (n + k) = omega (arith, length-take (at + (n + k)) text, within) in
    let first : slice_index bs (at - 1) < 128 = rw (get_or-take (at + (n + k)) text (at - 1) 0 (omega (arith, some, more))) before in
    let last : slice_index bs (at + n) < 128 = rw (get_or-take (at + (n + k)) text (at + n) 0 (omega (arith, more))) behind in
    let from : at - 1 + 1 ≡ at = omega (arith, some) in
    let begins : IsCharBoundary bs at = subst (λ i. IsCharBoundary bs i) from (IsCharBoundary-after_ascii bs (at - 1) utf8 (omega (arith, len, some, more)) first) in
    let ends : IsCharBoundary bs (at + n) = IsCharBoundary-before_ascii bs (at + n) (omega (arith, len, more)) last in
    let inner : IsUtf8 (take (at + n - at) (drop at bs)) = IsUtf8-between bs at (at + n) utf8 (omega arith) begins ends in
    let size : at + n - at ≡ n = omega arith in
    let same : take n (drop at bs) ≡ take n (drop at text) = ap (take n) (drop-take at (n + k) text) ∙ take-take n (n + k) (drop at text) (omega arith) in
    subst IsUtf8 same (subst (λ m. IsUtf8 (take m (drop at bs))) size inner)

-- what a literal of n bytes between w quotes encloses
literal : List ℕ → ℕ → ℕ → ℕ → List ℕ
literal text s w n = take (w + (n + w)) (drop s text)

literal-len : (text : List ℕ) (s w n : ℕ) → s + (w + (n + w)) ≤ length text → length (literal text s w n) ≡ w + (n + w)
unfolding literal
literal-len text s w n within = omega (arith, length-take (w + (n + w)) (drop s text), length-drop s text, within)

encloses : (text : List ℕ) (s w n : ℕ) → s + (w + (n + w)) ≤ length text → quotes (literal text s w n) ≡ w → enclosed (literal text s w n) ≡ take n (drop (s + w) text)
unfolding literal
encloses text s w n within width =
    let len = literal-len text s w n within in
    let by_width : enclosed (literal text s w n) ≡ slice_range (literal text s w n) w (length (literal text s w n) - w) = ap (λ q. slice_range (literal text s w n) q (length (literal text s w n) - q)) width in
    let size : length (literal text s w n) - w - w ≡ n = omega (arith, len) in
    let inside : drop w (literal text s w n) ≡ take (n + w) (drop (s + w) text) = drop-take w (n + w) (drop s text) ∙ ap (take (n + w)) (drop-drop w s text) in
    by_width ∙ (ap (λ m. take m (drop w (literal text s w n))) size ∙ (ap (take n) inside ∙ take-take n (n + w) (drop (s + w) text) (omega arith)))

abbrev width : Bool → ℕ
width true = 3
width false = 1

width_some : (triple : Bool) → 0 < width triple
width_some true = omega arith
width_some false = omega arith

plus_zero : (n : ℕ) → n + 0 ≡ n
plus_zero n = omega arith

-- a literal's quotes, told by its bytes
triple_quotes : (bytes : List ℕ) → 6 ≤ length bytes → slice_index bytes 0 ≡ slice_index bytes 1 → slice_index bytes 1 ≡ slice_index bytes 2 → quotes bytes ≡ 3
triple_quotes bytes size a b = grind (arith, nat_tests)

single_quotes : (bytes : List ℕ) → (6 ≤ length bytes → slice_index bytes 0 ≡ slice_index bytes 1 → slice_index bytes 1 ≡ slice_index bytes 2 → ⊥) → quotes bytes ≡ 1
single_quotes bytes differ = grind (arith, nat_tests)

literal-at : (text : List ℕ) (s w n k : ℕ) → k < w + (n + w) → slice_index (literal text s w n) k ≡ slice_index text (s + k)
unfolding literal
literal-at text s w n k within = get_or-take (w + (n + w)) (drop s text) k 0 within ∙ get_or-drop s text k 0

-- and by what stands where it begins
thrice : (i : At) → stands_thrice (byte i) i ≡ true → (slice_index i.text (i.at + 1) ≡ slice_index i.text i.at) × (slice_index i.text (i.at + 2) ≡ slice_index i.text i.at)
unfolding byte moved
thrice i e = grind (arith, nat_tests)

not_thrice : (i : At) → stands_thrice (byte i) i ≡ false → slice_index i.text (i.at + 1) ≡ slice_index i.text i.at → slice_index i.text (i.at + 2) ≡ slice_index i.text i.at → ⊥
unfolding byte moved
not_thrice i e a b = grind (arith, nat_tests)

zero_on : (i : At) → slice_index i.text (i.at + 0) ≡ slice_index i.text i.at
zero_on i = ap (slice_index i.text) (plus_zero i.at)

quotes_of : (i : At) (n : ℕ) (triple : Bool) → stands_thrice (byte i) i ≡ triple → i.at + (width triple + (n + width triple)) ≤ length i.text → quotes (literal i.text i.at (width triple) n) ≡ width triple
quotes_of i n true e within =
    let t = thrice i e in
    let len = literal-len i.text i.at 3 n within in
    let at = λ (k : ℕ) (small : k < 6). literal-at i.text i.at 3 n k (omega (arith, small)) in
    triple_quotes (literal i.text i.at 3 n) (omega (arith, len)) (at 0 (omega arith) ∙ (zero_on i ∙ (sym t.0 ∙ sym (at 1 (omega arith))))) (at 1 (omega arith) ∙ (t.0 ∙ (sym t.1 ∙ sym (at 2 (omega arith)))))
quotes_of i n false e within =
    let len = literal-len i.text i.at 1 n within in
    single_quotes (literal i.text i.at 1 n) (λ size a b.
    let at = λ (k : ℕ) (small : k < 6). literal-at i.text i.at 1 n k (omega (arith, small, size, len)) in
    let first : slice_index i.text (i.at + 1) ≡ slice_index i.text i.at = sym (at 1 (omega arith)) ∙ (sym a ∙ (at 0 (omega arith) ∙ zero_on i)) in
    not_thrice i e first (sym (at 2 (omega arith)) ∙ (sym b ∙ (at 1 (omega arith) ∙ first))))

-- the last of the quotes that begin a string is its mark
opening : (i : At) (triple : Bool) → stands_thrice (byte i) i ≡ triple → slice_index i.text (i.at + width triple - 1) ≡ slice_index i.text i.at
opening i true e =
    let at : i.at + 3 - 1 ≡ i.at + 2 = omega arith in
    let t = thrice i e in
    ap (slice_index i.text) at ∙ t.1
opening i false e =
    let at : i.at + 1 - 1 ≡ i.at = omega arith in
    ap (slice_index i.text) at

-- what a string encloses is UTF-8, where its closing quotes stand within the UTF-8 that the text begins with
enclosed_utf8 : (i : At) (triple : Bool) (quotes_at upto v : ℕ) → stands_thrice (byte i) i ≡ triple → slice_index i.text i.at < 128 → i.at + width triple ≤ quotes_at → upto ≡ quotes_at + width triple → quotes_at < v → v ≤ length i.text → upto ≤ length i.text → slice_index i.text quotes_at ≡ slice_index i.text i.at → IsUtf8 (take v i.text) → IsUtf8 (enclosed (slice_range i.text i.at upto))
unfolding literal
enclosed_utf8 i triple quotes_at upto v e ascii behind ends valid within whole mark utf8 =
    let w : ℕ = width triple in
    let n : ℕ = quotes_at - (i.at + w) in
    let k : ℕ = v - quotes_at in
    let some : 0 < w = width_some triple in
    let size : upto - i.at ≡ w + (n + w) = omega (arith, ends, behind) in
    let fits : i.at + (w + (n + w)) ≤ length i.text = omega (arith, ends, behind, whole) in
    let front : v ≡ i.at + w + (n + k) = omega (arith, behind, valid) in
    let place : quotes_at ≡ i.at + w + n = omega (arith, behind) in
    let before : slice_index i.text (i.at + w - 1) < 128 = subst (λ b. b < 128) (sym (opening i triple e)) ascii in
    let after : slice_index i.text (i.at + w + n) < 128 = subst (λ p. slice_index i.text p < 128) place (subst (λ b. b < 128) (sym mark) ascii) in
    let inner : IsUtf8 (take n (drop (i.at + w) i.text)) = inner_utf8 i.text (i.at + w) n k (subst (λ p. IsUtf8 (take p i.text)) front utf8) (omega (arith, front, within)) (omega (arith, some)) (omega (arith, valid)) before after in
    let spelt : enclosed (literal i.text i.at w n) ≡ take n (drop (i.at + w) i.text) = encloses i.text i.at w n fits (quotes_of i n triple e fits) in
    subst (λ p. IsUtf8 (enclosed (take p (drop i.at i.text)))) (sym size) (subst IsUtf8 (sym spelt) inner)

-- a literal has its quotes twice
has_quotes : (i : At) (triple : Bool) (quotes_at upto : ℕ) → stands_thrice (byte i) i ≡ triple → i.at + width triple ≤ quotes_at → upto ≡ quotes_at + width triple → upto ≤ length i.text → quotes (slice_range i.text i.at upto) + quotes (slice_range i.text i.at upto) ≤ length (slice_range i.text i.at upto)
unfolding literal
has_quotes i triple quotes_at upto e behind ends whole =
    let w : ℕ = width triple in
    let n : ℕ = quotes_at - (i.at + w) in
    let size : upto - i.at ≡ w + (n + w) = omega (arith, ends, behind) in
    let fits : i.at + (w + (n + w)) ≤ length i.text = omega (arith, ends, behind, whole) in
    let len = literal-len i.text i.at w n fits in
    let twice : quotes (literal i.text i.at w n) + quotes (literal i.text i.at w n) ≤ length (literal i.text i.at w n) = omega (arith, quotes_of i n triple e fits, len) in
    subst (λ p. quotes (take p (drop i.at i.text)) + quotes (take p (drop i.at i.text)) ≤ length (take p (drop i.at i.text))) (sym size) twice

width_is : (triple : Bool) → if triple then 3 else 1 ≡ width triple
width_is true = refl
width_is false = refl

-- a token of a string that was read
pub string_is_of : (i m : At) (q : Quote) (mid : At) (t : Token) → q ≡ quote_at i → 0 < byte i → slice_index i.text i.at < 128 → mid ≡ moved (quote_len q) i → ClosedBetween q mid m → IsUtf8 (take (utf8_valid_len i.text) i.text) → m.at ≤ length i.text → t.start ≡ i.at → t.end ≡ m.at → t.place.line ≤ t.start + 1 → t.place.col ≤ t.start + 1 → IsOf i.text t
unfolding moved quote_at byte
string_is_of i m q mid t quote some ascii at closed utf8 within starts ends line col =
    let triple : Bool = stands_thrice (byte i) i in
    let w : quote_len (quote_at i) ≡ width triple = width_is triple in
    let c : ClosedBetween (quote_at i) (moved (quote_len (quote_at i)) i) m = subst (λ p. ClosedBetween p (moved (quote_len p) i) m) quote (subst (λ j. ClosedBetween q j m) at closed) in
    let inner : IsUtf8 (enclosed (slice_range i.text i.at m.at)) = enclosed_utf8 i triple c.quotes_at m.at (utf8_valid_len i.text) refl ascii (omega (arith, c.behind, w)) (c.ends ∙ ap (λ n. c.quotes_at + n) w) c.valid (utf8_valid_len_le i.text) within c.mark utf8 in
    let quoted : quotes (slice_range i.text i.at m.at) + quotes (slice_range i.text i.at m.at) ≤ length (slice_range i.text i.at m.at) = has_quotes i triple c.quotes_at m.at refl (omega (arith, c.behind, w)) (c.ends ∙ ap (λ n. c.quotes_at + n) w) within in
    record {
      some = omega (arith, starts, ends, c.behind, c.ends, w, width_some triple);
      within = omega (arith, ends, within);
      line = line;
      col = col;
      quoted = λ _. subst (λ a. quotes (slice_range i.text a t.end) + quotes (slice_range i.text a t.end) ≤ length (slice_range i.text a t.end)) (sym starts) (subst (λ b. quotes (slice_range i.text i.at b) + quotes (slice_range i.text i.at b) ≤ length (slice_range i.text i.at b)) (sym ends) quoted);
      utf8 = λ _. subst (λ a. IsUtf8 (enclosed (slice_range i.text a t.end))) (sym starts) (subst (λ b. IsUtf8 (enclosed (slice_range i.text i.at b))) (sym ends) inner);
    }

-- a token of another kind
pub other_is_of : (text : List ℕ) (t : Token) → (t.kind ≡ Str → ⊥) → t.start < t.end → t.end ≤ length text → t.place.line ≤ t.start + 1 → t.place.col ≤ t.start + 1 → IsOf text t
other_is_of text t other some within line col = record { some = some; within = within; line = line; col = col; quoted = λ e. absurd (other e); utf8 = λ e. absurd (other e) }

pub word_other : (t : Token) → t.kind ≡ Word → t.kind ≡ Str → ⊥
word_other t a b = cc

pub int_other : (t : Token) (n : ℤ) → t.kind ≡ Int n → t.kind ≡ Str → ⊥
int_other t n a b = cc

pub sign_other : (t : Token) (n : ℕ) → t.kind ≡ Sign n → t.kind ≡ Str → ⊥
sign_other t n a b = cc

pub ruleset rise_rules = (rise_begin, lines_rise_begin, lines_rise_wider)

pub ruleset of_rules = (other_is_of, word_other, int_other, sign_other)

-- the tokens of a line that is whole
pub closed_rise : (text : List ℕ) (from upto : ℕ) (items : List Token) (o : Option Place) (r : Result (List Token) LexError) → Rise text from items upto → Closes o items r → IfOk r (λ ts. Rise text from ts upto)
closed_rise text from upto items None r rises e = subst (λ z. IfOk z (λ ts. Rise text from ts upto)) (sym e) rises
closed_rise text from upto items (Some p) r rises e = subst (λ z. IfOk z (λ ts. Rise text from ts upto)) (sym e) tt

not_there : {A : Type 0} {x : A} → None ≡ Some x → ⊥
not_there e = cc

same_some : {A : Type 0} {x y : A} → Some x ≡ Some y → x ≡ y
same_some {x = x} e = ap (λ o. unwrap_or o x) e

-- each token among those that rise is one of its text
pub one_of : (text : List ℕ) (from upto : ℕ) (ts : List Token) (i : ℕ) (t : Token) → Rise text from ts upto → slice_get ts i ≡ Some t → IsOf text t
one_of text from upto ts i t (risen le) e = absurd (not_there e)
one_of text from upto ts zero t (rise le is more) e = subst (IsOf text) (same_some e) is
one_of text from upto ts (suc i) t (rise le is more) e = one_of text _ upto _ i t more e

pub one_of_line : (text : List ℕ) (from upto : ℕ) (ls : List Line) (i k : ℕ) (l : Line) (t : Token) → LinesRise text from ls upto → slice_get ls i ≡ Some l → slice_get l.tokens k ≡ Some t → IsOf text t
one_of_line text from upto ls i k l t (lines_risen le) e f = absurd (not_there e)
one_of_line text from upto ls zero k l t (lines_rise {mid = mid} is more) e f = one_of text from mid l.tokens k t (subst (λ m. Rise text from m.tokens mid) (same_some e) is) f
one_of_line text from upto ls (suc i) k l t (lines_rise is more) e f = one_of_line text _ upto _ i k l t more e f
