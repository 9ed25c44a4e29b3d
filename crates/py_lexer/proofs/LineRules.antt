-- The loops over tokens and over lines, and their rules as the check tries them.
use Rattle.std.proofs.Common.{◌≡◌, ◌≤◌, ◌<◌, ℕ, true, false, List, [], ◌∷◌, ◌++◌, length, map, Option, Some, None, Result, Ok, Err, refl, sym, ap, subst, ◌∙◌, append_assoc}
use Rattle.std.proofs.lemmas.List.{append-nil, map-append}
use Rattle.py_tree.specs.declared.names.Place.{Place}
use Rattle.py_tree.specs.Tokens.{PlainToken, PlainLine}
use Rattle.py_lexer.specs.declared.token.Token.{Token}
use Rattle.py_lexer.specs.declared.token.Line.{Line}
use Rattle.py_lexer.specs.declared.fault.LexFault.{LexFault}
use Rattle.py_lexer.specs.declared.fault.LexKind.TheVariants.{TooLong, NotUtf8, TabIndent, BadDedent}
use Rattle.py_lexer.specs.declared.fault.LexError.{LexError}
use Rattle.py_lexer.specs.declared.fault.LexError.TheVariants.{Fault, NoMemory}
use Rattle.py_lexer.specs.Cursor.{At, start, at_end, byte, ends, moved, past_line, is_broken, fault_at, is_hash, spaces}
use Rattle.py_lexer.specs.LogicalLines.{Outcome, found, stops, Nothing, reaches, led_by, IsToken, IsGap, open_behind, innermost, open_bracket, IsTokens, tokens_stop, tokens_gap, tokens_end, tokens_open, tokens_more, IsComment, IsBare, bare_ends, bare_comment, unblanked, unspaced, has_tab, has_token, IsColumn, column_tab, column_broken, column_dedent, column_is, IsLine, line_misplaced, line_stops, line_is, IsLines, lines_end, lines_bare, lines_bare_stops, lines_stop, lines_more, IsText, has_fault, text_too_long, text_stops, text_lines}
use Rattle.py_lexer.specs.OpenColumns.{AreOpen, is_bad_dedent}
use Rattle.py_lexer.proofs.ColumnLaws.{bad_is, good_is, none_open, opens}
use Rattle.py_lexer.specs.Views.{plain_line, Closes, Comes, Meets, Lexes}

-- items before what follows
abbrev pub with_front : {A : Type 0} → List A → Outcome (List A) → Outcome (List A)
with_front front (found xs m) = found (front ++ xs) m
with_front front (stops f) = stops f

regrouped : {A : Type 0} (P : Outcome (List A) → Type 0) (items : List A) (x : A) (o : Outcome (List A)) → P (with_front items (led_by x o)) → P (with_front (items ++ x ∷ []) o)
regrouped P items x (found xs m) h = rw append_assoc h
regrouped P items x (stops f) h = h

-- what follows here is what follows behind these tokens of the line
abbrev pub TokensGoOn : (Token → PlainToken) → At → List Place → At → List Token → Type 0
TokensGoOn view start b now items = (o : Outcome (List PlainToken)) → IsTokens b now o → IsTokens [] start (with_front (map view items) o)

pub tokens_begin : (view : Token → PlainToken) (start : At) → TokensGoOn view start [] start []
tokens_begin view start (found xs m) h = h
tokens_begin view start (stops f) h = h

pub tokens_pass : (view : Token → PlainToken) (start : At) (b c : List Place) (now behind mid : At) (items all : List Token) (x : Token) → TokensGoOn view start b now items → IsToken now (found (view x) behind) → c ≡ open_behind b (view x) → IsGap (length c) behind (reaches mid) → ends mid ≡ false → all ≡ items ++ x ∷ [] → TokensGoOn view start c mid all
tokens_pass view start b c now behind mid items all x g t s p e a o h =
    let more : IsTokens [] start (with_front (map view items ++ view x ∷ []) o) = regrouped (IsTokens [] start) (map view items) (view x) o (g (led_by (view x) o) (tokens_more t (subst (λ d. IsGap (length d) behind (reaches mid)) s p) e (subst (λ d. IsTokens d mid o) s h))) in
    subst (λ ys. IsTokens [] start (with_front ys o)) (sym (ap (map view) a ∙ map-append view items (x ∷ []))) more

pub tokens_closed : (view : Token → PlainToken) (start : At) (b c : List Place) (now behind mid : At) (items all : List Token) (x : Token) (r : Result (List Token) LexError) → TokensGoOn view start b now items → IsToken now (found (view x) behind) → c ≡ open_behind b (view x) → IsGap (length c) behind (reaches mid) → ends mid ≡ true → all ≡ items ++ x ∷ [] → Closes (innermost c) all r → Comes (map view) (IsTokens [] start) r mid
tokens_closed view start b c now behind mid items all x r g t s p e a k =
    let q : IsGap (length (open_behind b (view x))) behind (reaches mid) = subst (λ d. IsGap (length d) behind (reaches mid)) s p in
    let by_case : (o : Option Place) → innermost c ≡ o → Closes o all r → Comes (map view) (IsTokens [] start) r mid = λ o. elim o as (λ z. innermost c ≡ z → Closes z all r → Comes (map view) (IsTokens [] start) r mid) [
      | None ↦ λ n k. subst (λ z. Comes (map view) (IsTokens [] start) z mid) (sym k) (subst (λ ys. IsTokens [] start (found ys mid)) (sym (ap (map view) a ∙ map-append view items (x ∷ []))) (g (found (view x ∷ []) mid) (tokens_end t q e (ap innermost (sym s) ∙ n))))
      | Some place ↦ λ n k. subst (λ z. Comes (map view) (IsTokens [] start) z mid) (sym k) (g (stops (open_bracket place)) (tokens_open t q e (ap innermost (sym s) ∙ n)))
    ] in
    by_case (innermost c) refl k

pub tokens_fail : (view : Token → PlainToken) (start : At) (b : List Place) (now : At) (items : List Token) (f : LexFault) → TokensGoOn view start b now items → IsToken now (stops f) → IsTokens [] start (stops f)
tokens_fail view start b now items f g t = g (stops f) (tokens_stop t)

pub tokens_gap_fails : (view : Token → PlainToken) (start : At) (b c : List Place) (now behind : At) (items : List Token) (x : Token) (f : LexFault) → TokensGoOn view start b now items → IsToken now (found (view x) behind) → c ≡ open_behind b (view x) → IsGap (length c) behind (stops f) → IsTokens [] start (stops f)
tokens_gap_fails view start b c now behind items x f g t s p = g (stops f) (tokens_gap t (subst (λ d. IsGap (length d) behind (stops f)) s p))

pub ruleset tokens_rules = (tokens_begin, tokens_pass, tokens_closed)

-- lines without a token
pub bare_past : (i : At) (r : Result Nothing LexFault) (mid new : At) → ends i ≡ false → is_hash (byte i) ≡ true → mid ≡ moved 1 i → Meets (λ (u : Nothing). u) (IsComment mid) r new → Meets (λ (u : Nothing). u) (IsBare i) r new
bare_past i (Ok u) mid new e b m h = bare_comment e b (subst (λ j. IsComment j (found u new)) m h)
bare_past i (Err f) mid new e b m h = bare_comment e b (subst (λ j. IsComment j (stops f)) m h)

pub ruleset bare_rules = (bare_ends, bare_past)

-- columns
pub tab_stops : (before : List ℕ) (i mid : At) → has_tab i ≡ true → mid ≡ unspaced i → IsColumn before i (stops (fault_at TabIndent mid))
tab_stops before i mid t m = subst (λ j. IsColumn before i (stops (fault_at TabIndent j))) (sym m) (column_tab t)

pub broken_stops : (before : List ℕ) (i mid : At) → has_tab i ≡ false → mid ≡ unblanked i → is_broken mid ≡ true → IsColumn before i (stops (fault_at NotUtf8 mid))
broken_stops before i mid t m b = subst (λ j. IsColumn before i (stops (fault_at NotUtf8 j))) (sym m) (column_broken t (subst (λ j. is_broken j ≡ true) m b))

pub dedent_stops : (kept before : List ℕ) (i mid : At) (c : ℕ) → AreOpen kept before → has_tab i ≡ false → mid ≡ unblanked i → is_broken mid ≡ false → c ≡ spaces i → is_bad_dedent c kept ≡ true → IsColumn before i (stops (fault_at BadDedent mid))
dedent_stops kept before i mid c o t m b n d = subst (λ j. IsColumn before i (stops (fault_at BadDedent j))) (sym m) (column_dedent t (subst (λ j. is_broken j ≡ false) m b) (bad_is (spaces i) kept before o (subst (λ k. is_bad_dedent k kept ≡ true) n d)))

pub column_found : (kept before : List ℕ) (i mid : At) (c : ℕ) → AreOpen kept before → has_tab i ≡ false → mid ≡ unblanked i → is_broken mid ≡ false → c ≡ spaces i → is_bad_dedent c kept ≡ false → IsColumn before i (found c mid)
column_found kept before i mid c o t m b n d = subst (λ j. IsColumn before i (found c j)) (sym m) (subst (λ k. IsColumn before i (found k (unblanked i))) (sym n) (column_is t (subst (λ j. is_broken j ≡ false) m b) (good_is (spaces i) kept before o (subst (λ k. is_bad_dedent k kept ≡ false) n d))))

-- logical lines
pub line_misplaced_by : (before : List ℕ) (i : At) (f : LexFault) → IsColumn before i (stops f) → IsLine before i (stops f)
line_misplaced_by before i f h = line_misplaced h

pub line_fails : (before : List ℕ) (i j mid new : At) (c : ℕ) (view : Line → PlainLine) (views : List Token → List PlainToken) (e : LexError) → IsColumn before i (found c j) → Comes views (IsTokens [] j) (Err e) mid → Comes view (IsLine before i) (Err e) new
line_fails before i j mid new c view views NoMemory h t = tt
line_fails before i j mid new c view views (Fault f) h t = line_stops h t

-- the columns of the lines so far
abbrev pub columns_of : List Line → List ℕ
columns_of = map (λ l. l.column)

-- what follows here is what follows behind these lines
abbrev pub LinesGoOn : (Line → PlainLine) → At → At → List Line → Type 0
LinesGoOn view start now items = (o : Outcome (List PlainLine)) → IsLines (columns_of items) now o → IsLines [] start (with_front (map view items) o)

pub lines_begin : (view : Line → PlainLine) (start : At) → LinesGoOn view start start []
lines_begin view start (found xs m) h = h
lines_begin view start (stops f) h = h

pub lines_pass_bare : (view : Line → PlainLine) (start now behind mid new : At) (items : List Line) → LinesGoOn view start now items → at_end now ≡ false → behind ≡ unblanked now → has_token behind ≡ false → IsBare behind (reaches mid) → new ≡ past_line mid → LinesGoOn view start new items
lines_pass_bare view start now behind mid new items g e b t h p o rest = g o (lines_bare e (subst (λ j. has_token j ≡ false) b t) (subst (λ j. IsBare j (reaches mid)) b h) (subst (λ j. IsLines (columns_of items) j o) p rest))

pub lines_pass : (text : List ℕ) (start now behind mid new : At) (items all : List Line) (l : Line) → LinesGoOn (plain_line text) start now items → at_end now ≡ false → behind ≡ unblanked now → has_token behind ≡ true → IsLine (columns_of items) now (found (plain_line text l) mid) → new ≡ past_line mid → all ≡ items ++ l ∷ [] → LinesGoOn (plain_line text) start new all
lines_pass text start now behind mid new items all l g e b t h p a o rest =
    let cs : columns_of all ≡ columns_of items ++ l.column ∷ [] = ap columns_of a ∙ map-append (λ x. x.column) items (l ∷ []) in
    let more : IsLines (columns_of items ++ l.column ∷ []) (past_line mid) o = subst (λ j. IsLines (columns_of items ++ l.column ∷ []) j o) p (subst (λ ds. IsLines ds new o) cs rest) in
    let whole : IsLines [] start (with_front (map (plain_line text) items ++ plain_line text l ∷ []) o) = regrouped (IsLines [] start) (map (plain_line text) items) (plain_line text l) o (g (led_by (plain_line text l) o) (lines_more e (subst (λ j. has_token j ≡ true) b t) h more)) in
    subst (λ ys. IsLines [] start (with_front ys o)) (sym (ap (map (plain_line text)) a ∙ map-append (plain_line text) items (l ∷ []))) whole

pub lines_done : (view : Line → PlainLine) (start now : At) (items : List Line) → LinesGoOn view start now items → at_end now ≡ true → IsLines [] start (found (map view items) now)
lines_done view start now items g e = subst (λ ys. IsLines [] start (found ys now)) (append-nil (map view items)) (g (found [] now) (lines_end e))

pub lines_bare_fail : (view : Line → PlainLine) (start now behind : At) (items : List Line) (f : LexFault) → LinesGoOn view start now items → at_end now ≡ false → behind ≡ unblanked now → has_token behind ≡ false → IsBare behind (stops f) → IsLines [] start (stops f)
lines_bare_fail view start now behind items f g a b t h = g (stops f) (lines_bare_stops a (subst (λ j. has_token j ≡ false) b t) (subst (λ j. IsBare j (stops f)) b h))

pub lines_fail : (view : Line → PlainLine) (start now behind mid new : At) (items : List Line) (e : LexError) → LinesGoOn view start now items → at_end now ≡ false → behind ≡ unblanked now → has_token behind ≡ true → Comes view (IsLine (columns_of items) now) (Err e) mid → Comes (map view) (IsLines [] start) (Err e) new
lines_fail view start now behind mid new items NoMemory g a b t h = tt
lines_fail view start now behind mid new items (Fault f) g a b t h = g (stops f) (lines_stop a (subst (λ j. has_token j ≡ true) b t) h)

-- the whole text
pub text_fits : (text : List ℕ) (r : Result (List Line) LexError) (new : At) → length text ≤ 1048576 → Comes (map (plain_line text)) (IsLines [] (start text)) r new → Lexes text r
text_fits text (Ok ls) new n h = text_lines n h
text_fits text (Err NoMemory) new n h = tt
text_fits text (Err (Fault f)) new n h = text_stops n h

pub too_long : (text : List ℕ) → 1048576 < length text → IsText text (has_fault (record { place = record { line = 1; col = 1 }; kind = TooLong }))
too_long text n = text_too_long n

pub ruleset column_rules = (tab_stops, broken_stops, dedent_stops, column_found)

pub ruleset line_rules = (line_misplaced_by, line_fails, line_is, opens)

pub ruleset lines_rules = (lines_begin, lines_pass_bare, lines_pass, lines_done, none_open)

pub ruleset text_rules = (text_fits, too_long)
