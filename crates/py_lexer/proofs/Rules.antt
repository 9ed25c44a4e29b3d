-- The lexical rules, as the check tries them.
use Rattle.std.proofs.Common.{◌≡◌, ℕ, ◌+◌, true, false, List, length, Option, Some, None, Result, Ok, Err, refl, sym, ap, subst, ◌∙◌}
use Rattle.std.specs.Prelude.{unwrap_or, option_map}
use Rattle.std.specs.Prelude.{IsUtf8}
use Rattle.std.specs.Str.Lossy.{utf8_valid_len}
use Rattle.std.proofs.Common.{take}
use Rattle.std.proofs.Math.Seq.{take-length}
use Rattle.std.proofs.lemmas.Str.{utf8_valid_len-IsUtf8}
use Rattle.py_tree.specs.StringText.{escape}
use Rattle.py_lexer.specs.declared.strings.Quote.{Quote}
use Rattle.py_lexer.specs.declared.fault.LexFault.{LexFault}
use Rattle.py_lexer.specs.declared.fault.LexKind.{LexKind}
use Rattle.py_lexer.specs.declared.fault.LexKind.TheVariants.{NotUtf8, OpenString, BadEscape, BadCharacter}
use Rattle.py_lexer.specs.Cursor.{At, byte, moved, is_line_end, past_line, at_end, ends, rest, stray, fault_at, is_broken, is_letter, is_digit, is_quote, is_backslash, is_hash, is_blank, sign}
use Rattle.py_lexer.specs.LogicalLines.{Outcome, found, stops, Nothing, reaches, joins, passes_line, IsComment, comment_ends, comment_stops, comment_more, IsGap, gap_blank, gap_comment, gap_stops, gap_line, gap_join, gap_ends, closes, quote_len, IsPiece, piece_stops, piece_byte, piece_escape, piece_bad, IsBody, body_open, body_broken, body_closed, body_cut, body_line, body_stops, body_more, quote_at, token, sign_len, is_number, value_of, behind_word, behind_digits, IsNumber, number_bad, number_wide, number_is, IsString, string_stops, string_is, IsSign, sign_is, sign_none, IsToken, token_broken, token_word, token_number, token_string, token_sign}
use Rattle.py_tree.specs.Tokens.{PlainToken, LStr, LSign}
use Rattle.py_lexer.specs.declared.token.Token.{Token}
use Rattle.py_lexer.specs.Views.{Meets}

pub whole_is_valid : (bs : List ℕ) → IsUtf8 bs → length bs ≡ utf8_valid_len bs
whole_is_valid bs u = sym (utf8_valid_len-IsUtf8 bs u)

pub whole_is_utf8 : (bs : List ℕ) → IsUtf8 bs → IsUtf8 (take (length bs) bs)
whole_is_utf8 bs u = subst IsUtf8 (sym (take-length bs)) u

-- what follows one place follows another
abbrev pub LeadsOn : (At → Outcome Nothing → Type 0) → At → At → Type 0
LeadsOn Is start now = (o : Outcome Nothing) → Is now o → Is start o

pub leads_nowhere : (Is : At → Outcome Nothing → Type 0) (i : At) → LeadsOn Is i i
leads_nowhere Is i o h = h

-- comments
pub comment_passes : (start now mid : At) → LeadsOn IsComment start now → ends now ≡ false → stray now ≡ None → mid ≡ moved 1 now → LeadsOn IsComment start mid
comment_passes start now mid g e s m o h = g o (comment_more e s (subst (λ i. IsComment i o) m h))

pub comment_done : (start now : At) → LeadsOn IsComment start now → ends now ≡ true → IsComment start (reaches now)
comment_done start now g e = g (reaches now) (comment_ends e)

pub comment_fails : (start now : At) (k : LexKind) → LeadsOn IsComment start now → ends now ≡ false → Some k ≡ stray now → IsComment start (stops (fault_at k now))
comment_fails start now k g e s = g (stops (fault_at k now)) (comment_stops e (sym s))

pub ruleset comment_rules = (comment_passes, comment_done, comment_fails)

-- gaps
pub gap_passes_blank : (d : ℕ) (start now mid : At) → LeadsOn (IsGap d) start now → is_blank (byte now) ≡ true → mid ≡ moved 1 now → LeadsOn (IsGap d) start mid
gap_passes_blank d start now mid g e m o h = g o (gap_blank e (subst (λ i. IsGap d i o) m h))

pub gap_passes_comment : (d : ℕ) (start now behind mid : At) → LeadsOn (IsGap d) start now → is_hash (byte now) ≡ true → behind ≡ moved 1 now → IsComment behind (reaches mid) → LeadsOn (IsGap d) start mid
gap_passes_comment d start now behind mid g e b c o h = g o (gap_comment e (subst (λ i. IsComment i (reaches mid)) b c) h)

pub gap_passes_line : (d : ℕ) (start now mid : At) → LeadsOn (IsGap d) start now → passes_line d now ≡ true → mid ≡ past_line now → LeadsOn (IsGap d) start mid
gap_passes_line d start now mid g e m o h = g o (gap_line e (subst (λ i. IsGap d i o) m h))

pub gap_passes_join : (d : ℕ) (start now mid : At) → LeadsOn (IsGap d) start now → joins now ≡ true → mid ≡ past_line (moved 1 now) → LeadsOn (IsGap d) start mid
gap_passes_join d start now mid g e m o h = g o (gap_join e (subst (λ i. IsGap d i o) m h))

pub gap_done : (d : ℕ) (start now : At) → LeadsOn (IsGap d) start now → is_blank (byte now) ≡ false → is_hash (byte now) ≡ false → passes_line d now ≡ false → joins now ≡ false → IsGap d start (reaches now)
gap_done d start now g a b c e = g (reaches now) (gap_ends a b c e)

pub gap_fails : (d : ℕ) (start now behind : At) (f : LexFault) → LeadsOn (IsGap d) start now → is_hash (byte now) ≡ true → behind ≡ moved 1 now → IsComment behind (stops f) → IsGap d start (stops f)
gap_fails d start now behind f g h b c = g (stops f) (gap_stops h (subst (λ i. IsComment i (stops f)) b c))

pub ruleset gap_rules = (gap_passes_blank, gap_passes_comment, gap_passes_line, gap_passes_join, gap_done, gap_fails)

-- strings
pub piece_escaped : (i : At) (c n : ℕ) → stray i ≡ None → is_backslash (byte i) ≡ true → Some (c, n) ≡ escape (rest (moved 1 i)) → IsPiece i (reaches (moved (1 + n) i))
piece_escaped i c n s b e = piece_escape {e = (c, n)} s b (sym e)

pub piece_unescaped : (i : At) → stray i ≡ None → is_backslash (byte i) ≡ true → None ≡ escape (rest (moved 1 i)) → IsPiece i (stops (fault_at BadEscape i))
piece_unescaped i s b e = piece_bad s b (sym e)

pub piece_strays : (i : At) (k : LexKind) → Some k ≡ stray i → IsPiece i (stops (fault_at k i))
piece_strays i k s = piece_stops (sym s)

pub ruleset piece_rules = (piece_strays, piece_byte, piece_escaped, piece_unescaped)

pub body_passes_line : (q : Quote) (s start now mid : At) → LeadsOn (IsBody q s) start now → at_end now ≡ false → is_broken now ≡ false → closes q now ≡ false → is_line_end now ≡ true → q.is_triple ≡ true → mid ≡ past_line now → LeadsOn (IsBody q s) start mid
body_passes_line q s start now mid g a z b c t m o h = g o (body_line a z b c t (subst (λ i. IsBody q s i o) m h))

pub body_passes : (q : Quote) (s start now mid : At) → LeadsOn (IsBody q s) start now → at_end now ≡ false → is_broken now ≡ false → closes q now ≡ false → is_line_end now ≡ false → IsPiece now (reaches mid) → LeadsOn (IsBody q s) start mid
body_passes q s start now mid g a z b c p o h = g o (body_more a z b c p h)

pub body_done : (q : Quote) (s start now : At) → LeadsOn (IsBody q s) start now → at_end now ≡ false → is_broken now ≡ false → closes q now ≡ true → IsBody q s start (reaches (moved (quote_len q) now))
body_done q s start now g a z c = g (reaches (moved (quote_len q) now)) (body_closed a z c)

pub body_is_cut : (q : Quote) (s start now : At) → LeadsOn (IsBody q s) start now → at_end now ≡ false → is_broken now ≡ false → closes q now ≡ false → is_line_end now ≡ true → q.is_triple ≡ false → IsBody q s start (stops (fault_at OpenString s))
body_is_cut q s start now g a z b c t = g (stops (fault_at OpenString s)) (body_cut a z b c t)

pub body_is_open : (q : Quote) (s start now : At) → LeadsOn (IsBody q s) start now → at_end now ≡ true → IsBody q s start (stops (fault_at OpenString s))
body_is_open q s start now g a = g (stops (fault_at OpenString s)) (body_open a)

pub body_fails : (q : Quote) (s start now : At) (f : LexFault) → LeadsOn (IsBody q s) start now → at_end now ≡ false → is_broken now ≡ false → closes q now ≡ false → is_line_end now ≡ false → IsPiece now (stops f) → IsBody q s start (stops f)
body_fails q s start now f g a z b c p = g (stops f) (body_stops a z b c p)

pub body_is_broken : (q : Quote) (s start now : At) → LeadsOn (IsBody q s) start now → at_end now ≡ false → is_broken now ≡ true → IsBody q s start (stops (fault_at NotUtf8 now))
body_is_broken q s start now g a z = g (stops (fault_at NotUtf8 now)) (body_broken a z)

pub ruleset body_rules = (body_passes_line, body_passes, body_done, body_is_cut, body_is_open, body_fails, body_is_broken)

-- tokens
pub ruleset number_rules = (number_bad, number_wide, number_is)

pub string_fails : (i s mid : At) (q : Quote) (f : LexFault) → s ≡ i → q ≡ quote_at i → IsBody q s mid (stops f) → mid ≡ moved (quote_len q) i → IsString i (stops f)
string_fails i s mid q f b a c m = string_stops (subst (λ p. IsBody p i (moved (quote_len p) i) (stops f)) a (subst (λ k. IsBody q i k (stops f)) m (subst (λ k. IsBody q k mid (stops f)) b c)))

pub string_found : (i mid end : At) (q : Quote) → q ≡ quote_at i → IsBody q i mid (reaches end) → mid ≡ moved (quote_len q) i → IsString i (found (token LStr i end) end)
string_found i mid end q a c m = string_is (subst (λ p. IsBody p i (moved (quote_len p) i) (reaches end)) a (subst (λ k. IsBody q i k (reaches end)) m c))

pub ruleset string_rules = (string_fails, string_found)

no_pair : {x : ℕ × ℕ} → Some x ≡ None → ⊥
no_pair e = cc

unpaired : (x y : ℕ × ℕ) → Some x ≡ Some y → x ≡ y
unpaired x y e = ap (λ o. unwrap_or o x) e

abbrev with_len : Option ℕ → Option (ℕ × ℕ)
with_len = option_map (λ k. (k, sign_len k))

-- the sign that is read, with its length
pub sign_found : (i mid : At) (n len : ℕ) → ◌≡◌ {A = Option (ℕ × ℕ)} (Some (n, len)) (with_len (sign i)) → mid ≡ moved len i → IsSign i (found (token (LSign n) i mid) mid)
sign_found i mid n len e m =
    let by_sign : (s : Option ℕ) → sign i ≡ s → ◌≡◌ {A = Option (ℕ × ℕ)} (Some (n, len)) (with_len s) → IsSign i (found (token (LSign n) i mid) mid) = λ s. elim s as (λ z. sign i ≡ z → ◌≡◌ {A = Option (ℕ × ℕ)} (Some (n, len)) (with_len z) → IsSign i (found (token (LSign n) i mid) mid)) [
      | None ↦ λ at paired. absurd (no_pair paired)
      | Some k ↦ λ at paired.
          let p = unpaired (n, len) (k, sign_len k) paired in
          let same : mid ≡ moved (sign_len k) i = m ∙ ap (λ l. moved l i) (ap (λ q. q.1) p) in
          subst (λ j. IsSign i (found (token (LSign j) i mid) mid)) (sym (ap (λ q. q.0) p)) (subst (λ j. IsSign i (found (token (LSign k) i j) j)) (sym same) (sign_is at))
    ] in
    by_sign (sign i) refl e

pub sign_missing : (i : At) → None ≡ with_len (sign i) → IsSign i (stops (fault_at BadCharacter i))
sign_missing i e =
    let by_sign : (s : Option ℕ) → sign i ≡ s → None ≡ with_len s → IsSign i (stops (fault_at BadCharacter i)) = λ s. elim s as (λ z. sign i ≡ z → None ≡ with_len z → IsSign i (stops (fault_at BadCharacter i))) [
      | None ↦ λ at paired. sign_none at
      | Some k ↦ λ at paired. absurd (no_pair (sym paired))
    ] in
    by_sign (sign i) refl e

pub ruleset sign_rules = (sign_found, sign_missing)

pub token_numbers : (i new : At) (view : Token → PlainToken) (r : Result Token LexFault) → is_broken i ≡ false → is_letter (byte i) ≡ false → is_digit (byte i) ≡ true → Meets view (IsNumber i) r new → Meets view (IsToken i) r new
token_numbers i new view (Ok t) a b c h = token_number a b c h
token_numbers i new view (Err f) a b c h = token_number a b c h

pub token_strings : (i new : At) (view : Token → PlainToken) (r : Result Token LexFault) → is_broken i ≡ false → is_letter (byte i) ≡ false → is_digit (byte i) ≡ false → is_quote (byte i) ≡ true → Meets view (IsString i) r new → Meets view (IsToken i) r new
token_strings i new view (Ok t) a b c d h = token_string a b c d h
token_strings i new view (Err f) a b c d h = token_string a b c d h

pub token_signs : (i new : At) (view : Token → PlainToken) (r : Result Token LexFault) → is_broken i ≡ false → is_letter (byte i) ≡ false → is_digit (byte i) ≡ false → is_quote (byte i) ≡ false → Meets view (IsSign i) r new → Meets view (IsToken i) r new
token_signs i new view (Ok t) a b c d h = token_sign a b c d h
token_signs i new view (Err f) a b c d h = token_sign a b c d h

pub ruleset token_rules = (token_broken, token_word, token_numbers, token_strings, token_signs)
