-- A text has one outcome at most: its lines, or its first fault. One clause for each pair of rules.
use Rattle.std.proofs.Common.{◌≡◌, ℕ, true, List, [], ◌∷◌, ◌++◌, length, refl, sym, ap, subst, arith}
use mathlib.Core.Logic.{◌⊎◌, inl, inr}
use Rattle.std.proofs.lemmas.Bool.Decides.{nat_tests}
use Rattle.std.specs.Prelude.{◌==◌}
use Rattle.py_tree.specs.declared.names.Place.{Place}
use Rattle.py_tree.specs.Tokens.{PlainToken, PlainLine}
use Rattle.py_lexer.specs.declared.strings.Quote.{Quote}
use Rattle.py_lexer.specs.Columns.{IsBadDedent}
use Rattle.py_lexer.specs.Cursor.{At, byte, moved, start, line_end, is_line_end, past_line, is_blank, is_hash, digits, spaces}
use Rattle.py_lexer.specs.LogicalLines.{Outcome, Nothing, IsComment, comment_ends, comment_stops, comment_more, joins, passes_line, IsGap, gap_blank, gap_comment, gap_stops, gap_line, gap_join, gap_ends, quote_at, quote_len, IsPiece, piece_stops, piece_byte, piece_escape, piece_bad, IsBody, body_open, body_broken, body_closed, body_cut, body_line, body_stops, body_more, value_of, IsNumber, number_bad, number_wide, number_is, IsString, string_stops, string_is, IsSign, sign_is, sign_none, IsToken, token_broken, token_word, token_number, token_string, token_sign, open_behind, IsTokens, tokens_stop, tokens_gap, tokens_end, tokens_open, tokens_more, unblanked, IsBare, bare_ends, bare_comment, IsColumn, column_tab, column_broken, column_dedent, column_is, IsLine, line_misplaced, line_stops, line_is, IsLines, lines_end, lines_bare, lines_bare_stops, lines_stop, lines_more, Lexed, IsText, text_too_long, text_stops, text_lines}

-- what separates tokens begins with bytes that differ
blank_hash : (i : At) → is_blank (byte i) ≡ true → is_hash (byte i) ≡ true → ⊥
blank_hash i a b = grind (arith, nat_tests)

starts_line : (i : At) → is_line_end i ≡ true → (byte i == 10 ≡ true) ⊎ (byte i == 13 ≡ true)
unfolding is_line_end line_end
starts_line i e = grind (arith, nat_tests)

passed : (d : ℕ) (i : At) → passes_line d i ≡ true → is_line_end i ≡ true
unfolding passes_line
passed d i e = grind (arith, nat_tests)

blank_line : (d : ℕ) (i : At) → is_blank (byte i) ≡ true → passes_line d i ≡ true → ⊥
blank_line d i a b = elim (starts_line i (passed d i b)) as (λ _. ⊥) [ inl ten ↦ grind (arith, nat_tests) | inr thirteen ↦ grind (arith, nat_tests) ]

hash_line : (d : ℕ) (i : At) → is_hash (byte i) ≡ true → passes_line d i ≡ true → ⊥
hash_line d i a b = elim (starts_line i (passed d i b)) as (λ _. ⊥) [ inl ten ↦ grind (arith, nat_tests) | inr thirteen ↦ grind (arith, nat_tests) ]

joined : (i : At) → joins i ≡ true → byte i == 92 ≡ true
unfolding joins
joined i e = grind (arith, nat_tests)

blank_join : (i : At) → is_blank (byte i) ≡ true → joins i ≡ true → ⊥
blank_join i a b = let c = joined i b in grind (arith, nat_tests)

hash_join : (i : At) → is_hash (byte i) ≡ true → joins i ≡ true → ⊥
hash_join i a b = let c = joined i b in grind (arith, nat_tests)

line_join : (d : ℕ) (i : At) → passes_line d i ≡ true → joins i ≡ true → ⊥
line_join d i a b = let c = joined i b in elim (starts_line i (passed d i a)) as (λ _. ⊥) [ inl ten ↦ grind (arith, nat_tests) | inr thirteen ↦ grind (arith, nat_tests) ]

pass_at : (d d' : ℕ) (i i' : At) → d ≡ d' → i ≡ i' → passes_line d i ≡ true → passes_line d' i' ≡ true
pass_at d d' i i' e f h = subst (λ k. passes_line k i' ≡ true) e (subst (λ k. passes_line d k ≡ true) f h)

bad_at : {c c' : ℕ} {cs cs' : List ℕ} → c ≡ c' → cs ≡ cs' → IsBadDedent c cs → IsBadDedent c' cs'
bad_at {c' = c'} {cs = cs} e f h = subst (λ k. IsBadDedent c' k) f (subst (λ k. IsBadDedent k cs) e h)

comment_one : {a0 b0 : At} {o p : Outcome Nothing} → IsComment a0 o → a0 ≡ b0 → IsComment b0 p → o ≡ p
comment_one (comment_ends {i = i} x0) e0 (comment_ends {i = i'} y0) = cc
comment_one (comment_ends {i = i} x0) e0 (comment_stops {i = i'} {k = k'} y0 y1) = cc
comment_one (comment_ends {i = i} x0) e0 (comment_more {i = i'} {o = o'} y0 y1 y2) = cc
comment_one (comment_stops {i = i} {k = k} x0 x1) e0 (comment_ends {i = i'} y0) = cc
comment_one (comment_stops {i = i} {k = k} x0 x1) e0 (comment_stops {i = i'} {k = k'} y0 y1) = cc
comment_one (comment_stops {i = i} {k = k} x0 x1) e0 (comment_more {i = i'} {o = o'} y0 y1 y2) = cc
comment_one (comment_more {i = i} {o = o} x0 x1 x2) e0 (comment_ends {i = i'} y0) = cc
comment_one (comment_more {i = i} {o = o} x0 x1 x2) e0 (comment_stops {i = i'} {k = k'} y0 y1) = cc
comment_one (comment_more {i = i} {o = o} x0 x1 x2) e0 (comment_more {i = i'} {o = o'} y0 y1 y2) = let q00 : (moved 1 i) ≡ (moved 1 i') = cc in let s0 = comment_one x2 q00 y2 in cc

gap_one : {a0 b0 : ℕ} {a1 b1 : At} {o p : Outcome Nothing} → IsGap a0 a1 o → a0 ≡ b0 → a1 ≡ b1 → IsGap b0 b1 p → o ≡ p
gap_one (gap_blank {d = d} {i = i} {o = o} x0 x1) e0 e1 (gap_blank {d = d'} {i = i'} {o = o'} y0 y1) = let q00 : d ≡ d' = cc in let q01 : (moved 1 i) ≡ (moved 1 i') = cc in let s0 = gap_one x1 q00 q01 y1 in cc
gap_one (gap_blank {d = d} {i = i} {o = o} x0 x1) e0 e1 (gap_comment {d = d'} {i = i'} {m = m'} {o = o'} y0 y1 y2) = absurd (blank_hash i' (subst (λ k. is_blank (byte k) ≡ true) e1 x0) y0)
gap_one (gap_blank {d = d} {i = i} {o = o} x0 x1) e0 e1 (gap_stops {d = d'} {i = i'} {f = f'} y0 y1) = absurd (blank_hash i' (subst (λ k. is_blank (byte k) ≡ true) e1 x0) y0)
gap_one (gap_blank {d = d} {i = i} {o = o} x0 x1) e0 e1 (gap_line {d = d'} {i = i'} {o = o'} y0 y1) = absurd (blank_line d' i' (subst (λ k. is_blank (byte k) ≡ true) e1 x0) y0)
gap_one (gap_blank {d = d} {i = i} {o = o} x0 x1) e0 e1 (gap_join {d = d'} {i = i'} {o = o'} y0 y1) = absurd (blank_join i' (subst (λ k. is_blank (byte k) ≡ true) e1 x0) y0)
gap_one (gap_blank {d = d} {i = i} {o = o} x0 x1) e0 e1 (gap_ends {d = d'} {i = i'} y0 y1 y2 y3) = cc
gap_one (gap_comment {d = d} {i = i} {m = m} {o = o} x0 x1 x2) e0 e1 (gap_blank {d = d'} {i = i'} {o = o'} y0 y1) = absurd (blank_hash i' y0 (subst (λ k. is_hash (byte k) ≡ true) e1 x0))
gap_one (gap_comment {d = d} {i = i} {m = m} {o = o} x0 x1 x2) e0 e1 (gap_comment {d = d'} {i = i'} {m = m'} {o = o'} y0 y1 y2) = let q00 : (moved 1 i) ≡ (moved 1 i') = cc in let s0 = comment_one x1 q00 y1 in let q10 : d ≡ d' = cc in let q11 : m ≡ m' = cc in let s1 = gap_one x2 q10 q11 y2 in cc
gap_one (gap_comment {d = d} {i = i} {m = m} {o = o} x0 x1 x2) e0 e1 (gap_stops {d = d'} {i = i'} {f = f'} y0 y1) = let q00 : (moved 1 i) ≡ (moved 1 i') = cc in let s0 = comment_one x1 q00 y1 in cc
gap_one (gap_comment {d = d} {i = i} {m = m} {o = o} x0 x1 x2) e0 e1 (gap_line {d = d'} {i = i'} {o = o'} y0 y1) = absurd (hash_line d' i' (subst (λ k. is_hash (byte k) ≡ true) e1 x0) y0)
gap_one (gap_comment {d = d} {i = i} {m = m} {o = o} x0 x1 x2) e0 e1 (gap_join {d = d'} {i = i'} {o = o'} y0 y1) = absurd (hash_join i' (subst (λ k. is_hash (byte k) ≡ true) e1 x0) y0)
gap_one (gap_comment {d = d} {i = i} {m = m} {o = o} x0 x1 x2) e0 e1 (gap_ends {d = d'} {i = i'} y0 y1 y2 y3) = cc
gap_one (gap_stops {d = d} {i = i} {f = f} x0 x1) e0 e1 (gap_blank {d = d'} {i = i'} {o = o'} y0 y1) = absurd (blank_hash i' y0 (subst (λ k. is_hash (byte k) ≡ true) e1 x0))
gap_one (gap_stops {d = d} {i = i} {f = f} x0 x1) e0 e1 (gap_comment {d = d'} {i = i'} {m = m'} {o = o'} y0 y1 y2) = let q00 : (moved 1 i) ≡ (moved 1 i') = cc in let s0 = comment_one x1 q00 y1 in cc
gap_one (gap_stops {d = d} {i = i} {f = f} x0 x1) e0 e1 (gap_stops {d = d'} {i = i'} {f = f'} y0 y1) = let q00 : (moved 1 i) ≡ (moved 1 i') = cc in let s0 = comment_one x1 q00 y1 in cc
gap_one (gap_stops {d = d} {i = i} {f = f} x0 x1) e0 e1 (gap_line {d = d'} {i = i'} {o = o'} y0 y1) = absurd (hash_line d' i' (subst (λ k. is_hash (byte k) ≡ true) e1 x0) y0)
gap_one (gap_stops {d = d} {i = i} {f = f} x0 x1) e0 e1 (gap_join {d = d'} {i = i'} {o = o'} y0 y1) = absurd (hash_join i' (subst (λ k. is_hash (byte k) ≡ true) e1 x0) y0)
gap_one (gap_stops {d = d} {i = i} {f = f} x0 x1) e0 e1 (gap_ends {d = d'} {i = i'} y0 y1 y2 y3) = cc
gap_one (gap_line {d = d} {i = i} {o = o} x0 x1) e0 e1 (gap_blank {d = d'} {i = i'} {o = o'} y0 y1) = absurd (blank_line d' i' y0 (pass_at d d' i i' e0 e1 x0))
gap_one (gap_line {d = d} {i = i} {o = o} x0 x1) e0 e1 (gap_comment {d = d'} {i = i'} {m = m'} {o = o'} y0 y1 y2) = absurd (hash_line d' i' y0 (pass_at d d' i i' e0 e1 x0))
gap_one (gap_line {d = d} {i = i} {o = o} x0 x1) e0 e1 (gap_stops {d = d'} {i = i'} {f = f'} y0 y1) = absurd (hash_line d' i' y0 (pass_at d d' i i' e0 e1 x0))
gap_one (gap_line {d = d} {i = i} {o = o} x0 x1) e0 e1 (gap_line {d = d'} {i = i'} {o = o'} y0 y1) = let q00 : d ≡ d' = cc in let q01 : (past_line i) ≡ (past_line i') = cc in let s0 = gap_one x1 q00 q01 y1 in cc
gap_one (gap_line {d = d} {i = i} {o = o} x0 x1) e0 e1 (gap_join {d = d'} {i = i'} {o = o'} y0 y1) = absurd (line_join d' i' (pass_at d d' i i' e0 e1 x0) y0)
gap_one (gap_line {d = d} {i = i} {o = o} x0 x1) e0 e1 (gap_ends {d = d'} {i = i'} y0 y1 y2 y3) = cc
gap_one (gap_join {d = d} {i = i} {o = o} x0 x1) e0 e1 (gap_blank {d = d'} {i = i'} {o = o'} y0 y1) = absurd (blank_join i' y0 (subst (λ k. joins k ≡ true) e1 x0))
gap_one (gap_join {d = d} {i = i} {o = o} x0 x1) e0 e1 (gap_comment {d = d'} {i = i'} {m = m'} {o = o'} y0 y1 y2) = absurd (hash_join i' y0 (subst (λ k. joins k ≡ true) e1 x0))
gap_one (gap_join {d = d} {i = i} {o = o} x0 x1) e0 e1 (gap_stops {d = d'} {i = i'} {f = f'} y0 y1) = absurd (hash_join i' y0 (subst (λ k. joins k ≡ true) e1 x0))
gap_one (gap_join {d = d} {i = i} {o = o} x0 x1) e0 e1 (gap_line {d = d'} {i = i'} {o = o'} y0 y1) = absurd (line_join d' i' y0 (subst (λ k. joins k ≡ true) e1 x0))
gap_one (gap_join {d = d} {i = i} {o = o} x0 x1) e0 e1 (gap_join {d = d'} {i = i'} {o = o'} y0 y1) = let q00 : d ≡ d' = cc in let q01 : (past_line (moved 1 i)) ≡ (past_line (moved 1 i')) = cc in let s0 = gap_one x1 q00 q01 y1 in cc
gap_one (gap_join {d = d} {i = i} {o = o} x0 x1) e0 e1 (gap_ends {d = d'} {i = i'} y0 y1 y2 y3) = cc
gap_one (gap_ends {d = d} {i = i} x0 x1 x2 x3) e0 e1 (gap_blank {d = d'} {i = i'} {o = o'} y0 y1) = cc
gap_one (gap_ends {d = d} {i = i} x0 x1 x2 x3) e0 e1 (gap_comment {d = d'} {i = i'} {m = m'} {o = o'} y0 y1 y2) = cc
gap_one (gap_ends {d = d} {i = i} x0 x1 x2 x3) e0 e1 (gap_stops {d = d'} {i = i'} {f = f'} y0 y1) = cc
gap_one (gap_ends {d = d} {i = i} x0 x1 x2 x3) e0 e1 (gap_line {d = d'} {i = i'} {o = o'} y0 y1) = cc
gap_one (gap_ends {d = d} {i = i} x0 x1 x2 x3) e0 e1 (gap_join {d = d'} {i = i'} {o = o'} y0 y1) = cc
gap_one (gap_ends {d = d} {i = i} x0 x1 x2 x3) e0 e1 (gap_ends {d = d'} {i = i'} y0 y1 y2 y3) = cc

piece_one : {a0 b0 : At} {o p : Outcome Nothing} → IsPiece a0 o → a0 ≡ b0 → IsPiece b0 p → o ≡ p
piece_one (piece_stops {i = i} {k = k} x0) e0 (piece_stops {i = i'} {k = k'} y0) = cc
piece_one (piece_stops {i = i} {k = k} x0) e0 (piece_byte {i = i'} y0 y1) = cc
piece_one (piece_stops {i = i} {k = k} x0) e0 (piece_escape {i = i'} {e = e'} y0 y1 y2) = cc
piece_one (piece_stops {i = i} {k = k} x0) e0 (piece_bad {i = i'} y0 y1 y2) = cc
piece_one (piece_byte {i = i} x0 x1) e0 (piece_stops {i = i'} {k = k'} y0) = cc
piece_one (piece_byte {i = i} x0 x1) e0 (piece_byte {i = i'} y0 y1) = cc
piece_one (piece_byte {i = i} x0 x1) e0 (piece_escape {i = i'} {e = e'} y0 y1 y2) = cc
piece_one (piece_byte {i = i} x0 x1) e0 (piece_bad {i = i'} y0 y1 y2) = cc
piece_one (piece_escape {i = i} {e = e} x0 x1 x2) e0 (piece_stops {i = i'} {k = k'} y0) = cc
piece_one (piece_escape {i = i} {e = e} x0 x1 x2) e0 (piece_byte {i = i'} y0 y1) = cc
piece_one (piece_escape {i = i} {e = e} x0 x1 x2) e0 (piece_escape {i = i'} {e = e'} y0 y1 y2) = cc
piece_one (piece_escape {i = i} {e = e} x0 x1 x2) e0 (piece_bad {i = i'} y0 y1 y2) = cc
piece_one (piece_bad {i = i} x0 x1 x2) e0 (piece_stops {i = i'} {k = k'} y0) = cc
piece_one (piece_bad {i = i} x0 x1 x2) e0 (piece_byte {i = i'} y0 y1) = cc
piece_one (piece_bad {i = i} x0 x1 x2) e0 (piece_escape {i = i'} {e = e'} y0 y1 y2) = cc
piece_one (piece_bad {i = i} x0 x1 x2) e0 (piece_bad {i = i'} y0 y1 y2) = cc

body_one : {a0 b0 : Quote} {a1 b1 : At} {a2 b2 : At} {o p : Outcome Nothing} → IsBody a0 a1 a2 o → a0 ≡ b0 → a1 ≡ b1 → a2 ≡ b2 → IsBody b0 b1 b2 p → o ≡ p
body_one (body_open {q = q} {s = s} {i = i} x0) e0 e1 e2 (body_open {q = q'} {s = s'} {i = i'} y0) = cc
body_one (body_open {q = q} {s = s} {i = i} x0) e0 e1 e2 (body_broken {q = q'} {s = s'} {i = i'} y0 y1) = cc
body_one (body_open {q = q} {s = s} {i = i} x0) e0 e1 e2 (body_closed {q = q'} {s = s'} {i = i'} y0 y1 y2) = cc
body_one (body_open {q = q} {s = s} {i = i} x0) e0 e1 e2 (body_cut {q = q'} {s = s'} {i = i'} y0 y1 y2 y3 y4) = cc
body_one (body_open {q = q} {s = s} {i = i} x0) e0 e1 e2 (body_line {q = q'} {s = s'} {i = i'} {o = o'} y0 y1 y2 y3 y4 y5) = cc
body_one (body_open {q = q} {s = s} {i = i} x0) e0 e1 e2 (body_stops {q = q'} {s = s'} {i = i'} {f = f'} y0 y1 y2 y3 y4) = cc
body_one (body_open {q = q} {s = s} {i = i} x0) e0 e1 e2 (body_more {q = q'} {s = s'} {i = i'} {m = m'} {o = o'} y0 y1 y2 y3 y4 y5) = cc
body_one (body_broken {q = q} {s = s} {i = i} x0 x1) e0 e1 e2 (body_open {q = q'} {s = s'} {i = i'} y0) = cc
body_one (body_broken {q = q} {s = s} {i = i} x0 x1) e0 e1 e2 (body_broken {q = q'} {s = s'} {i = i'} y0 y1) = cc
body_one (body_broken {q = q} {s = s} {i = i} x0 x1) e0 e1 e2 (body_closed {q = q'} {s = s'} {i = i'} y0 y1 y2) = cc
body_one (body_broken {q = q} {s = s} {i = i} x0 x1) e0 e1 e2 (body_cut {q = q'} {s = s'} {i = i'} y0 y1 y2 y3 y4) = cc
body_one (body_broken {q = q} {s = s} {i = i} x0 x1) e0 e1 e2 (body_line {q = q'} {s = s'} {i = i'} {o = o'} y0 y1 y2 y3 y4 y5) = cc
body_one (body_broken {q = q} {s = s} {i = i} x0 x1) e0 e1 e2 (body_stops {q = q'} {s = s'} {i = i'} {f = f'} y0 y1 y2 y3 y4) = cc
body_one (body_broken {q = q} {s = s} {i = i} x0 x1) e0 e1 e2 (body_more {q = q'} {s = s'} {i = i'} {m = m'} {o = o'} y0 y1 y2 y3 y4 y5) = cc
body_one (body_closed {q = q} {s = s} {i = i} x0 x1 x2) e0 e1 e2 (body_open {q = q'} {s = s'} {i = i'} y0) = cc
body_one (body_closed {q = q} {s = s} {i = i} x0 x1 x2) e0 e1 e2 (body_broken {q = q'} {s = s'} {i = i'} y0 y1) = cc
body_one (body_closed {q = q} {s = s} {i = i} x0 x1 x2) e0 e1 e2 (body_closed {q = q'} {s = s'} {i = i'} y0 y1 y2) = cc
body_one (body_closed {q = q} {s = s} {i = i} x0 x1 x2) e0 e1 e2 (body_cut {q = q'} {s = s'} {i = i'} y0 y1 y2 y3 y4) = cc
body_one (body_closed {q = q} {s = s} {i = i} x0 x1 x2) e0 e1 e2 (body_line {q = q'} {s = s'} {i = i'} {o = o'} y0 y1 y2 y3 y4 y5) = cc
body_one (body_closed {q = q} {s = s} {i = i} x0 x1 x2) e0 e1 e2 (body_stops {q = q'} {s = s'} {i = i'} {f = f'} y0 y1 y2 y3 y4) = cc
body_one (body_closed {q = q} {s = s} {i = i} x0 x1 x2) e0 e1 e2 (body_more {q = q'} {s = s'} {i = i'} {m = m'} {o = o'} y0 y1 y2 y3 y4 y5) = cc
body_one (body_cut {q = q} {s = s} {i = i} x0 x1 x2 x3 x4) e0 e1 e2 (body_open {q = q'} {s = s'} {i = i'} y0) = cc
body_one (body_cut {q = q} {s = s} {i = i} x0 x1 x2 x3 x4) e0 e1 e2 (body_broken {q = q'} {s = s'} {i = i'} y0 y1) = cc
body_one (body_cut {q = q} {s = s} {i = i} x0 x1 x2 x3 x4) e0 e1 e2 (body_closed {q = q'} {s = s'} {i = i'} y0 y1 y2) = cc
body_one (body_cut {q = q} {s = s} {i = i} x0 x1 x2 x3 x4) e0 e1 e2 (body_cut {q = q'} {s = s'} {i = i'} y0 y1 y2 y3 y4) = cc
body_one (body_cut {q = q} {s = s} {i = i} x0 x1 x2 x3 x4) e0 e1 e2 (body_line {q = q'} {s = s'} {i = i'} {o = o'} y0 y1 y2 y3 y4 y5) = cc
body_one (body_cut {q = q} {s = s} {i = i} x0 x1 x2 x3 x4) e0 e1 e2 (body_stops {q = q'} {s = s'} {i = i'} {f = f'} y0 y1 y2 y3 y4) = cc
body_one (body_cut {q = q} {s = s} {i = i} x0 x1 x2 x3 x4) e0 e1 e2 (body_more {q = q'} {s = s'} {i = i'} {m = m'} {o = o'} y0 y1 y2 y3 y4 y5) = cc
body_one (body_line {q = q} {s = s} {i = i} {o = o} x0 x1 x2 x3 x4 x5) e0 e1 e2 (body_open {q = q'} {s = s'} {i = i'} y0) = cc
body_one (body_line {q = q} {s = s} {i = i} {o = o} x0 x1 x2 x3 x4 x5) e0 e1 e2 (body_broken {q = q'} {s = s'} {i = i'} y0 y1) = cc
body_one (body_line {q = q} {s = s} {i = i} {o = o} x0 x1 x2 x3 x4 x5) e0 e1 e2 (body_closed {q = q'} {s = s'} {i = i'} y0 y1 y2) = cc
body_one (body_line {q = q} {s = s} {i = i} {o = o} x0 x1 x2 x3 x4 x5) e0 e1 e2 (body_cut {q = q'} {s = s'} {i = i'} y0 y1 y2 y3 y4) = cc
body_one (body_line {q = q} {s = s} {i = i} {o = o} x0 x1 x2 x3 x4 x5) e0 e1 e2 (body_line {q = q'} {s = s'} {i = i'} {o = o'} y0 y1 y2 y3 y4 y5) = let q00 : q ≡ q' = cc in let q01 : s ≡ s' = cc in let q02 : (past_line i) ≡ (past_line i') = cc in let s0 = body_one x5 q00 q01 q02 y5 in cc
body_one (body_line {q = q} {s = s} {i = i} {o = o} x0 x1 x2 x3 x4 x5) e0 e1 e2 (body_stops {q = q'} {s = s'} {i = i'} {f = f'} y0 y1 y2 y3 y4) = cc
body_one (body_line {q = q} {s = s} {i = i} {o = o} x0 x1 x2 x3 x4 x5) e0 e1 e2 (body_more {q = q'} {s = s'} {i = i'} {m = m'} {o = o'} y0 y1 y2 y3 y4 y5) = cc
body_one (body_stops {q = q} {s = s} {i = i} {f = f} x0 x1 x2 x3 x4) e0 e1 e2 (body_open {q = q'} {s = s'} {i = i'} y0) = cc
body_one (body_stops {q = q} {s = s} {i = i} {f = f} x0 x1 x2 x3 x4) e0 e1 e2 (body_broken {q = q'} {s = s'} {i = i'} y0 y1) = cc
body_one (body_stops {q = q} {s = s} {i = i} {f = f} x0 x1 x2 x3 x4) e0 e1 e2 (body_closed {q = q'} {s = s'} {i = i'} y0 y1 y2) = cc
body_one (body_stops {q = q} {s = s} {i = i} {f = f} x0 x1 x2 x3 x4) e0 e1 e2 (body_cut {q = q'} {s = s'} {i = i'} y0 y1 y2 y3 y4) = cc
body_one (body_stops {q = q} {s = s} {i = i} {f = f} x0 x1 x2 x3 x4) e0 e1 e2 (body_line {q = q'} {s = s'} {i = i'} {o = o'} y0 y1 y2 y3 y4 y5) = cc
body_one (body_stops {q = q} {s = s} {i = i} {f = f} x0 x1 x2 x3 x4) e0 e1 e2 (body_stops {q = q'} {s = s'} {i = i'} {f = f'} y0 y1 y2 y3 y4) = let q00 : i ≡ i' = cc in let s0 = piece_one x4 q00 y4 in cc
body_one (body_stops {q = q} {s = s} {i = i} {f = f} x0 x1 x2 x3 x4) e0 e1 e2 (body_more {q = q'} {s = s'} {i = i'} {m = m'} {o = o'} y0 y1 y2 y3 y4 y5) = let q00 : i ≡ i' = cc in let s0 = piece_one x4 q00 y4 in cc
body_one (body_more {q = q} {s = s} {i = i} {m = m} {o = o} x0 x1 x2 x3 x4 x5) e0 e1 e2 (body_open {q = q'} {s = s'} {i = i'} y0) = cc
body_one (body_more {q = q} {s = s} {i = i} {m = m} {o = o} x0 x1 x2 x3 x4 x5) e0 e1 e2 (body_broken {q = q'} {s = s'} {i = i'} y0 y1) = cc
body_one (body_more {q = q} {s = s} {i = i} {m = m} {o = o} x0 x1 x2 x3 x4 x5) e0 e1 e2 (body_closed {q = q'} {s = s'} {i = i'} y0 y1 y2) = cc
body_one (body_more {q = q} {s = s} {i = i} {m = m} {o = o} x0 x1 x2 x3 x4 x5) e0 e1 e2 (body_cut {q = q'} {s = s'} {i = i'} y0 y1 y2 y3 y4) = cc
body_one (body_more {q = q} {s = s} {i = i} {m = m} {o = o} x0 x1 x2 x3 x4 x5) e0 e1 e2 (body_line {q = q'} {s = s'} {i = i'} {o = o'} y0 y1 y2 y3 y4 y5) = cc
body_one (body_more {q = q} {s = s} {i = i} {m = m} {o = o} x0 x1 x2 x3 x4 x5) e0 e1 e2 (body_stops {q = q'} {s = s'} {i = i'} {f = f'} y0 y1 y2 y3 y4) = let q00 : i ≡ i' = cc in let s0 = piece_one x4 q00 y4 in cc
body_one (body_more {q = q} {s = s} {i = i} {m = m} {o = o} x0 x1 x2 x3 x4 x5) e0 e1 e2 (body_more {q = q'} {s = s'} {i = i'} {m = m'} {o = o'} y0 y1 y2 y3 y4 y5) = let q00 : i ≡ i' = cc in let s0 = piece_one x4 q00 y4 in let q10 : q ≡ q' = cc in let q11 : s ≡ s' = cc in let q12 : m ≡ m' = cc in let s1 = body_one x5 q10 q11 q12 y5 in cc

number_one : {a0 b0 : At} {o p : Outcome PlainToken} → IsNumber a0 o → a0 ≡ b0 → IsNumber b0 p → o ≡ p
number_one (number_bad {i = i} x0) e0 (number_bad {i = i'} y0) = cc
number_one (number_bad {i = i} x0) e0 (number_wide {i = i'} y0 y1) = cc
number_one (number_bad {i = i} x0) e0 (number_is {i = i'} y0 y1) = cc
number_one (number_wide {i = i} x0 x1) e0 (number_bad {i = i'} y0) = cc
number_one (number_wide {i = i} x0 x1) e0 (number_wide {i = i'} y0 y1) = cc
number_one (number_wide {i = i} x0 x1) e0 (number_is {i = i'} y0 y1) = absurd (omega (arith, ap value_of (ap digits e0), x1, y1))
number_one (number_is {i = i} x0 x1) e0 (number_bad {i = i'} y0) = cc
number_one (number_is {i = i} x0 x1) e0 (number_wide {i = i'} y0 y1) = absurd (omega (arith, ap value_of (ap digits e0), x1, y1))
number_one (number_is {i = i} x0 x1) e0 (number_is {i = i'} y0 y1) = cc

string_one : {a0 b0 : At} {o p : Outcome PlainToken} → IsString a0 o → a0 ≡ b0 → IsString b0 p → o ≡ p
string_one (string_stops {i = i} {f = f} x0) e0 (string_stops {i = i'} {f = f'} y0) = let q00 : (quote_at i) ≡ (quote_at i') = cc in let q01 : i ≡ i' = cc in let q02 : (moved (quote_len (quote_at i)) i) ≡ (moved (quote_len (quote_at i')) i') = cc in let s0 = body_one x0 q00 q01 q02 y0 in cc
string_one (string_stops {i = i} {f = f} x0) e0 (string_is {i = i'} {m = m'} y0) = let q00 : (quote_at i) ≡ (quote_at i') = cc in let q01 : i ≡ i' = cc in let q02 : (moved (quote_len (quote_at i)) i) ≡ (moved (quote_len (quote_at i')) i') = cc in let s0 = body_one x0 q00 q01 q02 y0 in cc
string_one (string_is {i = i} {m = m} x0) e0 (string_stops {i = i'} {f = f'} y0) = let q00 : (quote_at i) ≡ (quote_at i') = cc in let q01 : i ≡ i' = cc in let q02 : (moved (quote_len (quote_at i)) i) ≡ (moved (quote_len (quote_at i')) i') = cc in let s0 = body_one x0 q00 q01 q02 y0 in cc
string_one (string_is {i = i} {m = m} x0) e0 (string_is {i = i'} {m = m'} y0) = let q00 : (quote_at i) ≡ (quote_at i') = cc in let q01 : i ≡ i' = cc in let q02 : (moved (quote_len (quote_at i)) i) ≡ (moved (quote_len (quote_at i')) i') = cc in let s0 = body_one x0 q00 q01 q02 y0 in cc

sign_one : {a0 b0 : At} {o p : Outcome PlainToken} → IsSign a0 o → a0 ≡ b0 → IsSign b0 p → o ≡ p
sign_one (sign_is {i = i} {n = n} x0) e0 (sign_is {i = i'} {n = n'} y0) = cc
sign_one (sign_is {i = i} {n = n} x0) e0 (sign_none {i = i'} y0) = cc
sign_one (sign_none {i = i} x0) e0 (sign_is {i = i'} {n = n'} y0) = cc
sign_one (sign_none {i = i} x0) e0 (sign_none {i = i'} y0) = cc

token_one : {a0 b0 : At} {o p : Outcome PlainToken} → IsToken a0 o → a0 ≡ b0 → IsToken b0 p → o ≡ p
token_one (token_broken {i = i} x0) e0 (token_broken {i = i'} y0) = cc
token_one (token_broken {i = i} x0) e0 (token_word {i = i'} y0 y1) = cc
token_one (token_broken {i = i} x0) e0 (token_number {i = i'} {o = o'} y0 y1 y2 y3) = cc
token_one (token_broken {i = i} x0) e0 (token_string {i = i'} {o = o'} y0 y1 y2 y3 y4) = cc
token_one (token_broken {i = i} x0) e0 (token_sign {i = i'} {o = o'} y0 y1 y2 y3 y4) = cc
token_one (token_word {i = i} x0 x1) e0 (token_broken {i = i'} y0) = cc
token_one (token_word {i = i} x0 x1) e0 (token_word {i = i'} y0 y1) = cc
token_one (token_word {i = i} x0 x1) e0 (token_number {i = i'} {o = o'} y0 y1 y2 y3) = cc
token_one (token_word {i = i} x0 x1) e0 (token_string {i = i'} {o = o'} y0 y1 y2 y3 y4) = cc
token_one (token_word {i = i} x0 x1) e0 (token_sign {i = i'} {o = o'} y0 y1 y2 y3 y4) = cc
token_one (token_number {i = i} {o = o} x0 x1 x2 x3) e0 (token_broken {i = i'} y0) = cc
token_one (token_number {i = i} {o = o} x0 x1 x2 x3) e0 (token_word {i = i'} y0 y1) = cc
token_one (token_number {i = i} {o = o} x0 x1 x2 x3) e0 (token_number {i = i'} {o = o'} y0 y1 y2 y3) = let q00 : i ≡ i' = cc in let s0 = number_one x3 q00 y3 in cc
token_one (token_number {i = i} {o = o} x0 x1 x2 x3) e0 (token_string {i = i'} {o = o'} y0 y1 y2 y3 y4) = cc
token_one (token_number {i = i} {o = o} x0 x1 x2 x3) e0 (token_sign {i = i'} {o = o'} y0 y1 y2 y3 y4) = cc
token_one (token_string {i = i} {o = o} x0 x1 x2 x3 x4) e0 (token_broken {i = i'} y0) = cc
token_one (token_string {i = i} {o = o} x0 x1 x2 x3 x4) e0 (token_word {i = i'} y0 y1) = cc
token_one (token_string {i = i} {o = o} x0 x1 x2 x3 x4) e0 (token_number {i = i'} {o = o'} y0 y1 y2 y3) = cc
token_one (token_string {i = i} {o = o} x0 x1 x2 x3 x4) e0 (token_string {i = i'} {o = o'} y0 y1 y2 y3 y4) = let q00 : i ≡ i' = cc in let s0 = string_one x4 q00 y4 in cc
token_one (token_string {i = i} {o = o} x0 x1 x2 x3 x4) e0 (token_sign {i = i'} {o = o'} y0 y1 y2 y3 y4) = cc
token_one (token_sign {i = i} {o = o} x0 x1 x2 x3 x4) e0 (token_broken {i = i'} y0) = cc
token_one (token_sign {i = i} {o = o} x0 x1 x2 x3 x4) e0 (token_word {i = i'} y0 y1) = cc
token_one (token_sign {i = i} {o = o} x0 x1 x2 x3 x4) e0 (token_number {i = i'} {o = o'} y0 y1 y2 y3) = cc
token_one (token_sign {i = i} {o = o} x0 x1 x2 x3 x4) e0 (token_string {i = i'} {o = o'} y0 y1 y2 y3 y4) = cc
token_one (token_sign {i = i} {o = o} x0 x1 x2 x3 x4) e0 (token_sign {i = i'} {o = o'} y0 y1 y2 y3 y4) = let q00 : i ≡ i' = cc in let s0 = sign_one x4 q00 y4 in cc

tokens_one : {a0 b0 : List Place} {a1 b1 : At} {o p : Outcome (List PlainToken)} → IsTokens a0 a1 o → a0 ≡ b0 → a1 ≡ b1 → IsTokens b0 b1 p → o ≡ p
tokens_one (tokens_stop {b = b} {i = i} {f = f} x0) e0 e1 (tokens_stop {b = b'} {i = i'} {f = f'} y0) = let q00 : i ≡ i' = cc in let s0 = token_one x0 q00 y0 in cc
tokens_one (tokens_stop {b = b} {i = i} {f = f} x0) e0 e1 (tokens_gap {b = b'} {i = i'} {n = n'} {t = t'} {f = f'} y0 y1) = let q00 : i ≡ i' = cc in let s0 = token_one x0 q00 y0 in cc
tokens_one (tokens_stop {b = b} {i = i} {f = f} x0) e0 e1 (tokens_end {b = b'} {i = i'} {n = n'} {m = m'} {t = t'} y0 y1 y2 y3) = let q00 : i ≡ i' = cc in let s0 = token_one x0 q00 y0 in cc
tokens_one (tokens_stop {b = b} {i = i} {f = f} x0) e0 e1 (tokens_open {b = b'} {i = i'} {n = n'} {m = m'} {t = t'} {p = p'} y0 y1 y2 y3) = let q00 : i ≡ i' = cc in let s0 = token_one x0 q00 y0 in cc
tokens_one (tokens_stop {b = b} {i = i} {f = f} x0) e0 e1 (tokens_more {b = b'} {i = i'} {n = n'} {m = m'} {t = t'} {o = o'} y0 y1 y2 y3) = let q00 : i ≡ i' = cc in let s0 = token_one x0 q00 y0 in cc
tokens_one (tokens_gap {b = b} {i = i} {n = n} {t = t} {f = f} x0 x1) e0 e1 (tokens_stop {b = b'} {i = i'} {f = f'} y0) = let q00 : i ≡ i' = cc in let s0 = token_one x0 q00 y0 in cc
tokens_one (tokens_gap {b = b} {i = i} {n = n} {t = t} {f = f} x0 x1) e0 e1 (tokens_gap {b = b'} {i = i'} {n = n'} {t = t'} {f = f'} y0 y1) = let q00 : i ≡ i' = cc in let s0 = token_one x0 q00 y0 in let q10 : (length (open_behind b t)) ≡ (length (open_behind b' t')) = cc in let q11 : n ≡ n' = cc in let s1 = gap_one x1 q10 q11 y1 in cc
tokens_one (tokens_gap {b = b} {i = i} {n = n} {t = t} {f = f} x0 x1) e0 e1 (tokens_end {b = b'} {i = i'} {n = n'} {m = m'} {t = t'} y0 y1 y2 y3) = let q00 : i ≡ i' = cc in let s0 = token_one x0 q00 y0 in let q10 : (length (open_behind b t)) ≡ (length (open_behind b' t')) = cc in let q11 : n ≡ n' = cc in let s1 = gap_one x1 q10 q11 y1 in cc
tokens_one (tokens_gap {b = b} {i = i} {n = n} {t = t} {f = f} x0 x1) e0 e1 (tokens_open {b = b'} {i = i'} {n = n'} {m = m'} {t = t'} {p = p'} y0 y1 y2 y3) = let q00 : i ≡ i' = cc in let s0 = token_one x0 q00 y0 in let q10 : (length (open_behind b t)) ≡ (length (open_behind b' t')) = cc in let q11 : n ≡ n' = cc in let s1 = gap_one x1 q10 q11 y1 in cc
tokens_one (tokens_gap {b = b} {i = i} {n = n} {t = t} {f = f} x0 x1) e0 e1 (tokens_more {b = b'} {i = i'} {n = n'} {m = m'} {t = t'} {o = o'} y0 y1 y2 y3) = let q00 : i ≡ i' = cc in let s0 = token_one x0 q00 y0 in let q10 : (length (open_behind b t)) ≡ (length (open_behind b' t')) = cc in let q11 : n ≡ n' = cc in let s1 = gap_one x1 q10 q11 y1 in cc
tokens_one (tokens_end {b = b} {i = i} {n = n} {m = m} {t = t} x0 x1 x2 x3) e0 e1 (tokens_stop {b = b'} {i = i'} {f = f'} y0) = let q00 : i ≡ i' = cc in let s0 = token_one x0 q00 y0 in cc
tokens_one (tokens_end {b = b} {i = i} {n = n} {m = m} {t = t} x0 x1 x2 x3) e0 e1 (tokens_gap {b = b'} {i = i'} {n = n'} {t = t'} {f = f'} y0 y1) = let q00 : i ≡ i' = cc in let s0 = token_one x0 q00 y0 in let q10 : (length (open_behind b t)) ≡ (length (open_behind b' t')) = cc in let q11 : n ≡ n' = cc in let s1 = gap_one x1 q10 q11 y1 in cc
tokens_one (tokens_end {b = b} {i = i} {n = n} {m = m} {t = t} x0 x1 x2 x3) e0 e1 (tokens_end {b = b'} {i = i'} {n = n'} {m = m'} {t = t'} y0 y1 y2 y3) = let q00 : i ≡ i' = cc in let s0 = token_one x0 q00 y0 in let q10 : (length (open_behind b t)) ≡ (length (open_behind b' t')) = cc in let q11 : n ≡ n' = cc in let s1 = gap_one x1 q10 q11 y1 in cc
tokens_one (tokens_end {b = b} {i = i} {n = n} {m = m} {t = t} x0 x1 x2 x3) e0 e1 (tokens_open {b = b'} {i = i'} {n = n'} {m = m'} {t = t'} {p = p'} y0 y1 y2 y3) = let q00 : i ≡ i' = cc in let s0 = token_one x0 q00 y0 in let q10 : (length (open_behind b t)) ≡ (length (open_behind b' t')) = cc in let q11 : n ≡ n' = cc in let s1 = gap_one x1 q10 q11 y1 in cc
tokens_one (tokens_end {b = b} {i = i} {n = n} {m = m} {t = t} x0 x1 x2 x3) e0 e1 (tokens_more {b = b'} {i = i'} {n = n'} {m = m'} {t = t'} {o = o'} y0 y1 y2 y3) = let q00 : i ≡ i' = cc in let s0 = token_one x0 q00 y0 in let q10 : (length (open_behind b t)) ≡ (length (open_behind b' t')) = cc in let q11 : n ≡ n' = cc in let s1 = gap_one x1 q10 q11 y1 in cc
tokens_one (tokens_open {b = b} {i = i} {n = n} {m = m} {t = t} {p = p} x0 x1 x2 x3) e0 e1 (tokens_stop {b = b'} {i = i'} {f = f'} y0) = let q00 : i ≡ i' = cc in let s0 = token_one x0 q00 y0 in cc
tokens_one (tokens_open {b = b} {i = i} {n = n} {m = m} {t = t} {p = p} x0 x1 x2 x3) e0 e1 (tokens_gap {b = b'} {i = i'} {n = n'} {t = t'} {f = f'} y0 y1) = let q00 : i ≡ i' = cc in let s0 = token_one x0 q00 y0 in let q10 : (length (open_behind b t)) ≡ (length (open_behind b' t')) = cc in let q11 : n ≡ n' = cc in let s1 = gap_one x1 q10 q11 y1 in cc
tokens_one (tokens_open {b = b} {i = i} {n = n} {m = m} {t = t} {p = p} x0 x1 x2 x3) e0 e1 (tokens_end {b = b'} {i = i'} {n = n'} {m = m'} {t = t'} y0 y1 y2 y3) = let q00 : i ≡ i' = cc in let s0 = token_one x0 q00 y0 in let q10 : (length (open_behind b t)) ≡ (length (open_behind b' t')) = cc in let q11 : n ≡ n' = cc in let s1 = gap_one x1 q10 q11 y1 in cc
tokens_one (tokens_open {b = b} {i = i} {n = n} {m = m} {t = t} {p = p} x0 x1 x2 x3) e0 e1 (tokens_open {b = b'} {i = i'} {n = n'} {m = m'} {t = t'} {p = p'} y0 y1 y2 y3) = let q00 : i ≡ i' = cc in let s0 = token_one x0 q00 y0 in let q10 : (length (open_behind b t)) ≡ (length (open_behind b' t')) = cc in let q11 : n ≡ n' = cc in let s1 = gap_one x1 q10 q11 y1 in cc
tokens_one (tokens_open {b = b} {i = i} {n = n} {m = m} {t = t} {p = p} x0 x1 x2 x3) e0 e1 (tokens_more {b = b'} {i = i'} {n = n'} {m = m'} {t = t'} {o = o'} y0 y1 y2 y3) = let q00 : i ≡ i' = cc in let s0 = token_one x0 q00 y0 in let q10 : (length (open_behind b t)) ≡ (length (open_behind b' t')) = cc in let q11 : n ≡ n' = cc in let s1 = gap_one x1 q10 q11 y1 in cc
tokens_one (tokens_more {b = b} {i = i} {n = n} {m = m} {t = t} {o = o} x0 x1 x2 x3) e0 e1 (tokens_stop {b = b'} {i = i'} {f = f'} y0) = let q00 : i ≡ i' = cc in let s0 = token_one x0 q00 y0 in cc
tokens_one (tokens_more {b = b} {i = i} {n = n} {m = m} {t = t} {o = o} x0 x1 x2 x3) e0 e1 (tokens_gap {b = b'} {i = i'} {n = n'} {t = t'} {f = f'} y0 y1) = let q00 : i ≡ i' = cc in let s0 = token_one x0 q00 y0 in let q10 : (length (open_behind b t)) ≡ (length (open_behind b' t')) = cc in let q11 : n ≡ n' = cc in let s1 = gap_one x1 q10 q11 y1 in cc
tokens_one (tokens_more {b = b} {i = i} {n = n} {m = m} {t = t} {o = o} x0 x1 x2 x3) e0 e1 (tokens_end {b = b'} {i = i'} {n = n'} {m = m'} {t = t'} y0 y1 y2 y3) = let q00 : i ≡ i' = cc in let s0 = token_one x0 q00 y0 in let q10 : (length (open_behind b t)) ≡ (length (open_behind b' t')) = cc in let q11 : n ≡ n' = cc in let s1 = gap_one x1 q10 q11 y1 in cc
tokens_one (tokens_more {b = b} {i = i} {n = n} {m = m} {t = t} {o = o} x0 x1 x2 x3) e0 e1 (tokens_open {b = b'} {i = i'} {n = n'} {m = m'} {t = t'} {p = p'} y0 y1 y2 y3) = let q00 : i ≡ i' = cc in let s0 = token_one x0 q00 y0 in let q10 : (length (open_behind b t)) ≡ (length (open_behind b' t')) = cc in let q11 : n ≡ n' = cc in let s1 = gap_one x1 q10 q11 y1 in cc
tokens_one (tokens_more {b = b} {i = i} {n = n} {m = m} {t = t} {o = o} x0 x1 x2 x3) e0 e1 (tokens_more {b = b'} {i = i'} {n = n'} {m = m'} {t = t'} {o = o'} y0 y1 y2 y3) = let q00 : i ≡ i' = cc in let s0 = token_one x0 q00 y0 in let q10 : (length (open_behind b t)) ≡ (length (open_behind b' t')) = cc in let q11 : n ≡ n' = cc in let s1 = gap_one x1 q10 q11 y1 in let q20 : (open_behind b t) ≡ (open_behind b' t') = cc in let q21 : m ≡ m' = cc in let s2 = tokens_one x3 q20 q21 y3 in cc

bare_one : {a0 b0 : At} {o p : Outcome Nothing} → IsBare a0 o → a0 ≡ b0 → IsBare b0 p → o ≡ p
bare_one (bare_ends {i = i} x0) e0 (bare_ends {i = i'} y0) = cc
bare_one (bare_ends {i = i} x0) e0 (bare_comment {i = i'} {o = o'} y0 y1 y2) = cc
bare_one (bare_comment {i = i} {o = o} x0 x1 x2) e0 (bare_ends {i = i'} y0) = cc
bare_one (bare_comment {i = i} {o = o} x0 x1 x2) e0 (bare_comment {i = i'} {o = o'} y0 y1 y2) = let q00 : (moved 1 i) ≡ (moved 1 i') = cc in let s0 = comment_one x2 q00 y2 in cc

column_one : {a0 b0 : List ℕ} {a1 b1 : At} {o p : Outcome ℕ} → IsColumn a0 a1 o → a0 ≡ b0 → a1 ≡ b1 → IsColumn b0 b1 p → o ≡ p
column_one (column_tab {cs = cs} {i = i} x0) e0 e1 (column_tab {cs = cs'} {i = i'} y0) = cc
column_one (column_tab {cs = cs} {i = i} x0) e0 e1 (column_broken {cs = cs'} {i = i'} y0 y1) = cc
column_one (column_tab {cs = cs} {i = i} x0) e0 e1 (column_dedent {cs = cs'} {i = i'} y0 y1 y2) = cc
column_one (column_tab {cs = cs} {i = i} x0) e0 e1 (column_is {cs = cs'} {i = i'} y0 y1 y2) = cc
column_one (column_broken {cs = cs} {i = i} x0 x1) e0 e1 (column_tab {cs = cs'} {i = i'} y0) = cc
column_one (column_broken {cs = cs} {i = i} x0 x1) e0 e1 (column_broken {cs = cs'} {i = i'} y0 y1) = cc
column_one (column_broken {cs = cs} {i = i} x0 x1) e0 e1 (column_dedent {cs = cs'} {i = i'} y0 y1 y2) = cc
column_one (column_broken {cs = cs} {i = i} x0 x1) e0 e1 (column_is {cs = cs'} {i = i'} y0 y1 y2) = cc
column_one (column_dedent {cs = cs} {i = i} x0 x1 x2) e0 e1 (column_tab {cs = cs'} {i = i'} y0) = cc
column_one (column_dedent {cs = cs} {i = i} x0 x1 x2) e0 e1 (column_broken {cs = cs'} {i = i'} y0 y1) = cc
column_one (column_dedent {cs = cs} {i = i} x0 x1 x2) e0 e1 (column_dedent {cs = cs'} {i = i'} y0 y1 y2) = cc
column_one (column_dedent {cs = cs} {i = i} x0 x1 x2) e0 e1 (column_is {cs = cs'} {i = i'} y0 y1 y2) = absurd (y2 (bad_at (ap spaces e1) e0 x2))
column_one (column_is {cs = cs} {i = i} x0 x1 x2) e0 e1 (column_tab {cs = cs'} {i = i'} y0) = cc
column_one (column_is {cs = cs} {i = i} x0 x1 x2) e0 e1 (column_broken {cs = cs'} {i = i'} y0 y1) = cc
column_one (column_is {cs = cs} {i = i} x0 x1 x2) e0 e1 (column_dedent {cs = cs'} {i = i'} y0 y1 y2) = absurd (x2 (bad_at (sym (ap spaces e1)) (sym e0) y2))
column_one (column_is {cs = cs} {i = i} x0 x1 x2) e0 e1 (column_is {cs = cs'} {i = i'} y0 y1 y2) = cc

line_one : {a0 b0 : List ℕ} {a1 b1 : At} {o p : Outcome PlainLine} → IsLine a0 a1 o → a0 ≡ b0 → a1 ≡ b1 → IsLine b0 b1 p → o ≡ p
line_one (line_misplaced {cs = cs} {i = i} {f = f} x0) e0 e1 (line_misplaced {cs = cs'} {i = i'} {f = f'} y0) = let q00 : cs ≡ cs' = cc in let q01 : i ≡ i' = cc in let s0 = column_one x0 q00 q01 y0 in cc
line_one (line_misplaced {cs = cs} {i = i} {f = f} x0) e0 e1 (line_stops {cs = cs'} {i = i'} {j = j'} {c = c'} {f = f'} y0 y1) = let q00 : cs ≡ cs' = cc in let q01 : i ≡ i' = cc in let s0 = column_one x0 q00 q01 y0 in cc
line_one (line_misplaced {cs = cs} {i = i} {f = f} x0) e0 e1 (line_is {cs = cs'} {i = i'} {j = j'} {m = m'} {c = c'} {ts = ts'} y0 y1) = let q00 : cs ≡ cs' = cc in let q01 : i ≡ i' = cc in let s0 = column_one x0 q00 q01 y0 in cc
line_one (line_stops {cs = cs} {i = i} {j = j} {c = c} {f = f} x0 x1) e0 e1 (line_misplaced {cs = cs'} {i = i'} {f = f'} y0) = let q00 : cs ≡ cs' = cc in let q01 : i ≡ i' = cc in let s0 = column_one x0 q00 q01 y0 in cc
line_one (line_stops {cs = cs} {i = i} {j = j} {c = c} {f = f} x0 x1) e0 e1 (line_stops {cs = cs'} {i = i'} {j = j'} {c = c'} {f = f'} y0 y1) = let q00 : cs ≡ cs' = cc in let q01 : i ≡ i' = cc in let s0 = column_one x0 q00 q01 y0 in let q11 : j ≡ j' = cc in let s1 = tokens_one x1 refl q11 y1 in cc
line_one (line_stops {cs = cs} {i = i} {j = j} {c = c} {f = f} x0 x1) e0 e1 (line_is {cs = cs'} {i = i'} {j = j'} {m = m'} {c = c'} {ts = ts'} y0 y1) = let q00 : cs ≡ cs' = cc in let q01 : i ≡ i' = cc in let s0 = column_one x0 q00 q01 y0 in let q11 : j ≡ j' = cc in let s1 = tokens_one x1 refl q11 y1 in cc
line_one (line_is {cs = cs} {i = i} {j = j} {m = m} {c = c} {ts = ts} x0 x1) e0 e1 (line_misplaced {cs = cs'} {i = i'} {f = f'} y0) = let q00 : cs ≡ cs' = cc in let q01 : i ≡ i' = cc in let s0 = column_one x0 q00 q01 y0 in cc
line_one (line_is {cs = cs} {i = i} {j = j} {m = m} {c = c} {ts = ts} x0 x1) e0 e1 (line_stops {cs = cs'} {i = i'} {j = j'} {c = c'} {f = f'} y0 y1) = let q00 : cs ≡ cs' = cc in let q01 : i ≡ i' = cc in let s0 = column_one x0 q00 q01 y0 in let q11 : j ≡ j' = cc in let s1 = tokens_one x1 refl q11 y1 in cc
line_one (line_is {cs = cs} {i = i} {j = j} {m = m} {c = c} {ts = ts} x0 x1) e0 e1 (line_is {cs = cs'} {i = i'} {j = j'} {m = m'} {c = c'} {ts = ts'} y0 y1) = let q00 : cs ≡ cs' = cc in let q01 : i ≡ i' = cc in let s0 = column_one x0 q00 q01 y0 in let q11 : j ≡ j' = cc in let s1 = tokens_one x1 refl q11 y1 in cc

lines_one : {a0 b0 : List ℕ} {a1 b1 : At} {o p : Outcome (List PlainLine)} → IsLines a0 a1 o → a0 ≡ b0 → a1 ≡ b1 → IsLines b0 b1 p → o ≡ p
lines_one (lines_end {cs = cs} {i = i} x0) e0 e1 (lines_end {cs = cs'} {i = i'} y0) = cc
lines_one (lines_end {cs = cs} {i = i} x0) e0 e1 (lines_bare {cs = cs'} {i = i'} {m = m'} {o = o'} y0 y1 y2 y3) = cc
lines_one (lines_end {cs = cs} {i = i} x0) e0 e1 (lines_bare_stops {cs = cs'} {i = i'} {f = f'} y0 y1 y2) = cc
lines_one (lines_end {cs = cs} {i = i} x0) e0 e1 (lines_stop {cs = cs'} {i = i'} {f = f'} y0 y1 y2) = cc
lines_one (lines_end {cs = cs} {i = i} x0) e0 e1 (lines_more {cs = cs'} {i = i'} {m = m'} {l = l'} {o = o'} y0 y1 y2 y3) = cc
lines_one (lines_bare {cs = cs} {i = i} {m = m} {o = o} x0 x1 x2 x3) e0 e1 (lines_end {cs = cs'} {i = i'} y0) = cc
lines_one (lines_bare {cs = cs} {i = i} {m = m} {o = o} x0 x1 x2 x3) e0 e1 (lines_bare {cs = cs'} {i = i'} {m = m'} {o = o'} y0 y1 y2 y3) = let q00 : (unblanked i) ≡ (unblanked i') = cc in let s0 = bare_one x2 q00 y2 in let q10 : cs ≡ cs' = cc in let q11 : (past_line m) ≡ (past_line m') = cc in let s1 = lines_one x3 q10 q11 y3 in cc
lines_one (lines_bare {cs = cs} {i = i} {m = m} {o = o} x0 x1 x2 x3) e0 e1 (lines_bare_stops {cs = cs'} {i = i'} {f = f'} y0 y1 y2) = let q00 : (unblanked i) ≡ (unblanked i') = cc in let s0 = bare_one x2 q00 y2 in cc
lines_one (lines_bare {cs = cs} {i = i} {m = m} {o = o} x0 x1 x2 x3) e0 e1 (lines_stop {cs = cs'} {i = i'} {f = f'} y0 y1 y2) = cc
lines_one (lines_bare {cs = cs} {i = i} {m = m} {o = o} x0 x1 x2 x3) e0 e1 (lines_more {cs = cs'} {i = i'} {m = m'} {l = l'} {o = o'} y0 y1 y2 y3) = cc
lines_one (lines_bare_stops {cs = cs} {i = i} {f = f} x0 x1 x2) e0 e1 (lines_end {cs = cs'} {i = i'} y0) = cc
lines_one (lines_bare_stops {cs = cs} {i = i} {f = f} x0 x1 x2) e0 e1 (lines_bare {cs = cs'} {i = i'} {m = m'} {o = o'} y0 y1 y2 y3) = let q00 : (unblanked i) ≡ (unblanked i') = cc in let s0 = bare_one x2 q00 y2 in cc
lines_one (lines_bare_stops {cs = cs} {i = i} {f = f} x0 x1 x2) e0 e1 (lines_bare_stops {cs = cs'} {i = i'} {f = f'} y0 y1 y2) = let q00 : (unblanked i) ≡ (unblanked i') = cc in let s0 = bare_one x2 q00 y2 in cc
lines_one (lines_bare_stops {cs = cs} {i = i} {f = f} x0 x1 x2) e0 e1 (lines_stop {cs = cs'} {i = i'} {f = f'} y0 y1 y2) = cc
lines_one (lines_bare_stops {cs = cs} {i = i} {f = f} x0 x1 x2) e0 e1 (lines_more {cs = cs'} {i = i'} {m = m'} {l = l'} {o = o'} y0 y1 y2 y3) = cc
lines_one (lines_stop {cs = cs} {i = i} {f = f} x0 x1 x2) e0 e1 (lines_end {cs = cs'} {i = i'} y0) = cc
lines_one (lines_stop {cs = cs} {i = i} {f = f} x0 x1 x2) e0 e1 (lines_bare {cs = cs'} {i = i'} {m = m'} {o = o'} y0 y1 y2 y3) = cc
lines_one (lines_stop {cs = cs} {i = i} {f = f} x0 x1 x2) e0 e1 (lines_bare_stops {cs = cs'} {i = i'} {f = f'} y0 y1 y2) = cc
lines_one (lines_stop {cs = cs} {i = i} {f = f} x0 x1 x2) e0 e1 (lines_stop {cs = cs'} {i = i'} {f = f'} y0 y1 y2) = let q00 : cs ≡ cs' = cc in let q01 : i ≡ i' = cc in let s0 = line_one x2 q00 q01 y2 in cc
lines_one (lines_stop {cs = cs} {i = i} {f = f} x0 x1 x2) e0 e1 (lines_more {cs = cs'} {i = i'} {m = m'} {l = l'} {o = o'} y0 y1 y2 y3) = let q00 : cs ≡ cs' = cc in let q01 : i ≡ i' = cc in let s0 = line_one x2 q00 q01 y2 in cc
lines_one (lines_more {cs = cs} {i = i} {m = m} {l = l} {o = o} x0 x1 x2 x3) e0 e1 (lines_end {cs = cs'} {i = i'} y0) = cc
lines_one (lines_more {cs = cs} {i = i} {m = m} {l = l} {o = o} x0 x1 x2 x3) e0 e1 (lines_bare {cs = cs'} {i = i'} {m = m'} {o = o'} y0 y1 y2 y3) = cc
lines_one (lines_more {cs = cs} {i = i} {m = m} {l = l} {o = o} x0 x1 x2 x3) e0 e1 (lines_bare_stops {cs = cs'} {i = i'} {f = f'} y0 y1 y2) = cc
lines_one (lines_more {cs = cs} {i = i} {m = m} {l = l} {o = o} x0 x1 x2 x3) e0 e1 (lines_stop {cs = cs'} {i = i'} {f = f'} y0 y1 y2) = let q00 : cs ≡ cs' = cc in let q01 : i ≡ i' = cc in let s0 = line_one x2 q00 q01 y2 in cc
lines_one (lines_more {cs = cs} {i = i} {m = m} {l = l} {o = o} x0 x1 x2 x3) e0 e1 (lines_more {cs = cs'} {i = i'} {m = m'} {l = l'} {o = o'} y0 y1 y2 y3) = let q00 : cs ≡ cs' = cc in let q01 : i ≡ i' = cc in let s0 = line_one x2 q00 q01 y2 in let q10 : (cs ++ l.column ∷ []) ≡ (cs' ++ l'.column ∷ []) = cc in let q11 : (past_line m) ≡ (past_line m') = cc in let s1 = lines_one x3 q10 q11 y3 in cc

text_one : {text other : List ℕ} {o p : Lexed} → IsText text o → text ≡ other → IsText other p → o ≡ p
text_one (text_too_long {text = t} x0) e0 (text_too_long {text = t'} y0) = cc
text_one (text_too_long {text = t} x0) e0 (text_stops {text = t'} y0 y1) = absurd (omega (arith, ap length e0, x0, y0))
text_one (text_too_long {text = t} x0) e0 (text_lines {text = t'} y0 y1) = absurd (omega (arith, ap length e0, x0, y0))
text_one (text_stops {text = t} x0 x1) e0 (text_too_long {text = t'} y0) = absurd (omega (arith, ap length e0, x0, y0))
text_one (text_stops {text = t} x0 x1) e0 (text_stops {text = t'} y0 y1) = let s0 = lines_one x1 refl (ap start e0) y1 in cc
text_one (text_stops {text = t} x0 x1) e0 (text_lines {text = t'} y0 y1) = let s0 = lines_one x1 refl (ap start e0) y1 in cc
text_one (text_lines {text = t} x0 x1) e0 (text_too_long {text = t'} y0) = absurd (omega (arith, ap length e0, x0, y0))
text_one (text_lines {text = t} x0 x1) e0 (text_stops {text = t'} y0 y1) = let s0 = lines_one x1 refl (ap start e0) y1 in cc
text_one (text_lines {text = t} x0 x1) e0 (text_lines {text = t'} y0 y1) = let s0 = lines_one x1 refl (ap start e0) y1 in cc

-- two outcomes of a text are the same
pub one_outcome : (text : List ℕ) (o p : Lexed) → IsText text o → IsText text p → o ≡ p
one_outcome text o p a b = text_one a refl b
