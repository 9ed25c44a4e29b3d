-- What a string literal stands for (Python Language Reference, string and bytes literals).
use Rattle.std.specs.Prelude.{ℕ, zero, suc, ◌+◌, ◌*◌, ◌-◌, Bool, ◌||◌, ◌&&◌, ◌==◌, nat_le, if◌then◌else◌, List, [], ◌∷◌, ◌++◌, length, slice_index, slice_range, Option, Some, None, option_map, option_and_then, unwrap_or, encode_utf8, chars}

-- the value of a hexadecimal digit, of either case
abbrev pub hex_digit : ℕ → Option ℕ
hex_digit b =
    if nat_le 48 b && nat_le b 57 then Some (b - 48)
    else (if nat_le 97 b && nat_le b 102 then Some (b - 87)
    else (if nat_le 65 b && nat_le b 70 then Some (b - 55)
    else None))

-- the number that n hexadecimal digits make, behind the number so_far
abbrev pub hex_value : ℕ → ℕ → List ℕ → Option ℕ
hex_value zero so_far bs = Some so_far
hex_value (suc n) so_far [] = None
hex_value (suc n) so_far (b ∷ bs) = option_and_then (λ d. hex_value n (16 * so_far + d) bs) (hex_digit b)

abbrev pub is_surrogate : ℕ → Bool
is_surrogate c = nat_le 0xD800 c && nat_le c 0xDFFF

-- no surrogate is a character
abbrev pub character : ℕ → Option ℕ
character c = if is_surrogate c then None else Some c

-- what a backslash before these bytes begins: the character, and how many of the bytes spell it
abbrev pub escape : List ℕ → Option (ℕ × ℕ)
escape [] = None
escape (b ∷ bs) =
    if b == 92 || b == 39 || b == 34 then Some (b, 1)
    else (if b == 110 then Some (10, 1)
    else (if b == 114 then Some (13, 1)
    else (if b == 116 then Some (9, 1)
    else (if b == 120 then option_map (λ c. (c, 3)) (hex_value 2 0 bs)
    else (if b == 117 then option_map (λ c. (c, 5)) (option_and_then character (hex_value 4 0 bs))
    else None)))))

-- a backslash that begins no escape stands for itself
abbrev pub escaped : List ℕ → ℕ × ℕ
escaped bs = unwrap_or (escape bs) (92, 0)

-- the text's bytes in UTF-8, from behind the bytes that an escape has taken: an escape gives its character, CR LF gives
-- LF, since a CR stands only before an LF, and any other byte is itself
abbrev pub unescaped : ℕ → List ℕ → List ℕ
unescaped taken [] = []
unescaped (suc taken) (b ∷ bs) = unescaped taken bs
unescaped zero (b ∷ bs) =
    if b == 92 then encode_utf8 (escaped bs).0 ++ unescaped (escaped bs).1 bs
    else (if b == 13 then unescaped 0 bs
    else b ∷ unescaped 0 bs)

-- three quotes, or one, begin a literal, and as many end it
abbrev pub quotes : List ℕ → ℕ
quotes literal =
    if nat_le 6 (length literal) && slice_index literal 0 == slice_index literal 1 && slice_index literal 1 == slice_index literal 2 then 3
    else 1

-- the bytes between the quotes
abbrev pub enclosed : List ℕ → List ℕ
enclosed literal = slice_range literal (quotes literal) (length literal - quotes literal)

-- the characters of the text
abbrev pub string_text : List ℕ → List ℕ
string_text literal = chars (unescaped 0 (enclosed literal))
