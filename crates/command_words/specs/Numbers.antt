-- The numbers that words spell.
use Rattle.std.specs.Prelude.{ℕ, ◌^◌, Bool, ◌&&◌, nat_lt, nat_le, length, Option, Some, None, option_and_then, if◌then◌else◌}
use Rattle.std.specs.List.{list_all}
use Rattle.std.specs.Char.{is_ascii_digit}
use Rattle.std.specs.Str.Parse.{digits_value}
use Rattle.command_words.specs.WordReading.{Text}

-- 1 to 20 decimal digits
abbrev pub is_numeral : Text → Bool
is_numeral text = nat_le 1 (length text) && nat_le (length text) 20 && list_all is_ascii_digit text

-- a number from 0 to 2^64-1
unfoldable pub number_of : Text → Option ℕ
number_of text = if is_numeral text && nat_lt (digits_value 10 text) (2 ^ 64) then Some (digits_value 10 text) else None

abbrev pub at_least_one : ℕ → ℕ → Option ℕ
at_least_one most number = if nat_le 1 number && nat_le number most then Some number else None

-- a number from 1 to a greatest one
abbrev pub count_of : ℕ → Text → Option ℕ
count_of most text = option_and_then (at_least_one most) (number_of text)

-- what a word spells, or what holds where there is none
abbrev pub or_usual : {X : Type 0} → (Text → Option X) → X → Option Text → Option X
or_usual read usual None = Some usual
or_usual read usual (Some text) = read text
