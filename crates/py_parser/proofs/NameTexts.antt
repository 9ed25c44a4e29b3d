-- Names are ASCII, and so texts.
use Rattle.std.proofs.Common.{◌≡◌, ◌<◌, ℕ, Bool, true, false, ◌&&◌, List, [], ◌∷◌, refl, arith}
use Rattle.std.specs.Prelude.{IsAscii, IsUtf8, IsTrue}
use Rattle.std.specs.List.{list_all}
use Rattle.std.proofs.lemmas.Bool.Decides.{nat_tests}
use Rattle.std.proofs.lemmas.Str.{IsUtf8-from_ascii}
use Rattle.std.proofs.lemmas.Str.Ascii.{IsAscii-nil, IsAscii-cons}
use Rattle.py_tree.specs.Terminals.{is_letter, is_word_byte, is_word, is_name}

letter-ascii : (b : ℕ) → is_letter b ≡ true → b < 128
letter-ascii b h = grind (arith, nat_tests)

word_byte-ascii : (b : ℕ) → is_word_byte b ≡ true → b < 128
word_byte-ascii b h = grind (arith, nat_tests)

and-first : (a b : Bool) → (a && b) ≡ true → a ≡ true
and-first true b e = refl
and-first false b e = e

and-second : (a b : Bool) → (a && b) ≡ true → b ≡ true
and-second true b e = e
and-second false b e = absurd cc

bytes-ascii : (bs : List ℕ) → list_all is_word_byte bs ≡ true → IsAscii bs
bytes-ascii [] e = IsAscii-nil
bytes-ascii (b ∷ bs) e = IsAscii-cons b bs (word_byte-ascii b (and-first (is_word_byte b) _ e)) (bytes-ascii bs (and-second (is_word_byte b) _ e))

word-ascii : (bs : List ℕ) → is_word bs ≡ true → IsAscii bs
word-ascii [] e = IsAscii-nil
word-ascii (b ∷ bs) e = IsAscii-cons b bs (letter-ascii b (and-first (is_letter b) _ e)) (bytes-ascii bs (and-second (is_letter b) _ e))

pub name-utf8 : (word : List ℕ) → IsTrue (is_name word) → IsUtf8 word
name-utf8 word h = IsUtf8-from_ascii word (word-ascii word (and-first (is_word word) _ h))

pub ruleset name_texts = (name-utf8)
