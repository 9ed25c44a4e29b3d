-- Plain data are read back from their text: the reader meets the tokens that were printed, they are those of one value, and its data are
-- these again.
use Rattle.std.proofs.Common.{◌≡◌, ℕ, zero, suc, pos, negsuc, ◌^◌, ◌<◌, ◌≤◌, List, [], ◌∷◌, ◌++◌, Bool, true, false, cond, ◌==◌, drop, get_or, Option, Some, None, option_map, option_and_then, decimal, refl, sym, ap, ◌∙◌, arith, append-nil}
use Rattle.std.proofs.lemmas.Bool.{ne_eqb}
use Rattle.std.proofs.lemmas.Fmt.{first_decimal}
use Rattle.json.specs.Token.{Token}
use Rattle.json.specs.Json as json
use Rattle.json.specs.Tree as tree
use Rattle.json.specs.Lex.{tokens}
use Rattle.json.specs.Word.{head, after_whole, after_fraction, after_exponent, after_number}
use Rattle.json.specs.Print.{IsNumber, print}
use Rattle.json.proofs.Printed.Decimals.{IsNumber-decimal}
use Rattle.json.proofs.Printed.Tokens.{tokens-print}
use Rattle.json.proofs.Printed.Trees.{value-json_tokens, ArePrintable-json_tokens}
use Rattle.serde_json.specs.Data.{Num, unsigned, negative, float, Data, null, boolean, number, string, array, object, Items, no_items, item, Members, no_members, member, put, depth, items_depth, members_depth}
use Rattle.serde_json.specs.Read.{number_of, of_json, of_items, of_members, max_depth, read}
use Rattle.serde_json.specs.Written.{number_text, outline, items_outline, members_outline, compact_text}
use Rattle.serde_json.proofs.Numbers.{number_of-decimal, number_of-negative}
use Rattle.serde_json.proofs.Texts.{print-outline}
use Rattle.json_texts.specs.PlainData.{IsWhole, gathered, IsPlain, ArePlain, HavePlain}

-- ---- numbers

whole_again : (n : Num) → IsWhole n → number_of (number_text n) ≡ Some n
whole_again (unsigned n) whole = number_of-decimal n whole
whole_again (negative (pos n)) whole = absurd whole
whole_again (negative (negsuc n)) whole = number_of-negative n whole
whole_again (float x) whole = absurd whole

no_second_minus : (digits : List ℕ) → 48 < get_or digits 0 0 → (head digits == 45) ≡ false
no_second_minus [] high = absurd (omega arith)
no_second_minus (d ∷ digits) high = ne_eqb d 45 (λ same. omega arith)

-- a minus and digits, of which the first is no 0
behind_minus : (n : ℕ) → 0 < n → n < 2 ^ 64 → IsNumber (45 ∷ decimal n)
unfolding after_number
behind_minus n some small =
    sym (ap (λ minus. option_and_then after_exponent (option_and_then after_fraction (after_whole (cond minus (drop 1 (decimal n)) (decimal n))))) (no_second_minus (decimal n) (first_decimal n some small)))
    ∙ IsNumber-decimal n small

is_number : (n : Num) → IsWhole n → IsNumber (number_text n)
is_number (unsigned n) whole = IsNumber-decimal n whole
is_number (negative (pos n)) whole = absurd whole
is_number (negative (negsuc n)) whole = behind_minus (suc n) (omega arith) (omega (arith, whole))
is_number (float x) whole = absurd whole

-- ---- the value whose tokens are printed

mutual
  with_numbers : (d : Data) → IsPlain d → tree.HasNumbers (outline d)
  with_numbers null plain = tt
  with_numbers (boolean truth) plain = tt
  with_numbers (number n) plain = is_number n plain
  with_numbers (string text) plain = tt
  with_numbers (array ds) plain = items_with_numbers ds plain
  with_numbers (object ms) plain = members_with_numbers ms plain.1

  items_with_numbers : (ds : Items) → ArePlain ds → tree.ItemsHaveNumbers (items_outline ds)
  items_with_numbers no_items plain = tt
  items_with_numbers (item d ds) plain = (with_numbers d plain.0, items_with_numbers ds plain.1)

  members_with_numbers : (ms : Members) → HavePlain ms → tree.MembersHaveNumbers (members_outline ms)
  members_with_numbers no_members plain = tt
  members_with_numbers (member key d ms) plain = (with_numbers d plain.1, members_with_numbers ms plain.2)

mutual
  as_deep : (d : Data) → tree.depth (outline d) ≡ depth d
  as_deep null = refl
  as_deep (boolean truth) = refl
  as_deep (number n) = refl
  as_deep (string text) = refl
  as_deep (array ds) = ap suc (items_as_deep ds)
  as_deep (object ms) = ap suc (members_as_deep ms)

  items_as_deep : (ds : Items) → tree.items_depth (items_outline ds) ≡ items_depth ds
  items_as_deep no_items = refl
  items_as_deep (item d ds) = rw (as_deep d, items_as_deep ds)

  members_as_deep : (ms : Members) → tree.members_depth (members_outline ms) ≡ members_depth ms
  members_as_deep no_members = refl
  members_as_deep (member key d ms) = rw (as_deep d, members_as_deep ms)

-- ---- its data

mutual
  data_again : (d : Data) → IsPlain d → of_json (outline d) ≡ Some d
  data_again null plain = refl
  data_again (boolean truth) plain = refl
  data_again (number n) plain = ap (option_map number) (whole_again n plain)
  data_again (string text) plain = refl
  data_again (array ds) plain = ap (option_map array) (items_again ds plain)
  data_again (object ms) plain = ap (option_map object) (members_again ms no_members plain.1 ∙ ap Some plain.0)

  items_again : (ds : Items) → ArePlain ds → of_items (items_outline ds) ≡ Some ds
  items_again no_items plain = refl
  items_again (item d ds) plain =
      ap (option_and_then (λ d. option_map (item d) (of_items (items_outline ds)))) (data_again d plain.0) ∙ ap (option_map (item d)) (items_again ds plain.1)

  members_again : (ms found : Members) → HavePlain ms → of_members (members_outline ms) found ≡ Some (gathered found ms)
  members_again no_members found plain = refl
  members_again (member key d ms) found plain =
      ap (option_and_then (λ d. of_members (members_outline ms) (put key d found))) (data_again d plain.1) ∙ members_again ms (put key d found) plain.2

-- what is read of tokens that are all those of a value
abbrev of_whole : Option (json.Json × List Token) → Option Data
of_whole found = option_and_then of_json (option_and_then (λ p. json.if_last p.0 p.1) found)

pub read_again : (d : Data) → IsPlain d → depth d ≤ max_depth → read (compact_text d) ≡ Some d
read_again d plain shallow =
    let j = outline d in
    let printed : tokens (print (tree.json_tokens j)) ≡ tree.json_tokens j ++ [] = tokens-print (tree.json_tokens j) (ArePrintable-json_tokens j (with_numbers d plain)) ∙ sym (append-nil (tree.json_tokens j)) in
    ap read (sym (print-outline d))
    ∙ ap of_whole (ap (json.value max_depth) printed ∙ value-json_tokens j max_depth [] (omega (arith, shallow, as_deep d)))
    ∙ data_again d plain
