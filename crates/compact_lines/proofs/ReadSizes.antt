-- The data of a text, written compactly, take no more bytes than the text; and its whole numbers have 64 bits.
use Rattle.std.proofs.Common.{◌≡◌, ℕ, ◌+◌, ◌≤◌, Bool, true, false, List, [], ◌∷◌, ◌++◌, length, Some, option_map, option_and_then, refl, sym, ap, ◌∙◌, subst, arith, append_assoc, length-append}
use Rattle.std.specs.Cmp.Lexicographic.{slice_cmp}
use Rattle.std.specs.Ordering.{nat_cmp, match_ordering}
use Rattle.std.specs.declared.cmp.Ordering.{Ordering}
use Rattle.std.specs.declared.cmp.Ordering.TheVariants.{Less, Equal, Greater}
use Rattle.std.specs.Ordering.{is_eq}
use Rattle.std.proofs.lemmas.Map.Text.{is_eq-slice_cmp}
use Rattle.std.proofs.lemmas.Slice.Eq.{bytes_eq-Decides}
use Rattle.std.proofs.lemmas.Option.{same_Some, none-some}
use Rattle.json.specs.Token.{Token}
use Rattle.json.specs.Lex.{tokens}
use Rattle.json.specs.Json as json
use Rattle.json.specs.Json.{if_last}
use Rattle.json.specs.Print.{quoted, token_text}
use Rattle.json.specs.Tree.{json_tokens, items_tokens, members_tokens}
use Rattle.json.proofs.Unique.Spelling.{value-json_tokens_back}
use Rattle.serde_json.specs.Data.{Data, null, boolean, number, string, array, object, Items, no_items, item, Members, no_members, member, put}
use Rattle.serde_json.specs.Read.{number_of, of_json, of_items, of_members, max_depth, read}
use Rattle.serde_json.specs.Written.{comma_if, compact_text, items_text, members_text}
use Rattle.program_meaning.proofs.TableFacts.{map_found, then_found}
use Rattle.compact_lines.proofs.LexedSizes.{comma_size, tokens_size, tokens_short}
use Rattle.compact_lines.proofs.NumberSizes.{IsTight, number_sized}

-- ---- values of JSON

-- how many bytes a value has with no space; behind an item or a member, or not
abbrev mutual
  json_size : json.Json → ℕ
  json_size json.null = length (token_text Token.null)
  json_size (json.boolean b) = length (token_text (Token.boolean b))
  json_size (json.number s) = length s
  json_size (json.string s) = length (quoted s)
  json_size (json.array js) = 1 + json_items_size false js
  json_size (json.object ms) = 1 + json_members_size false ms

  json_items_size : Bool → json.Items → ℕ
  json_items_size later json.no_items = 1
  json_items_size later (json.item j js) = length (comma_if later) + json_size j + json_items_size true js

  json_members_size : Bool → json.Members → ℕ
  json_members_size later json.no_members = 1
  json_members_size later (json.member k j ms) = length (comma_if later) + (length (quoted k) + 1) + json_size j + json_members_size true ms

comma_is : (later : Bool) (t : Token) → comma_size true t ≡ 1 → comma_size later t ≡ length (comma_if later)
comma_is true t one = one
comma_is false t one = refl

no_comma : (later : Bool) (t : Token) → comma_size true t ≡ 0 → comma_size later t ≡ 0
no_comma true t none = none
no_comma false t none = refl

mutual
  json_taken : (later : Bool) (j : json.Json) (ts : List Token) → tokens_size later (json_tokens j ++ ts) ≡ length (comma_if later) + json_size j + tokens_size true ts
  json_taken later json.null ts = omega (arith, comma_is later Token.null refl)
  json_taken later (json.boolean b) ts = omega (arith, comma_is later (Token.boolean b) refl)
  json_taken later (json.number s) ts = omega (arith, comma_is later (Token.number s) refl)
  json_taken later (json.string s) ts = omega (arith, comma_is later (Token.string s) refl)
  json_taken later (json.array js) ts = omega (arith, comma_is later Token.begin_array refl, items_taken false js ts)
  json_taken later (json.object ms) ts = omega (arith, comma_is later Token.begin_object refl, members_taken false ms ts)

  items_taken : (later : Bool) (js : json.Items) (ts : List Token) → tokens_size later (items_tokens js ++ ts) ≡ json_items_size later js + tokens_size true ts
  items_taken later json.no_items ts = omega (arith, no_comma later Token.end_array refl)
  items_taken later (json.item j js) ts =
      omega (arith, ap (tokens_size later) (append_assoc (json_tokens j) (items_tokens js) ts), json_taken later j (items_tokens js ++ ts), items_taken true js ts)

  members_taken : (later : Bool) (ms : json.Members) (ts : List Token) → tokens_size later (members_tokens ms ++ ts) ≡ json_members_size later ms + tokens_size true ts
  members_taken later json.no_members ts = omega (arith, no_comma later Token.end_object refl)
  members_taken later (json.member k j ms) ts =
      omega (
        arith,
        comma_is later (Token.key k) refl,
        length-append (quoted k) (58 ∷ []),
        ap (tokens_size false) (append_assoc (json_tokens j) (members_tokens ms) ts),
        json_taken false j (members_tokens ms ++ ts),
        members_taken true ms ts,
      )

-- ---- data

abbrev mutual
  pub IsTightData : Data → Type 0
  IsTightData null = Unit {0}
  IsTightData (boolean b) = Unit {0}
  IsTightData (number n) = IsTight n
  IsTightData (string s) = Unit {0}
  IsTightData (array ds) = AreTight ds
  IsTightData (object ms) = HaveTight ms

  pub AreTight : Items → Type 0
  AreTight no_items = Unit {0}
  AreTight (item d ds) = IsTightData d × AreTight ds

  pub HaveTight : Members → Type 0
  HaveTight no_members = Unit {0}
  HaveTight (member k d ms) = IsTightData d × HaveTight ms

-- members, each with its colon and a comma
abbrev pub member_size : List ℕ → Data → ℕ
member_size k d = length (quoted k) + 2 + length (compact_text d)

abbrev pub members_size : Members → ℕ
members_size no_members = 0
members_size (member k d ms) = member_size k d + members_size ms

abbrev json_count : json.Members → ℕ
json_count json.no_members = 0
json_count (json.member k j ms) = length (quoted k) + 2 + json_size j + json_count ms

later_members : (ms : Members) → length (members_text true ms) ≡ 1 + members_size ms
later_members no_members = refl
later_members (member k d ms) =
    let rest = compact_text d ++ members_text true ms in
    omega (arith, length-append (quoted k) (58 ∷ rest), length-append (compact_text d) (members_text true ms), later_members ms)

-- the first member has no comma before it
pub first_members : (ms : Members) (n : ℕ) → 1 ≤ n → members_size ms ≤ n → length (members_text false ms) ≤ n
first_members no_members n some le = some
first_members (member k d ms) n some le =
    let rest = compact_text d ++ members_text true ms in
    omega (arith, length-append (quoted k) (58 ∷ rest), length-append (compact_text d) (members_text true ms), later_members ms, le)

pub all_members : (ms : Members) → members_size ms ≤ length (members_text false ms)
all_members no_members = omega arith
all_members (member k d ms) =
    let rest = compact_text d ++ members_text true ms in
    omega (arith, length-append (quoted k) (58 ∷ rest), length-append (compact_text d) (members_text true ms), later_members ms)

json_later : (ms : json.Members) → json_members_size true ms ≡ 1 + json_count ms
json_later json.no_members = refl
json_later (json.member k j ms) = omega (arith, json_later ms)

json_first : (ms : json.Members) → json_count ms ≤ json_members_size false ms
json_first json.no_members = omega arith
json_first (json.member k j ms) = omega (arith, json_later ms)

json_some : (ms : json.Members) → 1 ≤ json_members_size false ms
json_some json.no_members = omega arith
json_some (json.member k j ms) = omega arith

pub same_key : (k l : List ℕ) → slice_cmp nat_cmp k l ≡ Equal → k ≡ l
same_key k l is = (bytes_eq-Decides k l).0 (sym (is_eq-slice_cmp k l) ∙ ap is_eq is)

put_size : (k : List ℕ) (d : Data) (ms : Members) → members_size (put k d ms) ≤ member_size k d + members_size ms
put_size k d no_members = omega arith
put_size k d (member l e ms) = by (slice_cmp nat_cmp k l) (put_size k d ms) (λ is. ap (λ key. length (quoted key)) (sym (same_key k l is)))
  where
    by : (o : Ordering) → members_size (put k d ms) ≤ member_size k d + members_size ms → (o ≡ Equal → length (quoted l) ≡ length (quoted k))
        → members_size (match_ordering o (member k d (member l e ms)) (member l d ms) (member l e (put k d ms))) ≤ member_size k d + (member_size l e + members_size ms)
    by Less le same = omega arith
    by Equal le same = omega (arith, same refl)
    by Greater le same = omega (arith, le)

put_tight : (k : List ℕ) (d : Data) (ms : Members) → IsTightData d → HaveTight ms → HaveTight (put k d ms)
put_tight k d no_members tight all = (tight, tt)
put_tight k d (member l e ms) tight all = by (slice_cmp nat_cmp k l) (put_tight k d ms tight all.1)
  where
    by : (o : Ordering) → HaveTight (put k d ms) → HaveTight (match_ordering o (member k d (member l e ms)) (member l d ms) (member l e (put k d ms)))
    by Less more = (tight, all)
    by Equal more = (tight, all.1)
    by Greater more = (all.0, more)

-- so many bytes at most, and tight numbers
abbrev Sized : ℕ → Data → Type 0
Sized n d = (length (compact_text d) ≤ n) × IsTightData d

mutual
  data_sized : (j : json.Json) (d : Data) → of_json j ≡ Some d → Sized (json_size j) d
  data_sized json.null d is = subst (Sized (json_size json.null)) (same_Some null d is) (omega arith, tt)
  data_sized (json.boolean b) d is = subst (Sized (json_size (json.boolean b))) (same_Some (boolean b) d is) (omega arith, tt)
  data_sized (json.number s) d is =
      let n = map_found number (number_of s) d is in
      subst (Sized (length s)) n.2 (number_sized s n.0 n.1)
  data_sized (json.string s) d is = subst (Sized (json_size (json.string s))) (same_Some (string s) d is) (omega arith, tt)
  data_sized (json.array js) d is =
      let ds = map_found array (of_items js) d is in
      let all = items_sized js ds.0 ds.1 in
      subst (Sized (json_size (json.array js))) ds.2 (omega (arith, all.0 false), all.1)
  data_sized (json.object ms) d is =
      let found = map_found object (of_members ms no_members) d is in
      let all = members_sized ms no_members found.0 found.1 tt in
      subst (Sized (json_size (json.object ms))) found.2
      (omega (arith, first_members found.0 (json_members_size false ms) (json_some ms) (omega (arith, all.0, json_first ms))), all.1)

  items_sized : (js : json.Items) (ds : Items) → of_items js ≡ Some ds → ((later : Bool) → length (items_text later ds) ≤ json_items_size later js) × AreTight ds
  items_sized json.no_items ds is = subst (λ l. ((later : Bool) → length (items_text later l) ≤ 1) × AreTight l) (same_Some no_items ds is) ((λ later. omega arith), tt)
  items_sized (json.item j js) ds is =
      let first = then_found (λ d. option_map (item d) (of_items js)) (of_json j) ds is in
      let rest = map_found (item first.0) (of_items js) ds first.2 in
      let one = data_sized j first.0 first.1 in
      let all = items_sized js rest.0 rest.1 in
      subst (λ l. ((later : Bool) → length (items_text later l) ≤ json_items_size later (json.item j js)) × AreTight l) rest.2
      ((λ later. omega (arith, length-append (comma_if later) (compact_text first.0 ++ items_text true rest.0), length-append (compact_text first.0) (items_text true rest.0), one.0, all.0 true)), (one.1, all.1))

  members_sized : (ms : json.Members) (found ds : Members) → of_members ms found ≡ Some ds → HaveTight found → (members_size ds ≤ json_count ms + members_size found) × HaveTight ds
  members_sized json.no_members found ds is tight = subst (λ l. (members_size l ≤ 0 + members_size found) × HaveTight l) (same_Some found ds is) (omega arith, tight)
  members_sized (json.member k j ms) found ds is tight =
      let first = then_found (λ d. of_members ms (put k d found)) (of_json j) ds is in
      let one = data_sized j first.0 first.1 in
      let all = members_sized ms (put k first.0 found) ds first.2 (put_tight k first.0 found one.1 tight) in
      (omega (arith, all.0, one.0, put_size k first.0 found), all.1)

-- ---- texts

last_is : (j : json.Json) (ts : List Token) (i : json.Json) → if_last j ts ≡ Some i → (j ≡ i) × (ts ≡ [])
last_is j [] i is = (same_Some j i is, refl)
last_is j (t ∷ ts) i is = absurd (none-some i is)

whole_size : (ts rest : List Token) (j i : json.Json) → ts ≡ json_tokens j ++ rest → if_last j rest ≡ Some i → tokens_size false ts ≡ json_size i
whole_size ts rest j i spelt whole =
    let last = last_is j rest i whole in
    omega (arith, ap (tokens_size false) (spelt ∙ ap (λ l. json_tokens j ++ l) last.1), json_taken false j [], ap json_size last.0)

pub read_sized : (text : List ℕ) (d : Data) → read text ≡ Some d → (length (compact_text d) ≤ length text) × IsTightData d
read_sized text d is =
    let j = then_found of_json (option_and_then (λ p. if_last p.0 p.1) (json.value max_depth (tokens text))) d is in
    let p = then_found (λ p. if_last p.0 p.1) (json.value max_depth (tokens text)) j.0 j.1 in
    let size : tokens_size false (tokens text) ≡ json_size j.0 = whole_size (tokens text) p.0.1 p.0.0 j.0 (value-json_tokens_back max_depth (tokens text) p.0.1 p.0.0 p.1) p.2 in
    let sized = data_sized j.0 d j.2 in
    (omega (arith, sized.0, size, tokens_short text), sized.1)
