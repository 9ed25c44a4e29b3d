-- The data of a line: how many bytes they take at least, that their texts are UTF-8, and that their whole numbers are narrow.
use Rattle.std.proofs.Common.{◌≡◌, ℕ, zero, suc, pos, ◌+◌, ◌^◌, ◌<◌, ◌≤◌, Bool, true, false, ◌&&◌, ◌==◌, cond, List, [], ◌∷◌, length, drop, Option, Some, None, option_map, option_and_then, FitsSigned, refl, arith}
use Rattle.std.specs.Prelude.{nat_lt, nat_le, neg_ℤ, slice_index}
use Rattle.std.specs.Int.{w128}
use Rattle.std.specs.Float.{binary64, float_is_finite}
use Rattle.std.specs.Float.Numeral.{Parts, minus, scan_numeral, numeral_digits, nearest_float}
use Rattle.std.specs.Ordering.{nat_cmp, match_ordering}
use Rattle.std.specs.declared.cmp.Ordering.{Ordering}
use Rattle.std.specs.declared.cmp.Ordering.TheVariants.{Less, Equal, Greater}
use Rattle.std.specs.Cmp.Lexicographic.{slice_cmp}
use Rattle.std.specs.Str.{IsUtf8}
use Rattle.std.proofs.lemmas.Bool.Decides.{nat_tests}
use Rattle.json.specs.Token.{Token}
use Rattle.json.specs.Lex.{tokens}
use Rattle.json.specs.Json as json
use Rattle.json.specs.Json.{Parse, parse_map, after_end_array, read_key, items_step, members_step, value_with, if_last}
use Rattle.serde_json.specs.Data.{Num, unsigned, negative, float, Data, null, boolean, number, string, array, object, Items, no_items, item, Members, no_members, member, put}
use Rattle.serde_json.specs.Read.{is_integer, float_of, number_from, number_of, of_json, of_items, of_members, max_depth, read}
use Rattle.request_json.proofs.LineTokens.{tokens_least, AreSoundTokens, tokens_fit}

-- ---- values of JSON

-- the bytes that a value takes at least
abbrev mutual
  pub json_least : json.Json → ℕ
  json_least json.null = 1
  json_least (json.boolean b) = 1
  json_least (json.number s) = 2
  json_least (json.string s) = 2 + length s
  json_least (json.array js) = 1 + json_items_least js
  json_least (json.object ms) = json_members_least ms

  pub json_items_least : json.Items → ℕ
  json_items_least json.no_items = 0
  json_items_least (json.item j js) = json_least j + json_items_least js

  pub json_members_least : json.Members → ℕ
  json_members_least json.no_members = 0
  json_members_least (json.member k j ms) = json_least j + json_members_least ms

-- its texts are UTF-8
abbrev mutual
  pub IsSoundJson : json.Json → Type 0
  IsSoundJson json.null = Unit {0}
  IsSoundJson (json.boolean b) = Unit {0}
  IsSoundJson (json.number s) = Unit {0}
  IsSoundJson (json.string s) = IsUtf8 s
  IsSoundJson (json.array js) = AreSoundItems js
  IsSoundJson (json.object ms) = AreSoundMembers ms

  pub AreSoundItems : json.Items → Type 0
  AreSoundItems json.no_items = Unit {0}
  AreSoundItems (json.item j js) = IsSoundJson j × AreSoundItems js

  pub AreSoundMembers : json.Members → Type 0
  AreSoundMembers json.no_members = Unit {0}
  AreSoundMembers (json.member k j ms) = IsSoundJson j × AreSoundMembers ms

-- what is read takes of so many bytes no more than there are, and leaves sound tokens
abbrev Takes : {A : Type 0} → (A → ℕ) → (A → Type 0) → ℕ → Option (A × List Token) → Type 0
Takes least IsSound n None = Unit {0}
Takes least IsSound n (Some p) = (least p.0 + tokens_least p.1 ≤ n) × IsSound p.0 × AreSoundTokens p.1

abbrev Reads : {A : Type 0} → (A → ℕ) → (A → Type 0) → Parse A → Type 0
Reads least IsSound p = (ts : List Token) → AreSoundTokens ts → Takes least IsSound (tokens_least ts) (p ts)

takes_map : {A B : Type 0} (least : A → ℕ) (IsSound : A → Type 0) (least' : B → ℕ) (IsSound' : B → Type 0) (f : A → B) (m n : ℕ) (o : Option (A × List Token))
    → ((a : A) → least' (f a) + m ≤ least a + n) → ((a : A) → IsSound a → IsSound' (f a)) → Takes least IsSound m o → Takes least' IsSound' n (parse_map f o)
takes_map least IsSound least' IsSound' f m n None le sound h = tt
takes_map least IsSound least' IsSound' f m n (Some p) le sound h = (omega (arith, le p.0, h.0), sound p.0 h.1, h.2)

abbrev Ended : ℕ → Option (List Token) → Type 0
Ended n None = Unit {0}
Ended n (Some ts) = (tokens_least ts ≤ n) × AreSoundTokens ts

ended : (ts : List Token) → AreSoundTokens ts → Ended (tokens_least ts) (after_end_array ts)
ended [] h = tt
ended (Token.begin_object ∷ ts) h = tt
ended (Token.end_object ∷ ts) h = tt
ended (Token.begin_array ∷ ts) h = tt
ended (Token.end_array ∷ ts) h = (omega arith, h.1)
ended (Token.key s ∷ ts) h = tt
ended (Token.string s ∷ ts) h = tt
ended (Token.number s ∷ ts) h = tt
ended (Token.boolean b ∷ ts) h = tt
ended (Token.null ∷ ts) h = tt
ended (Token.bad ∷ ts) h = tt

keyed : Reads (λ k. 0) (λ k. Unit {0}) read_key
keyed [] h = tt
keyed (Token.begin_object ∷ ts) h = tt
keyed (Token.end_object ∷ ts) h = (omega arith, tt, h.1)
keyed (Token.begin_array ∷ ts) h = tt
keyed (Token.end_array ∷ ts) h = tt
keyed (Token.key s ∷ ts) h = (omega arith, tt, h.1)
keyed (Token.string s ∷ ts) h = tt
keyed (Token.number s ∷ ts) h = tt
keyed (Token.boolean b ∷ ts) h = tt
keyed (Token.null ∷ ts) h = tt
keyed (Token.bad ∷ ts) h = tt

module _ (value : Parse json.Json) (one : Reads json_least IsSoundJson value) where
  item_more : (more : Parse json.Items) → Reads json_items_least AreSoundItems more → (n : ℕ) (o : Option (json.Json × List Token)) → Takes json_least IsSoundJson n o
      → Takes json_items_least AreSoundItems n (option_and_then (λ p. parse_map (json.item p.0) (more p.1)) o)
  item_more more others n None h = tt
  item_more more others n (Some p) h =
      takes_map json_items_least AreSoundItems json_items_least AreSoundItems (json.item p.0) (tokens_least p.1) n (more p.1) (λ js. omega (arith, h.0)) (λ js sound. (h.1, sound)) (others p.1 h.2)

  item_step : (more : Parse json.Items) → Reads json_items_least AreSoundItems more → (ts : List Token) → AreSoundTokens ts → (o : Option (List Token)) → Ended (tokens_least ts) o → Takes json_items_least AreSoundItems (tokens_least ts) (items_step value more ts o)
  item_step more others ts sound (Some rest) h = (omega (arith, h.0), tt, h.1)
  item_step more others ts sound None h = item_more more others (tokens_least ts) (value ts) (one ts sound)

  items_read : (n : ℕ) → Reads json_items_least AreSoundItems (json.items value n)
  unfolding json.items
  items_read zero ts sound = tt
  items_read (suc n) ts sound = item_step (json.items value n) (items_read n) ts sound (after_end_array ts) (ended ts sound)

  member_more : (more : Parse json.Members) → Reads json_members_least AreSoundMembers more → (k : List ℕ) (n : ℕ) (o : Option (json.Json × List Token)) → Takes json_least IsSoundJson n o
      → Takes json_members_least AreSoundMembers n (option_and_then (λ p. parse_map (json.member k p.0) (more p.1)) o)
  member_more more others k n None h = tt
  member_more more others k n (Some p) h =
      takes_map json_members_least AreSoundMembers json_members_least AreSoundMembers (json.member k p.0) (tokens_least p.1) n (more p.1) (λ ms. omega (arith, h.0)) (λ ms sound. (h.1, sound)) (others p.1 h.2)

  less : {A : Type 0} (least : A → ℕ) (IsSound : A → Type 0) (m n : ℕ) (o : Option (A × List Token)) → Takes least IsSound m o → m ≤ n → Takes least IsSound n o
  less least IsSound m n None h le = tt
  less least IsSound m n (Some p) h le = (omega (arith, h.0), h.1, h.2)

  member_step : (more : Parse json.Members) → Reads json_members_least AreSoundMembers more → (n : ℕ) (o : Option (Option (List ℕ) × List Token)) → Takes (λ k. 0) (λ k. Unit {0}) n o
      → Takes json_members_least AreSoundMembers n (option_and_then (λ p. members_step value more p.0 p.1) o)
  member_step more others n None h = tt
  member_step more others n (Some (None, rest)) h = (omega (arith, h.0), tt, h.2)
  member_step more others n (Some (Some k, rest)) h =
      member_more more others k n (value rest) (less json_least IsSoundJson (tokens_least rest) n (value rest) (one rest h.2) (omega (arith, h.0)))

  members_read : (n : ℕ) → Reads json_members_least AreSoundMembers (json.members value n)
  unfolding json.members
  members_read zero ts sound = tt
  members_read (suc n) ts sound = member_step (json.members value n) (members_read n) (tokens_least ts) (read_key ts) (keyed ts sound)

with_read : (a : Parse json.Items) (o : Parse json.Members) → Reads json_items_least AreSoundItems a → Reads json_members_least AreSoundMembers o → Reads json_least IsSoundJson (value_with a o)
with_read a o xs ms [] h = tt
with_read a o xs ms (Token.begin_object ∷ ts) h = takes_map json_members_least AreSoundMembers json_least IsSoundJson json.object (tokens_least ts) (tokens_least (Token.begin_object ∷ ts)) (o ts) (λ found. omega arith) (λ found sound. sound) (ms ts h.1)
with_read a o xs ms (Token.end_object ∷ ts) h = tt
with_read a o xs ms (Token.begin_array ∷ ts) h = takes_map json_items_least AreSoundItems json_least IsSoundJson json.array (tokens_least ts) (tokens_least (Token.begin_array ∷ ts)) (a ts) (λ js. omega arith) (λ js sound. sound) (xs ts h.1)
with_read a o xs ms (Token.end_array ∷ ts) h = tt
with_read a o xs ms (Token.key s ∷ ts) h = tt
with_read a o xs ms (Token.string s ∷ ts) h = (omega arith, h.0, h.1)
with_read a o xs ms (Token.number s ∷ ts) h = (omega arith, tt, h.1)
with_read a o xs ms (Token.boolean b ∷ ts) h = (omega arith, tt, h.1)
with_read a o xs ms (Token.null ∷ ts) h = (omega arith, tt, h.1)
with_read a o xs ms (Token.bad ∷ ts) h = tt

value_read : (depth : ℕ) → Reads json_least IsSoundJson (json.value depth)
unfolding json.value
value_read zero = with_read (λ ts. None) (λ ts. None) (λ ts sound. tt) (λ ts sound. tt)
value_read (suc depth) =
    with_read (λ ts. json.items (json.value depth) (length ts) ts) (λ ts. json.members (json.value depth) (length ts) ts)
    (λ ts sound. items_read (json.value depth) (value_read depth) (length ts) ts sound) (λ ts sound. members_read (json.value depth) (value_read depth) (length ts) ts sound)

-- ---- data

-- the bytes that data take at least
abbrev mutual
  pub data_least : Data → ℕ
  data_least null = 1
  data_least (boolean b) = 1
  data_least (number n) = 2
  data_least (string s) = 2 + length s
  data_least (array ds) = 1 + items_least ds
  data_least (object ms) = members_least ms

  pub items_least : Items → ℕ
  items_least no_items = 0
  items_least (item d ds) = data_least d + items_least ds

  pub members_least : Members → ℕ
  members_least no_members = 0
  members_least (member k d ms) = data_least d + members_least ms

-- a whole number has no more bits than an int has
abbrev pub IsNarrow : Num → Type 0
IsNarrow (unsigned n) = n < 2 ^ 64
IsNarrow (negative z) = FitsSigned w128 z
IsNarrow (float x) = Unit {0}

-- texts are UTF-8, and whole numbers narrow
abbrev mutual
  pub IsSound : Data → Type 0
  IsSound null = Unit {0}
  IsSound (boolean b) = Unit {0}
  IsSound (number n) = IsNarrow n
  IsSound (string s) = IsUtf8 s
  IsSound (array ds) = AreSound ds
  IsSound (object ms) = HasSound ms

  pub AreSound : Items → Type 0
  AreSound no_items = Unit {0}
  AreSound (item d ds) = IsSound d × AreSound ds

  pub HasSound : Members → Type 0
  HasSound no_members = Unit {0}
  HasSound (member k d ms) = IsSound d × HasSound ms

-- what is read, where something is, is sound and takes no more than this
abbrev pub Within : {A : Type 0} → (A → ℕ) → (A → Type 0) → ℕ → Option A → Type 0
Within least IsSound n None = Unit {0}
Within least IsSound n (Some x) = (least x ≤ n) × IsSound x

narrow_either : (b : Bool) (x y : Option Num) → (b ≡ true → Within (λ n. 0) IsNarrow 0 x) → Within (λ n. 0) IsNarrow 0 y → Within (λ n. 0) IsNarrow 0 (cond b x y)
narrow_either true x y p q = p refl
narrow_either false x y p q = q

float_narrow : (sign : Bool) (p : Parts) → Within (λ n. 0) IsNarrow 0 (float_of sign p)
float_narrow sign p = narrow_either (float_is_finite (nearest_float binary64 sign p)) (Some (float (nearest_float binary64 sign p))) None (λ is. (omega arith, tt)) tt

small_unsigned : (b : Bool) (n : ℕ) → (b && nat_lt n (2 ^ 64)) ≡ true → n < 2 ^ 64
small_unsigned b n h = grind (arith, nat_tests)

small_negative : (b : Bool) (n : ℕ) → (b && nat_lt 0 n && nat_le n (2 ^ 63)) ≡ true → FitsSigned w128 (neg_ℤ (pos n))
small_negative b zero h = record { sfits = omega arith }
small_negative b (suc n) h = let most : suc n ≤ 2 ^ 63 = grind (arith, nat_tests) in record { sfits = omega (arith, most) }

number_narrow : (sign : Bool) (p : Parts) → Within (λ n. 0) IsNarrow 0 (number_from sign p)
number_narrow false p =
    let n = numeral_digits p in
    narrow_either (is_integer p && nat_lt n (2 ^ 64)) (Some (unsigned n)) (float_of false p) (λ h. (omega arith, small_unsigned (is_integer p) n h)) (float_narrow false p)
number_narrow true p =
    let n = numeral_digits p in
    narrow_either (is_integer p && nat_lt 0 n && nat_le n (2 ^ 63)) (Some (negative (neg_ℤ (pos n)))) (float_of true p) (λ h. (omega arith, small_negative (is_integer p) n h)) (float_narrow true p)

of_number : (s : List ℕ) → Within (λ n. 0) IsNarrow 0 (number_of s)
unfolding number_of
of_number s = narrow_either (slice_index s 0 == minus) (number_from true (scan_numeral (drop 1 s))) (number_from false (scan_numeral s)) (λ is. number_narrow true (scan_numeral (drop 1 s))) (number_narrow false (scan_numeral s))

within_map : {A B : Type 0} (least : A → ℕ) (Sound : A → Type 0) (least' : B → ℕ) (Sound' : B → Type 0) (f : A → B) (m n : ℕ) (o : Option A)
    → ((a : A) → least a ≤ m → least' (f a) ≤ n) → ((a : A) → Sound a → Sound' (f a)) → Within least Sound m o → Within least' Sound' n (option_map f o)
within_map least Sound least' Sound' f m n None le sound h = tt
within_map least Sound least' Sound' f m n (Some a) le sound h = (le a h.0, sound a h.1)

put_least : (k : List ℕ) (d : Data) (ms : Members) → members_least (put k d ms) ≤ data_least d + members_least ms
put_least k d no_members = omega arith
put_least k d (member l e ms) = by (slice_cmp nat_cmp k l) (put_least k d ms)
  where
    by : (o : Ordering) → members_least (put k d ms) ≤ data_least d + members_least ms → members_least (match_ordering o (member k d (member l e ms)) (member l d ms) (member l e (put k d ms))) ≤ data_least d + (data_least e + members_least ms)
    by Less h = omega arith
    by Equal h = omega arith
    by Greater h = omega (arith, h)

put_sound : (k : List ℕ) (d : Data) (ms : Members) → IsSound d → HasSound ms → HasSound (put k d ms)
put_sound k d no_members sound h = (sound, tt)
put_sound k d (member l e ms) sound h = by (slice_cmp nat_cmp k l) (put_sound k d ms sound h.1)
  where
    by : (o : Ordering) → HasSound (put k d ms) → HasSound (match_ordering o (member k d (member l e ms)) (member l d ms) (member l e (put k d ms)))
    by Less more = (sound, h)
    by Equal more = (sound, h.1)
    by Greater more = (h.0, more)

item_then : (n : ℕ) (js : Option Items) → Within items_least AreSound n js → (m : ℕ) (d : Option Data) → Within data_least IsSound m d → Within items_least AreSound (m + n) (option_and_then (λ d. option_map (item d) js) d)
item_then n js others m None h = tt
item_then n js others m (Some d) h = within_map items_least AreSound items_least AreSound (item d) n (m + n) js (λ ds le. omega (arith, le, h.0)) (λ ds sound. (h.1, sound)) others

less_data : {A : Type 0} (least : A → ℕ) (Sound : A → Type 0) (m n : ℕ) (o : Option A) → Within least Sound m o → m ≤ n → Within least Sound n o
less_data least Sound m n None h le = tt
less_data least Sound m n (Some x) h le = (omega (arith, h.0), h.1)

put_then : (k : List ℕ) (ms : json.Members) (found : Members) (m : ℕ) (o : Option Data) → Within data_least IsSound m o → HasSound found
    → ((more : Members) → HasSound more → Within members_least HasSound (json_members_least ms + members_least more) (of_members ms more))
    → Within members_least HasSound (m + json_members_least ms + members_least found) (option_and_then (λ d. of_members ms (put k d found)) o)
put_then k ms found m None h sound others = tt
put_then k ms found m (Some d) h sound others =
    less_data members_least HasSound (json_members_least ms + members_least (put k d found)) _ (of_members ms (put k d found)) (others (put k d found) (put_sound k d found h.1 sound))
    (omega (arith, put_least k d found, h.0))

mutual
  json_data : (j : json.Json) → IsSoundJson j → Within data_least IsSound (json_least j) (of_json j)
  json_data json.null h = (omega arith, tt)
  json_data (json.boolean b) h = (omega arith, tt)
  json_data (json.number s) h = within_map (λ n. 0) IsNarrow data_least IsSound number 0 2 (number_of s) (λ n le. omega arith) (λ n narrow. narrow) (of_number s)
  json_data (json.string s) h = (omega arith, h)
  json_data (json.array js) h = within_map items_least AreSound data_least IsSound array (json_items_least js) (1 + json_items_least js) (of_items js) (λ ds le. omega (arith, le)) (λ ds sound. sound) (items_data js h)
  json_data (json.object ms) h = within_map members_least HasSound data_least IsSound object (json_members_least ms + 0) (json_members_least ms) (of_members ms no_members) (λ found le. omega (arith, le)) (λ ds sound. sound) (members_data ms no_members h tt)

  items_data : (js : json.Items) → AreSoundItems js → Within items_least AreSound (json_items_least js) (of_items js)
  items_data json.no_items h = (omega arith, tt)
  items_data (json.item j js) h = item_then (json_items_least js) (of_items js) (items_data js h.1) (json_least j) (of_json j) (json_data j h.0)

  members_data : (ms : json.Members) (found : Members) → AreSoundMembers ms → HasSound found → Within members_least HasSound (json_members_least ms + members_least found) (of_members ms found)
  members_data json.no_members found h sound = (omega arith, sound)
  members_data (json.member k j ms) found h sound = put_then k ms found (json_least j) (of_json j) (json_data j h.0) sound (λ more. members_data ms more h.1)

-- ---- the data of a line

last : (j : json.Json) (ts : List Token) → IsSoundJson j → Within data_least IsSound (json_least j) (option_and_then of_json (if_last j ts))
last j [] h = json_data j h
last j (t ∷ ts) h = tt

whole : (n : ℕ) (o : Option (json.Json × List Token)) → Takes json_least IsSoundJson n o → Within data_least IsSound n (option_and_then of_json (option_and_then (λ p. if_last p.0 p.1) o))
whole n None h = tt
whole n (Some p) h = less_data data_least IsSound (json_least p.0) n (option_and_then of_json (if_last p.0 p.1)) (last p.0 p.1 h.1) (omega (arith, h.0))

-- what a text reads as takes no more than its bytes and one comma, and is sound where the text is UTF-8
pub read_fits : (text : List ℕ) → IsUtf8 text → Within data_least IsSound (length text + 1) (read text)
read_fits text u =
    let t = tokens_fit text u in
    less_data data_least IsSound (tokens_least (tokens text)) (length text + 1) (read text) (whole (tokens_least (tokens text)) (json.value max_depth (tokens text)) (value_read max_depth (tokens text) t.1)) t.0
