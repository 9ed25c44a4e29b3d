-- Runs of letters, digits and blanks, signs and escapes are ASCII.
use Rattle.std.proofs.Common.{◌≡◌, ℕ, zero, suc, ◌+◌, ◌<◌, Bool, true, false, List, [], ◌∷◌, ◌++◌, length, drop, get_or, Option, Some, None, refl, sym, ap, subst, ◌∙◌, arith, ⊎_elim, true≢false}
use Rattle.std.specs.Prelude.{◌*◌, ◌||◌, ◌==◌, nat_lt, nat_eq, if◌then◌else◌, slice_index, take_while, position, option_map, option_and_then}
use Rattle.std.specs.List.{starts_with, list_all}
use Rattle.std.proofs.lemmas.Bool.{cases_Bool, ltb-true}
use Rattle.std.proofs.lemmas.Bool.Decides.{Decides-eqb, nat_tests}
use Rattle.std.proofs.lemmas.List.{get_or_append_left}
use Rattle.std.proofs.lemmas.Option.{none-some, same_Some}
use Rattle.std.proofs.lemmas.List.Quantifiers.{position-Some}
use Rattle.std.proofs.lemmas.List.Folds.{list_all_at}
use Rattle.std.proofs.lemmas.List.Sums.{prefix_len_passes}
use Rattle.std.proofs.lemmas.Slice.Eq.{starts_is}
use Rattle.py_tree.specs.StringText.{escape, hex_digit, hex_value, character}
use Rattle.py_tree.specs.Tokens.{signs}
use Rattle.py_lexer.proofs.Runs.{run_len}

-- the first n bytes are ASCII
abbrev pub IsAsciiFront : ℕ → List ℕ → Type 0
IsAsciiFront n bs = (k : ℕ) → k < n → slice_index bs k < 128

none : (bs : List ℕ) → IsAsciiFront 0 bs
none bs k less = absurd (omega (arith, less))

more : (n b : ℕ) (bs : List ℕ) → b < 128 → IsAsciiFront n bs → IsAsciiFront (suc n) (b ∷ bs)
more n b bs ascii rest zero less = ascii
more n b bs ascii rest (suc k) less = rest k (omega (arith, less))

-- bytes that pass a test which only ASCII passes
pub run_is_ascii : (test : ℕ → Bool) (bs : List ℕ) → ((b : ℕ) → test b ≡ true → b < 128) → IsAsciiFront (length (take_while test bs)) bs
run_is_ascii test bs ascii k less = ascii (slice_index bs k) (prefix_len_passes test bs k 0 (omega (arith, less, run_len test bs)))

-- ---- escapes

mapped : {A B : Type 0} (f : A → B) (o : Option A) (y : B) → option_map f o ≡ Some y → (x : A) × ((o ≡ Some x) × (f x ≡ y))
mapped f None y e = absurd (none-some _ e)
mapped f (Some x) y e = (x, (refl, cc))

chained : {A B : Type 0} (f : A → Option B) (o : Option A) (y : B) → option_and_then f o ≡ Some y → (x : A) × ((o ≡ Some x) × (f x ≡ Some y))
chained f None y e = absurd (none-some _ e)
chained f (Some x) y e = (x, (refl, e))

chosen : {A : Type 0} {P : Type 0} (test : Bool) (a b : Option A) (y : A)
    → (if test then a else b) ≡ Some y → (test ≡ true → a ≡ Some y → P) → (b ≡ Some y → P) → P
chosen true a b y e passed failed = passed refl e
chosen false a b y e passed failed = failed e

hex_digit_is_ascii : (b d : ℕ) → hex_digit b ≡ Some d → b < 128
hex_digit_is_ascii b d e = grind (arith, nat_tests)

hex_is_ascii : (n so_far c : ℕ) (bs : List ℕ) → hex_value n so_far bs ≡ Some c → IsAsciiFront n bs
hex_is_ascii zero so_far c bs e = none bs
hex_is_ascii (suc n) so_far c [] e = absurd (none-some _ e)
hex_is_ascii (suc n) so_far c (b ∷ bs) e =
    let digit = chained (λ d. hex_value n (16 * so_far + d) bs) (hex_digit b) c e in
    more n b bs (hex_digit_is_ascii b digit.0 digit.1.0) (hex_is_ascii n (16 * so_far + digit.0) c bs digit.1.1)

pub is_byte : (b n : ℕ) → n < 128 → b == n ≡ true → b < 128
is_byte b n small e = grind (arith, nat_tests)

-- an escape of one byte, and one of a letter with so many hexadecimal digits
single : (b c : ℕ) (bs : List ℕ) (e : ℕ × ℕ) → b < 128 → ◌≡◌ {A = Option (ℕ × ℕ)} (Some (c, 1)) (Some e) → IsAsciiFront e.1 (b ∷ bs)
single b c bs e ascii is = subst (λ p. IsAsciiFront p.1 (b ∷ bs)) (same_Some (c, 1) e is) (more 0 b bs ascii (none bs))

spelt : (n b : ℕ) (bs : List ℕ) (code : Option ℕ) (e : ℕ × ℕ)
    → b < 128 → ((c : ℕ) → code ≡ Some c → IsAsciiFront n bs) → option_map (λ c. (c, suc n)) code ≡ Some e → IsAsciiFront e.1 (b ∷ bs)
spelt n b bs code e ascii digits is =
    let m = mapped (λ c. (c, suc n)) code e is in
    subst (λ p. IsAsciiFront p.1 (b ∷ bs)) m.1.1 (more n b bs ascii (digits m.0 m.1.0))

character_is_ascii : (c : ℕ) (bs : List ℕ) → option_and_then character (hex_value 4 0 bs) ≡ Some c → IsAsciiFront 4 bs
character_is_ascii c bs e = let h = chained character (hex_value 4 0 bs) c e in hex_is_ascii 4 0 h.0 bs h.1.0

is_quoted : (b : ℕ) → (b == 92 || b == 39 || b == 34) ≡ true → b < 128
is_quoted b e = grind (arith, nat_tests)

-- what an escape takes
pub escape_is_ascii : (bs : List ℕ) (e : ℕ × ℕ) → escape bs ≡ Some e → IsAsciiFront e.1 bs
escape_is_ascii [] e is = absurd (none-some _ is)
escape_is_ascii (b ∷ bs) e is =
    let one = λ (n : ℕ) (small : n < 128) (t : b == n ≡ true). is_byte b n small t in
    chosen (b == 92 || b == 39 || b == 34) _ _ e is (λ t. single b b bs e (is_quoted b t)) (λ is.
    chosen (b == 110) _ _ e is (λ t. single b 10 bs e (one 110 (omega arith) t)) (λ is.
    chosen (b == 114) _ _ e is (λ t. single b 13 bs e (one 114 (omega arith) t)) (λ is.
    chosen (b == 116) _ _ e is (λ t. single b 9 bs e (one 116 (omega arith) t)) (λ is.
    chosen (b == 120) _ _ e is (λ t. spelt 2 b bs _ e (one 120 (omega arith) t) (λ c. hex_is_ascii 2 0 c bs)) (λ is.
    chosen (b == 117) _ _ e is (λ t. spelt 4 b bs _ e (one 117 (omega arith) t) (λ c. character_is_ascii c bs)) (λ is.
    absurd (none-some _ is)))))))

-- ---- signs

-- each element of a list passes a test that all pass
passes : {X : Type 0} (p : X → Bool) (xs : List X) (i : ℕ) (d : X) → i < length xs → list_all p xs ≡ true → p (get_or xs i d) ≡ true
passes p xs i d less all = ⊎_elim (λ yes. yes) (λ no. absurd (true≢false (sym all ∙ list_all_at p xs i d less no))) (cases_Bool (p (get_or xs i d)))

byte_is_ascii : ℕ → Bool
byte_is_ascii b = nat_lt b 128

sign_is_ascii : List ℕ → Bool
sign_is_ascii = list_all byte_is_ascii

all_are_ascii : list_all sign_is_ascii signs ≡ true
unfolding sign_is_ascii byte_is_ascii
all_are_ascii = refl

-- the sign that bytes begin with
pub sign_front_is_ascii : (bs : List ℕ) (n : ℕ) → position (starts_with nat_eq bs) signs ≡ Some n → IsAsciiFront (length (get_or signs n [])) bs
unfolding sign_is_ascii byte_is_ascii
sign_front_is_ascii bs n e k less =
    let sign : List ℕ = get_or signs n [] in
    let p = position-Some (starts_with nat_eq bs) signs n [] e in
    let begins : bs ≡ sign ++ drop (length sign) bs = (starts_is Decides-eqb bs sign true (sym p.1)).0 refl in
    let same : slice_index bs k ≡ slice_index sign k = ap (λ xs. slice_index xs k) begins ∙ get_or_append_left sign (drop (length sign) bs) 0 k less in
    subst (λ b. b < 128) (sym same) (ltb-true _ 128 (passes byte_is_ascii sign k 0 less (passes sign_is_ascii signs n [] p.0 all_are_ascii)))
