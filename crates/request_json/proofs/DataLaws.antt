-- Laws of JSON data.
use Rattle.std.specs.Prelude.{nat_le, ◌&&◌}
use Rattle.std.proofs.lemmas.Bool.Decides.{nat_tests}
use Rattle.std.proofs.Common.{◌≡◌, ◌<◌, ℕ, suc, nat_eq, true, false, List, [], ◌∷◌, length, Some, String, Global, refl, sym, ap, arith}
use Rattle.serde_json.specs.Data.{Data, Members}
use Rattle.serde_json.specs.Data as json
use Rattle.serde_json.specs.Find.{as_object}
use Rattle.serde_json.specs.View.{items_view, members_view}
use Rattle.serde_json.specs.declared.value.Value.{Value}
use Rattle.request_json.specs.RequestLines.{count_of, length_of, has_members}

pub count_of-members : (es : List (String Global × Value)) → count_of (members_view es) ≡ length es
count_of-members [] = refl
count_of-members (e ∷ es) = ap suc (count_of-members es)

-- the members of an object that was looked into
pub members_are : (d : Data) (ms : Members) (n : ℕ) → Some ms ≡ as_object d → has_members d n ≡ nat_eq (count_of ms) n
members_are json.null ms n h = cc
members_are (json.boolean b) ms n h = cc
members_are (json.number x) ms n h = cc
members_are (json.string s) ms n h = cc
members_are (json.array ds) ms n h = cc
members_are (json.object es) ms n h = let e : ms ≡ es = cc in ap (λ m. nat_eq (count_of m) n) (sym e)

-- the items of an array
pub length_of_items : (vs : List Value) → length_of (items_view vs) ≡ length vs
length_of_items [] = refl
length_of_items (v ∷ vs) = ap suc (length_of_items vs)

-- the length of an id
pub some_few : (n : ℕ) → 0 < n → nat_le n 64 ≡ (nat_le 1 n && nat_le n 64)
some_few n lt = let some : nat_le 1 n ≡ true = grind (arith, nat_tests) in ap (λ b. b && nat_le n 64) (sym some)

pub no_length : (n : ℕ) → n ≡ 0 → false ≡ (nat_le 1 n && nat_le n 64)
no_length n none = ap (λ m. nat_le 1 m && nat_le m 64) (sym none)
