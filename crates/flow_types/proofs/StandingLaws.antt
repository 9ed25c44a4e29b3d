-- What is known of locals one by one.
use Rattle.std.specs.Prelude.{◌&&◌, min, slice_set}
use Rattle.std.proofs.Common.{◌≡◌, ℕ, zero, suc, arith, ◌+◌, ◌<◌, ◌≤◌, false, List, [], ◌∷◌, ◌++◌, length, map, take, drop, get_or, append-nil, refl, sym, ap, ◌∙◌}
use Rattle.std.proofs.lemmas.List.{take_more, map-append, drop_all, take_all}
use Rattle.py_tree.specs.FlowEnvironment.{PlainLocal, narrowed}
use Rattle.py_tree.specs.Flow.{Known, known_at, known_of, with_known, settled, joined}
use Rattle.entity_types.specs.declared.env.Local.{Local}
use Rattle.entity_types.specs.Views.{plain_local, plain_locals}
use Rattle.flow_types.specs.declared.known.Standing.{Standing}
use Rattle.flow_types.specs.Views.{plain_standing, plain_standings, known_or_not}

-- of locals up to one, and of the one itself
pub known_more : (ls : List Local) (i : ℕ) (l : Local) (made more : List Standing) (s : Standing) → i < length ls → l ≡ get_or ls i l → plain_standings made ≡ known_at (plain_locals (take i ls)) → plain_standing s ≡ known_of (plain_local l) → more ≡ made ++ s ∷ [] → plain_standings more ≡ known_at (plain_locals (take (i + 1) ls))
unfolding known_at
known_more ls i l made more s within is so_far one grown =
    ap plain_standings grown ∙ map-append plain_standing made (s ∷ []) ∙ (λ j. so_far j ++ one j ∷ [])
    ∙ sym (ap (λ xs. map known_of (plain_locals xs)) (take_more ls i l within ∙ ap (λ z. take i ls ++ z ∷ []) (sym is)) ∙ ap (map known_of) (map-append plain_local (take i ls) (l ∷ [])) ∙ map-append known_of (plain_locals (take i ls)) (plain_local l ∷ []))

pub ruleset known_laws = (known_more)

abbrev unknown : Standing
unknown = record { assigned = false; not_none = false }

abbrev both : Standing → Standing → Known
both x y = record { assigned = x.assigned && y.assigned; not_none = x.not_none && y.not_none }

joined_further : (xs ys : List Standing) (i : ℕ) → i < length xs → i < length ys → joined (plain_standings (take (suc i) xs)) (plain_standings (take (suc i) ys)) ≡ joined (plain_standings (take i xs)) (plain_standings (take i ys)) ++ joined (plain_standing (get_or xs i unknown) ∷ []) (plain_standing (get_or ys i unknown) ∷ [])
unfolding joined
joined_further [] ys i within among = absurd (omega arith)
joined_further (a ∷ xs) [] i within among = absurd (omega arith)
joined_further (a ∷ xs) (b ∷ ys) zero within among = refl
joined_further (a ∷ xs) (b ∷ ys) (suc i) within among = ap (λ more. both a b ∷ more) (joined_further xs ys i (omega arith) (omega arith))

-- where ways meet, up to a local and of the local itself
pub joined_more : (xs ys : List Standing) (i : ℕ) (s : Standing) (made more : List Standing) → i < length xs → i < length ys → plain_standings made ≡ joined (plain_standings (take i xs)) (plain_standings (take i ys)) → joined (plain_standing (get_or xs i unknown) ∷ []) (plain_standing (get_or ys i unknown) ∷ []) ≡ plain_standing s ∷ [] → more ≡ made ++ s ∷ [] → plain_standings more ≡ joined (plain_standings (take (i + 1) xs)) (plain_standings (take (i + 1) ys))
joined_more xs ys i s made more within among so_far one grown =
    let next : suc i ≡ i + 1 = omega arith in
    ap plain_standings grown ∙ map-append plain_standing made (s ∷ []) ∙ (λ j. so_far j ++ sym one j) ∙ sym (joined_further xs ys i within among)
    ∙ ap (λ n. joined (plain_standings (take n xs)) (plain_standings (take n ys))) next

pub no_joined : (xs ys : List Standing) → joined (plain_standings (take 0 xs)) (plain_standings (take 0 ys)) ≡ []
unfolding joined
no_joined xs ys = refl

pub joined_all : (xs ys : List Standing) (i : ℕ) → min (length xs) (length ys) ≤ i → joined (plain_standings (take i xs)) (plain_standings (take i ys)) ≡ joined (plain_standings xs) (plain_standings ys)
unfolding joined
joined_all [] ys zero past = refl
joined_all [] ys (suc i) past = refl
joined_all (x ∷ xs) [] zero past = refl
joined_all (x ∷ xs) [] (suc i) past = refl
joined_all (x ∷ xs) (y ∷ ys) zero past = absurd (omega arith)
joined_all (x ∷ xs) (y ∷ ys) (suc i) past = ap (λ more. both x y ∷ more) (joined_all xs ys i (omega arith))

drop_none : {A : Type 0} (i : ℕ) → drop i (let none : List A = [] in none) ≡ []
drop_none zero = refl
drop_none (suc i) = refl

settled_further : (ls : List Local) (known : List Known) (i : ℕ) (l : Local) (made : Local) → i < length ls → l ≡ get_or ls i l → plain_local made ≡ with_known (plain_local l) (known_or_not known i) → take i (plain_locals ls) ++ settled (drop i (plain_locals ls)) (drop i known) ≡ take (suc i) (plain_locals (slice_set ls i made)) ++ settled (drop (suc i) (plain_locals (slice_set ls i made))) (drop (suc i) known)
unfolding settled
settled_further [] known i l made within is one = absurd (omega arith)
settled_further (x ∷ ls) [] zero l made within is one = ap (λ y. with_known (plain_local y) (known_or_not [] 0) ∷ settled (plain_locals ls) []) (sym is) ∙ ap (λ p. p ∷ settled (plain_locals ls) []) (sym one)
settled_further (x ∷ ls) (k ∷ known) zero l made within is one = ap (λ y. with_known (plain_local y) k ∷ settled (plain_locals ls) known) (sym is) ∙ ap (λ p. p ∷ settled (plain_locals ls) known) (sym one)
settled_further (x ∷ ls) [] (suc i) l made within is one =
    ap (λ known. plain_local x ∷ take i (plain_locals ls) ++ settled (drop i (plain_locals ls)) known) (sym (drop_none i))
    ∙ ap (λ more. plain_local x ∷ more) (settled_further ls [] i l made (omega arith) is one)
settled_further (x ∷ ls) (k ∷ known) (suc i) l made within is one = ap (λ more. plain_local x ∷ more) (settled_further ls known i l made (omega arith) is one)

pub settled_more : (ls more : List Local) (known : List Known) (i : ℕ) (l made : Local) → i < length ls → l ≡ get_or ls i l → plain_local made ≡ with_known (plain_local l) (known_or_not known i) → more ≡ slice_set ls i made → take i (plain_locals ls) ++ settled (drop i (plain_locals ls)) (drop i known) ≡ take (i + 1) (plain_locals more) ++ settled (drop (i + 1) (plain_locals more)) (drop (i + 1) known)
settled_more ls more known i l made within is one sets =
    let next : suc i ≡ i + 1 = omega arith in
    settled_further ls known i l made within is one ∙ (λ j. take (next j) (plain_locals (sym sets j)) ++ settled (drop (next j) (plain_locals (sym sets j))) (drop (next j) known))

pub settled_all : (ls : List PlainLocal) (known : List Known) (i : ℕ) → length ls ≤ i → take i ls ++ settled (drop i ls) (drop i known) ≡ ls
unfolding settled
settled_all ls known i past = (λ j. take_all i ls past j ++ settled (drop_all i ls past j) (drop i known)) ∙ append-nil ls

-- of locals up to one where a test shows these names
pub shown_more : (names : List ℕ) (ls : List Local) (i : ℕ) (l : Local) (made more : List Standing) (s : Standing) → i < length ls → l ≡ get_or ls i l → plain_standings made ≡ known_at (narrowed names (plain_locals (take i ls))) → plain_standing s ∷ [] ≡ known_at (narrowed names (plain_local l ∷ [])) → more ≡ made ++ s ∷ [] → plain_standings more ≡ known_at (narrowed names (plain_locals (take (i + 1) ls)))
unfolding known_at narrowed
shown_more names ls i l made more s within is so_far one grown =
    let stand : List PlainLocal → List Known = λ ps. known_at (narrowed names ps) in
    ap plain_standings grown ∙ map-append plain_standing made (s ∷ []) ∙ (λ j. so_far j ++ one j)
    ∙ sym (ap (λ xs. stand (plain_locals xs)) (take_more ls i l within ∙ ap (λ z. take i ls ++ z ∷ []) (sym is)) ∙ ap stand (map-append plain_local (take i ls) (l ∷ [])) ∙ ap (map known_of) (map-append _ (plain_locals (take i ls)) (plain_local l ∷ [])) ∙ map-append known_of (narrowed names (plain_locals (take i ls))) (narrowed names (plain_local l ∷ [])))

pub none_shown : (names : List ℕ) → known_at (narrowed names []) ≡ []
unfolding known_at narrowed
none_shown names = refl

pub ruleset shown_laws = (shown_more, none_shown)
