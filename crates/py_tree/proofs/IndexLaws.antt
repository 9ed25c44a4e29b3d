-- The tables of the parts of classes.
use Rattle.std.proofs.Common.{◌≡◌, ℕ, zero, suc, arith, ◌+◌, ◌<◌, ◌≤◌, Bool, true, false, cond, Option, Some, None, List, [], ◌∷◌, ◌++◌, length, map, take, drop, get_or, append-nil, append_assoc, nat_eq, ◌⊎◌, inl, inr, refl, sym, ap, subst, ◌∙◌}
use Rattle.std.specs.Prelude.{◌==◌, slice_get, option_map, option_and_then, find, ⊤}
use Rattle.std.specs.Borrow.{Bor}
use Rattle.std.specs.Slice.{IsItemAt}
use Rattle.std.specs.List.{position_from}
use Rattle.std.proofs.lemmas.List.{map-append, drop_all}
use Rattle.std.proofs.lemmas.Option.{slice_get-map, slice_get-get_or, slice_get_within, slice_get_past, slice_get_cases}
use Rattle.std.proofs.lemmas.List.Elements.{filter-append}
use Rattle.py_tree.specs.declared.names.Name.{Name}
use Rattle.py_tree.specs.declared.program.Method.{Method}
use Rattle.py_tree.specs.declared.class_index.ClassIndex.{ClassIndex}
use Rattle.py_tree.specs.PlainProgram.{PlainMethod, PlainClass, PlainProgram, plain_method, plain_methods, plain_classes}
use Rattle.py_tree.specs.ClassRules.{is_called, is_init, methods_of, init_of, key_of, key_method, body_of, field_names}
use Rattle.py_tree.specs.Acceptance.{KeepsRules, members_of, members_at}
use Rattle.py_tree.specs.ClassViews.{numbers_of}
use Rattle.py_tree.specs.ClassIndices.{HasPlaces, called_places, IsIndex, AreIndices, Keeps}
use Rattle.indexmap.specs.IndexMap.{IndexMap, get}
use Rattle.py_tree.proofs.DeclarationLaws.{no_names as no_names_declared}
use Rattle.py_tree.proofs.ClassRuleLaws.{few_classes, few_methods}
use Rattle.py_tree.proofs.ListWalks.{map_from, map_more}

-- the first place of a name, from an item on
pub place_from_item : (xs : List Name) (i : ℕ) (x : Name) (name : ℕ) → i < length xs → x ≡ get_or xs i x → position_from (λ n. n == name) i (numbers_of (drop i xs)) ≡ cond (x.0 == name) (Some i) (position_from (λ n. n == name) (i + 1) (numbers_of (drop (i + 1) xs)))
place_from_item xs i x name within is = ap (position_from (λ n. n == name) i) (map_from (λ n. n.0) xs i x within is)

-- the place of an item by what it is seen as
pub place_of_item : {A B : Type 0} (of : A → B) (test : B → Bool) (n : ℕ) (xs : List A) → position_from test n (map of xs) ≡ position_from (λ x. test (of x)) n xs
place_of_item of test n [] = refl
place_of_item of test n (x ∷ xs) = ap (cond (test (of x)) (Some n)) (place_of_item of test (n + 1) xs)

-- the methods that are called by name, of one member more
pub called_more : (names : List (List ℕ)) (ms : List Method) (i : ℕ) (m : Method) (b : Bool) → i < length ms → m ≡ get_or ms i m → is_called names m.name.0 ≡ b → methods_of names (plain_methods (take (i + 1) ms)) ≡ methods_of names (plain_methods (take i ms)) ++ cond b (plain_method m ∷ []) []
unfolding methods_of
called_more names ms i m b within is called =
    ap (methods_of names) (map_more plain_method ms i m within is)
    ∙ filter-append (λ m. is_called names m.name) (plain_methods (take i ms)) (plain_method m ∷ [])
    ∙ ap (λ b. methods_of names (plain_methods (take i ms)) ++ cond b (plain_method m ∷ []) []) called

no_methods : (names : List (List ℕ)) → methods_of names [] ≡ []
unfolding methods_of
no_methods names = refl

pub no_names : (names : List (List ℕ)) → [] ≡ map (λ m. m.name) (methods_of names [])
no_names names = sym (ap (map (λ m. m.name)) (no_methods names))

no_places : (names : List (List ℕ)) (at : ℕ) → called_places names at [] ≡ []
unfolding called_places
no_places names at = refl

-- all members are past
pub places_end : (names : List (List ℕ)) (ms : List Method) (places : List ℕ) (at : ℕ) → length ms ≤ at → places ++ called_places names at (plain_methods (drop at ms)) ≡ places
places_end names ms places at past = ap (λ xs. places ++ called_places names at (plain_methods xs)) (drop_all at ms past) ∙ ap (λ rest. places ++ rest) (no_places names at) ∙ append-nil places

-- a member in the table of names, or in that of places
module _ (names : List (List ℕ)) (ms : List Method) (i : ℕ) (m : Method) (within : i < length ms) (is : m ≡ get_or ms i m) where
  abbrev so_far : List PlainMethod
  so_far = methods_of names (plain_methods (take i ms))

  abbrev up_to_here : List PlainMethod
  up_to_here = methods_of names (plain_methods (take (i + 1) ms))

  has_it : is_called names m.name.0 ≡ true → up_to_here ≡ so_far ++ plain_method m ∷ []
  has_it called = called_more names ms i m true within is called

  passes : is_called names m.name.0 ≡ false → up_to_here ≡ so_far
  passes other = called_more names ms i m false within is other ∙ append-nil so_far

  pub name_joins : (old new : List Name) → numbers_of old ≡ map (λ m. m.name) so_far → new ≡ old ++ m.name ∷ [] → is_called names m.name.0 ≡ true → numbers_of new ≡ map (λ m. m.name) up_to_here
  name_joins old new before more called =
      ap numbers_of more ∙ map-append (λ n. n.0) old (m.name ∷ []) ∙ ap (λ ns. ns ++ m.name.0 ∷ []) before
      ∙ sym (ap (map (λ m. m.name)) (has_it called) ∙ map-append (λ m. m.name) so_far (plain_method m ∷ []))

  pub name_stays : (old : List Name) → numbers_of old ≡ map (λ m. m.name) so_far → is_called names m.name.0 ≡ false → numbers_of old ≡ map (λ m. m.name) up_to_here
  name_stays old before other = before ∙ sym (ap (map (λ m. m.name)) (passes other))

  from_here : (b : Bool) → is_called names m.name.0 ≡ b → called_places names i (plain_methods (drop i ms)) ≡ cond b (i ∷ called_places names (i + 1) (plain_methods (drop (i + 1) ms))) (called_places names (i + 1) (plain_methods (drop (i + 1) ms)))
  unfolding called_places
  from_here b called =
      ap (called_places names i) (map_from plain_method ms i m within is)
      ∙ ap (λ b. cond b (i ∷ called_places names (i + 1) (plain_methods (drop (i + 1) ms))) (called_places names (i + 1) (plain_methods (drop (i + 1) ms)))) called

  pub place_joins : (places new all : List ℕ) → places ++ called_places names i (plain_methods (drop i ms)) ≡ all → new ≡ places ++ i ∷ [] → is_called names m.name.0 ≡ true → new ++ called_places names (i + 1) (plain_methods (drop (i + 1) ms)) ≡ all
  place_joins places new all before more called =
      ap (λ ps. ps ++ called_places names (i + 1) (plain_methods (drop (i + 1) ms))) more
      ∙ append_assoc places (i ∷ []) (called_places names (i + 1) (plain_methods (drop (i + 1) ms)))
      ∙ sym (ap (λ rest. places ++ rest) (from_here true called)) ∙ before

  pub place_stays : (places all : List ℕ) → places ++ called_places names i (plain_methods (drop i ms)) ≡ all → is_called names m.name.0 ≡ false → places ++ called_places names (i + 1) (plain_methods (drop (i + 1) ms)) ≡ all
  place_stays places all before other = sym (ap (λ rest. places ++ rest) (from_here false other)) ∙ before

-- what is kept of classes, one by one
pub Kept : List (List ℕ) → PlainProgram → List ClassIndex → Type 0
Kept names [] [] = ⊤
Kept names [] (x ∷ xs) = ⊥
Kept names (c ∷ cs) [] = ⊥
Kept names (c ∷ cs) (x ∷ xs) = IsIndex names c.members x × Kept names cs xs

-- and of one more
pub kept_more : (names : List (List ℕ)) (cs : PlainProgram) (xs : List ClassIndex) (c : PlainClass) (x : ClassIndex) → Kept names cs xs → IsIndex names c.members x → Kept names (cs ++ c ∷ []) (xs ++ x ∷ [])
unfolding Kept
kept_more names [] [] c x all is = (is, tt)
kept_more names [] (y ∷ ys) c x all is = absurd all
kept_more names (d ∷ cs) [] c x all is = absurd all
kept_more names (d ∷ cs) (y ∷ ys) c x all is = (all.0, kept_more names cs ys c x all.1 is)

same_class : {c d : PlainClass} → Some c ≡ Some d → c ≡ d
same_class e = cc

same_index : {x y : ClassIndex} → Some x ≡ Some y → x ≡ y
same_index e = cc

no_class : {c : PlainClass} → None ≡ Some c → ⊥
no_class e = cc

kept_at : (names : List (List ℕ)) (cs : PlainProgram) (xs : List ClassIndex) → Kept names cs xs → (i : ℕ) (c : PlainClass) (x : ClassIndex) → slice_get cs i ≡ Some c → slice_get xs i ≡ Some x → IsIndex names c.members x
unfolding Kept
kept_at names [] [] all i c x has kept = absurd (no_class has)
kept_at names [] (y ∷ ys) all i c x has kept = absurd all
kept_at names (d ∷ cs) [] all i c x has kept = absurd all
kept_at names (d ∷ cs) (y ∷ ys) all zero c x has kept = subst (IsIndex names c.members) (same_index kept) (subst (λ d. IsIndex names d.members y) (same_class has) all.0)
kept_at names (d ∷ cs) (y ∷ ys) all (suc i) c x has kept = kept_at names cs ys all.1 i c x has kept

as_many : (names : List (List ℕ)) (cs : PlainProgram) (xs : List ClassIndex) → Kept names cs xs → length xs ≡ length cs
unfolding Kept
as_many names [] [] all = refl
as_many names [] (y ∷ ys) all = absurd all
as_many names (d ∷ cs) [] all = absurd all
as_many names (d ∷ cs) (y ∷ ys) all = ap suc (as_many names cs ys all.1)

pub are_indices : (names : List (List ℕ)) (cs : PlainProgram) (xs : List ClassIndex) → Kept names cs xs → AreIndices names cs xs
are_indices names cs xs all = record { count = as_many names cs xs all; each = kept_at names cs xs all }

pub none_kept : (names : List (List ℕ)) → Kept names [] []
unfolding Kept
none_kept names = tt

-- Look-ups

-- what a slice lends stands in its list
pub item_got : {X : Type 0} (xs : List X) (i : ℕ) (r : Option (Bor X)) → IsItemAt xs i r → slice_get xs i ≡ option_map (λ x. x.now) r
item_got xs i None got = slice_get_past xs i got.3
item_got xs i (Some x) got = slice_get-get_or xs i x.now got.3.0 ∙ ap Some (sym got.1)

past_end : {X : Type 0} (xs : List X) (i : ℕ) → slice_get xs i ≡ None → length xs ≤ i
past_end xs i none = by (slice_get_cases xs i).1
  where
    by : ((x : _) × (i < length xs) × (slice_get xs i ≡ Some x) × (get_or xs i x ≡ x)) ⊎ ((length xs ≤ i) × (slice_get xs i ≡ None)) → length xs ≤ i
    by (inl found) = let bad : None ≡ Some found.0 = sym none ∙ found.2 in cc
    by (inr past) = past.0

-- what is kept of a class, by its number
module _ (names : List (List ℕ)) (program : PlainProgram) (indices : List ClassIndex) (are : AreIndices names program indices) where
  kept_of : (class : ℕ) (a : Option PlainClass) (b : Option (Bor ClassIndex)) → slice_get program class ≡ a → slice_get indices class ≡ option_map (λ x. x.now) b → Keeps names (members_of a) b
  kept_of class None None has kept = refl
  kept_of class (Some c) (Some x) has kept = are.each class c x.now has kept
  kept_of class None (Some x) has kept = absurd (omega (arith, slice_get_within indices class x.now kept, past_end program class has, are.count))
  kept_of class (Some c) None has kept = absurd (omega (arith, slice_get_within program class c has, past_end indices class kept, are.count))

  pub index_kept : (class : ℕ) (b : Option (Bor ClassIndex)) → slice_get indices class ≡ option_map (λ x. x.now) b → Keeps names (members_at program class) b
  index_kept class b kept = kept_of class (slice_get program class) b refl kept

-- the item with which the rest of a list begins
rest_head : {X : Type 0} (all : List X) (n : ℕ) (x : X) (xs : List X) → drop n all ≡ x ∷ xs → slice_get all n ≡ Some x
rest_head [] zero x xs is = cc
rest_head [] (suc n) x xs is = cc
rest_head (y ∷ ys) zero x xs is = cc
rest_head (y ∷ ys) (suc n) x xs is = rest_head ys n x xs is

rest_tail : {X : Type 0} (all : List X) (n : ℕ) (x : X) (xs : List X) → drop n all ≡ x ∷ xs → drop (suc n) all ≡ xs
rest_tail [] zero x xs is = cc
rest_tail [] (suc n) x xs is = cc
rest_tail (y ∷ ys) zero x xs is = cc
rest_tail (y ∷ ys) (suc n) x xs is = rest_tail ys n x xs is

rest_more : {X : Type 0} (all : List X) (n : ℕ) (x : X) (xs : List X) → drop n all ≡ x ∷ xs → drop (n + 1) all ≡ xs
rest_more all n x xs is = let next : n + 1 ≡ suc n = omega arith in ap (λ k. drop k all) next ∙ rest_tail all n x xs is

-- what stands at the places of the methods
stand : (names : List (List ℕ)) (all ms : List PlainMethod) (place : ℕ) → drop place all ≡ ms → map (slice_get all) (called_places names place ms) ≡ map Some (methods_of names ms)
unfolding called_places methods_of
stand names all [] place are = refl
stand names all (m ∷ ms) place are = by (is_called names m.name) (rest_head all place m ms are) (stand names all ms (place + 1) (rest_more all place m ms are))
  where
    by : (b : Bool) → slice_get all place ≡ Some m → map (slice_get all) (called_places names (place + 1) ms) ≡ map Some (methods_of names ms)
        → map (slice_get all) (cond b (place ∷ called_places names (place + 1) ms) (called_places names (place + 1) ms)) ≡ map Some (cond b (m ∷ methods_of names ms) (methods_of names ms))
    by true here more = λ j. here j ∷ more j
    by false here more = more

joined : {X : Type 0} (f : ℕ → Option X) (place : Option ℕ) (found : Option X) → option_map f place ≡ option_map Some found → found ≡ option_and_then f place
joined f None None is = refl
joined f None (Some x) is = cc
joined f (Some k) None is = cc
joined f (Some k) (Some x) is = cc

-- the first item that passes a test stands at the first place where one does
stands_first : {X : Type 0} (test : X → Bool) (all xs : List X) (n : ℕ) → drop n all ≡ xs → option_and_then (slice_get all) (position_from test n xs) ≡ find test xs
stands_first test all [] n are = refl
stands_first test all (x ∷ xs) n are = by (test x) (rest_head all n x xs are) (stands_first test all xs (n + 1) (rest_more all n x xs are))
  where
    by : (b : Bool) → slice_get all n ≡ Some x → option_and_then (slice_get all) (position_from test (n + 1) xs) ≡ find test xs
        → option_and_then (slice_get all) (cond b (Some n) (position_from test (n + 1) xs)) ≡ cond b (Some x) (find test xs)
    by true here more = here
    by false here more = more

place_within : {X : Type 0} (test : X → Bool) (n : ℕ) (xs : List X) (k : ℕ) → position_from test n xs ≡ Some k → k < n + length xs
place_within test n [] k is = cc
place_within test n (x ∷ xs) k is = by (test x) is (place_within test (n + 1) xs k)
  where
    by : (b : Bool) → cond b (Some n) (position_from test (n + 1) xs) ≡ Some k → (position_from test (n + 1) xs ≡ Some k → k < n + 1 + length xs) → k < n + suc (length xs)
    by true here more = let same : n ≡ k = cc in omega (arith, same)
    by false later more = omega (arith, more later)

-- a table has the place of an item with this name
place_found : {S X : Type 0} (places : IndexMap ℕ ℕ S) (of : X → ℕ) (xs : List X) (name : ℕ) → HasPlaces places (map of xs) → get nat_eq places name ≡ position_from (λ x. of x == name) 0 xs
place_found places of xs name has = has name ∙ place_of_item of (λ n. n == name) 0 xs

-- a class by its name
module _ {S : Type 0} (names : List (List ℕ)) (program : PlainProgram) (classes : IndexMap ℕ ℕ S) (has : HasPlaces classes (map (λ c. c.name) program)) (name : ℕ) where
  pub class_found : (o : Option ℕ) → get nat_eq classes name ≡ o → o ≡ position_from (λ c. c.name == name) 0 program
  class_found o is = sym is ∙ place_found classes (λ c. c.name) program name has

  pub class_fits : (k : ℕ) → KeepsRules names program → get nat_eq classes name ≡ Some k → k ≤ 255
  class_fits k keeps is = omega (arith, few_classes names program keeps.classes, place_within (λ c. c.name == name) 0 program k (sym (class_found (Some k) is)))

-- a class has few methods
pub few_in : (names : List (List ℕ)) (program : PlainProgram) (class : ℕ) → KeepsRules names program → length (methods_of names (members_at program class)) ≤ 256
few_in names program class keeps = by (slice_get program class) refl
  where
    by : (o : Option PlainClass) → slice_get program class ≡ o → length (methods_of names (members_of o)) ≤ 256
    by None is = omega (arith, ap length (no_methods names))
    by (Some c) is = few_methods names program class c keeps.classes is

-- the parts of a class, by what is kept of it
module _ (names : List (List ℕ)) (members : List PlainMethod) (index : ClassIndex) (is : IsIndex names members index) where
  pub method_stands : (number : ℕ) → option_and_then (slice_get members) (slice_get index.methods.items number) ≡ slice_get (methods_of names members) number
  method_stands number =
      let all = slice_get members in
      let same : option_map all (slice_get (called_places names 0 members) number) ≡ option_map Some (slice_get (methods_of names members) number) =
      sym (slice_get-map all (called_places names 0 members) number) ∙ ap (λ xs. slice_get xs number) (stand names members members 0 refl) ∙ slice_get-map Some (methods_of names members) number in
      ap (λ places. option_and_then all (slice_get places number)) is.methods ∙ sym (joined all (slice_get (called_places names 0 members) number) (slice_get (methods_of names members) number) same)

  pub init_stands : option_and_then (slice_get members) index.init ≡ init_of names members
  unfolding init_of
  init_stands = ap (option_and_then (slice_get members)) is.init ∙ stands_first (λ m. is_init names m.name) members members 0 refl

  pub method_found : (name : ℕ) (o : Option ℕ) → get nat_eq index.numbers name ≡ o → o ≡ position_from (λ m. m.name == name) 0 (methods_of names members)
  method_found name o found = sym found ∙ place_found index.numbers (λ m. m.name) (methods_of names members) name is.numbers

  pub method_fits : (name k : ℕ) → length (methods_of names members) ≤ 256 → get nat_eq index.numbers name ≡ Some k → k ≤ 255
  method_fits name k few found = omega (arith, few, place_within (λ m. m.name == name) 0 (methods_of names members) k (sym (method_found name (Some k) found)))

-- a class that defines nothing
module _ (names : List (List ℕ)) (members : List PlainMethod) (none : members ≡ []) where
  pub no_method : (number : ℕ) → slice_get (methods_of names members) number ≡ None
  no_method number = ap (λ ms. slice_get (methods_of names ms) number) none ∙ ap (λ ms. slice_get ms number) (no_methods names)

  pub no_method_named : (name : ℕ) → position_from (λ m. m.name == name) 0 (methods_of names members) ≡ None
  no_method_named name = ap (λ ms. position_from (λ m. m.name == name) 0 (methods_of names ms)) none ∙ ap (position_from (λ m. m.name == name) 0) (no_methods names)

  pub no_init : init_of names members ≡ None
  unfolding init_of
  no_init = ap (find (λ m. is_init names m.name)) none

  pub no_key : key_of names members ≡ None
  unfolding key_of key_method
  no_key = ap (key_of names) none

  pub no_fields : field_names (body_of (init_of names members)) ≡ []
  no_fields = ap (λ init. field_names (body_of init)) no_init ∙ no_names_declared
