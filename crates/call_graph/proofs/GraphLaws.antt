-- From the marks of each class to those of a program.
use Rattle.std.proofs.Common.{inl, inr, ◌⊎◌, ◌≡◌, ℕ, zero, suc, arith, ◌+◌, ◌<◌, ◌≤◌, Bool, true, false, List, [], ◌∷◌, ◌++◌, length, map, take, get_or, Some, None, refl, sym, ap, subst, ◌∙◌}
use Rattle.std.specs.Prelude.{slice_get, option_map, ◌↔◌}
use Rattle.std.specs.List.{AllZip}
use Rattle.std.proofs.lemmas.List.{length-map, take_all}
use Rattle.std.proofs.lemmas.Option.{slice_get_within, slice_get-get_or, slice_get-map}
use Rattle.py_tree.specs.declared.program.Class.{Class}
use Rattle.py_tree.specs.PlainProgram.{PlainClass, PlainProgram, plain_class}
use Rattle.py_tree.specs.ClassRules.{methods_of}
use Rattle.call_graph.specs.declared.sites.Site.{Site}
use Rattle.call_graph.specs.Suspending.{method_names, method_sites, class_sites, Holds, MaySuspend}
use Rattle.call_graph.specs.Suspending as s
use Rattle.call_graph.specs.Marks.{marked, MayLeave, AreExact, is_marked, IsGraph}
use Rattle.call_graph.specs.Marks as m
use Rattle.py_tree.proofs.ListWalks.{map_more}

module _ (names : List (List ℕ)) (program : PlainProgram) where
  to_program : (class : ℕ) (c : PlainClass) → slice_get program class ≡ Some c → (method : ℕ) → MayLeave (class_sites names program c) method → MaySuspend names program class method
  to_program class c is _ (m.leaves method row row_is among) = s.leaves class method (record { of_class = c; class_is = is; held = row; held_is = row_is; among = among })
  to_program class c is _ (m.calls method called row row_is among more) =
      s.calls class method called (record { of_class = c; class_is = is; held = row; held_is = row_is; among = among }) (to_program class c is called more)

  held_by : (class : ℕ) (c : PlainClass) → slice_get program class ≡ Some c → (method : ℕ) (site : Site) (h : Holds names program class method site) → slice_get (class_sites names program c) method ≡ Some h.held
  held_by class c is method site h =
      let same : c ≡ h.of_class = cc in
      ap (λ c. slice_get (class_sites names program c) method) same ∙ h.held_is

  pub to_class : (class method : ℕ) → MaySuspend names program class method → (c : PlainClass) → slice_get program class ≡ Some c → MayLeave (class_sites names program c) method
  to_class _ _ (s.leaves class method h) c is = m.leaves method h.held (held_by class c is method _ h) h.among
  to_class _ _ (s.calls class method called h more) c is =
      m.calls method called h.held (held_by class c is method _ h) h.among (to_class class called more c is)

  has_class : (class method : ℕ) → MaySuspend names program class method → (c : PlainClass) × (slice_get program class ≡ Some c)
  has_class _ _ (s.leaves class method h) = (h.of_class, h.class_is)
  has_class _ _ (s.calls class method called h more) = (h.of_class, h.class_is)

-- these classes of a program have these marks
pub record AreMarked (names : List (List ℕ)) (program classes : PlainProgram) (graph : List (List Bool)) : Type 0 where
  pub zip : AllZip (λ c marks. AreExact (class_sites names program c) marks) classes graph

snoc : {A B : Type 0} (R : A → B → Type 0) (xs : List A) (ys : List B) (x : A) (y : B) → AllZip R xs ys → R x y → AllZip R (xs ++ x ∷ []) (ys ++ y ∷ [])
snoc R [] [] x y zip one = (one, tt)
snoc R [] (b ∷ ys) x y zip one = absurd zip
snoc R (a ∷ xs) [] x y zip one = absurd zip
snoc R (a ∷ xs) (b ∷ ys) x y zip one = (zip.0, snoc R xs ys x y zip.1 one)

-- what stands at one place of both lists
zip_at : {A : Type 0} (R : A → List Bool → Type 0) (xs : List A) (ys : List (List Bool)) → AllZip R xs ys → (i : ℕ) → ((x : A) × (slice_get xs i ≡ Some x) × R x (get_or ys i [])) ⊎ ((slice_get xs i ≡ None) × (get_or ys i [] ≡ []))
zip_at R [] [] zip i = inr (refl, refl)
zip_at R [] (b ∷ ys) zip i = absurd zip
zip_at R (a ∷ xs) [] zip i = absurd zip
zip_at R (a ∷ xs) (b ∷ ys) zip zero = inl (a, refl, zip.0)
zip_at R (a ∷ xs) (b ∷ ys) zip (suc i) = zip_at R xs ys zip.1 i

pub no_classes : (names : List (List ℕ)) (program : PlainProgram) → AreMarked names program [] []
no_classes names program = record { zip = tt }

pub classes_more : (names : List (List ℕ)) (program : PlainProgram) (cs : List Class) (i : ℕ) (c : Class) (old new : List (List Bool)) (marks : List Bool) → i < length cs → c ≡ get_or cs i c → AreMarked names program (map plain_class (take i cs)) old → AreExact (class_sites names program (plain_class c)) marks → new ≡ old ++ marks ∷ [] → AreMarked names program (map plain_class (take (i + 1) cs)) new
classes_more names program cs i c old new marks within is so_far one more =
    let R = λ (c : PlainClass) (marks : List Bool). AreExact (class_sites names program c) marks in
    let joined : AllZip R (map plain_class (take i cs) ++ plain_class c ∷ []) (old ++ marks ∷ []) = snoc R (map plain_class (take i cs)) old (plain_class c) marks so_far.zip one in
    record { zip = rw (map_more plain_class cs i c within is, more) joined }

counted : (names : List (List ℕ)) (program : PlainProgram) (cs : PlainProgram) (graph : List (List Bool)) → AllZip (λ c marks. AreExact (class_sites names program c) marks) cs graph → map length graph ≡ map (λ c. length (methods_of names c.members)) cs
unfolding class_sites
counted names program [] [] zip = refl
counted names program [] (m ∷ graph) zip = absurd zip
counted names program (c ∷ cs) [] zip = absurd zip
counted names program (c ∷ cs) (m ∷ graph) zip =
    let one : length m ≡ length (methods_of names c.members) = zip.0.each ∙ length-map (methods_of names c.members) (method_sites program (method_names (methods_of names c.members))) in
    λ i. one i ∷ counted names program cs graph zip.1 i

exact : (names : List (List ℕ)) (program : PlainProgram) (graph : List (List Bool)) → AreMarked names program program graph → (class method : ℕ) → (is_marked graph class method ≡ true) ↔ MaySuspend names program class method
exact names program graph all class method =
    let R = λ (c : PlainClass) (marks : List Bool). AreExact (class_sites names program c) marks in
    elim (zip_at R program graph all.zip class) [
      | inl h ↦ (λ yes. to_program names program class h.0 h.1 method ((h.2.exact method).0 yes), λ may. (h.2.exact method).1 (to_class names program class method may h.0 h.1))
      | inr e ↦ (
        λ yes. let no : is_marked graph class method ≡ false = ap (λ marks. marked marks method) e.1 in absurd (cc),
        λ may. let some = has_class names program class method may in absurd (let none = e.0 in let is = some.1 in cc),
      )
    ]

pub made : (names : List (List ℕ)) (cs : List Class) (i : ℕ) (graph : List (List Bool)) → length cs ≤ i → AreMarked names (map plain_class cs) (map plain_class (take i cs)) graph → IsGraph names (map plain_class cs) graph
made names cs i graph past marked =
    let program = map plain_class cs in
    let all : AreMarked names program program graph = subst (λ ds. AreMarked names program (map plain_class ds) graph) (take_all i cs past) marked in
    record { each = counted names program program graph all.zip; exact = exact names program graph all }

some_injective : (a b : ℕ) → Some a ≡ Some b → a ≡ b
some_injective a b same = cc

-- a method of a program has its mark
pub has_mark : (names : List (List ℕ)) (program : PlainProgram) (graph : List (List Bool)) → IsGraph names program graph → (class : ℕ) (c : PlainClass) → slice_get program class ≡ Some c → (method : ℕ) → method < length (methods_of names c.members) → (class < length graph) × (method < length (get_or graph class []))
has_mark names program graph is class c class_is method within =
    let counts = λ (c : PlainClass). length (methods_of names c.members) in
    let as_many : length graph ≡ length program = sym (length-map graph length) ∙ ap length is.each ∙ length-map program counts in
    let there : class < length program = slice_get_within program class c class_is in
    let reached : class < length graph = omega arith in
    let row : slice_get graph class ≡ Some (get_or graph class []) = slice_get-get_or graph class [] reached in
    let counted : length (get_or graph class []) ≡ counts c = some_injective _ _ (sym (slice_get-map length graph class ∙ ap (option_map length) row) ∙ ap (λ ns. slice_get ns class) is.each ∙ slice_get-map counts program class ∙ ap (option_map counts) class_is) in
    (reached, omega arith)

pub ruleset graph_laws = (no_classes, classes_more, made)
