-- Classes have names of their own, and so have the methods of a class: a name tells its number.
use Rattle.std.proofs.Common.{◌≡◌, ℕ, zero, suc, arith, ◌+◌, Bool, true, false, cond, not, Option, Some, None, List, [], ◌∷◌, ◌++◌, unwrap_or, refl, sym, ap, ◌∙◌, subst, true≢false, map as over}
use Rattle.std.specs.Prelude.{◌==◌, ◌||◌, ◌&&◌, slice_get, filter, nat_eq}
use Rattle.std.specs.List.{list_any, position_from}
use Rattle.std.specs.Cmp.Derive.{both_true as both_hold}
use Rattle.std.proofs.lemmas.Bool.{eqb-true, eq-eqb, not-true, not_from_false, false_from_ne_true}
use Rattle.std.proofs.lemmas.Option.{same_Some, none-some}
use Rattle.py_tree.specs.declared.rule.Rule.TheVariants.{TooMany, ReservedName, DuplicateClass, DuplicateMember}
use Rattle.py_tree.specs.declared.rule.RuleFault.{RuleFault}
use Rattle.py_tree.specs.PlainProgram.{PlainMethod, PlainClass, PlainProgram}
use Rattle.py_tree.specs.ClassRules.{PlainTable, broken, is_full, is_reserved, is_dunder, is_init, is_called, is_class, is_member, text_of, first_behind, first_in, class_name_fault, class_fault, member_name_fault, member_fault, param_fault, result_fault, init_body_fault, whole_fault, methods_of as methods_among, program_fault, table_of, tables_of, PlainSig, sig_of}
use Rattle.py_tree.specs.Flow.{flow_fault}
use Rattle.py_tree.proofs.ClassRuleLaws.{head_none, rest_none, not_broken, class_kept}
use Rattle.program_meaning.specs.ClassTables.{Source, methods_of}
use Rattle.program_meaning.specs.Evaluation.{method_of}
use Rattle.program_meaning.specs.Fits.{HasTable}
use Rattle.program_meaning.proofs.Places.{any_at}
use Rattle.program_meaning.proofs.TableFacts.{none_before, class_at, methods_here, mapped_at, table_methods}
use Rattle.program_meaning.proofs.TypedParts.{both_true, either_false}

-- each name stands once
abbrev pub distinct : {A : Type 0} → (A → ℕ) → List A → Bool
distinct name [] = true
distinct name (x ∷ xs) = not (list_any (λ y. name y == name x) xs) && distinct name xs

module _ {A : Type 0} (name : A → ℕ) where
  abbrev named_as : A → A → Bool
  named_as x y = name y == name x

  -- what passes is there
  one_passes : (p : A → Bool) (xs : List A) → list_any p xs ≡ true → (k : ℕ) × (x : A) × (slice_get xs k ≡ Some x) × (p x ≡ true)
  one_passes p [] h = absurd (true≢false (sym h))
  one_passes p (x ∷ xs) h = by (p x) refl h (one_passes p xs)
    where
      by : (b : Bool) → p x ≡ b → (b || list_any p xs) ≡ true → (list_any p xs ≡ true → (k : ℕ) × (y : A) × (slice_get xs k ≡ Some y) × (p y ≡ true)) → (k : ℕ) × (y : A) × (slice_get (x ∷ xs) k ≡ Some y) × (p y ≡ true)
      by true e h rest = (0, x, refl, e)
      by false e h rest = let r : (k : ℕ) × (y : A) × (slice_get xs k ≡ Some y) × (p y ≡ true) = rest h in (suc r.0, r.1, r.2, r.3)

  -- the name of a later item isn't one of those before
  stands_apart : (fault : List A → A → Option RuleFault) → ((before : List A) (x : A) → fault before x ≡ None → list_any (named_as x) before ≡ false)
      → (before xs : List A) (k : ℕ) (x : A) → first_behind fault before xs ≡ None → slice_get xs k ≡ Some x → list_any (named_as x) before ≡ false
  stands_apart fault apart before [] k x none is = absurd (none-some x is)
  stands_apart fault apart before (y ∷ xs) zero x none is = subst (λ z. list_any (named_as z) before ≡ false) (same_Some _ _ is) (apart before y (head_none (fault before y) (first_behind fault (before ++ y ∷ []) xs ∷ []) none))
  stands_apart fault apart before (y ∷ xs) (suc k) x none is =
      let rest : Option RuleFault = first_behind fault (before ++ y ∷ []) xs in
      (none_before (named_as x) before y (stands_apart fault apart (before ++ y ∷ []) xs k x (head_none rest [] (rest_none (fault before y) (rest ∷ []) none)) is)).0

  pub faultless_distinct : (fault : List A → A → Option RuleFault) → ((before : List A) (x : A) → fault before x ≡ None → list_any (named_as x) before ≡ false) → (before xs : List A) → first_behind fault before xs ≡ None → distinct name xs ≡ true
  faultless_distinct fault apart before [] none = refl
  faultless_distinct fault apart before (x ∷ xs) none =
      let rest : Option RuleFault = first_behind fault (before ++ x ∷ []) xs in
      let later : rest ≡ None = head_none rest [] (rest_none (fault before x) (rest ∷ []) none) in
      both_hold
      (not_from_false (list_any (named_as x) xs) (false_from_ne_true (list_any (named_as x) xs) (λ e.
      let y : (k : ℕ) × (y : A) × (slice_get xs k ≡ Some y) × (named_as x y ≡ true) = one_passes (named_as x) xs e in
      let other : (name x == name y.1) ≡ false = (none_before (named_as y.1) before x (stands_apart fault apart (before ++ x ∷ []) xs y.0 y.1 later y.2)).1 in
      true≢false (sym (eq-eqb (name x) (name y.1) (sym (eqb-true (name y.1) (name x) y.3))) ∙ other))))
      (faultless_distinct fault apart (before ++ x ∷ []) xs later)

  any_filtered : (p q : A → Bool) (xs : List A) → list_any p xs ≡ false → list_any p (filter q xs) ≡ false
  any_filtered p q [] h = h
  any_filtered p q (x ∷ xs) h =
      let a : (p x ≡ false) × (list_any p xs ≡ false) = either_false (p x) (list_any p xs) h in
      by (q x) a.0 (any_filtered p q xs a.1)
    where
      by : (b : Bool) → p x ≡ false → list_any p (filter q xs) ≡ false → list_any p (cond b (x ∷ filter q xs) (filter q xs)) ≡ false
      by true e rest = ap (λ c. c || list_any p (filter q xs)) e ∙ rest
      by false e rest = rest

  pub distinct_filtered : (q : A → Bool) (xs : List A) → distinct name xs ≡ true → distinct name (filter q xs) ≡ true
  distinct_filtered q [] h = h
  distinct_filtered q (x ∷ xs) h =
      let a : (not (list_any (named_as x) xs) ≡ true) × (distinct name xs ≡ true) = both_true (not (list_any (named_as x) xs)) (distinct name xs) h in
      by (q x) (any_filtered (named_as x) q xs (not-true (list_any (named_as x) xs) a.0)) (distinct_filtered q xs a.1)
    where
      by : (b : Bool) → list_any (named_as x) (filter q xs) ≡ false → distinct name (filter q xs) ≡ true → distinct name (cond b (x ∷ filter q xs) (filter q xs)) ≡ true
      by true e rest = both_hold (ap not e) rest
      by false e rest = rest

  -- each stands where its name is found
  pub place_of_name : (xs : List A) (i k : ℕ) (x : A) → distinct name xs ≡ true → slice_get xs k ≡ Some x → position_from (λ y. nat_eq (name y) (name x)) i xs ≡ Some (i + k)
  place_of_name [] i k x h is = absurd (none-some x is)
  place_of_name (y ∷ xs) i zero x h is =
      let same : i ≡ i + 0 = omega arith in
      ap (λ b. cond b (Some i) (position_from (λ z. nat_eq (name z) (name x)) (i + 1) xs)) (eq-eqb (name y) (name x) (ap name (same_Some _ _ is))) ∙ ap Some same
  place_of_name (y ∷ xs) i (suc k) x h is =
      let a : (not (list_any (named_as y) xs) ≡ true) × (distinct name xs ≡ true) = both_true (not (list_any (named_as y) xs)) (distinct name xs) h in
      let same : i + 1 + k ≡ i + suc k = omega arith in
      by (name y == name x) refl (not-true (list_any (named_as y) xs) a.0) (place_of_name xs (i + 1) k x a.1 is ∙ ap Some same)
    where
      by : (b : Bool) → (name y == name x) ≡ b → list_any (named_as y) xs ≡ false → position_from (λ z. nat_eq (name z) (name x)) (i + 1) xs ≡ Some (i + suc k) → cond b (Some i) (position_from (λ z. nat_eq (name z) (name x)) (i + 1) xs) ≡ Some (i + suc k)
      by true e none rest = absurd (true≢false (sym (any_at (named_as y) xs k x is (eq-eqb (name x) (name y) (sym (eqb-true (name y) (name x) e)))) ∙ none))
      by false e none rest = rest

  pub place_at : (xs : List A) (k : ℕ) (x : A) → distinct name xs ≡ true → slice_get xs k ≡ Some x → position_from (λ y. nat_eq (name y) (name x)) 0 xs ≡ Some k
  place_at xs k x h is =
      let same : 0 + k ≡ k = omega arith in
      place_of_name xs 0 k x h is ∙ ap Some same

-- In a program

module _ (names : List (List ℕ)) (program : PlainProgram) (kept : program_fault names program ≡ None) (flows : flow_fault names program ≡ None) where
  class_apart : (before : List PlainClass) (c : PlainClass) → class_name_fault before c ≡ None → list_any (λ (d : PlainClass). d.name == c.name) before ≡ false
  unfolding class_name_fault is_class
  class_apart before c none =
      let reserved : Option RuleFault = broken ReservedName c.place (is_reserved c.name) in
      let twice : Option RuleFault = broken DuplicateClass c.place (is_class before c.name) in
      not_broken DuplicateClass c.place (is_class before c.name) (head_none twice [] (rest_none reserved (twice ∷ []) (rest_none (broken TooMany c.place (is_full _)) (reserved ∷ twice ∷ []) none)))

  pub classes_distinct : distinct (λ (c : PlainClass). c.name) program ≡ true
  unfolding program_fault
  classes_distinct = faultless_distinct (λ (c : PlainClass). c.name) class_name_fault class_apart [] program (head_none (first_in class_name_fault program) (first_in (λ before c. class_fault names program c) program ∷ []) kept)

  table_named : (c : PlainClass) → (table_of names c).name ≡ c.name
  unfolding table_of
  table_named c = refl

  -- two classes of one name are one
  pub same_class : (j k : ℕ) (t u : PlainTable) → HasTable (tables_of names program) j t → HasTable (tables_of names program) k u → t.name ≡ u.name → j ≡ k
  same_class j k t u has there same =
      let c : (c : PlainClass) × (slice_get program j ≡ Some c) × (table_of names c ≡ t) = class_at names program kept j t has in
      let e : (e : PlainClass) × (slice_get program k ≡ Some e) × (table_of names e ≡ u) = class_at names program kept k u there in
      let one : c.0.name ≡ e.0.name = sym (table_named c.0) ∙ ap (λ (t : PlainTable). t.name) c.2 ∙ same ∙ ap (λ (t : PlainTable). t.name) (sym e.2) ∙ table_named e.0 in
      same_Some _ _ (sym (place_at (λ (c : PlainClass). c.name) program j c.0 classes_distinct c.1) ∙ ap (λ x. position_from (λ (c : PlainClass). nat_eq c.name x) 0 program) one ∙ place_at (λ (c : PlainClass). c.name) program k e.0 classes_distinct e.1)

  member_apart : (members before : List PlainMethod) (m : PlainMethod) → member_fault names program members before m ≡ None → list_any (λ (d : PlainMethod). d.name == m.name) before ≡ false
  unfolding member_fault member_name_fault is_member
  member_apart members before m none =
      let name : member_name_fault names before m ≡ None = head_none (member_name_fault names before m) (first_in (param_fault program) m.params ∷ result_fault names program m ∷ cond (is_init names m.name) (init_body_fault names program members m.body) None ∷ []) none in
      let reserved : Option RuleFault = broken ReservedName m.place (is_called names m.name && is_dunder (text_of names m.name)) in
      let twice : Option RuleFault = broken DuplicateMember m.place (is_member before m.name) in
      not_broken DuplicateMember m.place (is_member before m.name) (head_none twice [] (rest_none reserved (twice ∷ []) (rest_none (broken TooMany m.place _) (reserved ∷ twice ∷ []) name)))

  pub methods_distinct : (k : ℕ) (c : PlainClass) → slice_get program k ≡ Some c → distinct (λ (m : PlainMethod). m.name) (methods_among names c.members) ≡ true
  unfolding methods_among class_fault
  methods_distinct k c is =
      distinct_filtered (λ (m : PlainMethod). m.name) _ c.members
      (faultless_distinct (λ (m : PlainMethod). m.name) (member_fault names program c.members) (member_apart c.members) [] c.members
      (head_none (first_in (member_fault names program c.members) c.members) (whole_fault names c ∷ []) (class_kept names program k c kept is)))

  abbrev src : Source
  src = record { program = program; names = names }

  -- the method of a signature
  pub record IsMethod (class method : ℕ) (sig : PlainSig) : Type 0 where
    pub is : PlainMethod
    pub at : slice_get (methods_of src class) method ≡ Some is
    pub is_sig : sig_of is ≡ sig
    pub by_name : method_of src class is.name ≡ method

  -- the number of a method by its name
  number_is : (class method : ℕ) (c : PlainClass) (m : PlainMethod) → slice_get program class ≡ Some c → slice_get (methods_of src class) method ≡ Some m → method_of src class m.name ≡ method
  unfolding method_of
  number_is class method c m is at =
      let here : methods_of src class ≡ methods_among names c.members = methods_here names program kept class c is in
      ap (λ o. unwrap_or o 0) (place_at (λ (m : PlainMethod). m.name) (methods_of src class) method m (subst (λ ms. distinct (λ (m : PlainMethod). m.name) ms ≡ true) (sym here) (methods_distinct class c is)) at)

  pub method_is : (class method : ℕ) (t : PlainTable) (sig : PlainSig) → HasTable (tables_of names program) class t → slice_get t.methods method ≡ Some sig → IsMethod class method sig
  method_is class method t sig has is =
      let k : (k : PlainClass) × (slice_get program class ≡ Some k) × (table_of names k ≡ t) = class_at names program kept class t has in
      let ms : List PlainMethod = methods_among names k.0.members in
      let in_table : t.methods ≡ over sig_of ms = ap (λ (u : PlainTable). u.methods) (sym k.2) ∙ table_methods names program kept k.0 in
      let m : (m : PlainMethod) × (slice_get ms method ≡ Some m) × (sig_of m ≡ sig) = mapped_at sig_of ms method sig (sym (ap (λ sigs. slice_get sigs method) in_table) ∙ is) in
      let at : slice_get (methods_of src class) method ≡ Some m.0 = ap (λ ms. slice_get ms method) (methods_here names program kept class k.0 k.1) ∙ m.1 in
      record { is = m.0; at = at; is_sig = m.2; by_name = number_is class method k.0 m.0 k.1 at }
