-- What holds of the tables of a program that keeps the class rules.
use Rattle.std.proofs.Common.{◌≡◌, ℕ, zero, suc, Bool, true, false, cond, Option, Some, None, List, [], ◌∷◌, ◌++◌, length, map as over, unwrap_or, refl, sym, ap, ◌∙◌, subst}
use Rattle.std.specs.Prelude.{find, position, slice_get, option_map, option_and_then, nat_eq, ◌==◌, ◌||◌, filter}
use Rattle.std.specs.List.{position_from, list_any, All, cons_option}
use Rattle.std.proofs.lemmas.Option.{same_Some, none-some, slice_get-map, slice_get_within, get_or_from_slice_get}
use Rattle.std.proofs.lemmas.Bool.{eq-eqb}
use Rattle.py_tree.specs.declared.rule.Rule.TheVariants.{TooMany, ReservedName, DuplicateClass}
use Rattle.py_tree.specs.declared.rule.RuleFault.{RuleFault}
use Rattle.py_tree.specs.PlainTypes.{PlainTy}
use Rattle.py_tree.specs.PlainStatements.{PlainStmt}
use Rattle.py_tree.specs.PlainProgram.{PlainMethod, PlainClass, PlainProgram}
use Rattle.py_tree.specs.ClassRules.{PlainField, PlainSig, PlainTable, is_reserved, is_class, broken, is_full, first_behind, first_in, class_name_fault, class_fault, program_fault, methods_of as methods_among, init_of as init_among, body_of, declaration, field_declared, fields_of, field_names, sig_of, table_of, tables_of}
use Rattle.py_tree.specs.ExpressionTypes.{table_named, field_in, field_of, method_in, method_of}
use Rattle.py_tree.proofs.ClassRuleLaws.{head_none, rest_none, not_broken}
use Rattle.sf_value.specs.declared.value.Value.{Value}
use Rattle.sf_value.specs.declared.value.Value.TheVariants as value
use Rattle.program_meaning.specs.ClassTables.{Source, members_of, methods_of as methods_at, fields_of as field_names_of}
use Rattle.program_meaning.specs.World.{value_at, field_value, set_at, with_field}
use Rattle.program_meaning.specs.Evaluation.{method_of as method_number, class_of}
use Rattle.program_meaning.specs.Fits.{HasTable, Fits, EachFits, field_types}
use Rattle.program_meaning.proofs.FitsLaws.{each_at, each_set}
use Rattle.program_meaning.proofs.Places.{position_is, found_at, find_over, named_at}
use Rattle.program_meaning.proofs.TypedParts.{either_false}
use Rattle.program_meaning.proofs.EvalFits.{Matches}

any_behind : {A : Type 0} (p : A → Bool) (xs ys : List A) → list_any p (xs ++ ys) ≡ (list_any p xs || list_any p ys)
any_behind p [] ys = refl
any_behind p (x ∷ xs) ys = by (p x) (any_behind p xs ys)
  where
    by : (b : Bool) → list_any p (xs ++ ys) ≡ (list_any p xs || list_any p ys) → (b || list_any p (xs ++ ys)) ≡ ((b || list_any p xs) || list_any p ys)
    by true e = refl
    by false e = e

-- no one before, and not this one
pub none_before : {A : Type 0} (p : A → Bool) (before : List A) (x : A) → list_any p (before ++ x ∷ []) ≡ false → (list_any p before ≡ false) × (p x ≡ false)
none_before p before x h =
    let a : (list_any p before ≡ false) × ((p x || false) ≡ false) = either_false (list_any p before) (p x || false) (sym (any_behind p before (x ∷ [])) ∙ h) in
    (a.0, (either_false (p x) false a.1).0)

-- an item without a fault stands behind some others
pub kept_behind : {X : Type 0} (fault : List X → X → Option RuleFault) (before xs : List X) (k : ℕ) (x : X) → first_behind fault before xs ≡ None → slice_get xs k ≡ Some x → (others : List X) × (fault others x ≡ None)
kept_behind fault before [] k x none is = absurd (none-some x is)
kept_behind fault before (y ∷ xs) zero x none is = (before, subst (λ z. fault before z ≡ None) (same_Some _ _ is) (head_none (fault before y) (first_behind fault (before ++ y ∷ []) xs ∷ []) none))
kept_behind fault before (y ∷ xs) (suc k) x none is =
    let rest : Option RuleFault = first_behind fault (before ++ y ∷ []) xs in
    kept_behind fault (before ++ y ∷ []) xs k x (head_none rest [] (rest_none (fault before y) (rest ∷ []) none)) is

pub filtered_at : {A : Type 0} (p : A → Bool) (xs : List A) (j : ℕ) (a : A) → slice_get (filter p xs) j ≡ Some a → (k : ℕ) × (slice_get xs k ≡ Some a)
filtered_at p [] j a h = absurd (none-some a h)
filtered_at p (x ∷ xs) j a h = by (p x) j h (λ j. filtered_at p xs j a)
  where
    by : (b : Bool) (j : ℕ) → slice_get (cond b (x ∷ filter p xs) (filter p xs)) j ≡ Some a → ((j : ℕ) → slice_get (filter p xs) j ≡ Some a → (k : ℕ) × (slice_get xs k ≡ Some a)) → (k : ℕ) × (slice_get (x ∷ xs) k ≡ Some a)
    by true zero h rest = (0, h)
    by true (suc j) h rest = let r : (k : ℕ) × (slice_get xs k ≡ Some a) = rest j h in (suc r.0, r.1)
    by false j h rest = let r : (k : ℕ) × (slice_get xs k ≡ Some a) = rest j h in (suc r.0, r.1)

pub all_at : {A : Type 0} (P : A → Type 0) (xs : List A) (k : ℕ) (x : A) → All P xs → slice_get xs k ≡ Some x → P x
all_at P xs k x all is = subst P (get_or_from_slice_get xs k x x is) (all k x (slice_get_within xs k x is))

pub mapped_at : {A B : Type 0} (f : A → B) (xs : List A) (k : ℕ) (y : B) → slice_get (over f xs) k ≡ Some y → (x : A) × (slice_get xs k ≡ Some x) × (f x ≡ y)
mapped_at f [] k y h = absurd (none-some y h)
mapped_at f (x ∷ xs) zero y h = (x, refl, same_Some _ _ h)
mapped_at f (x ∷ xs) (suc k) y h = mapped_at f xs k y h

pub map_found : {A B : Type 0} (f : A → B) (o : Option A) (y : B) → option_map f o ≡ Some y → (x : A) × (o ≡ Some x) × (f x ≡ y)
map_found f None y h = absurd (none-some y h)
map_found f (Some x) y h = (x, refl, same_Some _ _ h)

pub then_found : {A B : Type 0} (f : A → Option B) (o : Option A) (y : B) → option_and_then f o ≡ Some y → (x : A) × (o ≡ Some x) × (f x ≡ Some y)
then_found f None y h = absurd (none-some y h)
then_found f (Some x) y h = (x, refl, h)

-- Fields

-- the fields that statements declare have the names that they declare
pub names_declared : (body : List PlainStmt) → field_names body ≡ over (λ (f : PlainField). f.name) (fields_of body)
unfolding field_names fields_of
names_declared [] = refl
names_declared (s ∷ body) = by (declaration s) (names_declared body)
  where
    by : (o : Option _) → field_names body ≡ over (λ (f : PlainField). f.name) (fields_of body) → cons_option (option_map (λ d. d.field.name.0) o) (field_names body) ≡ over (λ (f : PlainField). f.name) (cons_option (option_map field_declared o) (fields_of body))
    by None e = e
    by (Some d) e = ap (λ ns. d.field.name.0 ∷ ns) e

-- Classes by name

module _ (names : List (List ℕ)) (program : PlainProgram) (kept : program_fault names program ≡ None) where
  abbrev src : Source
  src = record { program = program; names = names }

  abbrev tables : List PlainTable
  tables = tables_of names program

  -- the class of a number with a table
  pub class_at : (k : ℕ) (t : PlainTable) → HasTable tables k t → (c : PlainClass) × (slice_get program k ≡ Some c) × (table_of names c ≡ t)
  class_at k t has = mapped_at (table_of names) program k t has

  apart_from : (before cs : List PlainClass) (k : ℕ) (c : PlainClass) → first_behind class_name_fault before cs ≡ None → slice_get cs k ≡ Some c → is_class before c.name ≡ false
  unfolding class_name_fault is_class
  apart_from before [] k c none is = absurd (none-some c is)
  apart_from before (x ∷ cs) zero c none is =
      let first : Option RuleFault = class_name_fault before x in
      let now : first ≡ None = head_none first (first_behind class_name_fault (before ++ x ∷ []) cs ∷ []) none in
      let full : Option RuleFault = broken TooMany x.place (is_full (length before)) in
      let reserved : Option RuleFault = broken ReservedName x.place (is_reserved x.name) in
      let twice : Option RuleFault = broken DuplicateClass x.place (is_class before x.name) in
      let other : is_class before x.name ≡ false = not_broken DuplicateClass x.place (is_class before x.name) (head_none twice [] (rest_none reserved (twice ∷ []) (rest_none full (reserved ∷ twice ∷ []) now))) in
      subst (λ (y : PlainClass). is_class before y.name ≡ false) (same_Some _ _ is) other
  apart_from before (x ∷ cs) (suc k) c none is =
      let rest : Option RuleFault = first_behind class_name_fault (before ++ x ∷ []) cs in
      let later : rest ≡ None = head_none rest [] (rest_none (class_name_fault before x) (rest ∷ []) none) in
      (none_before (λ (y : PlainClass). y.name == c.name) before x (apart_from (before ++ x ∷ []) cs k c later is)).0

  first_named : (before cs : List PlainClass) (k : ℕ) (c : PlainClass) → first_behind class_name_fault before cs ≡ None → slice_get cs k ≡ Some c → find (λ (y : PlainClass). y.name == c.name) cs ≡ Some c
  unfolding class_name_fault is_class
  first_named before [] k c none is = absurd (none-some c is)
  first_named before (x ∷ cs) zero c none is = ap (λ b. cond b (Some x) (find (λ (y : PlainClass). y.name == c.name) cs)) (eq-eqb x.name c.name (ap (λ (y : PlainClass). y.name) (same_Some _ _ is))) ∙ is
  first_named before (x ∷ cs) (suc k) c none is =
      let rest : Option RuleFault = first_behind class_name_fault (before ++ x ∷ []) cs in
      let later : rest ≡ None = head_none rest [] (rest_none (class_name_fault before x) (rest ∷ []) none) in
      let other : (x.name == c.name) ≡ false = (none_before (λ (y : PlainClass). y.name == c.name) before x (apart_from (before ++ x ∷ []) cs k c later is)).1 in
      ap (λ b. cond b (Some x) (find (λ (y : PlainClass). y.name == c.name) cs)) other ∙ first_named (before ++ x ∷ []) cs k c later is

  names_apart : first_in class_name_fault program ≡ None
  unfolding program_fault
  names_apart = head_none (first_in class_name_fault program) (first_in (λ before c. class_fault names program c) program ∷ []) kept

  name_of_table : (c : PlainClass) → (table_of names c).name ≡ c.name
  unfolding table_of
  name_of_table c = refl

  found_table : (x : ℕ) → table_named tables x ≡ option_map (table_of names) (find (λ (c : PlainClass). c.name == x) program)
  unfolding table_named table_of
  found_table x = find_over (table_of names) (λ (t : PlainTable). t.name == x) program

  -- the table of a class is found by its name
  table_by_name : (k : ℕ) (t : PlainTable) → HasTable tables k t → table_named tables t.name ≡ Some t
  table_by_name k t has =
      let c : (c : PlainClass) × (slice_get program k ≡ Some c) × (table_of names c ≡ t) = class_at k t has in
      let name : c.0.name ≡ t.name = sym (name_of_table c.0) ∙ ap (λ (u : PlainTable). u.name) c.2 in
      found_table t.name
      ∙ ap (λ x. option_map (table_of names) (find (λ (y : PlainClass). y.name == x) program)) (sym name)
      ∙ ap (option_map (table_of names)) (first_named [] program k c.0 names_apart c.1)
      ∙ ap Some c.2

  classes_by_name : (x : ℕ) (t : PlainTable) → table_named tables x ≡ Some t → HasTable tables (class_of src x) t
  unfolding class_of
  classes_by_name x t h =
      let c : (c : PlainClass) × (find (λ (c : PlainClass). c.name == x) program ≡ Some c) × (table_of names c ≡ t) = map_found (table_of names) (find (λ (c : PlainClass). c.name == x) program) t (sym (found_table x) ∙ h) in
      let p : PlainClass → Bool = λ c. nat_eq c.name x in
      let k : (k : ℕ) × (position p program ≡ Some k) × (slice_get program k ≡ Some c.0) = found_at p program c.0 c.1 in
      let number : class_of src x ≡ k.0 = ap (λ o. unwrap_or o 0) (sym (position_is p program) ∙ k.1) in
      ap (slice_get tables) number ∙ slice_get-map (table_of names) program k.0 ∙ ap (option_map (table_of names)) k.2 ∙ ap Some c.2

  -- the methods of a class
  pub methods_here : (k : ℕ) (c : PlainClass) → slice_get program k ≡ Some c → methods_at src k ≡ methods_among names c.members
  methods_here k c is = ap (λ o. methods_among names (members_of o)) is

  pub table_methods : (c : PlainClass) → (table_of names c).methods ≡ over sig_of (methods_among names c.members)
  unfolding table_of
  table_methods c = refl

  methods_by_name : (k : ℕ) (t : PlainTable) (x : ℕ) (m : PlainSig) → HasTable tables k t → method_of tables t.name x ≡ Some m → slice_get t.methods (method_number src k x) ≡ Some m
  unfolding method_number method_of
  methods_by_name k t x m has h =
      let c : (c : PlainClass) × (slice_get program k ≡ Some c) × (table_of names c ≡ t) = class_at k t has in
      let ms : List PlainMethod = methods_among names c.0.members in
      let in_table : t.methods ≡ over sig_of ms = ap (λ (u : PlainTable). u.methods) (sym c.2) ∙ table_methods c.0 in
      let found : method_in t.methods x ≡ Some m = sym (ap (λ o. option_and_then (λ (u : PlainTable). method_in u.methods x) o) (table_by_name k t has)) ∙ h in
      let among : option_map sig_of (find (λ (d : PlainMethod). d.name == x) ms) ≡ Some m = sym (find_over sig_of (λ (d : PlainSig). d.name == x) ms) ∙ ap (λ sigs. method_in sigs x) (sym in_table) ∙ found in
      let d : (d : PlainMethod) × (find (λ (d : PlainMethod). d.name == x) ms ≡ Some d) × (sig_of d ≡ m) = map_found sig_of (find (λ (d : PlainMethod). d.name == x) ms) m among in
      let p : PlainMethod → Bool = λ d. nat_eq d.name x in
      let j : (j : ℕ) × (position p ms ≡ Some j) × (slice_get ms j ≡ Some d.0) = found_at p ms d.0 d.1 in
      let number : method_number src k x ≡ j.0 = ap (λ ds. unwrap_or (position_from p 0 ds) 0) (methods_here k c.0 c.1) ∙ ap (λ o. unwrap_or o 0) (sym (position_is p ms) ∙ j.1) in
      ap (λ sigs. slice_get sigs (method_number src k x)) in_table ∙ ap (slice_get (over sig_of ms)) number ∙ slice_get-map sig_of ms j.0 ∙ ap (option_map sig_of) j.2 ∙ ap Some d.2

  pub matches : Matches src tables
  matches = record { methods = methods_by_name; classes = classes_by_name }

  -- Fields of records

  pub field_names_here : (k : ℕ) (t : PlainTable) → HasTable tables k t → field_names_of src k ≡ over (λ (f : PlainField). f.name) t.fields
  unfolding table_of
  field_names_here k t has =
      let c : (c : PlainClass) × (slice_get program k ≡ Some c) × (table_of names c ≡ t) = class_at k t has in
      ap (λ o. field_names (body_of (init_among names (members_of o)))) c.1 ∙ names_declared (body_of (init_among names c.0.members)) ∙ ap (λ (u : PlainTable). over (λ (f : PlainField). f.name) u.fields) c.2

  pub field_found : (k : ℕ) (t : PlainTable) (x : ℕ) (ty : PlainTy) → HasTable tables k t → field_of tables k x ≡ Some ty → (f : PlainField) × (find (λ (f : PlainField). f.name == x) t.fields ≡ Some f) × (f.ty ≡ ty)
  unfolding field_of
  field_found k t x ty has h = map_found (λ (f : PlainField). f.ty) (find (λ (f : PlainField). f.name == x) t.fields) ty (sym (ap (λ o. option_and_then (λ (u : PlainTable). field_in u.fields x) o) has) ∙ h)

  -- the place of a field
  pub field_at : (k : ℕ) (t : PlainTable) (x : ℕ) (ty : PlainTy) → HasTable tables k t → field_of tables k x ≡ Some ty → (i : ℕ) × (position (λ y. nat_eq y x) (field_names_of src k) ≡ Some i) × (slice_get (field_types t) i ≡ Some ty)
  field_at k t x ty has h =
      let f : (f : PlainField) × (find (λ (f : PlainField). f.name == x) t.fields ≡ Some f) × (f.ty ≡ ty) = field_found k t x ty has h in
      let i : (i : ℕ) × (position (λ y. nat_eq y x) (over (λ (f : PlainField). f.name) t.fields) ≡ Some i) × (slice_get t.fields i ≡ Some f.0) = named_at (λ (f : PlainField). f.name) (λ y. nat_eq y x) t.fields f.0 f.1 in
      (i.0, ap (position (λ y. nat_eq y x)) (field_names_here k t has) ∙ i.1, slice_get-map (λ (f : PlainField). f.ty) t.fields i.0 ∙ ap (option_map (λ (f : PlainField). f.ty)) i.2 ∙ ap Some f.2)

  pub read_fits : (k : ℕ) (t : PlainTable) (x : ℕ) (ty : PlainTy) (values : List Value) → HasTable tables k t → field_of tables k x ≡ Some ty → EachFits tables (field_types t) values → Fits tables ty (field_value (field_names_of src k) values x)
  unfolding field_value
  read_fits k t x ty values has h fit =
      let i : (i : ℕ) × (position (λ y. nat_eq y x) (field_names_of src k) ≡ Some i) × (slice_get (field_types t) i ≡ Some ty) = field_at k t x ty has h in
      let v : (v : Value) × (slice_get values i.0 ≡ Some v) × Fits tables ty v = each_at tables (field_types t) values i.0 ty fit i.2 in
      subst (λ u. Fits tables ty u) (sym (ap (value_at values) i.1 ∙ ap (λ o. unwrap_or o value.Nil) v.1)) v.2

  pub written_fits : (k : ℕ) (t : PlainTable) (x : ℕ) (ty : PlainTy) (values : List Value) (v : Value) → HasTable tables k t → field_of tables k x ≡ Some ty → EachFits tables (field_types t) values → Fits tables ty v → EachFits tables (field_types t) (with_field (field_names_of src k) values x v)
  unfolding with_field
  written_fits k t x ty values v has h fit f =
      let i : (i : ℕ) × (position (λ y. nat_eq y x) (field_names_of src k) ≡ Some i) × (slice_get (field_types t) i ≡ Some ty) = field_at k t x ty has h in
      subst (λ o. EachFits tables (field_types t) (set_at values o v)) (sym i.1) (each_set tables (field_types t) values i.0 ty v fit i.2 f)
