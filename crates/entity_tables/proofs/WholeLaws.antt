-- A class as a whole: its faults and its table, by its `__init__` and `__key__`.
use Rattle.std.proofs.Common.{◌≡◌, ℕ, Option, Some, None, List, [], ◌∷◌, map, length, ap, arith, ◌<◌}
use Rattle.std.specs.Prelude.{is_none}
use Rattle.py_tree.specs.declared.rule.Rule.TheVariants.{InitForm, KeyForm}
use Rattle.py_tree.specs.PlainProgram.{PlainMethod, PlainClass}
use Rattle.py_tree.specs.ClassRules.{broken, first_of, key_fault, whole_fault, table_of, init_of, params_of, body_of, key_method, key_of, key_or_first, PlainKey, PlainField, PlainSig, PlainSigParam, PlainTable, sig_of, sig_params, fields_of, methods_of}
use Rattle.py_tree.proofs.KeyLaws.{key_within}
use Rattle.entity_tables.specs.Answers.{IsSmall}

pub no_init : (names : List (List ℕ)) (c : PlainClass) → init_of names c.members ≡ None → whole_fault names c ≡ Some (record { rule = InitForm; place = c.place })
unfolding whole_fault
no_init names c none = ap (λ o. first_of (broken InitForm c.place (is_none o) ∷ key_fault c.place (key_method names c.members) (key_of names c.members) ∷ [])) none

pub no_key_method : (names : List (List ℕ)) (c : PlainClass) (init : PlainMethod) → init_of names c.members ≡ Some init → key_method names c.members ≡ None → whole_fault names c ≡ Some (record { rule = KeyForm; place = c.place })
unfolding whole_fault
no_key_method names c init some none = λ i. first_of (broken InitForm c.place (is_none (some i)) ∷ key_fault c.place (none i) (key_of names c.members) ∷ [])

whole_is : (names : List (List ℕ)) (c : PlainClass) (init key : PlainMethod) (k : Option PlainKey) → init_of names c.members ≡ Some init → key_method names c.members ≡ Some key → key_of names c.members ≡ k → whole_fault names c ≡ first_of (broken KeyForm key.place (is_none k) ∷ [])
unfolding whole_fault
whole_is names c init key k is_init is_key told = λ i. first_of (broken InitForm c.place (is_none (is_init i)) ∷ key_fault c.place (is_key i) (told i) ∷ [])

pub no_key : (names : List (List ℕ)) (c : PlainClass) (init key : PlainMethod) → init_of names c.members ≡ Some init → key_method names c.members ≡ Some key → key_of names c.members ≡ None → whole_fault names c ≡ Some (record { rule = KeyForm; place = key.place })
no_key names c init key is_init is_key none = whole_is names c init key None is_init is_key none

pub has_key : (names : List (List ℕ)) (c : PlainClass) (init key : PlainMethod) (k : PlainKey) → init_of names c.members ≡ Some init → key_method names c.members ≡ Some key → key_of names c.members ≡ Some k → whole_fault names c ≡ None
has_key names c init key k is_init is_key some = whole_is names c init key (Some k) is_init is_key some

pub table_is : (names : List (List ℕ)) (c : PlainClass) (init : PlainMethod) (k : PlainKey) → init_of names c.members ≡ Some init → key_of names c.members ≡ Some k → table_of names c ≡ record { name = c.name; key_field = k.field; key_param = k.param; fields = fields_of init.body; methods = map sig_of (methods_of names c.members); init = sig_params init.params }
unfolding table_of
table_is names c init k is_init some = λ i. record {
  name = c.name;
  key_field = (key_or_first (some i)).field;
  key_param = (key_or_first (some i)).param;
  fields = fields_of (body_of (is_init i));
  methods = map sig_of (methods_of names c.members);
  init = sig_params (params_of (is_init i));
}

-- the numbers of a key in a small class
pub small_key : (names : List (List ℕ)) (members : List PlainMethod) (k : PlainKey) → IsSmall names members → key_of names members ≡ Some k → (k.field < 256) × (k.param < 256)
small_key names members k small some =
    let within : (k.field < length (fields_of (body_of (init_of names members)))) × (k.param < length (params_of (init_of names members))) = key_within names members k some in
    (omega (arith, within.0, small.fields), omega (arith, within.1, small.params))

-- a table is told by its parts
pub same_table : (name : ℕ) (k : PlainKey) {fields gs : List PlainField} {methods ms : List PlainSig} {init ps : List PlainSigParam} → fields ≡ gs → methods ≡ ms → init ≡ ps → ◌≡◌ {A = PlainTable} (record { name = name; key_field = k.field; key_param = k.param; fields = fields; methods = methods; init = init }) (record { name = name; key_field = k.field; key_param = k.param; fields = gs; methods = ms; init = ps })
same_table name k e f g = λ i. record { name = name; key_field = k.field; key_param = k.param; fields = e i; methods = f i; init = g i }

pub ruleset whole_laws = (no_init, no_key_method, no_key, has_key, table_is)
