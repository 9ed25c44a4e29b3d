-- Where the key of a class stands.
use Rattle.std.proofs.Common.{◌≡◌, ℕ, suc, arith, ◌+◌, Bool, true, false, cond, Option, Some, None, List, [], ◌∷◌, map as over, refl, sym, ap, ◌∙◌}
use Rattle.std.specs.Prelude.{find, position, slice_get, option_map, option_and_then, nat_eq, filter_map}
use Rattle.std.proofs.lemmas.Option.{same_Some, none-some}
use Rattle.py_tree.specs.PlainProgram.{PlainParam, PlainMethod}
use Rattle.py_tree.specs.ClassRules.{PlainKey, PlainTable, fields_of, key_told, key_among, key_at, key_name, source_in, source_of, place_among, field_place, param_place, sig_params}
use Rattle.sf_value.specs.declared.value.Value.{Value}
use Rattle.program_meaning.specs.declared.vars.Var.{Var}
use Rattle.program_meaning.specs.World.{is_named}
use Rattle.program_meaning.specs.Calls.{bound}
use Rattle.program_meaning.specs.Fits.{EachFits, one_more, param_types}
use Rattle.program_meaning.specs.PointFits.{HasValue}
use Rattle.program_meaning.proofs.Places.{position_of_more}
use Rattle.program_meaning.proofs.TableFacts.{then_found}

-- Places of names

counted : (o : Option ℕ) → option_map (λ k. k + 1) o ≡ option_map suc o
counted None = refl
counted (Some k) = let e : k + 1 ≡ suc k = omega arith in ap Some e

pub place_is : {A : Type 0} (name : A → ℕ) (xs : List A) (y : ℕ) → place_among (over name xs) y ≡ position (λ a. nat_eq (name a) y) xs
place_is name [] y = refl
place_is name (x ∷ xs) y = ap (cond (nat_eq (name x) y) (Some 0)) (ap (option_map (λ k. k + 1)) (place_is name xs y) ∙ counted (position (λ a. nat_eq (name a) y) xs)) ∙ sym (position_of_more (λ a. nat_eq (name a) y) x xs)

-- an argument as the value of its parameter
pub bound_value : (tables : List PlainTable) (ps : List PlainParam) (args : List Value) (x i : ℕ) → EachFits tables (param_types (sig_params ps)) args → position (λ (p : PlainParam). nat_eq p.name x) ps ≡ Some i → (v : Value) × (slice_get args i ≡ Some v) × HasValue (bound ps args) x v
unfolding bound
bound_value tables [] args x i fit h = absurd (none-some i h)
bound_value tables (p ∷ ps) [] x i fit h = elim fit [ ]
bound_value tables (p ∷ ps) (v ∷ args) x i (one_more f fs) h = by (nat_eq p.name x) refl (sym (position_of_more (λ (p : PlainParam). nat_eq p.name x) p ps) ∙ h) (λ j. bound_value tables ps args x j fs)
  where
    found : (b : Bool) → nat_eq p.name x ≡ b → option_map (λ (a : Var). a.value) (find (is_named x) (bound (p ∷ ps) (v ∷ args))) ≡ option_map (λ (a : Var). a.value) (cond b (Some (record { name = record { 0 = p.name }; value = v })) (find (is_named x) (bound ps args)))
    found b e = ap (λ c. option_map (λ (a : Var). a.value) (cond c (Some (record { name = record { 0 = p.name }; value = v })) (find (is_named x) (bound ps args)))) e

    later : (o : Option ℕ) → position (λ (p : PlainParam). nat_eq p.name x) ps ≡ o → option_map suc o ≡ Some i → nat_eq p.name x ≡ false → ((j : ℕ) → position (λ (p : PlainParam). nat_eq p.name x) ps ≡ Some j → (u : Value) × (slice_get args j ≡ Some u) × HasValue (bound ps args) x u)
        → (u : Value) × (slice_get (v ∷ args) i ≡ Some u) × HasValue (bound (p ∷ ps) (v ∷ args)) x u
    later None e h other rest = absurd (none-some i h)
    later (Some j) e h other rest =
        let r : (u : Value) × (slice_get args j ≡ Some u) × HasValue (bound ps args) x u = rest j e in
        (r.0, ap (slice_get (v ∷ args)) (sym (same_Some _ _ h)) ∙ r.1, record { found = found false other ∙ r.2.found })

    by : (b : Bool) → nat_eq p.name x ≡ b → cond b (Some 0) (option_map suc (position (λ (p : PlainParam). nat_eq p.name x) ps)) ≡ Some i → ((j : ℕ) → position (λ (p : PlainParam). nat_eq p.name x) ps ≡ Some j → (u : Value) × (slice_get args j ≡ Some u) × HasValue (bound ps args) x u)
        → (u : Value) × (slice_get (v ∷ args) i ≡ Some u) × HasValue (bound (p ∷ ps) (v ∷ args)) x u
    by true e h rest = (v, ap (slice_get (v ∷ args)) (sym (same_Some _ _ h)), record { found = found true e })
    by false e h rest = later (position (λ (p : PlainParam). nat_eq p.name x) ps) refl h e rest

key_parts : (f p : Option ℕ) (key : PlainKey) → key_at f p ≡ Some key → p ≡ Some key.param
key_parts (Some f) (Some p) key h = ap (λ (k : PlainKey). Some k.param) (same_Some _ _ h)
key_parts None p key h = absurd (none-some key h)
key_parts (Some f) None key h = absurd (none-some key h)

-- the parameter of `__init__` that the key's field of texts is declared from
pub record KeyStands (init : PlainMethod) (place : ℕ) : Type 0 where
  pub field : ℕ
  pub param : ℕ
  pub source : slice_get (filter_map (source_in field) init.body) 0 ≡ Some param
  pub at : position (λ (p : PlainParam). nat_eq p.name param) init.params ≡ Some place

pub key_stands : (init m : PlainMethod) (key : PlainKey) → key_told m init.params init.body ≡ Some key → KeyStands init key.param
unfolding key_among source_of param_place
key_stands init m key h =
    let n : (name : ℕ) × (key_name m ≡ Some name) × (key_among init.params init.body name ≡ Some key) = then_found (key_among init.params init.body) (key_name m) key h in
    let placed : option_and_then (param_place init.params) (source_of init.body n.0) ≡ Some key.param = key_parts (field_place (fields_of init.body) n.0) (option_and_then (param_place init.params) (source_of init.body n.0)) key n.2 in
    let p : (p : ℕ) × (source_of init.body n.0 ≡ Some p) × (param_place init.params p ≡ Some key.param) = then_found (param_place init.params) (source_of init.body n.0) key.param placed in
    record {
      field = n.0;
      param = p.0;
      source = p.1;
      at = sym (place_is (λ (q : PlainParam). q.name) init.params p.0) ∙ p.2;
    }
