-- What fits in small cases, and what doesn't.
use Rattle.std.proofs.Common.{◌≡◌, pos, arith, List, [], ◌∷◌, refl, sym, subst}
use Rattle.std.proofs.lemmas.Option.{none-some}
use Rattle.std.specs.Prelude.{codes}
use Rattle.py_tree.specs.PlainTypes.{TInt, TStr, TList, TOptional, TEntity}
use Rattle.py_tree.specs.ClassRules.{PlainTable}
use Rattle.sf_value.specs.declared.value.Ref.{Ref}
use Rattle.sf_value.specs.declared.value.Value.TheVariants as value
use Rattle.sf_value.specs.declared.Act.TheVariants as act
use Rattle.sf_value.specs.declared.Outcome.TheVariants as outcome
use Rattle.program_meaning.specs.World.{failure}
use Rattle.program_meaning.specs.Fits.{HasTable, Fits, int, str, none, some, list, entity, empty, more, EachFits, no_value, one_more, RecordFits, ActFits, OutcomeFits}
use Rattle.program_meaning.proofs.FitsLaws.{as_entity}

-- a class 7 with a field of texts, which is its key, and one of optional numbers; and a method that takes an int and gives a list
abbrev items : PlainTable
items = record {
  name = 7;
  key_field = 0;
  key_param = 0;
  fields = record { name = 20; ty = TStr } ∷ record { name = 21; ty = TOptional TInt } ∷ [];
  methods = record { name = 22; params = record { name = 23; ty = TInt } ∷ []; result = TList TInt } ∷ [];
  init = record { name = 20; ty = TStr } ∷ [];
}

abbrev tables : List PlainTable
tables = items ∷ []

same_entity : (a b : Ref) → value.Entity a ≡ value.Entity b → a ≡ b
same_entity a b e = cc

-- [1, None] fits List[Optional[int]]
mixed : Fits tables (TList (TOptional TInt)) (value.List (value.Int (pos 1) ∷ value.Nil ∷ []))
mixed = list (more (some (int (pos 1))) (more none empty))

-- 1 doesn't fit str
no_text : Fits tables TStr (value.Int (pos 1)) → ⊥
no_text h = elim h [ ]

-- an entity fits the type of its class, also one that no state holds
absent : Fits tables (TEntity 7) (value.Entity (record { class = 0; key = codes "none" }))
absent = entity _ refl

-- a record with both fields fits, and one with the key alone doesn't
whole_record : RecordFits tables 0 (value.Str (codes "k") ∷ value.Nil ∷ [])
whole_record = record { table = items; has_table = refl; fit = one_more (str _) (one_more none no_value) }

short_record : EachFits tables (TStr ∷ TOptional TInt ∷ []) (value.Str (codes "k") ∷ []) → ⊥
short_record (one_more f fs) = elim fs [ ]

-- a call with a number, and what may come of it
call : ActFits tables (act.Call 0 (codes "k") 0 (value.Int (pos 3) ∷ []))
call = record { table = items; has_table = refl; sig = _; has_method = refl; fit = one_more (int (pos 3)) no_value }

answer : OutcomeFits tables (act.Call 0 (codes "k") 0 (value.Int (pos 3) ∷ [])) (outcome.Value (value.List []))
answer = record { table = items; has_table = refl; sig = _; has_method = refl; fits = list empty }

-- an entity of another class number doesn't fit the type
other_class : Fits tables (TEntity 7) (value.Entity (record { class = 1; key = codes "k" })) → ⊥
other_class h = outside (as_entity tables 7 _ h)
  where
    outside : (at : Ref) × (t : PlainTable) × (value.Entity (record { class = 1; key = codes "k" }) ≡ value.Entity at) × HasTable tables at.class t × (t.name ≡ 7) → ⊥
    outside e = none-some e.1 (subst (λ (r : Ref). HasTable tables r.class e.1) (sym (same_entity _ e.0 e.2)) e.3)

-- a failure that no rule and no operation has doesn't fit a request
thirteen : OutcomeFits tables (act.New 0 []) (outcome.Failed (failure 13)) → ⊥
thirteen h = omega (arith, h.most)

-- a creation gives the entity of its class and key
created : OutcomeFits tables (act.New 0 (value.Str (codes "k") ∷ [])) (outcome.Value (value.Entity (record { class = 0; key = codes "k" })))
created = record { table = items; has_table = refl; key = codes "k"; has_key = refl; is = refl }
