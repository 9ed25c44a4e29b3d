-- Each parameter of an accepted program says its type, and that type nests no deeper than lines may.
use Rattle.std.proofs.Common.{◌≡◌, ℕ, zero, suc, ◌≤◌, ◌||◌, true, cond, List, [], ◌∷◌, ◌++◌, length, Option, Some, None, refl, sym, subst, arith}
use Rattle.std.specs.Prelude.{is_some, slice_get, IfSome}
use Rattle.std.specs.List.{All}
use Rattle.py_tree.specs.declared.rule.Rule.TheVariants.{TooMany, ReservedName, DuplicateMember}
use Rattle.py_tree.specs.declared.rule.RuleFault.{RuleFault}
use Rattle.py_tree.specs.PlainTypes.{PlainWritten}
use Rattle.py_tree.specs.PlainProgram.{PlainParam, PlainMethod, PlainClass, PlainProgram}
use Rattle.py_tree.specs.Bounded.{IsBoundedParam, IsBoundedMethod, nesting}
use Rattle.py_tree.specs.ClassRules.{broken, is_full, is_reserved, is_class, is_param, is_init, first_behind, first_in, annotation_fault, param_fault, member_name_fault, member_fault, result_fault, init_body_fault, class_fault, whole_fault, program_fault, params_of, written_or_none, sig_params, methods_of as methods_among, init_of as init_among}
use Rattle.py_tree.proofs.ClassRuleLaws.{head_none, rest_none, class_kept}
use Rattle.program_meaning.specs.ClassTables.{Source, members_of, methods_of, init_of}
use Rattle.program_meaning.specs.Fits.{param_types}
use Rattle.program_meaning.proofs.TableFacts.{filtered_at, kept_behind}
use Rattle.program_meaning.proofs.Places.{found_at}
use Rattle.request_json.specs.FittingSpellings.{type_nesting}
use Rattle.request_json.proofs.ArgumentSpellings.{nesting_is}
use Rattle.request_json.proofs.ArgumentsBack.{AreTyped}
use Rattle.request_json.proofs.PlainValues.{NestTypes}

typed : (program : PlainProgram) (p : PlainParam) (ty : Option PlainWritten) → annotation_fault program p.place ty ≡ None → is_some ty ≡ true
typed program p None none = absurd cc
typed program p (Some ty) none = refl

-- behind those that broke no rule
typed_behind : (program : PlainProgram) (before ps : List PlainParam) → first_behind (param_fault program) before ps ≡ None → AreTyped ps
unfolding param_fault
typed_behind program before [] none = tt
typed_behind program before (p ∷ ps) none =
    let later : Option RuleFault = first_behind (param_fault program) (before ++ p ∷ []) ps in
    let full : Option RuleFault = broken TooMany p.place (is_full (length before)) in
    let reserved : Option RuleFault = broken ReservedName p.place (is_reserved p.name || is_class program p.name) in
    let twice : Option RuleFault = broken DuplicateMember p.place (is_param before p.name) in
    let type : Option RuleFault = annotation_fault program p.place p.ty in
    let here : param_fault program before p ≡ None = head_none (param_fault program before p) (later ∷ []) none in
    let own : type ≡ None = head_none type [] (rest_none twice (type ∷ []) (rest_none reserved (twice ∷ type ∷ []) (rest_none full (reserved ∷ twice ∷ type ∷ []) here))) in
    (typed program p p.ty own, typed_behind program (before ++ p ∷ []) ps (head_none later [] (rest_none (param_fault program before p) (later ∷ []) none)))

flat_params : (count : ℕ) (ps : List PlainParam) → All (IsBoundedParam count) ps → NestTypes 63 (param_types (sig_params ps))
flat_params count [] all = tt
flat_params count (p ∷ ps) all = (flat p.ty (all 0 p (omega arith)).type_flat, flat_params count ps (λ j d lt. all (suc j) d (omega arith)))
  where
    flat : (ty : Option PlainWritten) → IfSome ty (λ t. nesting t ≤ 63) → type_nesting (written_or_none ty) ≤ 63
    flat None h = omega arith
    flat (Some t) h = omega (arith, nesting_is t, h)

pub flat_method : (count : ℕ) (m : Option PlainMethod) → IfSome m (IsBoundedMethod count) → NestTypes 63 (param_types (sig_params (params_of m)))
flat_method count None h = tt
flat_method count (Some m) h = flat_params count m.params h.params

module _ (names : List (List ℕ)) (program : PlainProgram) (kept : program_fault names program ≡ None) (class : ℕ) (c : PlainClass) (is : slice_get program class ≡ Some c) where
  abbrev src : Source
  src = record { program = program; names = names }

  member_typed : (k : ℕ) (m : PlainMethod) → slice_get c.members k ≡ Some m → AreTyped m.params
  unfolding class_fault member_fault
  member_typed k m at =
      let members = head_none (first_in (member_fault names program c.members) c.members) (whole_fault names c ∷ []) (class_kept names program class c kept is) in
      let one = kept_behind (member_fault names program c.members) [] c.members k m members at in
      let params : Option RuleFault = first_in (param_fault program) m.params in
      let rest : List (Option RuleFault) = result_fault names program m ∷ cond (is_init names m.name) (init_body_fault names program c.members m.body) None ∷ [] in
      typed_behind program [] m.params (head_none params rest (rest_none (member_name_fault names one.0 m) (params ∷ rest) one.1))

  pub method_typed : (method : ℕ) (m : PlainMethod) → slice_get (methods_of src class) method ≡ Some m → AreTyped m.params
  unfolding methods_among
  method_typed method m at =
      let k = filtered_at _ c.members method m (subst (λ o. slice_get (methods_among names (members_of o)) method ≡ Some m) is at) in
      member_typed k.0 m k.1

  typed_where : (o : Option PlainMethod) → ((m : PlainMethod) → o ≡ Some m → AreTyped m.params) → AreTyped (params_of o)
  typed_where None each = tt
  typed_where (Some m) each = each m refl

  pub init_typed : AreTyped (params_of (init_of src class))
  unfolding init_among
  init_typed = subst (λ o. AreTyped (params_of (init_among names (members_of o)))) (sym is)
      (typed_where (init_among names c.members) (λ m found. let k = found_at (λ (m : PlainMethod). is_init names m.name) c.members m found in member_typed k.0 m k.2))
