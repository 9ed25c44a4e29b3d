-- Parameters as locals, methods by their numbers, and faults along them.
use Rattle.std.specs.Prelude.{slice_get}
use Rattle.std.proofs.Common.{◌≡◌, ℕ, zero, suc, arith, ◌+◌, ◌-◌, ◌<◌, ◌≤◌, true, false, Some, None, Ok, Err, List, [], ◌∷◌, ◌++◌, length, map, take, drop, get_or, refl, sym, ap, subst, ◌∙◌}
use Rattle.std.proofs.lemmas.List.{map-append, drop_all, length-map}
use Rattle.py_tree.specs.declared.program.Method.{Method}
use Rattle.py_tree.specs.declared.program.Class.{Class}
use Rattle.py_tree.specs.declared.rule.RuleFault.{RuleFault}
use Rattle.py_tree.specs.FlowEnvironment.{PlainLocal}
use Rattle.py_tree.specs.PlainProgram.{PlainMethod, plain_method, plain_class}
use Rattle.py_tree.specs.ClassRules.{PlainTable, first_of, is_called, methods_of, program_fault}
use Rattle.py_tree.specs.Flow.{param_local, fault_in, flow, method_locals, init_flow_fault, methods_flow_fault, class_flow_fault, classes_flow_fault}
use Rattle.entity_tables.specs.declared.table.SigParam.{SigParam}
use Rattle.entity_tables.specs.Views.{plain_sig_param}
use Rattle.py_tree.proofs.ClassRuleLaws.{first_of_one, few_classes, few_methods}
use Rattle.py_tree.proofs.CheckedLaws.{called_from, called_end}
use Rattle.entity_types.specs.declared.env.Local.{Local}
use Rattle.entity_types.specs.Views.{plain_local, plain_locals}
use Rattle.py_tree.proofs.ListWalks.{from_item, map_more}

pub params_more : (xs : List SigParam) (i : ℕ) (x : SigParam) (made more : List Local) (l : Local) → i < length xs → x ≡ get_or xs i x → plain_locals made ≡ map param_local (map plain_sig_param (take i xs)) → plain_local l ≡ param_local (plain_sig_param x) → more ≡ made ++ l ∷ [] → plain_locals more ≡ map param_local (map plain_sig_param (take (i + 1) xs))
params_more xs i x made more l within is so_far one grown =
    ap plain_locals grown ∙ map-append plain_local made (l ∷ []) ∙ (λ j. so_far j ++ one j ∷ [])
    ∙ sym (ap (map param_local) (map_more plain_sig_param xs i x within is) ∙ map-append param_local (map plain_sig_param (take i xs)) (plain_sig_param x ∷ []))

pub ruleset param_laws = (params_more)

-- the methods among members, from one of them on
module _ (names : List (List ℕ)) (ms : List Method) (i : ℕ) (m : Method) where
  pub is_method : i < length ms → m ≡ get_or ms i m → is_called names m.name.0 ≡ true → methods_of names (map plain_method (drop i ms)) ≡ plain_method m ∷ methods_of names (map plain_method (drop (i + 1) ms))
  is_method within is called = called_from names ms i m true within is called

  pub no_method : i < length ms → m ≡ get_or ms i m → is_called names m.name.0 ≡ false → methods_of names (map plain_method (drop i ms)) ≡ methods_of names (map plain_method (drop (i + 1) ms))
  no_method within is other = called_from names ms i m false within is other

pub no_methods : (names : List (List ℕ)) (ms : List Method) (i : ℕ) → length ms ≤ i → methods_of names (map plain_method (drop i ms)) ≡ []
no_methods names ms i past = called_end names ms i past

pub found_here : {A : Type 0} (x : A) (xs : List A) (left : ℕ) → left ≡ 0 → slice_get (x ∷ xs) left ≡ Some x
found_here x xs left none = ap (slice_get (x ∷ xs)) none

pub found_later : {A : Type 0} (x : A) (xs : List A) (left : ℕ) → (left ≡ 0 → ⊥) → slice_get (x ∷ xs) left ≡ slice_get xs (left - 1)
found_later x xs left more =
    let next : left ≡ suc (left - 1) = omega arith in
    ap (slice_get (x ∷ xs)) next

module _ (tables : List PlainTable) (class number : ℕ) (m : PlainMethod) (ms : List PlainMethod) where
  pub methods_pass : (ls : List PlainLocal) → method_locals tables class number m ≡ Ok ls → methods_flow_fault tables class number (m ∷ ms) ≡ methods_flow_fault tables class (number + 1) ms
  unfolding methods_flow_fault
  methods_pass ls found = ap (λ r. first_of (fault_in r ∷ methods_flow_fault tables class (number + 1) ms ∷ [])) found ∙ first_of_one (methods_flow_fault tables class (number + 1) ms)

  pub methods_stop : (f : RuleFault) → method_locals tables class number m ≡ Err f → methods_flow_fault tables class number (m ∷ ms) ≡ Some f
  unfolding methods_flow_fault
  methods_stop f fails = ap (λ r. first_of (fault_in r ∷ methods_flow_fault tables class (number + 1) ms ∷ [])) fails

pub methods_end : (tables : List PlainTable) (class number : ℕ) → methods_flow_fault tables class number [] ≡ None
unfolding methods_flow_fault
methods_end tables class number = refl

-- a class without `__init__` has no fault in one
pub no_init : (tables : List PlainTable) (class : ℕ) → init_flow_fault tables class [] ≡ None
unfolding init_flow_fault flow
no_init tables class = refl

-- classes, from one of them on
module _ (names : List (List ℕ)) (tables : List PlainTable) (number : ℕ) (cs : List Class) (i : ℕ) (c : Class) where
  from_class : i < length cs → c ≡ get_or cs i c → classes_flow_fault names tables number (map plain_class (drop i cs)) ≡ first_of (class_flow_fault names tables number (plain_class c) ∷ classes_flow_fault names tables (number + 1) (map plain_class (drop (i + 1) cs)) ∷ [])
  unfolding classes_flow_fault
  from_class within is = ap (λ ys. classes_flow_fault names tables number (map plain_class ys)) (from_item cs i c within is)

  pub classes_pass : i < length cs → c ≡ get_or cs i c → class_flow_fault names tables number (plain_class c) ≡ None → classes_flow_fault names tables number (map plain_class (drop i cs)) ≡ classes_flow_fault names tables (number + 1) (map plain_class (drop (i + 1) cs))
  classes_pass within is none =
      from_class within is ∙ ap (λ f. first_of (f ∷ classes_flow_fault names tables (number + 1) (map plain_class (drop (i + 1) cs)) ∷ [])) none
      ∙ first_of_one (classes_flow_fault names tables (number + 1) (map plain_class (drop (i + 1) cs)))

  pub classes_stop : (f : RuleFault) → i < length cs → c ≡ get_or cs i c → class_flow_fault names tables number (plain_class c) ≡ Some f → classes_flow_fault names tables number (map plain_class (drop i cs)) ≡ Some f
  classes_stop f within is some = from_class within is ∙ ap (λ g. first_of (g ∷ classes_flow_fault names tables (number + 1) (map plain_class (drop (i + 1) cs)) ∷ [])) some

pub classes_end : (names : List (List ℕ)) (tables : List PlainTable) (number : ℕ) (cs : List Class) (i : ℕ) → length cs ≤ i → classes_flow_fault names tables number (map plain_class (drop i cs)) ≡ None
unfolding classes_flow_fault
classes_end names tables number cs i past = ap (λ ys. classes_flow_fault names tables number (map plain_class ys)) (drop_all i cs past)

found_at : (cs : List Class) (i : ℕ) (c : Class) → i < length cs → c ≡ get_or cs i c → slice_get (map plain_class cs) i ≡ Some (plain_class c)
found_at [] i c within is = absurd (omega arith)
found_at (x ∷ cs) zero c within is = ap (λ y. Some (plain_class y)) (sym is)
found_at (x ∷ cs) (suc i) c within is = found_at cs i c (omega arith) is

-- a class of a program that breaks no class rule has few methods
pub few_in_class : (names : List (List ℕ)) (cs : List Class) (i : ℕ) (c : Class) → i < length cs → c ≡ get_or cs i c → program_fault names (map plain_class cs) ≡ None → length (methods_of names (map plain_method c.members)) ≤ 256
few_in_class names cs i c within is none =
    few_methods names (map plain_class cs) i (plain_class c) none (found_at cs i c within is)

pub few_in_program : (names : List (List ℕ)) (cs : List Class) → program_fault names (map plain_class cs) ≡ None → length cs ≤ 256
few_in_program names cs none = subst (λ n. n ≤ 256) (length-map cs plain_class) (few_classes names (map plain_class cs) none)

pub ruleset find_laws = (is_method, no_method, no_methods, found_here, found_later)

pub ruleset methods_laws = (is_method, no_method, no_methods, methods_pass, methods_stop, methods_end)

pub ruleset classes_laws = (classes_pass, classes_stop, classes_end, few_in_class, few_in_program)
