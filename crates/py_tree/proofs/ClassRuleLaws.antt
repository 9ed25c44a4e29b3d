-- What follows where no class rule is broken: each class keeps its rules, and there are few of each kind.
use Rattle.std.proofs.Common.{◌≡◌, ℕ, zero, suc, arith, true, false, Bool, ◌+◌, ◌≤◌, Option, Some, None, List, [], ◌∷◌, ◌++◌, length, append_assoc, append-nil, length-append, refl, sym, ap, subst}
use Rattle.std.specs.Prelude.{slice_get, ◌&&◌, cond}
use Rattle.std.proofs.lemmas.List.Elements.{filter-append}
use Rattle.py_tree.specs.declared.names.Place.{Place}
use Rattle.py_tree.specs.declared.rule.Rule.{Rule}
use Rattle.py_tree.specs.declared.rule.Rule.TheVariants.{TooMany, ReservedName, DuplicateClass, DuplicateMember}
use Rattle.py_tree.specs.declared.rule.RuleFault.{RuleFault}
use Rattle.py_tree.specs.PlainProgram.{PlainMethod, PlainClass, PlainProgram}
use Rattle.py_tree.specs.ClassRules.{is_called, is_dunder, text_of, is_reserved, is_class, is_member, is_init, broken, is_full, first_of, first_behind, first_in, param_fault, result_fault, init_body_fault, member_name_fault, member_fault, methods_of, class_name_fault, whole_fault, class_fault, program_fault}

-- what stands last decides alone
pub first_of_one : (f : Option RuleFault) → first_of (f ∷ []) ≡ f
first_of_one None = refl
first_of_one (Some f) = refl

pub head_none : (a : Option RuleFault) (more : List (Option RuleFault)) → first_of (a ∷ more) ≡ None → a ≡ None
head_none None more e = refl
head_none (Some f) more e = e

pub rest_none : (a : Option RuleFault) (more : List (Option RuleFault)) → first_of (a ∷ more) ≡ None → first_of more ≡ None
rest_none None more e = e
rest_none (Some f) more e = grind (arith, e)

pub not_broken : (rule : Rule) (place : Place) (b : Bool) → broken rule place b ≡ None → b ≡ false
not_broken rule place false e = refl
not_broken rule place true e = grind (arith, e)

pub few : (n : ℕ) → is_full n ≡ false → n + 1 ≤ 256
few n e = grind (arith, e)

-- a list stays small where each item without a fault keeps it small
pub stays : {X : Type 0} (fault : List X → X → Option RuleFault) (size : List X → ℕ) → ((before : List X) (x : X) → size before ≤ 256 → fault before x ≡ None → size (before ++ x ∷ []) ≤ 256) → (before xs : List X) → size before ≤ 256 → first_behind fault before xs ≡ None → size (before ++ xs) ≤ 256
stays fault size keeps before [] small none = subst (λ ys. size ys ≤ 256) (sym (append-nil before)) small
stays fault size keeps before (x ∷ xs) small none =
    let now : fault before x ≡ None = head_none (fault before x) (first_behind fault (before ++ x ∷ []) xs ∷ []) none in
    let later : first_behind fault (before ++ x ∷ []) xs ≡ None = head_none (first_behind fault (before ++ x ∷ []) xs) [] (rest_none (fault before x) (first_behind fault (before ++ x ∷ []) xs ∷ []) none) in
    subst (λ ys. size ys ≤ 256) (append_assoc before (x ∷ []) xs) (stays fault size keeps (before ++ x ∷ []) xs (keeps before x small now) later)

-- where no item has a fault, that at a place has none
pub each_kept : {X : Type 0} (fault : X → Option RuleFault) (before xs : List X) (k : ℕ) (x : X) → first_behind (λ ys y. fault y) before xs ≡ None → slice_get xs k ≡ Some x → fault x ≡ None
each_kept fault before [] k x none is = grind (arith, is)
each_kept fault before (y ∷ xs) zero x none is =
    let same : y ≡ x = grind (arith, is) in
    subst (λ z. fault z ≡ None) same (head_none (fault y) (first_behind (λ ys y. fault y) (before ++ y ∷ []) xs ∷ []) none)
each_kept fault before (y ∷ xs) (suc k) x none is =
    let rest : Option RuleFault = first_behind (λ ys y. fault y) (before ++ y ∷ []) xs in
    each_kept fault (before ++ y ∷ []) xs k x (head_none rest [] (rest_none (fault y) (rest ∷ []) none)) is

one_class_more : (before : List PlainClass) (c : PlainClass) → length before ≤ 256 → class_name_fault before c ≡ None → length (before ++ c ∷ []) ≤ 256
unfolding class_name_fault
one_class_more before c small none =
    let others : List (Option RuleFault) = broken ReservedName c.place (is_reserved c.name) ∷ broken DuplicateClass c.place (is_class before c.name) ∷ [] in
    let room : length before + 1 ≤ 256 = few (length before) (not_broken TooMany c.place (is_full (length before)) (head_none (broken TooMany c.place (is_full (length before))) others none)) in
    let longer : length (before ++ c ∷ []) ≡ length before + 1 = length-append before (c ∷ []) in
    omega (arith, room, longer)

pub few_classes : (names : List (List ℕ)) (program : PlainProgram) → program_fault names program ≡ None → length program ≤ 256
unfolding program_fault
few_classes names program none =
    stays class_name_fault length one_class_more [] program (omega arith) (head_none (first_in class_name_fault program) (first_in (λ before c. class_fault names program c) program ∷ []) none)

-- the class of a number keeps its rules
pub class_kept : (names : List (List ℕ)) (program : PlainProgram) (k : ℕ) (c : PlainClass) → program_fault names program ≡ None → slice_get program k ≡ Some c → class_fault names program c ≡ None
unfolding program_fault
class_kept names program k c none is =
    let classes : Option RuleFault = first_in (λ before c. class_fault names program c) program in
    each_kept (class_fault names program) [] program k c (head_none classes [] (rest_none (first_in class_name_fault program) (classes ∷ []) none)) is

-- one more member that is called, or isn't
methods_with : (names : List (List ℕ)) (before : List PlainMethod) (m : PlainMethod) (b : Bool) → is_called names m.name ≡ b → (b && is_full (length (methods_of names before))) ≡ false → length (methods_of names before) ≤ 256 → length (methods_of names (before ++ m ∷ [])) ≤ 256
unfolding methods_of
methods_with names before m true e room small =
    let one : methods_of names (m ∷ []) ≡ m ∷ [] = ap (λ b. cond b (m ∷ []) []) e in
    omega (arith, few (length (methods_of names before)) room, ap length (filter-append (λ m. is_called names m.name) before (m ∷ [])), length-append (methods_of names before) (methods_of names (m ∷ [])), ap length one)
methods_with names before m false e room small =
    let none : methods_of names (m ∷ []) ≡ [] = ap (λ b. cond b (m ∷ []) []) e in
    omega (arith, small, ap length (filter-append (λ m. is_called names m.name) before (m ∷ [])), length-append (methods_of names before) (methods_of names (m ∷ [])), ap length none)

one_method_more : (names : List (List ℕ)) (program : PlainProgram) (members before : List PlainMethod) (m : PlainMethod) → length (methods_of names before) ≤ 256 → member_fault names program members before m ≡ None → length (methods_of names (before ++ m ∷ [])) ≤ 256
unfolding member_fault member_name_fault
one_method_more names program members before m small none =
    let later : List (Option RuleFault) = first_in (param_fault program) m.params ∷ result_fault names program m ∷ cond (is_init names m.name) (init_body_fault names program members m.body) None ∷ [] in
    let others : List (Option RuleFault) = broken ReservedName m.place (is_called names m.name && is_dunder (text_of names m.name)) ∷ broken DuplicateMember m.place (is_member before m.name) ∷ [] in
    let full : Bool = is_called names m.name && is_full (length (methods_of names before)) in
    let name_kept : member_name_fault names before m ≡ None = head_none (member_name_fault names before m) later none in
    methods_with names before m (is_called names m.name) refl (not_broken TooMany m.place full (head_none (broken TooMany m.place full) others name_kept)) small

pub few_methods : (names : List (List ℕ)) (program : PlainProgram) (k : ℕ) (c : PlainClass) → program_fault names program ≡ None → slice_get program k ≡ Some c → length (methods_of names c.members) ≤ 256
unfolding class_fault methods_of
few_methods names program k c none is =
    stays (member_fault names program c.members) (λ ms. length (methods_of names ms)) (one_method_more names program c.members) [] c.members (omega arith) (head_none (first_in (member_fault names program c.members) c.members) (whole_fault names c ∷ []) (class_kept names program k c none is))
