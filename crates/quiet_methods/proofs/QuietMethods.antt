-- The body of a method without a mark doesn't suspend, and a call that stays by the marks runs such a body.
use Rattle.std.proofs.Common.{◌≡◌, ℕ, Bool, true, false, not, Option, Some, None, List, [], unwrap_or, refl, sym, ap, ◌∙◌, true≢false}
use Rattle.std.specs.Prelude.{Contains, slice_get, slice_index_or, option_map}
use Rattle.std.specs.List.{list_any}
use Rattle.std.proofs.lemmas.List.Folds.{Any-from_list_any}
use Rattle.std.proofs.lemmas.Option.{slice_get-map}
use Rattle.py_tree.specs.PlainStatements.{stmts_of}
use Rattle.py_tree.specs.PlainProgram.{PlainMethod, PlainClass, PlainProgram}
use Rattle.py_tree.specs.ClassRules.{is_self, body_of, methods_of as methods_among}
use Rattle.py_tree.specs.Acceptance.{KeepsRules, members_of, method_named}
use Rattle.call_graph.specs.declared.sites.Site.{Site}
use Rattle.call_graph.specs.declared.sites.Site.TheVariants.{Own, Away}
use Rattle.call_graph.specs.Marks.{suspends, is_marked, IsGraph}
use Rattle.call_graph.specs.Suspending.{Holds, MaySuspend, leaves, calls, method_names, method_sites, class_sites}
use Rattle.call_graph.specs.SuspendingCode.{leaving, method_leaves, stmts_suspend}
use Rattle.program_meaning.specs.ClassTables.{methods_of}
use Rattle.program_meaning.specs.Evaluation.{method_of}
use Rattle.program_meaning.specs.HereInState.{KeepsWithin}
use Rattle.program_meaning.proofs.TypedParts.{either_false, not_false}
use Rattle.program_meaning.proofs.MethodFacts.{BodyFlows, body_flows}
use Rattle.quiet_methods.specs.MarksKeepWithin.{source, UnmarkedStay, MarksKeepWithin, CheckedKeepWithin}
use Rattle.quiet_methods.proofs.QuietStatements.{stmts_stay}

module _ (names : List (List ℕ)) (program : PlainProgram) (rules : KeepsRules names program) (graph : List (List Bool)) (exact : IsGraph names program graph) where
  -- a method without a mark holds no call or creation that suspends by the marks
  none_held : (class method : ℕ) (c : PlainClass) (m : PlainMethod) → slice_get program class ≡ Some c → slice_get (methods_among names c.members) method ≡ Some m → is_marked graph class method ≡ false
      → list_any (suspends (slice_index_or graph class [])) (method_sites program (method_names (methods_among names c.members)) m) ≡ false
  unfolding class_sites
  none_held class method c m is at unmarked = by (list_any (suspends (slice_index_or graph class [])) held) refl
    where
      held : List Site
      held = method_sites program (method_names (methods_among names c.members)) m

      row : slice_get (class_sites names program c) method ≡ Some held
      row = slice_get-map (method_sites program (method_names (methods_among names c.members))) (methods_among names c.members) method ∙ ap (option_map (method_sites program (method_names (methods_among names c.members)))) at

      holds : (site : Site) → Contains held site → Holds names program class method site
      holds site among = record { of_class = c; class_is = is; held = held; held_is = row; among = among }

      never : MaySuspend names program class method → ⊥
      never may = true≢false (sym ((exact.exact class method).1 may) ∙ unmarked)

      suspending : (site : Site) → Contains held site → suspends (slice_index_or graph class []) site ≡ true → ⊥
      suspending Away among h = never (leaves class method (holds Away among))
      suspending (Own called) among h = never (calls class method called (holds (Own called) among) ((exact.exact class called).0 h))

      by : (b : Bool) → list_any (suspends (slice_index_or graph class [])) held ≡ b → b ≡ false
      by false h = refl
      by true h =
          let found = Any-from_list_any (suspends (slice_index_or graph class [])) held h in
          absurd (suspending found.1 (found.0, found.2, found.3) found.4)

  body_stays : (class method : ℕ) (c : PlainClass) → slice_get program class ≡ Some c → (m : Option PlainMethod) → slice_get (methods_among names c.members) method ≡ m → is_marked graph class method ≡ false → stmts_suspend (leaving names program graph class) (stmts_of (body_of m)) ≡ false
  unfolding stmts_suspend
  body_stays class method c is None at unmarked = refl
  body_stays class method c is (Some m) at unmarked =
      let b : BodyFlows names program rules.classes rules.flow class method m = body_flows names program rules.classes rules.flow class method c m is at in
      stmts_stay names program rules.classes class c is graph method (stmts_of m.body) false _ b.end b.goes (none_held class method c m is at unmarked)

  class_stays : (class method : ℕ) (c : Option PlainClass) → slice_get program class ≡ c → is_marked graph class method ≡ false → stmts_suspend (leaving names program graph class) (stmts_of (body_of (slice_get (methods_among names (members_of c)) method))) ≡ false
  unfolding stmts_suspend methods_among
  class_stays class method None is unmarked = refl
  class_stays class method (Some c) is unmarked = body_stays class method c is (slice_get (methods_among names c.members) method) refl unmarked

  pub unmarked_stays : (class method : ℕ) → is_marked graph class method ≡ false → stmts_suspend (leaving names program graph class) (stmts_of (body_of (slice_get (methods_of (source names program) class) method))) ≡ false
  unmarked_stays class method unmarked = class_stays class method (slice_get program class) refl unmarked

  -- a method that stays has a number, and no mark
  numbered : (class : ℕ) (number : Option ℕ) → method_leaves graph class number ≡ false → (is_marked graph class (unwrap_or number 0) ≡ false)
  numbered class None h = absurd (true≢false h)
  numbered class (Some method) h = h

  pub keeps_within : (class : ℕ) → KeepsWithin (source names program) class (leaving names program graph class)
  unfolding method_of
  keeps_within class = record {
    selves = λ on name stays. not_false (is_self on) (either_false (not (is_self on)) (method_leaves graph class (method_named names program class name)) stays).0;
    bodies = λ on name stays. unmarked_stays class (method_of (source names program) class name) (numbered class (method_named names program class name) (either_false (not (is_self on)) (method_leaves graph class (method_named names program class name)) stays).1);
  }

pub unmarked_stay : UnmarkedStay
unmarked_stay names program rules graph exact class method unmarked = unmarked_stays names program rules graph exact class method unmarked

pub marks_keep_within : MarksKeepWithin
marks_keep_within names program rules graph exact class = keeps_within names program rules graph exact class

pub checked_keep_within : CheckedKeepWithin
checked_keep_within c graph exact class = keeps_within _ _ c.rules graph exact class
