-- The callees and created classes of an accepted program's flat code are there and have their names.
use Rattle.std.proofs.Common.{◌≡◌, ◌+◌, ℕ, Bool, false, cond, Option, Some, None, Ok, List, [], ◌∷◌, length, map as over, append-nil, unwrap_or, refl, sym, ap, ◌∙◌, subst}
use Rattle.std.specs.Prelude.{◌==◌, ◌&&◌, not, slice_get, option_and_then, is_some}
use Rattle.std.specs.List.{position_from}
use Rattle.std.specs.declared.result.Result.{Result}
use Rattle.std.proofs.Math.Bool.{Bool-set}
use Rattle.std.proofs.Math.Bridge.{le_prop}
use Rattle.std.proofs.Math.Logic.{∥∥₁_elim}
use Rattle.std.proofs.Math.Nat.{ℕ_set}
use Rattle.std.proofs.lemmas.Option.{none-some, slice_get_within}
use Rattle.py_tree.specs.declared.rule.Rule.TheVariants.{MissingReturn}
use Rattle.py_tree.specs.declared.rule.RuleFault.{RuleFault}
use Rattle.py_tree.specs.Bounded.{StmtsNames, IsBounded, IsBoundedClass, IsBoundedMethod}
use Rattle.py_tree.specs.PlainTypes.{TEntity}
use Rattle.py_tree.specs.PlainStatements.{stmts_of}
use Rattle.py_tree.specs.PlainProgram.{PlainMethod, PlainClass, PlainProgram}
use Rattle.py_tree.specs.ClassRules.{PlainTable, PlainSig, methods_of, sig_of, table_of, tables_of}
use Rattle.py_tree.specs.Acceptance.{members_of, members_at}
use Rattle.py_tree.specs.FlowEnvironment.{PlainLocal, has_none}
use Rattle.py_tree.specs.ExpressionTypes.{table_named, method_of, refuse_if, with_found}
use Rattle.py_tree.specs.Reachability.{all_go_on}
use Rattle.py_tree.specs.Flow.{Context, known_at, settled, result_at, Way, begun, sig_at, locals_at_start, in_method, method_locals}
use Rattle.call_graph.specs.SuspendingCode.{Leaving, leaving}
use Rattle.program_meaning.specs.Evaluation.{class_of}
use Rattle.program_meaning.specs.NothingGoesWrong.{IsKnownAccepted}
use Rattle.program_meaning.proofs.LocalShapes.{Shape, shapes, type_in, shapes_settled}
use Rattle.program_meaning.proofs.FlowGrows.{follows_all}
use Rattle.program_meaning.proofs.TableFacts.{all_at, mapped_at}
use Rattle.program_meaning.proofs.MethodFacts.{method_member, body_flows}
use Rattle.block_runs.specs.BlockRuns.{name_if_there}
use Rattle.flat_tree.specs.declared.tree.Callee.{Callee}
use Rattle.flat_tree.specs.declared.tree.Created.{Created}
use Rattle.flat_tree.specs.PlainFlat.{flat_stmts_of}
use Rattle.method_splitter.specs.Callees.{EachInAll, CalleeIsNamed, CreatedIsNamed, CalleeIsThere, CreatedIsThere}
use Rattle.hoisting.specs.Stages.{Stage, class_place, method_place, callee_of, created_of}
use Rattle.hoisting.specs.HoistMethods.{flat_body}
use Rattle.typed_hoisting.specs.KnownLocals.{seen}
use Rattle.typed_hoisting.proofs.LocalLaws.{kept_same}
use Rattle.typed_methods.proofs.KnownWays.{known_before}
use Rattle.typed_hoisting.proofs.TypedKinds.{CalleeStands, callee_stands, created_stands}
use Rattle.quiet_methods.specs.MarksKeepWithin.{source}
use Rattle.compiled_graph.specs.CompiledGraph.{found_locals, flat_method}
use Rattle.hoisted_callees.specs.CalleesStand.{CalleesStand}
use Rattle.hoisted_callees.proofs.EachLaws.{One, all_once}
use Rattle.hoisted_callees.proofs.NamedExpressions.{Stand}
use Rattle.hoisted_callees.proofs.Beforehand.{Early, Ahead}
use Rattle.hoisted_callees.proofs.NamedStatements.{all_named}

-- a place among items is that among what is made of them
place_over : {A B : Type 0} (f : A → B) (p : B → Bool) (i : ℕ) (xs : List A) → position_from p i (over f xs) ≡ position_from (λ x. p (f x)) i xs
place_over f p i [] = refl
place_over f p i (x ∷ xs) = ap (cond (p (f x)) (Some i)) (place_over f p (i + 1) xs)

module _ (names : List (List ℕ)) (program : PlainProgram) where
  abbrev tables : List PlainTable
  tables = tables_of names program

  -- The class tables have their numbers by their names

  methods_in_table : (c : PlainClass) (table : PlainTable) → table_of names c ≡ table → table.methods ≡ over sig_of (methods_of names c.members)
  unfolding table_of
  methods_in_table c table e = sym (ap (λ (t : PlainTable). t.methods) e)

  called_named : (c : Context) → c.tables ≡ tables → (class name : ℕ) (sig : PlainSig) → method_of c.tables class name ≡ Some sig → CalleeIsNamed (source names program) (callee_of c (TEntity class) name)
  called_named c are class name sig h =
      let s : CalleeStands c class name sig = callee_stands c class name sig h in
      let there : slice_get tables (class_place c class) ≡ Some s.table = ap (λ ts. slice_get ts (class_place c class)) (sym are) ∙ s.has_table in
      let k = mapped_at (table_of names) program (class_place c class) s.table there in
      let m = mapped_at sig_of (methods_of names k.0.members) (method_place c class name) sig (ap (λ ms. slice_get ms (method_place c class name)) (sym (methods_in_table k.0 s.table k.2)) ∙ s.has_method) in
      ap (λ o. name_if_there (slice_get (methods_of names (members_of o)) (method_place c class name))) k.1 ∙ ap name_if_there m.1 ∙ ap (λ (d : PlainSig). d.name) m.2 ∙ s.signed

  created_named : (c : Context) → c.tables ≡ tables → (name : ℕ) → CreatedIsNamed (source names program) (created_of c name)
  unfolding class_of table_of
  created_named c are name = sym (ap (λ ts. unwrap_or (position_from (λ (t : PlainTable). t.name == name) 0 ts) 0) are ∙ ap (λ o. unwrap_or o 0) (place_over (table_of names) (λ (t : PlainTable). t.name == name) 0 program))

  called_there : (c : Context) → c.tables ≡ tables → (class name : ℕ) (sig : PlainSig) → method_of c.tables class name ≡ Some sig → CalleeIsThere tables (callee_of c (TEntity class) name)
  called_there c are class name sig h =
      let s : CalleeStands c class name sig = callee_stands c class name sig h in
      let there : slice_get tables (class_place c class) ≡ Some s.table = ap (λ ts. slice_get ts (class_place c class)) (sym are) ∙ s.has_table in
      ap (λ o. is_some (option_and_then (λ (t : PlainTable). slice_get t.methods (method_place c class name)) o)) there ∙ ap is_some s.has_method

  created_there : (c : Context) → c.tables ≡ tables → (name : ℕ) (table : PlainTable) → table_named c.tables name ≡ Some table → CreatedIsThere tables (created_of c name)
  created_there c are name table h = slice_get_within tables (class_place c name) table (ap (λ ts. slice_get ts (class_place c name)) (sym are) ∙ (created_stands c name table h).0)

  -- Methods

  -- the class of a method
  record ClassOf (class number : ℕ) (m : PlainMethod) : Type 0 where
    is : PlainClass
    at : slice_get program class ≡ Some is
    has : slice_get (methods_of names is.members) number ≡ Some m

  class_of_method : (class number : ℕ) (m : PlainMethod) → slice_get (methods_of names (members_at program class)) number ≡ Some m → ClassOf class number m
  unfolding methods_of
  class_of_method class number m h = by (slice_get program class) refl h
    where
      by : (o : Option PlainClass) → slice_get program class ≡ o → slice_get (methods_of names (members_of o)) number ≡ Some m → ClassOf class number m
      by None e h = absurd (none-some m h)
      by (Some c) e h = record { is = c; at = e; has = h }

  module _ (marks : List (List Bool)) (accepted : IsKnownAccepted names program) where
    abbrev context : (class number : ℕ) → Context
    context class number = in_method tables class number

    names_below : (class number : ℕ) (m : PlainMethod) → ClassOf class number m → IsBounded names program → StmtsNames (length names) (stmts_of m.body)
    names_below class number m c b =
        let member = method_member names program accepted.rules.classes accepted.rules.flow number c.is m c.has in
        let bounded : IsBoundedClass (length names) c.is = all_at (IsBoundedClass (length names)) program class c.is b.classes c.at in
        let body : IsBoundedMethod (length names) m = all_at (IsBoundedMethod (length names)) c.is.members member.0 m bounded.members member.1 in
        body.body_named

    -- what is asked of callees and created classes, in one way at most, and stands for those of the class tables
    module _ (P : Callee → Type 0) (Q : Created → Type 0) (one_callee : (a : Callee) → One (P a)) (one_class : (a : Created) → One (Q a)) where
      method_stands : (class number : ℕ) (m : PlainMethod) → Stand P Q (context class number) (leaving names program marks class) (length names) → slice_get (methods_of names (members_at program class)) number ≡ Some m → EachInAll P Q (flat_stmts_of (flat_method names program marks class number m).body)
      unfolding method_locals
      method_stands class number m stand is =
          let d : ClassOf class number m = class_of_method class number m is in
          let leaves : Leaving = leaving names program marks class in
          let c : Context = context class number in
          let limit : ℕ = length names in
          let b = body_flows names program accepted.rules.classes accepted.rules.flow class number d.is m d.at d.has in
          let end : Way = b.end in
          let all : List Shape = shapes end.locals in
          let first : List PlainLocal = locals_at_start (sig_at tables class number) in
          let start : List PlainLocal = settled end.locals (known_at first) in
          let then_end : Way → Result (List PlainLocal) RuleFault = λ v. refuse_if (all_go_on (stmts_of m.body) && not (has_none (result_at c))) MissingReturn m.place (Ok (settled v.locals (known_at first))) in
          let found : method_locals tables class number m ≡ Ok start = ap (λ r. with_found r then_end) b.goes ∙ ap (λ k. refuse_if k MissingReturn m.place (Ok start)) b.ends in
          let grows = (follows_all (stmts_of m.body) c (begun first) end b.goes).grows in
          let early_end : Early all end.locals = record { rest = []; is = sym (append-nil all) } in
          let ahead : Ahead all first start = record {
            typed = λ x t i. ap (λ ss. type_in ss x) (shapes_settled end.locals (known_at first)) ∙ i;
            kept = λ x. kept_same (seen first x) (seen start x) (sym (known_before first end.locals x grows));
          } in
          let h : Stage = record { locals = start; next = limit } in
          subst (λ r. EachInAll P Q (flat_stmts_of (flat_body leaves c (found_locals r) limit (Some m)))) (sym found)
          (∥∥₁_elim accepted.bounded (all_once P Q one_callee one_class _) (λ (bounded : IsBounded names program).
          all_named P Q c leaves limit all stand (stmts_of m.body) (names_below class number m d bounded) false (begun first) end h b.goes early_end ahead))

pub callees_stand : CalleesStand
callees_stand names program marks accepted = (
  λ class number m is.
      let c : Context = in_method (tables_of names program) class number in
      method_stands names program marks accepted (CalleeIsNamed (source names program)) (CreatedIsNamed (source names program)) (λ a. ℕ_set _ _) (λ a. ℕ_set _ _) class number m
      (record { called = called_named names program c refl; created = λ name table h. created_named names program c refl name }) is,
  λ class number m is.
      let c : Context = in_method (tables_of names program) class number in
      method_stands names program marks accepted (CalleeIsThere (tables_of names program)) (CreatedIsThere (tables_of names program)) (λ a. Bool-set _ _) (λ a. le_prop) class number m
      (record { called = called_there names program c refl; created = created_there names program c refl }) is,
)
