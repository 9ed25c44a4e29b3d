-- The compiled graph of a small program, of whose two methods one suspends; its flat code keeps the rules.
use Rattle.std.proofs.Common.{arith, ◌≤◌, zero, suc, sym, subst, Bool, true≢false, ◌≡◌, ℕ, true, false, Some, None, List, [], ◌∷◌, ◌++◌, refl}
use Rattle.std.specs.Prelude.{codes}
use Rattle.std.specs.declared.option.Option.{Option}
use Rattle.std.proofs.lemmas.Option.{same_Some, none-some}
use Rattle.std.proofs.lemmas.List.Elements.{All-nil, All-cons}
use Rattle.py_tree.specs.declared.names.Place.{Place}
use Rattle.py_tree.specs.declared.names.PlacedName.{PlacedName}
use Rattle.py_tree.specs.declared.stmt.Target.TheVariants as target
use Rattle.py_tree.specs.ReservedNames.{reserved_names}
use Rattle.py_tree.specs.PlainTypes.{PlainWritten, WBool, WStr, WEntity, TBool, TEntity}
use Rattle.py_tree.specs.PlainExpressions.{PlainExpr, PBool, PVar, PSelf, PAttr, PCall, PNoExpr}
use Rattle.py_tree.specs.PlainStatements.{PlainStmt, PReturn, PAssign, PNoStmt, PStmt}
use Rattle.py_tree.specs.PlainProgram.{PlainParam, PlainMethod, PlainClass, PlainProgram}
use Rattle.py_tree.specs.ClassRules.{PlainSig, text_of, is_init, is_key, is_called, methods_of, fields_of, init_of, key_of, table_of}
use Rattle.py_tree.specs.FlowEnvironment.{local_of, has_name, shown, narrowed}
use Rattle.py_tree.specs.ExpressionTypes.{type_of, type_of_name, table_named, method_of, assignable}
use Rattle.py_tree.specs.Reachability.{goes_on, all_go_on, assigned_in}
use Rattle.py_tree.specs.Bounded.{EachOfStmts}
use Rattle.py_tree.specs.Flow.{begun, with_local, flow, flow_all, known_at, settled, method_locals, result_at, return_fault, value_as}
use Rattle.call_graph.specs.SuspendingCode.{expr_suspends, stmt_suspends}
use Rattle.block_code.specs.PlainVars.{PlainVar}
use Rattle.block_code.specs.PlainBlocks.{IMark, IGive, ICode, PlainItem, PlainEnd, ELeave, ECall, PlainBlock}
use Rattle.flat_tree.specs.Flatness.{jumps}
use Rattle.hoisting.specs.HoistExpressions.{taken}
use Rattle.hoisting.specs.HoistStatements.{opened}
use Rattle.method_splitter.specs.Split.{split}
use Rattle.method_splitter.specs.Callees.{Each}
use Rattle.method_splitter.specs.Points.{PointsPass}
use Rattle.flat_types.specs.FlatTypes.{stmt_fits}
use Rattle.flat_types.specs.DeadCode.{HasNoDead}
use Rattle.block_code.specs.GraphFits.{at_start}
use Rattle.compiled_graph.specs.CodeKeepsRules.{OfEachMethod, NamesItsCallees, HasTypes, CodeKeepsRules}
use Rattle.compiled_graph.specs.CompiledGraph.{methods_compiled, classes_compiled, compiled}

abbrev at : Place
at = record { line = 1; col = 1 }

abbrev named : ℕ → PlacedName
named x = record { name = record { 0 = x }; place = at }

-- the class Door, 18, with `__init__`, 19, `__key__`, 20, `is_open`, 21, and `ask`, 22, its key, 23, and the parameter `other`, 24
abbrev names : List (List ℕ)
names = reserved_names ++ codes "Door" ∷ codes "__init__" ∷ codes "__key__" ∷ codes "is_open" ∷ codes "ask" ∷ codes "key" ∷ codes "other" ∷ []

abbrev method : ℕ → List PlainParam → Option PlainWritten → PlainStmt → PlainMethod
method name params result body = record { name = name; place = at; params = params; result = result; body = body ∷ [] }

abbrev param : ℕ → PlainWritten → PlainParam
param name ty = record { name = name; ty = Some ty; place = at }

-- self.key
abbrev key : PlainExpr
key = PAttr at (PSelf at) 23 at

-- return True
abbrev yes : PlainStmt
yes = PReturn at (Some (PBool at true))

abbrev is_open : PlainMethod
is_open = method 21 [] (Some (WBool at)) yes

-- ask: return other.is_open()
abbrev ask : PlainMethod
ask = method 22 (param 24 (WEntity at 18) ∷ []) (Some (WBool at)) (PReturn at (Some (PCall at (PVar at 24) 21 at PNoExpr)))

abbrev door : PlainClass
door = record {
  name = 18;
  place = at;
  members =
      method 19 (param 23 (WStr at) ∷ []) None (PAssign at (target.Field (named 23)) (Some (WStr at)) (PVar at 23))
      ∷ method 20 [] (Some (WStr at)) (PReturn at (Some key))
      ∷ is_open ∷ ask ∷ [];
}

abbrev doors : PlainProgram
doors = door ∷ []

abbrev made : List PlainVar → List PlainItem → PlainEnd → PlainBlock
made params code end = record { params = params; code = code; end = end; rank = 0; catches = [] }

abbrev other : PlainVar
other = record { name = 24; ty = TEntity 18 }

-- what the call gives
abbrev given : PlainVar
given = record { name = 25; ty = TBool }

abbrev marks : List (List Bool)
marks = (false ∷ true ∷ []) ∷ []

-- the blocks of is_open, and of ask, which waits for what the call gives
graph : compiled names doors marks
    ≡ (made [] (ICode (PStmt yes PNoStmt) ∷ []) ELeave ∷ [])
    ∷ (made (other ∷ []) (IMark ∷ []) (ECall (PVar at 24) 0 0 PNoExpr 25 1) ∷ made (other ∷ given ∷ []) (IGive (PVar at 25) ∷ []) ELeave ∷ [])
    ∷ []
unfolding classes_compiled methods_compiled text_of is_init is_key is_called methods_of fields_of init_of key_of table_of local_of has_name shown narrowed type_of type_of_name table_named method_of assignable goes_on all_go_on flow flow_all known_at settled method_locals result_at return_fault value_as expr_suspends stmt_suspends jumps taken opened split
graph = refl

-- Its flat code keeps the rules

-- what is so of both methods is so of each
of_both : (P : ℕ → ℕ → PlainMethod → Type 0) → P 0 0 is_open → P 0 1 ask → OfEachMethod names doors P
unfolding methods_of is_called is_init is_key text_of
of_both P first second zero zero m is = subst (P 0 0) (same_Some _ _ is) first
of_both P first second zero (suc zero) m is = subst (P 0 1) (same_Some _ _ is) second
of_both P first second zero (suc (suc number)) m is = absurd (none-some m is)
of_both P first second (suc class) number m is = absurd (none-some m is)

abbrev is_open_sig : PlainSig
is_open_sig = record { name = 21; params = []; result = TBool }

-- code follows a statement that leads on
abbrev moves : {A : Type 0} → true ≡ false → A
moves e = absurd (true≢false e)

is_open_types : HasTypes names doors marks 0 0 is_open
unfolding stmt_fits HasNoDead PointsPass Each EachOfStmts at_start assigned_in text_of is_init is_key is_called methods_of fields_of init_of key_of table_of local_of has_name shown narrowed type_of assignable goes_on all_go_on flow flow_all known_at settled method_locals result_at return_fault value_as expr_suspends stmt_suspends jumps opened
is_open_types = record {
  temporaries = [];
  are_temporaries = All-nil _;
  fits = record {
    outside = refl;
    once = refl;
    types = (record { way = begun []; flows = refl; assigns = refl; raises = (tt, tt); stays = refl; goes = λ e. absurd (true≢false (sym e)) }, tt);
    reached = ((λ e. refl), tt, tt);
    params = refl;
    points = (tt, tt);
    callees = (tt, tt);
  };
}

ask_types : HasTypes names doors marks 0 1 ask
unfolding stmt_fits HasNoDead PointsPass Each EachOfStmts at_start with_local assigned_in text_of is_init is_key is_called methods_of fields_of init_of key_of table_of local_of has_name shown narrowed type_of type_of_name table_named method_of assignable goes_on all_go_on flow flow_all known_at settled method_locals result_at return_fault value_as expr_suspends stmt_suspends jumps taken opened
ask_types = record {
  temporaries = given ∷ [];
  are_temporaries = All-cons (λ (v : PlainVar). 25 ≤ v.name) given [] (omega arith) (All-nil (λ (v : PlainVar). 25 ≤ v.name));
  fits = record {
    outside = refl;
    once = refl;
    types = (
      (
        record {
          table = table_of names door;
          has_table = refl;
          sig = is_open_sig;
          has_method = refl;
          on = record { wanted = None; typed = refl; stays = refl };
          args_fit = record { count = refl; typed = refl; stay = refl };
          takes = record { local = record { name = 25; ty = TBool; assigned = false; not_none = false }; is = refl; suits = refl; goes = refl };
        },
        (record { ty = TBool; has = record { wanted = None; typed = refl; stays = refl }; suits = refl }, tt),
        tt,
      ),
      tt,
    );
    reached = (moves, tt, (moves, tt, ((λ e. refl), tt, tt)));
    params = refl;
    points = (tt, (refl, (tt, tt)));
    callees = (tt, (refl, (tt, tt)));
  };
}

doors_keep : CodeKeepsRules names doors marks
unfolding Each text_of is_init is_key is_called methods_of fields_of init_of key_of table_of local_of has_name shown narrowed type_of type_of_name table_named method_of assignable goes_on all_go_on flow flow_all known_at settled method_locals result_at return_fault value_as expr_suspends stmt_suspends jumps taken opened
doors_keep = record { callees = of_both (NamesItsCallees names doors marks) (tt, tt) (tt, (refl, (tt, tt))); types = of_both (HasTypes names doors marks) is_open_types ask_types }
