-- Small flat methods that keep the rules, whose blocks so fit, and one that breaks them.
use Rattle.std.proofs.Common.{◌≡◌, ◌≤◌, ℕ, arith, pos, true, false, not, Some, None, List, [], ◌∷◌, refl, sym, ap, subst, true≢false}
use Rattle.std.specs.List.{All}
use Rattle.std.proofs.lemmas.Option.{same_Some}
use Rattle.std.proofs.lemmas.List.Elements.{All-nil, All-cons}
use Rattle.py_tree.specs.declared.names.Place.{Place}
use Rattle.py_tree.specs.declared.expr.BinOp.TheVariants as op
use Rattle.py_tree.specs.declared.stmt.Target.TheVariants as target
use Rattle.py_tree.specs.PlainTypes.{PlainTy, TInt, TBool, TStr, TOptional, TEntity}
use Rattle.py_tree.specs.PlainExpressions.{PlainExpr, PInt, PBool, PStr, PVar, PSelf, PAttr, PChain, PIsNone, PNoExpr, PExpr, PLink, PNoLink, PMoreLinks}
use Rattle.py_tree.specs.PlainStatements.{PlainStmt, PReturn, PAssign}
use Rattle.py_tree.specs.ClassRules.{PlainSig, PlainSigParam, PlainField, PlainTable, is_self}
use Rattle.py_tree.specs.Bounded.{EachOfStmts}
use Rattle.py_tree.specs.FlowEnvironment.{PlainLocal, has_name, local_of, shown, narrowed}
use Rattle.py_tree.specs.ExpressionTypes.{type_of, type_of_name, self_ty, table_named, field_of, assignable, combined}
use Rattle.py_tree.specs.Reachability.{goes_on, assigned_in}
use Rattle.py_tree.specs.Flow.{Context, begun, in_method, result_at, with_local, value_as, return_fault, assigned, local_assigned, local_fault, plainly_assigned, earlier, stored, flow}
use Rattle.call_graph.specs.SuspendingCode.{Leaving, expr_suspends, stmt_suspends}
use Rattle.program_meaning.proofs.TypedParts.{same_ok}
use Rattle.block_code.specs.PlainVars.{PlainVar}
use Rattle.block_code.specs.GraphFits.{AtEachItem, BlockFits, at_start}
use Rattle.flat_tree.specs.declared.tree.Callee.{Callee}
use Rattle.flat_tree.specs.PlainFlat.{Point, FMark, FSet, FPut, FGive, FCode, FCall, FWhile, FTry, FNoStmt, FStmt, FClause, FNoClause, FMoreClauses, FLeaf, FAnd, FOperand, FNoOperand, FMoreOperands, PlainFlat}
use Rattle.method_splitter.specs.Callees.{Each}
use Rattle.method_splitter.specs.Points.{PointsPass}
use Rattle.method_splitter.specs.Split.{split_blocks}
use Rattle.flat_types.specs.FlatTypes.{stmt_fits}
use Rattle.flat_types.specs.DeadCode.{HasNoDead}
use Rattle.flat_types.specs.SplitFits.{FlatFits}
use Rattle.flat_types.proofs.BlocksFit.{blocks_fit}

abbrev at : Place
at = record { line = 1; col = 1 }

abbrev var : ℕ → PlainTy → PlainVar
var name ty = record { name = name; ty = ty }

abbrev param : ℕ → PlainTy → PlainSigParam
param name ty = record { name = name; ty = ty }

abbrev field : ℕ → PlainTy → PlainField
field name ty = record { name = name; ty = ty }

abbrev later : ℕ → PlainTy → PlainLocal
later name ty = record { name = name; ty = ty; assigned = false; not_none = false }

abbrev known : ℕ → PlainTy → PlainLocal
known name ty = record { name = name; ty = ty; assigned = true; not_none = false }

abbrev callee : ℕ → ℕ → ℕ → Callee
callee name class method = record { name = record { 0 = name }; class = class; method = method }

-- every call suspends that isn't on self
abbrev leaves : Leaving
leaves on name = not (is_self on)

abbrev poke : PlainSig
poke = record { name = 27; params = param 31 (TEntity 20) ∷ []; result = TInt }

abbrev yes_sig : PlainSig
yes_sig = record { name = 28; params = []; result = TBool }

-- the classes of ping.py: A, 20, with the fields of its key, 23, and `n`, 22, and the method `go`, 25, and B, 21, with the
-- methods `poke`, 27, and `yes`, 28
abbrev b_table : PlainTable
b_table = record { name = 21; key_field = 0; key_param = 0; fields = field 23 TStr ∷ []; methods = poke ∷ yes_sig ∷ []; init = param 23 TStr ∷ [] }

abbrev ping : List PlainTable
ping =
    record { name = 20; key_field = 0; key_param = 0; fields = field 23 TStr ∷ field 22 TInt ∷ []; methods = record { name = 25; params = param 29 (TEntity 21) ∷ []; result = TInt } ∷ []; init = param 23 TStr ∷ [] } ∷ b_table ∷ []

abbrev c : Context
c = in_method ping 0 0

-- code follows a statement that leads on
abbrev moves : {A : Type 0} → true ≡ false → A
moves e = absurd (true≢false e)

-- Calls

-- self.n
abbrev n_read : PlainExpr
n_read = PAttr at (PSelf at) 22 at

abbrev sum : PlainExpr
sum = PChain at (PVar at 50) (PMoreLinks (PLink op.Add at (PVar at 51)) PNoLink)

abbrev go_vars : List PlainVar
go_vars = var 29 (TEntity 21) ∷ var 50 TInt ∷ var 51 TInt ∷ []

-- the method `go`: self.n += b.poke(self), and return self.n
abbrev go : PlainFlat
go = record { params = var 29 (TEntity 21) ∷ []; body = FMark ∷ FSet 50 n_read ∷ FCall (PVar at 29) (callee 27 1 0) (PExpr (PSelf at) PNoExpr) 51 go_vars ∷ FPut 22 sum ∷ FCode (PReturn at (Some n_read)) ∷ [] }

go_fits : FlatFits c leaves go_vars go
unfolding stmt_fits HasNoDead PointsPass Each EachOfStmts at_start type_of type_of_name self_ty table_named field_of local_of assignable combined with_local flow value_as return_fault result_at expr_suspends stmt_suspends assigned_in goes_on
go_fits = record {
  outside = refl;
  once = refl;
  types = (
    (
      (
        TInt,
        record { wanted = None; typed = refl; stays = refl },
        record {
          local = later 50 TInt;
          is = refl;
          suits = refl;
          goes = (
            record {
              table = b_table;
              has_table = refl;
              sig = poke;
              has_method = refl;
              on = record { wanted = None; typed = refl; stays = refl };
              args_fit = record { count = refl; typed = refl; stay = refl };
              takes = record { local = later 51 TInt; is = refl; suits = refl; goes = refl };
            },
            (
              (
                record { ty = TInt; is = refl; fits = record { ty = TInt; has = record { wanted = None; typed = refl; stays = refl }; suits = refl } },
                (record { way = begun (at_start go_vars go_vars); flows = refl; assigns = refl; raises = (tt, tt); stays = refl; goes = λ e. absurd (true≢false (sym e)) }, tt),
              ),
              tt,
            ),
            tt,
          );
        },
      ),
      tt,
    ),
    tt,
  );
  reached = (moves, tt, (moves, tt, (moves, tt, (moves, tt, ((λ e. refl), tt, tt)))));
  params = refl;
  points = (tt, (tt, (refl, (tt, (tt, tt)))));
  callees = (tt, (tt, (refl, (tt, (tt, tt)))));
}

go_blocks_fit : All (BlockFits c leaves go_vars (split_blocks go)) (split_blocks go)
go_blocks_fit = blocks_fit c leaves go_vars go go_fits

-- Loops and tests

abbrev optional : PlainTy
optional = TOptional TInt

-- x, 32, is an Optional, of which the test shows that it is an int; y, 33, takes ints alone
abbrev wait_vars : List PlainVar
wait_vars = var 29 (TEntity 21) ∷ var 32 optional ∷ var 33 TInt ∷ var 50 TBool ∷ []

abbrev around : Point
around = var 29 (TEntity 21) ∷ var 32 optional ∷ []

abbrev within : Point
within = var 29 (TEntity 21) ∷ var 32 TInt ∷ []

abbrev called : Point
called = var 29 (TEntity 21) ∷ var 32 TInt ∷ var 50 TBool ∷ []

-- y = x
abbrev taken : PlainStmt
taken = PAssign at (target.Local (record { name = record { 0 = 33 }; place = at })) None (PVar at 32)

-- while x is not None and b.yes(): y = x, and then `return 0`: where a turn ends x is an Optional again
abbrev wait : PlainFlat
wait = record {
  params = around;
  body =
      FMark
      ∷ FWhile around
      (FAnd (FMoreOperands (FOperand (FLeaf FNoStmt (PIsNone at (PVar at 32) false)) within) (FMoreOperands (FOperand (FLeaf (FStmt (FCall (PVar at 29) (callee 28 1 1) PNoExpr 50 called) FNoStmt) (PVar at 50)) within) FNoOperand))) within
      (FStmt (FCode taken) FNoStmt) (Some around)
      ∷ FGive (PInt at (pos 0)) ∷ [];
}

wait_fits : FlatFits c leaves wait_vars wait
unfolding stmt_fits HasNoDead PointsPass Each EachOfStmts at_start type_of type_of_name table_named local_of assignable with_local narrowed shown has_name flow assigned local_assigned local_fault plainly_assigned earlier stored result_at expr_suspends stmt_suspends assigned_in goes_on
wait_fits = record {
  outside = refl;
  once = refl;
  types = (
    (
      refl,
      (
        (
          ((record { wanted = None; typed = refl; stays = refl }, refl, refl), tt),
          (
            (
              record {
                table = b_table;
                has_table = refl;
                sig = yes_sig;
                has_method = refl;
                on = record { wanted = None; typed = refl; stays = refl };
                args_fit = record { count = refl; typed = refl; stay = refl };
                takes = record { local = later 50 TBool; is = refl; suits = refl; goes = refl };
              },
              ((record { wanted = None; typed = refl; stays = refl }, refl, refl), tt),
              tt,
            ),
            refl,
          ),
        ),
        (record { way = begun (with_local 33 TInt TInt (at_start wait_vars within)); flows = refl; assigns = refl; raises = (tt, tt); stays = refl; goes = λ e. refl }, tt),
      ),
      (record { ty = TInt; has = record { wanted = None; typed = refl; stays = refl }; suits = refl }, tt),
      tt,
      tt,
    ),
    tt,
  );
  reached = (moves, tt, (moves, ((λ e. refl), (tt, ((moves, tt, tt), tt)), ((λ e. refl), tt, tt)), ((λ e. refl), tt, tt)));
  params = refl;
  points = (tt, ((refl, ((tt, refl, ((refl, tt), refl, tt))), refl, (tt, tt), refl), (tt, tt)));
  callees = (tt, (((tt, ((refl, tt), tt)), (tt, tt)), (tt, tt)));
}

wait_blocks_fit : All (BlockFits c leaves wait_vars (split_blocks wait)) (split_blocks wait)
wait_blocks_fit = blocks_fit c leaves wait_vars wait wait_fits

-- while True: self.n = 0: the end isn't reached, so it doesn't matter that None is no int
abbrev endless : PlainFlat
endless = record { params = []; body = FMark ∷ FWhile [] (FLeaf FNoStmt (PBool at true)) [] (FStmt (FPut 22 (PInt at (pos 0))) FNoStmt) None ∷ [] }

endless_fits : FlatFits c leaves [] endless
unfolding stmt_fits HasNoDead PointsPass Each at_start type_of field_of assignable expr_suspends
endless_fits = record {
  outside = refl;
  once = refl;
  types = ((refl, ((record { ty = TInt; is = refl; fits = record { ty = TInt; has = record { wanted = None; typed = refl; stays = refl }; suits = refl } }, refl), tt), tt, tt, tt), tt);
  reached = (moves, tt, ((λ e. refl), (moves, tt, ((λ e. refl), tt, tt)), tt));
  params = refl;
  points = (tt, ((refl, tt, refl, (tt, tt), tt), tt));
  callees = (tt, ((tt, (tt, tt)), tt));
}

-- Clauses

abbrev tried_vars : List PlainVar
tried_vars = var 29 (TEntity 21) ∷ var 51 TInt ∷ []

abbrev on_b : Point
on_b = var 29 (TEntity 21) ∷ []

-- try: b.poke(self), except NoEntity: return 0, and then `return 1`
abbrev tried : PlainFlat
tried = record {
  params = on_b;
  body =
      FMark ∷ FTry on_b (FStmt (FCall (PVar at 29) (callee 27 1 0) (PExpr (PSelf at) PNoExpr) 51 tried_vars) FNoStmt) (FMoreClauses (FClause (9 ∷ []) on_b (FStmt (FGive (PInt at (pos 0))) FNoStmt)) FNoClause) (Some on_b)
      ∷ FGive (PInt at (pos 1)) ∷ [];
}

tried_fits : FlatFits c leaves tried_vars tried
unfolding stmt_fits HasNoDead PointsPass Each AtEachItem at_start type_of type_of_name self_ty table_named field_of local_of assignable with_local result_at expr_suspends
tried_fits = record {
  outside = refl;
  once = refl;
  types = (
    (
      refl,
      (
        record {
          table = b_table;
          has_table = refl;
          sig = poke;
          has_method = refl;
          on = record { wanted = None; typed = refl; stays = refl };
          args_fit = record { count = refl; typed = refl; stay = refl };
          takes = record { local = later 51 TInt; is = refl; suits = refl; goes = refl };
        },
        refl,
        (refl, tt),
      ),
      (All-cons (λ (kind : ℕ). (1 ≤ kind) × (kind ≤ 11)) 9 [] (omega arith, omega arith) (All-nil (λ (kind : ℕ). (1 ≤ kind) × (kind ≤ 11))), (record { ty = TInt; has = record { wanted = None; typed = refl; stays = refl }; suits = refl }, tt), tt, tt),
      (record { ty = TInt; has = record { wanted = None; typed = refl; stays = refl }; suits = refl }, tt),
    ),
    tt,
  );
  reached = (moves, tt, (moves, (((λ e. refl), tt, tt), (((λ e. refl), tt, tt), tt)), ((λ e. refl), tt, tt)));
  params = refl;
  points = (tt, ((refl, (refl, tt), (refl, (tt, tt), tt), refl), (tt, tt)));
  callees = (tt, (((refl, tt), ((tt, tt), tt)), (tt, tt)));
}

tried_blocks_fit : All (BlockFits c leaves tried_vars (split_blocks tried)) (split_blocks tried)
tried_blocks_fit = blocks_fit c leaves tried_vars tried tried_fits

-- What breaks the rules

-- a text goes into a variable for whole numbers
abbrev wrong : PlainFlat
wrong = record { params = []; body = FSet 50 (PStr at 40) ∷ [] }

wrong_is_refused : FlatFits c leaves (var 50 TInt ∷ []) wrong → ⊥
unfolding stmt_fits at_start type_of local_of assignable
wrong_is_refused f =
    let t = f.types.0 in
    let is_text : TStr ≡ t.0 = same_ok TStr t.0 t.1.typed in
    let is_int : TInt ≡ t.2.local.ty = ap (λ (l : PlainLocal). l.ty) (same_Some (later 50 TInt) t.2.local t.2.is) in
    true≢false (sym (subst (λ u. assignable u TInt ≡ true) (sym is_text) (subst (λ u. assignable t.0 u ≡ true) (sym is_int) t.2.suits)))

-- a clause begins with a variable that has no value yet where the body may fail
abbrev too_early : PlainFlat
too_early = record { params = []; body = FTry [] (FStmt FMark FNoStmt) (FMoreClauses (FClause (1 ∷ []) (var 50 TInt ∷ []) FNoStmt) FNoClause) (Some []) ∷ [] }

too_early_is_refused : FlatFits c leaves (var 50 TInt ∷ []) too_early → ⊥
unfolding stmt_fits AtEachItem at_start local_of
too_early_is_refused f = true≢false (sym f.types.1.1.0.0)
