-- What fits at a point of a method: the locals fit what is known of them there, an expression gives what fits its type, and
-- statements come to what fits the way behind them.
use Rattle.std.specs.Prelude.{◌≡◌, ℕ, true, List, [], ◌∷◌, Some, find, option_map, slice_get}
use Rattle.std.specs.FinMap as map
use Rattle.py_tree.specs.PlainTypes.{TEntity}
use Rattle.py_tree.specs.PlainStatements.{PlainStmts}
use Rattle.py_tree.specs.ClassRules.{PlainTable}
use Rattle.py_tree.specs.FlowEnvironment.{PlainLocal, local_of}
use Rattle.py_tree.specs.ExpressionTypes.{read_ty}
use Rattle.py_tree.specs.Reachability.{all_go_on, break_in, assigned_in}
use Rattle.py_tree.specs.Flow.{Context, Known, Way, at_head, result_at, settled}
use Rattle.sf_value.specs.Keys.{Key}
use Rattle.sf_value.specs.declared.value.Value.{Value}
use Rattle.sf_value.specs.declared.Failure.{Failure}
use Rattle.program_meaning.specs.declared.vars.Var.{Var}
use Rattle.program_meaning.specs.World.{State, World, Gives, Got, Fell, Ends, Goes, Returns, Breaks, Continues, Fails, Calls, is_named}
use Rattle.program_meaning.specs.Fits.{HasTable, Fits, StateFits, CallFits, NewFits, ResultFits, FailureFits}

-- a name has this value
pub record HasValue (vars : List Var) (x : ℕ) (v : Value) : Type 0 where
  pub found : option_map (λ (a : Var). a.value) (find (is_named x) vars) ≡ Some v

-- a local has a value, which fits its type; where it is surely not None, the value fits what an Optional holds
pub record ValueFits (tables : List PlainTable) (vars : List Var) (l : PlainLocal) : Type 0 where
  pub value : Value
  pub has_value : HasValue vars l.name value
  pub fits : Fits tables (read_ty l) value

-- the values of locals fit: each that is surely assigned has a value that fits
pub data VarsFit (tables : List PlainTable) (vars : List Var) : List PlainLocal → Type 0 where
  no_local : VarsFit tables vars []
  one_local : {l : PlainLocal} {ls : List PlainLocal} → (l.assigned ≡ true → ValueFits tables vars l) → VarsFit tables vars ls → VarsFit tables vars (l ∷ ls)

-- what is given has a property, in a world that fits; or the failure fits, and the world does
pub data GivesFit {W A : Type 0} (WorldFits : W → Type 0) (P : A → Type 0) : Gives W A → Type 0 where
  got : {x : A} {w : W} {n : ℕ} → P x → WorldFits w → GivesFit WorldFits P (Got x w n)
  fell : {f : Failure} {w : W} {n : ℕ} → FailureFits f → WorldFits w → GivesFit WorldFits P (Fell f w n)

-- a value is an entity of the class of this number
pub record MadeFits (tables : List PlainTable) (class : ℕ) (v : Value) : Type 0 where
  pub table : PlainTable
  pub has_table : HasTable tables class table
  pub fits : Fits tables (TEntity table.name) v

-- calls and creations keep what fits
pub record CallsFit (tables : List PlainTable) {W : Type 0} (WorldFits : W → Type 0) (calls : Calls W) : Type 0 where
  pub call : (at : Key) (method : ℕ) (args : List Value) (w : W) (n : ℕ) → CallFits tables at.0 method args → WorldFits w → GivesFit WorldFits (ResultFits tables at.0 method) (calls.call at method args w n)
  pub make : (class : ℕ) (args : List Value) (w : W) (n : ℕ) → NewFits tables class args → WorldFits w → GivesFit WorldFits (MadeFits tables class) (calls.make class args w n)

-- the state of a world fits, and each entity that there was in this state is still there
pub record Since (tables : List PlainTable) (s : State) (w : World) : Type 0 where
  pub fits : StateFits tables w.state
  pub kept : (q : Key) (a : List Value) → map.get s q ≡ Some a → (b : List Value) × (map.get w.state q ≡ Some b)

-- locals of one name have one type
pub record OneType (locals : List PlainLocal) : Type 0 where
  pub each : (k : ℕ) (l : PlainLocal) → slice_get locals k ≡ Some l → option_map (λ (m : PlainLocal). m.ty) (local_of locals l.name) ≡ Some l.ty

-- what statements come to fits the way behind them: they go on only to a point that can be reached, with locals that fit there;
-- they return what fits the result; they leave a turn or a loop only in one, with locals that fit behind it; and where they fail,
-- the locals fit what was known before them, but that a name that they assign may have got None
pub data EndsFit (tables : List PlainTable) {W : Type 0} (WorldFits : W → Type 0) (c : Context) (xs : PlainStmts) (before after : Way) : Ends W → Type 0 where
  goes : {vars : List Var} {w : W} {n : ℕ} → all_go_on xs ≡ true → VarsFit tables vars after.locals → WorldFits w → EndsFit tables WorldFits c xs before after (Goes vars w n)
  returns : {v : Value} {w : W} {n : ℕ} → Fits tables (result_at c) v → WorldFits w → EndsFit tables WorldFits c xs before after (Returns v w n)
  leaves : {vars : List Var} {w : W} {n : ℕ} → (known : List Known) → c.in_loop ≡ true → break_in xs ≡ true → after.breaks ≡ Some known → VarsFit tables vars (settled after.locals known) → WorldFits w → EndsFit tables WorldFits c xs before after (Breaks vars w n)
  turns : {vars : List Var} {w : W} {n : ℕ} → c.in_loop ≡ true → WorldFits w → EndsFit tables WorldFits c xs before after (Continues vars w n)
  fails : {f : Failure} {vars : List Var} {w : W} {n : ℕ} → FailureFits f → VarsFit tables vars (at_head (assigned_in xs) before.locals) → WorldFits w → EndsFit tables WorldFits c xs before after (Fails f vars w n)
