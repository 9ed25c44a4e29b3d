-- What the blocks of a method do: the items of a block in turn, and then its end. A failure goes on at the first catch of its block
-- that names it.
--
-- What a call or a creation at an end comes to is left open, so that one definition serves the whole state, where calls recurse, and
-- one record, where the method waits in a frame. Fuel counts blocks; how much there is doesn't matter where it is enough.
use Rattle.std.specs.Prelude.{◌≡◌, ℕ, zero, suc, if◌then◌else◌, List, [], ◌∷◌, Some, None, slice_get}
use Rattle.std.specs.declared.option.Option.{Option}
use Rattle.py_tree.specs.PlainExpressions.{PlainExpr, PlainExprs}
use Rattle.py_tree.specs.PlainProgram.{PlainMethod}
use Rattle.sf_value.specs.Keys.{Key}
use Rattle.sf_value.specs.declared.Failure.{Failure}
use Rattle.sf_value.specs.declared.value.Value.{Value}
use Rattle.sf_value.specs.declared.value.Value.TheVariants as value
use Rattle.program_meaning.specs.declared.vars.Var.{Var}
use Rattle.program_meaning.specs.ClassTables.{Source, fields_of, methods_of}
use Rattle.program_meaning.specs.World.{Gives, Got, Fell, ◌>>=◌, Ends, Goes, Returns, Breaks, Continues, Fails, with_given, next, assigned, with_field}
use Rattle.program_meaning.specs.Operations.{is_true}
use Rattle.program_meaning.specs.Evaluation.{Site, eval, eval_all, key_in, method_of}
use Rattle.program_meaning.specs.Execution.{stepping, message, act_all}
use Rattle.block_code.specs.PlainBlocks.{PlainItem, IMark, ISet, IPut, IGive, IFail, ICode, PlainEnd, EJump, EBranch, ELeave, ECall, EMake, PlainCatch, PlainBlock}
use Rattle.block_code.specs.EventsFit.{catch_of}

-- Items

unfoldable pub run_item : {W : Type 0} → Site W → PlainItem → List Var → W → ℕ → Ends W
run_item s IMark vars w n = stepping vars w n (λ n. Goes vars w n)
run_item s (ISet x e) vars w n = with_given vars (eval s e vars w n) (λ v w n. Goes (assigned vars x v) w n)
run_item s (IPut f e) vars w n = with_given vars (eval s e vars w n) (λ v w n. Goes vars (s.own.put w (with_field (fields_of s.src s.me.0) (s.own.fields w) f v)) n)
run_item s (IGive e) vars w n = with_given vars (eval s e vars w n) (λ v w n. Returns v w n)
run_item s (IFail kind e) vars w n = with_given vars (message s e vars w n) (λ text w n. Fails (record { kind = kind; message = text }) vars w n)
run_item s (ICode xs) vars w n = act_all s xs vars w n

unfoldable pub run_items : {W : Type 0} → Site W → List PlainItem → List Var → W → ℕ → Ends W
run_items s [] vars w n = Goes vars w n
run_items s (i ∷ is) vars w n = next (run_item s i vars w n) (λ vars w n. run_items s is vars w n)

-- Ends

-- what goes on from a point, and what becomes of a failure there
abbrev pub Go : Type 0 → Type 0 → Type 0
Go W R = List Var → W → ℕ → Option R

abbrev pub Fall : Type 0 → Type 0 → Type 0
Fall W R = Failure → Go W R

-- what the run of a method comes to: a value, a failure that no catch names, or what becomes of a call or of a creation that the block
-- of this number ends with, from its parts; there what goes on from a block, and where a failure goes on, are given
pub record Exits (W R : Type 0) : Type 0 where
  pub gives : Value → W → ℕ → R
  pub fails : Failure → W → ℕ → R
  pub calls : ℕ → Key → ℕ → List Value → (into after : ℕ) → (ℕ → Go W R) → Fall W R → Go W R
  pub makes : ℕ → (class : ℕ) → List Value → (into after : ℕ) → (ℕ → Go W R) → Fall W R → Go W R

-- goes on with what an expression gives, or with its failure
abbrev pub given_then : {W R A : Type 0} → List Var → Gives W A → Fall W R → (A → W → ℕ → Option R) → Option R
given_then vars (Got x w n) falls f = f x w n
given_then vars (Fell e w n) falls f = falls e vars w n

-- the receiver of a call, and then its arguments
abbrev pub parts_of_call : {W : Type 0} → Site W → PlainExpr → PlainExprs → List Var → W → ℕ → Gives W (Value × List Value)
parts_of_call s on args vars w n = eval s on vars w n >>= λ v w n. eval_all s args [] vars w n >>= λ vs w n. Got (v, vs) w n

abbrev pub name_if_there : Option PlainMethod → ℕ
name_if_there None = 0
name_if_there (Some m) = m.name

-- the number, in the class of a receiver, of the method that has the name of this method of this class
abbrev pub method_called : Source → ℕ → ℕ → ℕ → ℕ
method_called src of class method = method_of src of (name_if_there (slice_get (methods_of src class) method))

-- the end of the block of this number
unfoldable pub run_end : {W R : Type 0} → Site W → Exits W R → ℕ → (ℕ → Go W R) → Fall W R → PlainEnd → Go W R
run_end s x number go falls (EJump to) vars w n = go to vars w n
run_end s x number go falls (EBranch test holds other) vars w n =
    given_then vars (eval s test vars w n) falls (λ v w n. if is_true v then go holds vars w n else go other vars w n)
run_end s x number go falls ELeave vars w n = Some (x.gives value.Nil w n)
run_end s x number go falls (ECall on class method args into after) vars w n =
    given_then vars (parts_of_call s on args vars w n) falls (λ q w n. x.calls number (key_in q.0) (method_called s.src (key_in q.0).0 class method) q.1 into after go falls vars w n)
run_end s x number go falls (EMake class args into after) vars w n =
    given_then vars (eval_all s args [] vars w n) falls (λ vs w n. x.makes number class vs into after go falls vars w n)

-- Blocks

abbrev pub fall_at : {W R : Type 0} → Exits W R → Option ℕ → (ℕ → Go W R) → Fall W R
fall_at x None go f vars w n = Some (x.fails f w n)
fall_at x (Some to) go f vars w n = go to vars w n

-- a failure in a block of these catches
abbrev pub fall : {W R : Type 0} → Exits W R → List PlainCatch → (ℕ → Go W R) → Fall W R
fall x catches go f vars w n = fall_at x (catch_of catches f.kind) go f vars w n

-- behind the items of a block; none of them leaves a loop outside
abbrev pub behind : {W R : Type 0} → Exits W R → Ends W → Go W R → Fall W R → Option R
behind x (Goes vars w n) go falls = go vars w n
behind x (Returns v w n) go falls = Some (x.gives v w n)
behind x (Breaks vars w n) go falls = None
behind x (Continues vars w n) go falls = None
behind x (Fails f vars w n) go falls = falls f vars w n

abbrev pub at_block : {W R : Type 0} → Option PlainBlock → (PlainBlock → Go W R) → Go W R
at_block None go vars w n = None
at_block (Some b) go vars w n = go b vars w n

-- at most so many blocks, from the one of this number on
unfoldable pub run_blocks : {W R : Type 0} → Site W → Exits W R → List PlainBlock → ℕ → ℕ → Go W R
run_blocks s x blocks zero number vars w n = None
run_blocks s x blocks (suc fuel) number vars w n =
    at_block (slice_get blocks number)
    (λ b vars w n.
    behind x (run_items s b.code vars w n)
    (run_end s x number (run_blocks s x blocks fuel) (fall x b.catches (run_blocks s x blocks fuel)) b.end)
    (fall x b.catches (run_blocks s x blocks fuel)))
    vars w n

-- On the whole state

-- a call or a creation is what the site has for it, and the method goes on with what it gives
abbrev pub recursing : {W : Type 0} → Site W → Exits W (Gives W Value)
recursing s = record {
  gives = λ v w n. Got v w n;
  fails = λ f w n. Fell f w n;
  calls = λ number at method args into after go falls vars w n. given_then vars (s.calls.call at method args w n) falls (λ v w n. go after (assigned vars into v) w n);
  makes = λ number class args into after go falls vars w n. given_then vars (s.calls.make class args w n) falls (λ v w n. go after (assigned vars into v) w n);
}

-- the blocks of a method, from the first on, come to this with some fuel
pub record ComesTo {W : Type 0} (s : Site W) (blocks : List PlainBlock) (vars : List Var) (w : W) (n : ℕ) (g : Gives W Value) : Type 0 where
  pub fuel : ℕ
  pub by : run_blocks s (recursing s) blocks fuel 0 vars w n ≡ Some g
