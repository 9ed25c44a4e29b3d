-- Chains of receivers: a call of a method, or an index, stands behind its receiver, which may end so again.
use Rattle.std.specs.Prelude.{ℕ, List, [], ◌∷◌, Some, None, ◌≡◌}
use Rattle.std.specs.declared.option.Option.{Option}
use Rattle.py_tree.specs.PlainExpressions.{PlainExpr, PCall, PIndex, PlainExprs}
use Rattle.py_tree.specs.Bounded.{expr_size, exprs_size}
use Rattle.sf_value.specs.declared.value.Value.{Value}
use Rattle.program_meaning.specs.declared.vars.Var.{Var}
use Rattle.program_meaning.specs.World.{Gives, ◌>>=◌, told}
use Rattle.program_meaning.specs.Operations.{int_of, items_of, element}
use Rattle.program_meaning.specs.Evaluation.{Site, eval, eval_all, key_in, method_of}

-- `.m(args)` and `[i]`
pub data PlainTrailer : Type 0 where
  Calling : (method : ℕ) → (args : PlainExprs) → PlainTrailer
  Indexing : (index : PlainExpr) → PlainTrailer

-- the receiver of a call or an index, and what stands behind it
unfoldable pub last_trailer : PlainExpr → Option (PlainExpr × PlainTrailer)
last_trailer (PCall at on m m_at args) = Some (on, Calling m args)
last_trailer (PIndex at on index) = Some (on, Indexing index)
last_trailer _ = None

-- an expression that is another with these trailers behind it, the last one first
pub data EndsWith : PlainExpr → List PlainTrailer → PlainExpr → Type 0 where
  bare : {x : PlainExpr} → EndsWith x [] x
  behind : {x on y : PlainExpr} {t : PlainTrailer} {ts : List PlainTrailer} → last_trailer x ≡ Some (on, t) → EndsWith on ts y → EndsWith x (t ∷ ts) y

-- how many nodes a trailer has
abbrev pub trailer_size : PlainTrailer → ℕ
trailer_size (Calling method args) = exprs_size args
trailer_size (Indexing index) = expr_size index

-- what a trailer makes of the value of its receiver
unfoldable pub followed : {W : Type 0} → Site W → PlainTrailer → List Var → Value → W → ℕ → Gives W Value
followed s (Calling m args) vars v w n = eval_all s args [] vars w n >>= λ vs w n. s.calls.call (key_in v) (method_of s.src (key_in v).0 m) vs w n
followed s (Indexing index) vars v w n = eval s index vars w n >>= λ i w n. told (element (items_of v) (int_of i)) w n

-- what trailers make of what their innermost receiver gives
unfoldable pub all_followed : {W : Type 0} → Site W → List PlainTrailer → List Var → Gives W Value → Gives W Value
all_followed s [] vars given = given
all_followed s (t ∷ ts) vars given = all_followed s ts vars given >>= followed s t vars
