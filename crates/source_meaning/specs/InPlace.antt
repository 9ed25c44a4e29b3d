-- What values that are read where they stand are to code.
use Rattle.std.specs.Prelude.{◌≡◌, ⊤, ℕ, pos, List, Ok, Err}
use Rattle.std.specs.declared.result.Result.{Result}
use Rattle.sf_value.specs.declared.value.Value.{Value, out-Value}
use Rattle.sf_value.specs.declared.value.Value.TheVariants as value
use Rattle.py_tree.specs.ExpressionTypes.{function_of}
use Rattle.source_meaning.specs.declared.Stop.{Stop}
use Rattle.program_meaning.specs.World.{World, Gives, Got, ◌>>=◌, told}
use Rattle.program_meaning.specs.Operations.{weighed, int_of, items_of, element, size_in}
use Rattle.program_meaning.specs.Evaluation.{Site, applied}
use Rattle.source_meaning.specs.Agrees.{FallsIn}

-- a value weighs no more than it may, or its weight stops the code
abbrev pub Passes : Result ⊤ Stop → Value → Type 0
Passes (Ok _) v = weighed v ≡ Ok v
Passes (Err e) v = (w : World) (n : ℕ) → FallsIn e w n (told (weighed v) w n)

-- the element of a list that an expression gives, at the place that the next one gives
abbrev pub element_in : {W : Type 0} → Gives W Value → (W → ℕ → Gives W Value) → Gives W Value
element_in list index = list >>= λ v w n. index w n >>= λ i w n. told (element (items_of v) (int_of i)) w n

-- the length of what an expression gives
abbrev pub length_in : {W : Type 0} → Gives W Value → Gives W Value
length_in given = given >>= λ v w n. Got (value.Int (pos (size_in (out-Value v)))) w n

-- what the function or the class of this name makes of arguments
abbrev pub applied_to : {W : Type 0} → Site W → ℕ → Gives W (List Value) → Gives W Value
applied_to s name args = args >>= λ vs w n. applied s (function_of name) name vs w n
