-- Operators and functions fail without a message, and so with a short one.
use Rattle.std.proofs.Common.{◌+◌, ◌-◌, ℤ, pos, negsuc, Bool, true, false, Option, Some, None, Result, Ok, Err, List, length, if◌then◌else◌, sym, subst}
use Rattle.std.specs.Prelude.{nat_lt, slice_get}
use Rattle.py_tree.specs.declared.expr.BinOp.{BinOp}
use Rattle.py_tree.specs.ExpressionTypes.{Function}
use Rattle.sf_value.specs.declared.Failure.{Failure}
use Rattle.sf_value.specs.declared.value.Value.{Value}
use Rattle.byte_sizes.specs.Spelt.{IsShortText}
use Rattle.program_meaning.specs.World.{index_error}
use Rattle.program_meaning.specs.Operations.{in_range, weighed, element, element_at, combined, given_by}
use Rattle.program_meaning.proofs.SilentFailures.{FailsSilently, weighed_silent, in_range_silent, combined_silent, given_silent}
use Rattle.short_runs.proofs.ShortValues.{no_text_short}

-- the message of a failure is short, where there is one
abbrev pub FailsShort : Result Value Failure → Type 0
FailsShort (Ok v) = Unit {0}
FailsShort (Err f) = IsShortText f.message

silent_short : (r : Result Value Failure) → FailsSilently r → FailsShort r
silent_short (Ok v) silent = tt
silent_short (Err f) silent = subst IsShortText (sym silent) no_text_short

pub weighed_fails : (v : Value) → FailsShort (weighed v)
weighed_fails v = silent_short (weighed v) (weighed_silent v)

pub in_range_fails : (z : ℤ) → FailsShort (in_range z)
in_range_fails z = silent_short (in_range z) (in_range_silent z)

place_fails : (o : Option Value) → FailsShort (element_at o)
place_fails None = no_text_short
place_fails (Some v) = tt

from_end : (b : Bool) (o : Option Value) → FailsShort (if b then element_at o else Err index_error)
from_end true o = place_fails o
from_end false o = no_text_short

pub element_fails : (xs : List Value) (z : ℤ) → FailsShort (element xs z)
element_fails xs (pos k) = place_fails (slice_get xs k)
element_fails xs (negsuc k) = from_end (nat_lt k (length xs)) (slice_get xs (length xs - (k + 1)))

pub combined_fails : (o : BinOp) (v w : Value) → FailsShort (combined o v w)
combined_fails o v w = silent_short (combined o v w) (combined_silent o v w)

pub given_fails : (f : Function) (args : List Value) → FailsShort (given_by f args)
given_fails f args = silent_short (given_by f args) (given_silent f args)
