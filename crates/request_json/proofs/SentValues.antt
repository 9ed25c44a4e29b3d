-- What is sent for a list, and the line of what is sent.
use Rattle.std.proofs.Common.{◌≡◌, ◌<◌, ◌+◌, ℕ, suc, ℤ, List, [], ◌∷◌, ◌++◌, length, drop, get_or, false, refl, sym, ap, ◌∙◌, subst}
use Rattle.serde_json.specs.Data.{Data}
use Rattle.serde.specs.Event.{Log}
use Rattle.serde_json.specs.Events.{items_len, SendsValue, SendsItems}
use Rattle.serde_json.specs.Written.{has_float, compact_text}
use Rattle.serde_json.proofs.FreeTexts.{text_of_value}
use Rattle.sf_value.specs.declared.value.Value.{Value}
use Rattle.request_json.specs.Sending.{IsLineOf}
use Rattle.request_json.specs.ValueData.{data_with, items_with}
use Rattle.request_json.proofs.ArgLaws.{cut_at}

-- as many items as the list has elements
pub values_len : (ints : ℤ → Data) (vs : List Value) → items_len (items_with ints vs) ≡ length vs
values_len ints [] = refl
values_len ints (v ∷ vs) = ap suc (values_len ints vs)

-- the next element is sent, and then the rest
pub next_sent : (ints : ℤ → Data) (vs : List Value) (i : ℕ) (v : Value) → i < length vs → v ≡ get_or vs i v → (old mid new : Log) → SendsValue (data_with ints v) old mid
    → SendsItems (items_with ints (drop (i + 1) vs)) mid new → SendsItems (items_with ints (drop i vs)) old new
next_sent ints vs i v within is old mid new sent rest = subst (λ l. SendsItems (items_with ints l) old new) (sym (cut_at vs i v within is)) (mid, sent, rest)

-- the line of a value without a float is the value's compact text, and LF
pub line_of_value : (d : Data) (line : List ℕ) → has_float d ≡ false → IsLineOf (SendsValue d) line → line ≡ compact_text d ++ 10 ∷ []
line_of_value d line whole written = written.4 ∙ ap (λ text. text ++ 10 ∷ []) (text_of_value d written.0 written.1 written.2 written.3 whole)
