-- A reply has no float, and a request has none.
use Rattle.std.proofs.Common.{◌≡◌, ℕ, ℤ, pos, negsuc, Bool, true, false, ◌||◌, List, [], ◌∷◌, map, refl, ap, ◌∙◌, subst, if◌then◌else◌}
use Rattle.std.specs.Fmt.{signed_decimal}
use Rattle.serde_json.specs.Data.{Data}
use Rattle.serde_json.specs.Data as json
use Rattle.serde_json.specs.Find.{of_integer}
use Rattle.serde_json.specs.View.{items_of}
use Rattle.serde_json.specs.Written.{has_float, items_have_float}
use Rattle.sf_value.specs.declared.value.Value.{Value, Value-F, map-Value}
use Rattle.sf_value.specs.declared.value.Value.TheFolds.{fold-roll-Value, ind-Value}
use Rattle.sf_value.specs.declared.value.Value.TheOpen as open'
use Rattle.sf_value.specs.declared.Act.{Act}
use Rattle.sf_value.specs.declared.Act.TheVariants as act
use Rattle.sf_value.specs.declared.Outcome.{Outcome}
use Rattle.sf_value.specs.declared.Outcome.TheVariants as outcome
use Rattle.sf_value.specs.declared.Request.{Request}
use Rattle.program_meaning.specs.ClassTables.{Source}
use Rattle.request_json.specs.ReplyLines.{is_short, int_data, reply_data}
use Rattle.request_json.specs.RequestTexts.{is_natural, passed_int, asked_data, request_data}
use Rattle.request_json.specs.ValueData.{step_with, data_with, items_with}

-- an int is a number or a text, as a test says
abbrev pub number_if : Bool → ℤ → Data
number_if b z = if b then json.number (of_integer z) else json.string (signed_decimal z)

int_has_no_float : (z : ℤ) (b : Bool) → has_float (number_if b z) ≡ false
int_has_no_float (pos n) true = refl
int_has_no_float (negsuc n) true = refl
int_has_no_float z false = refl

neither : (a b : Bool) → a ≡ false → b ≡ false → (a || b) ≡ false
neither a b p q = λ i. p i || q i

module _ (ints : ℤ → Data) (whole : (z : ℤ) → has_float (ints z) ≡ false) where
  abbrev HasNoFloat : Value → Type 0
  HasNoFloat v = has_float (data_with ints v) ≡ false

  items_have_none : (vs : List ((v : Value) × HasNoFloat v)) → items_have_float (items_of (map (data_with ints) (map (λ e. e.0) vs))) ≡ false
  items_have_none [] = refl
  items_have_none (v ∷ vs) = neither (has_float (data_with ints v.0)) (items_have_float (items_of (map (data_with ints) (map (λ e. e.0) vs)))) v.1 (items_have_none vs)

  -- a layer with a proof beside each value inside
  layer_has_none : (y : Value-F ((v : Value) × HasNoFloat v)) → has_float (step_with ints (map-Value Value Data (data_with ints) (map-Value ((v : Value) × HasNoFloat v) Value (λ e. e.0) y))) ≡ false
  layer_has_none (open'.Int z) = whole z
  layer_has_none (open'.Bool b) = refl
  layer_has_none (open'.Str text) = refl
  layer_has_none open'.Nil = refl
  layer_has_none (open'.List items) = items_have_none items
  layer_has_none (open'.Entity at) = refl

  value_has_no_float : (v : Value) → HasNoFloat v
  value_has_no_float = ind-Value HasNoFloat (λ x y is. ap has_float (fold-roll-Value Data (step_with ints) x) ∙ subst (λ z. has_float (step_with ints (map-Value Value Data (data_with ints) z)) ≡ false) is (layer_has_none y))

  values_have_no_float : (vs : List Value) → items_have_float (items_with ints vs) ≡ false
  values_have_no_float [] = refl
  values_have_no_float (v ∷ vs) = neither (has_float (data_with ints v)) (items_have_float (items_with ints vs)) (value_has_no_float v) (values_have_no_float vs)

pub no_float : (id : List ℕ) (o : Outcome) (seq : ℕ) → has_float (reply_data id o seq) ≡ false
no_float id (outcome.Value v) seq = ap (λ b. b || false) (value_has_no_float int_data (λ z. int_has_no_float z (is_short z)) v)
no_float id (outcome.Failed f) seq = refl

args_have_none : (vs : List Value) → items_have_float (items_with passed_int vs) ≡ false
args_have_none vs = values_have_no_float passed_int (λ z. int_has_no_float z (is_short z || is_natural z)) vs

asked_has_none : (src : Source) (id : List ℕ) (asked : Act) → has_float (asked_data src id asked) ≡ false
asked_has_none src id (act.Call class key method args) = ap (λ b. b || false) (args_have_none args)
asked_has_none src id (act.New class args) = ap (λ b. b || false) (args_have_none args)

pub no_float_asked : (src : Source) (r : Request) → has_float (request_data src r) ≡ false
no_float_asked src r = asked_has_none src r.id r.act
