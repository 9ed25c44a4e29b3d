-- Reply lines are short: a light value and a light message take few bytes, and so does each other member.
use Rattle.std.proofs.Common.{◌∙◌, ℕ, suc, ℤ, pos, negsuc, ◌+◌, ◌*◌, ◌≤◌, ◌==◌, Bool, true, false, List, [], ◌∷◌, ◌++◌, length, map, FitsSigned, refl, ap, subst, arith, length-append, if◌then◌else◌}
use Rattle.std.proofs.Math.Path.{transport}
use Rattle.std.specs.Prelude.{codes}
use Rattle.std.specs.Int.{w128}
use Rattle.std.specs.List.{sum_by}
use Rattle.std.specs.Str.{encode_utf8_all}
use Rattle.std.proofs.lemmas.List.Sums.{sum_by-cons}
use Rattle.json.specs.Print.{quoted}
use Rattle.serde_json.specs.Data.{Data, Items, Members, no_members, member}
use Rattle.serde_json.specs.Data as json
use Rattle.serde_json.specs.View.{items_of}
use Rattle.serde_json.specs.Written.{comma_if, compact_text, items_text, members_text}
use Rattle.sf_value.specs.Weight.{weight_of}
use Rattle.sf_value.specs.declared.value.Value.{Value, Value-F, map-Value, roll-Value}
use Rattle.sf_value.specs.declared.value.Value.TheFolds.{fold-roll-Value, ind-Value}
use Rattle.sf_value.specs.declared.value.Value.TheVariants.{rolls-Int, rolls-Bool, rolls-Str, rolls-Nil, rolls-List, rolls-Entity}
use Rattle.sf_value.specs.declared.value.Value.TheOpen as open'
use Rattle.sf_value.specs.declared.Outcome.{Outcome}
use Rattle.sf_value.specs.declared.Outcome.TheVariants as outcome
use Rattle.sf_value.proofs.Weights.{weight-Int, weight-Bool, weight-Str, weight-Nil, weight-List, weight-Entity}
use Rattle.byte_sizes.specs.Spelt.{IsReal, AreReal, IsRealOutcome}
use Rattle.byte_sizes.proofs.Layers.{real-List}
use Rattle.program_meaning.specs.LightValues.{OutcomeIsLight}
use Rattle.request_history.specs.SoundHistory.{IdFits}
use Rattle.json_texts.proofs.TextLengths.{quoted_short, decimal_short, int_quoted, minus_quoted}
use Rattle.request_json.specs.ReplyLines.{is_short, int_data, value_data, kind_name, reply_data}
use Rattle.request_json.specs.ValueData.{step_with}
use Rattle.request_json.proofs.FloatLaws.{number_if}

comma_short : (later : Bool) → length (comma_if later) ≤ 1
comma_short true = omega arith
comma_short false = omega arith

-- ---- values, by their weight

if_short : (z : ℤ) (b : Bool) → FitsSigned w128 z → length (compact_text (number_if b z)) ≤ 42
if_short (pos n) true fits = omega (arith, decimal_short n (omega (arith, fits.sfits)))
if_short (pos n) false fits = int_quoted (pos n) n (omega (arith, fits.sfits)) refl
if_short (negsuc n) true fits = omega (arith, decimal_short (suc n) (omega (arith, fits.sfits)))
if_short (negsuc n) false fits = minus_quoted (suc n) (omega (arith, fits.sfits))

truth_short : (b : Bool) → length (compact_text (json.boolean b)) ≤ 5
truth_short true = omega arith
truth_short false = omega arith

-- its text and a comma
abbrev IsShortWhereReal : Value → Type 0
IsShortWhereReal v = IsReal v → length (compact_text (value_data v)) + 1 ≤ 43 * weight_of v

one_more : (later : Bool) (text rest : List ℕ) (m n : ℕ) → length text + 1 ≤ m → length rest ≤ n → length (comma_if later ++ (text ++ rest)) ≤ m + n
one_more later text rest m n h k = omega (arith, length-append (comma_if later) (text ++ rest), comma_short later, length-append text rest, h, k)

items_short : (vs : List ((v : Value) × IsShortWhereReal v)) → AreReal (map (λ e. e.0) vs) → (later : Bool)
    → length (items_text later (items_of (map value_data (map (λ e. e.0) vs)))) ≤ 1 + 43 * sum_by weight_of (map (λ e. e.0) vs)
items_short [] real later = omega arith
items_short (v ∷ vs) real later =
    let others = map (λ (e : (v : Value) × IsShortWhereReal v). e.0) vs in
    omega (
      arith,
      one_more later (compact_text (value_data v.0)) (items_text true (items_of (map value_data others))) (43 * weight_of v.0) (1 + 43 * sum_by weight_of others) (v.1 real.0) (items_short vs real.1 true),
      sum_by-cons weight_of v.0 others,
    )

layer_short : (y : Value-F ((v : Value) × IsShortWhereReal v)) → IsReal (roll-Value (map-Value ((v : Value) × IsShortWhereReal v) Value (λ e. e.0) y))
    → length (compact_text (step_with int_data (map-Value Value Data value_data (map-Value ((v : Value) × IsShortWhereReal v) Value (λ e. e.0) y)))) + 1
    ≤ 43 * weight_of (roll-Value (map-Value ((v : Value) × IsShortWhereReal v) Value (λ e. e.0) y))
unfolding IsReal
layer_short (open'.Int z) real = let fits : FitsSigned w128 z = subst IsReal (rolls-Int z) real in omega (arith, if_short z (is_short z) fits, ap weight_of (rolls-Int z) ∙ weight-Int z)
layer_short (open'.Bool b) real = omega (arith, truth_short b, ap weight_of (rolls-Bool b) ∙ weight-Bool b)
layer_short (open'.Str text) real = omega (arith, quoted_short (encode_utf8_all text), ap weight_of (rolls-Str text) ∙ weight-Str text)
layer_short open'.Nil real = omega (arith, ap weight_of rolls-Nil ∙ weight-Nil)
layer_short (open'.List items) real =
    let vs = map (λ (e : (v : Value) × IsShortWhereReal v). e.0) items in
    omega (arith, items_short items (transport (real-List vs) (subst IsReal (rolls-List vs) real)) false, ap weight_of (rolls-List vs) ∙ weight-List vs)
layer_short (open'.Entity at) real = omega (arith, quoted_short (encode_utf8_all at.key), ap weight_of (rolls-Entity at) ∙ weight-Entity at)

value_short : (v : Value) → IsShortWhereReal v
value_short = ind-Value IsShortWhereReal (λ x y is. subst (λ z. IsReal (roll-Value z) → length (compact_text (value_data (roll-Value z))) + 1 ≤ 43 * weight_of (roll-Value z)) is
    (λ real. omega (arith, ap (λ d. length (compact_text d)) (fold-roll-Value Data (step_with int_data) (map-Value ((v : Value) × IsShortWhereReal v) Value (λ e. e.0) y)), layer_short y real)))

-- ---- replies, member by member

either_short : (b : Bool) (x y : List ℕ) → length x ≤ 20 → length y ≤ 20 → length (if b then x else y) ≤ 20
either_short true x y h k = h
either_short false x y h k = k

kind_short : (kind : ℕ) → length (kind_name kind) ≤ 20
unfolding kind_name
kind_short kind =
    either_short (kind == 1) _ _ (omega arith) (either_short (kind == 2) _ _ (omega arith) (either_short (kind == 3) _ _ (omega arith) (either_short (kind == 4) _ _ (omega arith)
    (either_short (kind == 5) _ _ (omega arith) (either_short (kind == 6) _ _ (omega arith) (either_short (kind == 7) _ _ (omega arith) (either_short (kind == 8) _ _ (omega arith)
    (either_short (kind == 9) _ _ (omega arith) (either_short (kind == 10) _ _ (omega arith) (either_short (kind == 11) _ _ (omega arith) (omega arith)))))))))))

member_short : (later : Bool) (key : List ℕ) (d : Data) (ms : Members) → length (members_text later (member key d ms)) ≤ 4 + 6 * length key + length (compact_text d) + length (members_text true ms)
member_short later key d ms =
    let rest = compact_text d ++ members_text true ms in
    omega (arith, length-append (comma_if later) (quoted key ++ 58 ∷ rest), comma_short later, length-append (quoted key) (58 ∷ rest), quoted_short key, length-append (compact_text d) (members_text true ms))

-- the last member is the place
placed_short : (key : List ℕ) (place : ℕ) → place ≤ 4294967295 → length (members_text true (member key (json.number (json.unsigned place)) no_members)) ≤ 45 + 6 * length key
placed_short key place few = omega (arith, member_short true key (json.number (json.unsigned place)) no_members, decimal_short place (omega (arith, few)))

pub reply_short : (id : List ℕ) (o : Outcome) (place : ℕ) → IdFits id → OutcomeIsLight o → IsRealOutcome o → place ≤ 4294967295 → length (compact_text (reply_data id o place)) ≤ 4194304
reply_short id (outcome.Value v) place fits light real few =
    let id_text = json.string (encode_utf8_all id) in
    let placed = member (codes "seq") (json.number (json.unsigned place)) no_members in
    let said = member (codes "ok") (value_data v) placed in
    omega (
      arith,
      fits.few,
      light.most,
      value_short v real,
      quoted_short (encode_utf8_all id),
      placed_short (codes "seq") place few,
      member_short true (codes "ok") (value_data v) placed,
      member_short false (codes "id") id_text said,
    )
reply_short id (outcome.Failed f) place fits light real few =
    let id_text = json.string (encode_utf8_all id) in
    let message_text = json.string (encode_utf8_all f.message) in
    let kind_text = json.string (kind_name f.kind) in
    let placed = member (codes "seq") (json.number (json.unsigned place)) no_members in
    let told = member (codes "message") message_text placed in
    let named = member (codes "id") id_text told in
    omega (
      arith,
      fits.few,
      light,
      kind_short f.kind,
      quoted_short (kind_name f.kind),
      quoted_short (encode_utf8_all f.message),
      quoted_short (encode_utf8_all id),
      placed_short (codes "seq") place few,
      member_short true (codes "message") message_text placed,
      member_short true (codes "id") id_text told,
      member_short false (codes "error") kind_text named,
    )
