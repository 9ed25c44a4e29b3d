-- What a request comes to is light: its value, and the message of its failure.
use Rattle.std.proofs.Common.{◌≡◌, ℕ, ◌+◌, ◌≤◌, Bool, true, false, ◌||◌, Result, Ok, Err, List, [], ◌∷◌, length, refl, sym, subst, arith}
use Rattle.std.specs.Prelude.{nat_lt}
use Rattle.std.specs.List.{list_any, AllByRecursion}
use Rattle.std.specs.Str.{encode_utf8_all}
use Rattle.std.proofs.lemmas.Bool.{ltb-false}
use Rattle.sf_value.specs.Weight.{weight_of}
use Rattle.sf_value.specs.declared.Act.{Act}
use Rattle.sf_value.specs.declared.Act.TheVariants as act
use Rattle.sf_value.specs.declared.Failure.{Failure}
use Rattle.sf_value.specs.declared.Outcome.{Outcome}
use Rattle.sf_value.specs.declared.Outcome.TheVariants as outcome
use Rattle.sf_value.specs.declared.value.Value.{Value}
use Rattle.sf_value.specs.declared.value.Value.TheVariants as value
use Rattle.sf_value.proofs.Weights.{weight-Str}
use Rattle.sf_value.proofs.Variants.{by_variants}
use Rattle.program_meaning.specs.ClassTables.{Source}
use Rattle.program_meaning.specs.World.{State}
use Rattle.program_meaning.specs.Operations.{in_range, weighed, text_of, items_of, combined, given_by}
use Rattle.program_meaning.specs.RequestRun.{run, is_heavy, is_too_heavy}
use Rattle.program_meaning.specs.LightValues.{IsLight, AreLight, no_value, one_more, OutcomeIsLight, RunsAreLight}
use Rattle.program_meaning.proofs.LightOperations.{LightResult, int_light, bool_light, nil_light, weighed_light, in_range_light, items_light, combined_light, given_light}
use Rattle.program_meaning.proofs.LightCalls.{key_light}
use Rattle.program_meaning.proofs.SilentFailures.{FailsSilently, weighed_silent, in_range_silent, combined_silent, given_silent}
use Rattle.program_meaning.proofs.KeptKinds.{Kinds, OfResult, ProgramKeeps}
use Rattle.program_meaning.proofs.KeptCalls.{StateHolds, OutcomeKept, ActGiven, run_kept}
use Rattle.program_meaning.proofs.WrittenLaws.{stmts_any}

-- ---- values, one by one

pub each_light : (vs : List Value) → AreLight vs → AllByRecursion IsLight vs
each_light [] no_value = tt
each_light (v ∷ vs) (one_more l all) = (l, each_light vs all)

pub are_light : (vs : List Value) → AllByRecursion IsLight vs → AreLight vs
are_light [] all = no_value
are_light (v ∷ vs) all = one_more all.0 (are_light vs all.1)

not_heavy : (v : Value) → is_heavy v ≡ false → IsLight v
not_heavy v light = record { most = ltb-false 65536 (weight_of v) light }

neither : (a b : Bool) → (a || b) ≡ false → (a ≡ false) × (b ≡ false)
neither false b e = (refl, e)
neither true b e = absurd cc

none_heavy : (args : List Value) → list_any is_heavy args ≡ false → AllByRecursion IsLight args
none_heavy [] light = tt
none_heavy (v ∷ args) light =
    let both = neither (is_heavy v) (list_any is_heavy args) light in
    (not_heavy v both.0, none_heavy args both.1)

abbrev pub args_of : Act → List Value
args_of (act.Call class key method args) = args
args_of (act.New class args) = args

-- the arguments of a request that runs are light
pub args_light : (asked : Act) → is_too_heavy asked ≡ false → AllByRecursion IsLight (args_of asked)
unfolding is_too_heavy
args_light (act.Call class key method args) light = none_heavy args (neither (nat_lt 65536 (1 + length (encode_utf8_all key))) (list_any is_heavy args) light).1
args_light (act.New class args) light = none_heavy args light

-- ---- values and messages

abbrev IsLightMessage : List ℕ → Type 0
IsLightMessage text = 1 + length (encode_utf8_all text) ≤ 65536

no_message : IsLightMessage []
no_message = omega arith

text_light : (v : Value) → IsLight v → IsLightMessage (text_of v)
text_light = by_variants (λ v. IsLight v → IsLightMessage (text_of v)) (λ z l. no_message) (λ b l. no_message) text (λ l. no_message) (λ vs l. no_message) (λ at l. no_message)
  where
    text : (t : List ℕ) → IsLight (value.Str t) → IsLightMessage t
    text t l = let weight = weight-Str t in let most = l.most in omega (arith, weight, most)

light_and_silent : (r : Result Value Failure) → LightResult r → FailsSilently r → OfResult IsLight IsLightMessage r
light_and_silent (Ok v) light silent = light
light_and_silent (Err f) light silent = subst IsLightMessage (sym silent) no_message

-- nothing is asked of what is held and of what is written
abbrev light_kinds : Kinds
light_kinds = record {
  Given = IsLight;
  Held = λ v. Unit {0};
  Said = IsLightMessage;
  Written = λ z. Unit {0};
  silent = no_message;
  said = text_light;
  held = λ v l. tt;
  nil = nil_light;
  truth = bool_light;
  int = λ z written. int_light z;
  number = λ v l. int_light _;
  turn = λ from to first last less. int_light _;
  items = λ v l. each_light (items_of v) (items_light v l);
  list = λ vs all. tt;
  key = λ class v held l. key_light class v l;
  weigh = λ v held. light_and_silent (weighed v) (weighed_light v) (weighed_silent v);
  range = λ z. light_and_silent (in_range z) (in_range_light z) (in_range_silent z);
  both = λ o v w first second. light_and_silent (combined o v w) (combined_light o v w) (combined_silent o v w);
  apply = λ f args all. light_and_silent (given_by f args) (given_light f args) (given_silent f args);
}

any_held : (vs : List Value) → AllByRecursion (λ v. Unit {0}) vs
any_held [] = tt
any_held (v ∷ vs) = (tt, any_held vs)

any_state : (s : State) → StateHolds light_kinds s
any_state s = record { each = λ at fields e. (tt, any_held fields) }

any_program : (src : Source) → ProgramKeeps light_kinds src
any_program src = record {
  texts = λ name. tt;
  classes = λ name. tt;
  methods = λ class number. stmts_any (λ z. Unit {0}) (λ z. tt) _;
  inits = λ class. stmts_any (λ z. Unit {0}) (λ z. tt) _;
}

act_light : (asked : Act) → is_too_heavy asked ≡ false → ActGiven light_kinds asked
act_light (act.Call class key method args) light = args_light (act.Call class key method args) light
act_light (act.New class args) light = (tt, args_light (act.New class args) light)

outcome_light : (o : Outcome) → OutcomeKept light_kinds o → OutcomeIsLight o
outcome_light (outcome.Value v) l = l
outcome_light (outcome.Failed f) said = said

pub runs_are_light : RunsAreLight
runs_are_light src s asked = outcome_light (run src s asked).outcome (run_kept light_kinds src (any_program src) s asked (any_state s) (act_light asked)).0
