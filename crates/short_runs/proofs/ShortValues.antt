-- What is light is short, and so is a state whose entities are.
use Rattle.std.proofs.Common.{◌≡◌, ℕ, zero, suc, Bool, true, false, cond, Option, Some, None, List, [], ◌∷◌, ◌++◌, refl, sym, ◌∙◌, subst, arith}
use Rattle.std.specs.Prelude.{slice_set, unwrap_or}
use Rattle.std.specs.FinMap as map
use Rattle.std.specs.List.{AllByRecursion}
use Rattle.std.specs.Ordering.{eq_by_cmp}
use Rattle.std.proofs.lemmas.Option.{same_Some}
use Rattle.sf_value.specs.Keys.{Key, key_cmp}
use Rattle.sf_value.specs.declared.value.Value.{Value}
use Rattle.sf_value.specs.declared.value.Value.TheVariants as value
use Rattle.sf_value.proofs.Maps.{key_total, tied_key}
use Rattle.sf_value.proofs.Variants.{by_variants}
use Rattle.sf_value.proofs.Weights.{weight-Str, weight-Entity}
use Rattle.byte_sizes.specs.Spelt.{IsShortText, IsShort}
use Rattle.byte_sizes.proofs.Light.{size_by_weight}
use Rattle.byte_sizes.proofs.Small.{small_is_short}
use Rattle.program_meaning.specs.World.{State, World, record_at, set_at, with_field}
use Rattle.program_meaning.specs.Operations.{text_of}
use Rattle.program_meaning.specs.Evaluation.{entity}
use Rattle.program_meaning.specs.LightValues.{IsLight}
use Rattle.short_runs.specs.ShortRuns.{EntityIsShort, StateIsShort}

-- ---- values and texts

pub light_short : (v : Value) → IsLight v → IsShort v
light_short v light = small_is_short v (omega (arith, light.most, size_by_weight v))

pub no_text_short : IsShortText []
no_text_short = omega arith

pub text_short : (v : Value) → IsLight v → IsShortText (text_of v)
text_short = by_variants (λ v. IsLight v → IsShortText (text_of v)) (λ z l. no_text_short) (λ b l. no_text_short) text (λ l. no_text_short) (λ vs l. no_text_short) (λ at l. no_text_short)
  where
    text : (t : List ℕ) → IsLight (value.Str t) → IsShortText t
    text t l = let weight = weight-Str t in let most = l.most in omega (arith, weight, most)

pub key_short : (at : Key) → IsLight (entity at) → IsShortText at.1
key_short at l = let weight = weight-Entity (record { class = at.0; key = at.1 }) in let most = l.most in omega (arith, weight, most)

-- ---- fields

abbrev pub AreShortFields : List Value → Type 0
AreShortFields fields = AllByRecursion IsShort fields

pub set_short : (fields : List Value) (i : ℕ) (v : Value) → IsShort v → AreShortFields fields → AreShortFields (slice_set fields i v)
set_short [] i v short all = tt
set_short (u ∷ fields) zero v short all = (short, all.1)
set_short (u ∷ fields) (suc i) v short all = (all.0, set_short fields i v short all.1)

pub behind_short : (fields : List Value) (v : Value) → IsShort v → AreShortFields fields → AreShortFields (fields ++ v ∷ [])
behind_short [] v short all = (short, tt)
behind_short (u ∷ fields) v short all = (all.0, behind_short fields v short all.1)

set_at_short : (fields : List Value) (o : Option ℕ) (v : Value) → IsShort v → AreShortFields fields → AreShortFields (set_at fields o v)
set_at_short fields None v short all = all
set_at_short fields (Some i) v short all = set_short fields i v short all

pub field_short : (names : List ℕ) (fields : List Value) (x : ℕ) (v : Value) → IsShort v → AreShortFields fields → AreShortFields (with_field names fields x v)
unfolding with_field
field_short names fields x v short all = set_at_short fields _ v short all

-- ---- states

-- once an entity is written
pub written_short : (s : State) (me : Key) (fields : List Value) → StateIsShort s → EntityIsShort me fields → StateIsShort (map.insert s me fields)
written_short s me fields short entity_short = record { each = λ at held e. by at held (eq_by_cmp key_cmp at me) refl (sym (map.get-insert key_total s me fields at) ∙ e) }
  where
    by : (at : Key) (held : List Value) (b : Bool) → eq_by_cmp key_cmp at me ≡ b → cond b (Some fields) (map.get s at) ≡ Some held → EntityIsShort at held
    by at held true tie is = subst (EntityIsShort at) (same_Some fields held is) (subst (λ (q : Key). EntityIsShort q fields) (sym (tied_key at me tie)) entity_short)
    by at held false tie is = short.each at held is

pub record_short : (w : World) (me : Key) → StateIsShort w.state → AreShortFields (record_at w me)
record_short w me short = by (map.get w.state me) refl
  where
    by : (o : Option (List Value)) → map.get w.state me ≡ o → AreShortFields (unwrap_or o [])
    by None e = tt
    by (Some fields) e = (short.each me fields e).1
