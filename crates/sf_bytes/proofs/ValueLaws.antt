-- Values are read as they are spelt, at each level.
use Rattle.std.proofs.Common.{◌≡◌, ℕ, zero, suc, ℤ, ◌-◌, Bool as Truth, true, false, List as Items, [], ◌∷◌, ◌++◌, Some, refl, sym, ap, subst, ◌∙◌, arith, FitsSigned}
use Rattle.std.proofs.Math.Path.{transport}
use Rattle.std.specs.Int.{w128}
use Rattle.std.specs.List.{AllByRecursion}
use Rattle.sf_value.specs.declared.text.Text.{Text}
use Rattle.sf_value.specs.declared.value.Ref.{Ref}
use Rattle.sf_value.specs.declared.value.Value.{Value, Int, Bool, Str, Nil, List, Entity}
use Rattle.sf_value.proofs.Variants.{by_variants}
use Rattle.sf_bytes.specs.ByteForms.{int_bytes, text_bytes, ref_bytes, value_bytes, values_bytes}
use Rattle.sf_bytes.specs.Reading.{Reader, ◌>>=◌, int_at, text_at, ref_at, tagged_at, value_by, values_within}
use Rattle.sf_bytes.specs.Spelt.{IsShortText, IsShort, AreShort, NestsWithin, NestWithin, IsRealText, IsRealRef, IsReal, AreReal}
use Rattle.sf_bytes.proofs.Wide.{IsBytes, IsBytes-rest}
use Rattle.byte_sizes.proofs.Layers.{short-List, nests-List, real-List}
use Rattle.sf_bytes.proofs.Layers.{bytes-List}
use Rattle.sf_bytes.proofs.Laws.{Spells, said, bind_some, some_is, number_spells, int_spells, text_spells, list_spells}
use Rattle.sf_bytes.proofs.Fields.{two_spells}

-- a value that is spelt where its lists may nest so deep
abbrev pub FitsAt : ℕ → Value → Type 0
FitsAt level value = IsShort value × (NestsWithin value level × IsReal value)

abbrev pub FitAt : ℕ → Items Value → Type 0
FitAt level values = AreShort values × (NestWithin values level × AreReal values)

pub ref_spells : Spells ref_at ref_bytes (λ at. IsShortText at.key × IsRealRef at)
unfolding ref_at ref_bytes
ref_spells =
    said (two_spells number_spells text_spells (λ class key. record { class = class; key = key }) (λ (at : Ref). at.class) (λ (at : Ref). at.key) (λ x y. refl) (λ x y. refl) (λ made. refl))
    (λ at h. (h.1.0, (h.0, h.1.1))) (λ at h. (h.1.0, (h.0, h.1.1)))

-- ---- a thing made of one other, behind a tag

-- what is read of it
abbrev pub one_at : {A B : Type 0} → Reader A → (A → B) → Reader B
one_at a_at make bytes = a_at bytes >>= λ x. Some (make x.0, x.1)

pub one_takes : {A B : Type 0} (a_at : Reader A) (a_bytes : A → Items ℕ) (FitsA : A → Type 0) → Spells a_at a_bytes FitsA → (b_bytes : B → Items ℕ) (FitsB : B → Type 0) (make : A → B) (tag : ℕ)
    → ((x : A) → b_bytes (make x) ≡ tag ∷ a_bytes x) → ((x : A) → FitsA x → FitsB (make x))
    → (rest : Items ℕ) (y : B) (after : Items ℕ) → IsBytes rest → one_at a_at make rest ≡ Some (y, after) → (tag ∷ rest ≡ b_bytes y ++ after) × FitsB y
one_takes {B = B} a_at a_bytes FitsA a b_bytes FitsB make tag bytes fit rest y after fits e =
    let x = bind_some (a_at rest) (λ x. Some (make x.0, x.1)) (y, after) e in
    let t = a.takes rest x.0.0 x.0.1 fits x.1 in
    subst (λ (p : B × Items ℕ). (tag ∷ rest ≡ b_bytes p.0 ++ p.1) × FitsB p.0) (some_is _ _ x.2)
    (ap (λ bs. tag ∷ bs) t.0 ∙ ap (λ bs. bs ++ x.0.1) (sym (bytes x.0.0)), fit x.0.0 t.1)

pub one_again : {A B : Type 0} (a_at : Reader A) (a_bytes : A → Items ℕ) (FitsA : A → Type 0) → Spells a_at a_bytes FitsA → (make : A → B)
    → (x : A) (rest : Items ℕ) → FitsA x → one_at a_at make (a_bytes x ++ rest) ≡ Some (make x, rest)
one_again a_at a_bytes FitsA a make x rest fits = ap (λ o. o >>= λ p. Some (make p.0, p.1)) (a.again x rest fits)

-- ---- the cases

module _ (values_at : Reader (Items Value)) (level : ℕ) (lists : Spells values_at values_bytes (FitAt level)) where
  int-bytes : (n : ℤ) → value_bytes (Int n) ≡ 3 ∷ int_bytes n
  unfolding value_bytes
  int-bytes n = refl

  str-bytes : (text : Text) → value_bytes (Str text) ≡ 4 ∷ text_bytes text
  unfolding value_bytes
  str-bytes text = refl

  entity-bytes : (at : Ref) → value_bytes (Entity at) ≡ 6 ∷ ref_bytes at
  unfolding value_bytes
  entity-bytes at = refl

  nil-fits : FitsAt level Nil
  unfolding IsShort NestsWithin IsReal
  nil-fits = (tt, (tt, tt))

  bool-fits : (b : Truth) → FitsAt level (Bool b)
  unfolding IsShort NestsWithin IsReal
  bool-fits b = (tt, (tt, tt))

  int-fits : (n : ℤ) → FitsSigned w128 n → FitsAt level (Int n)
  unfolding IsShort NestsWithin IsReal
  int-fits n h = (tt, (tt, h))

  int-fitted : (n : ℤ) → FitsAt level (Int n) → FitsSigned w128 n
  unfolding IsShort NestsWithin IsReal
  int-fitted n h = h.1.1

  str-fits : (text : Text) → IsShortText text × IsRealText text → FitsAt level (Str text)
  unfolding IsShort NestsWithin IsReal
  str-fits text h = (h.0, (tt, h.1))

  str-fitted : (text : Text) → FitsAt level (Str text) → IsShortText text × IsRealText text
  unfolding IsShort NestsWithin IsReal
  str-fitted text h = (h.0, h.1.1)

  entity-fits : (at : Ref) → IsShortText at.key × IsRealRef at → FitsAt level (Entity at)
  unfolding IsShort NestsWithin IsReal
  entity-fits at h = (h.0, (tt, h.1))

  entity-fitted : (at : Ref) → FitsAt level (Entity at) → IsShortText at.key × IsRealRef at
  unfolding IsShort NestsWithin IsReal
  entity-fitted at h = (h.0, h.1.1)

  list-fits : (values : Items Value) → FitAt level values → FitsAt level (List values)
  list-fits values h = (transport (sym (short-List values)) h.0, (transport (sym (nests-List values level)) h.1.0, transport (sym (real-List values)) h.1.1))

  list-fitted : (values : Items Value) → FitsAt level (List values) → FitAt level values
  list-fitted values h = (transport (short-List values) h.0, (transport (nests-List values level) h.1.0, transport (real-List values) h.1.1))

  tagged_takes : (tag : ℕ) (rest : Items ℕ) (value : Value) (after : Items ℕ) → IsBytes rest → tagged_at values_at tag rest ≡ Some (value, after) → (tag ∷ rest ≡ value_bytes value ++ after) × FitsAt level value
  unfolding tagged_at value_bytes
  tagged_takes zero rest value after fits e = subst (λ (p : Value × Items ℕ). (0 ∷ rest ≡ value_bytes p.0 ++ p.1) × FitsAt level p.0) (some_is _ _ e) (refl, nil-fits)
  tagged_takes (suc zero) rest value after fits e = subst (λ (p : Value × Items ℕ). (1 ∷ rest ≡ value_bytes p.0 ++ p.1) × FitsAt level p.0) (some_is _ _ e) (refl, bool-fits false)
  tagged_takes (suc (suc zero)) rest value after fits e = subst (λ (p : Value × Items ℕ). (2 ∷ rest ≡ value_bytes p.0 ++ p.1) × FitsAt level p.0) (some_is _ _ e) (refl, bool-fits true)
  tagged_takes (suc (suc (suc zero))) rest value after fits e = one_takes int_at int_bytes (λ n. FitsSigned w128 n) int_spells value_bytes (FitsAt level) (λ n. Int n) 3 int-bytes int-fits rest value after fits e
  tagged_takes (suc (suc (suc (suc zero)))) rest value after fits e = one_takes text_at text_bytes (λ text. IsShortText text × IsRealText text) text_spells value_bytes (FitsAt level) (λ text. Str text) 4 str-bytes str-fits rest value after fits e
  tagged_takes (suc (suc (suc (suc (suc zero))))) rest value after fits e = one_takes values_at values_bytes (FitAt level) lists value_bytes (FitsAt level) (λ values. List values) 5 bytes-List list-fits rest value after fits e
  tagged_takes (suc (suc (suc (suc (suc (suc zero)))))) rest value after fits e = one_takes ref_at ref_bytes (λ at. IsShortText at.key × IsRealRef at) ref_spells value_bytes (FitsAt level) (λ at. Entity at) 6 entity-bytes entity-fits rest value after fits e
  tagged_takes (suc (suc (suc (suc (suc (suc (suc tag))))))) rest value after fits e = absurd cc

  value_takes : (bytes : Items ℕ) (value : Value) (after : Items ℕ) → IsBytes bytes → value_by values_at bytes ≡ Some (value, after) → (bytes ≡ value_bytes value ++ after) × FitsAt level value
  unfolding value_by
  value_takes [] value after fits e = absurd cc
  value_takes (tag ∷ rest) value after fits e = tagged_takes tag rest value after (IsBytes-rest (tag ∷ []) rest fits) e

  IsRead : Items ℕ → Value → Type 0
  IsRead rest value = FitsAt level value → value_by values_at (value_bytes value ++ rest) ≡ Some (value, rest)

  bool-again : (rest : Items ℕ) (b : Truth) → FitsAt level (Bool b) → value_by values_at (value_bytes (Bool b) ++ rest) ≡ Some (Bool b, rest)
  unfolding value_by tagged_at value_bytes
  bool-again rest true h = refl
  bool-again rest false h = refl

  value_again : (value : Value) (rest : Items ℕ) → FitsAt level value → value_by values_at (value_bytes value ++ rest) ≡ Some (value, rest)
  unfolding value_by tagged_at value_bytes
  value_again value rest = by_variants (λ value. FitsAt level value → value_by values_at (value_bytes value ++ rest) ≡ Some (value, rest))
      (λ n h. one_again int_at int_bytes (λ n. FitsSigned w128 n) int_spells (λ n. Int n) n rest (int-fitted n h))
      (λ b h. bool-again rest b h)
      (λ text h. one_again text_at text_bytes (λ text. IsShortText text × IsRealText text) text_spells (λ text. Str text) text rest (str-fitted text h))
      (λ h. refl)
      (λ values h. ap (λ bs. value_by values_at (bs ++ rest)) (bytes-List values) ∙ one_again values_at values_bytes (FitAt level) lists (λ values. List values) values rest (list-fitted values h))
      (λ at h. one_again ref_at ref_bytes (λ at. IsShortText at.key × IsRealRef at) ref_spells (λ at. Entity at) at rest (entity-fitted at h))
      value

  pub value_by_spells : Spells (value_by values_at) value_bytes (FitsAt level)
  value_by_spells = record { takes = value_takes; again = value_again }

-- ---- by levels

split_fits : (level : ℕ) (values : Items Value) → AllByRecursion (FitsAt level) values → AllByRecursion IsShort values × (AllByRecursion (λ value. NestsWithin value level) values × AreReal values)
split_fits level [] h = (tt, (tt, tt))
split_fits level (value ∷ values) h = let r = split_fits level values h.1 in ((h.0.0, r.0), ((h.0.1.0, r.1.0), (h.0.1.1, r.1.1)))

join_fits : (level : ℕ) (values : Items Value) → AllByRecursion IsShort values → AllByRecursion (λ value. NestsWithin value level) values → AreReal values → AllByRecursion (FitsAt level) values
join_fits level [] a b c = tt
join_fits level (value ∷ values) a b c = ((a.0, (b.0, c.0)), join_fits level values a.1 b.1 c.1)

pub values_spells : (level : ℕ) → Spells (values_within level) values_bytes (FitAt level)
unfolding values_within
values_spells zero = record {
  takes = λ bytes values rest fits e. absurd cc;
  again = λ values rest fits. absurd (omega (arith, fits.1.0.0));
}
values_spells (suc level) =
    let whole = list_spells (value_by (values_within level)) value_bytes (FitsAt level) (value_by_spells (values_within level) level (values_spells level)) in
    let less : suc level - 1 ≡ level = omega arith in
    record {
      takes = λ bytes values rest fits e.
          let t = whole.takes bytes values rest fits e in
          let r = split_fits level values t.1.1 in
          (t.0, ((t.1.0, r.0), ((omega arith, subst (λ n. AllByRecursion (λ value. NestsWithin value n) values) (sym less) r.1.0), r.1.1)));
      again = λ values rest fits. whole.again values rest (fits.0.0, join_fits level values fits.0.1 (subst (λ n. AllByRecursion (λ value. NestsWithin value n) values) less fits.1.0.1) fits.1.1);
    }

pub value_spells : (level : ℕ) → Spells (value_by (values_within level)) value_bytes (FitsAt level)
value_spells level = value_by_spells (values_within level) level (values_spells level)
