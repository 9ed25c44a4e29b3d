-- Requests that ask for the same, and the entry of an id.
use Rattle.std.proofs.Common.{◌≡◌, ℕ, zero, suc, ◌+◌, Bool, true, false, true≢false, cond, ◌&&◌, ◌||◌, ◌==◌, List, [], ◌∷◌, ◌++◌, None, Some, refl, sym, ap, ◌∙◌, arith}
use Rattle.std.specs.Prelude.{bytes_eq}
use Rattle.std.specs.Bool.{Decides}
use Rattle.std.specs.List.{slice_get}
use Rattle.std.proofs.lemmas.Bool.Decides.{Decides-eqb}
use Rattle.std.proofs.lemmas.Option.{same_Some, none-some}
use Rattle.std.proofs.lemmas.Slice.Eq.{bytes_eq-Decides}
use Rattle.sf_value.specs.declared.value.Value.{Value}
use Rattle.sf_value.specs.declared.Act.{Act}
use Rattle.sf_value.specs.declared.Act.TheVariants as act
use Rattle.sf_value.specs.declared.Entry.{Entry}
use Rattle.sf_value.specs.Sameness.{same_value}
use Rattle.sf_value.proofs.SameLaws.{same_value-Decides}
use Rattle.program_meaning.specs.Serial.{is_committed}
use Rattle.request_history.specs.Repeats.{same_values, same_act, Kept, kept_from, kept_of, entry_at}

-- Sameness

both : (a b : Bool) → (a && b) ≡ true → (a ≡ true) × (b ≡ true)
both true b h = (refl, h)
both false b h = absurd (true≢false (sym h))

each : (a b : Bool) → a ≡ true → b ≡ true → (a && b) ≡ true
each a b p q = λ i. p i && q i

values_equal : (vs ws : List Value) → same_values vs ws ≡ true → vs ≡ ws
values_equal [] [] h = refl
values_equal [] (w ∷ ws) h = absurd (true≢false (sym h))
values_equal (v ∷ vs) [] h = absurd (true≢false (sym h))
values_equal (v ∷ vs) (w ∷ ws) h =
    let parts = both (same_value v w) (same_values vs ws) h in
    λ i. (same_value-Decides v w).0 parts.0 i ∷ values_equal vs ws parts.1 i

values_themselves : (vs : List Value) → same_values vs vs ≡ true
values_themselves [] = refl
values_themselves (v ∷ vs) = each (same_value v v) (same_values vs vs) ((same_value-Decides v v).1 refl) (values_themselves vs)

acts_equal : (a b : Act) → same_act a b ≡ true → a ≡ b
unfolding same_act
acts_equal (act.Call class key method args) (act.Call class' key' method' args') h =
    let last = both (class == class' && bytes_eq key key' && method == method') (same_values args args') h in
    let third = both (class == class' && bytes_eq key key') (method == method') last.0 in
    let first = both (class == class') (bytes_eq key key') third.0 in
    λ i. act.Call ((Decides-eqb class class').0 first.0 i) ((bytes_eq-Decides key key').0 first.1 i) ((Decides-eqb method method').0 third.1 i) (values_equal args args' last.1 i)
acts_equal (act.New class args) (act.New class' args') h =
    let parts = both (class == class') (same_values args args') h in
    λ i. act.New ((Decides-eqb class class').0 parts.0 i) (values_equal args args' parts.1 i)
acts_equal (act.Call class key method args) (act.New class' args') h = absurd (true≢false (sym h))
acts_equal (act.New class args) (act.Call class' key' method' args') h = absurd (true≢false (sym h))

act_itself : (a : Act) → same_act a a ≡ true
unfolding same_act
act_itself (act.Call class key method args) =
    each (class == class && bytes_eq key key && method == method) (same_values args args)
    (each (class == class && bytes_eq key key) (method == method) (each (class == class) (bytes_eq key key) ((Decides-eqb class class).1 refl) ((bytes_eq-Decides key key).1 refl)) ((Decides-eqb method method).1 refl))
    (values_themselves args)
act_itself (act.New class args) = each (class == class) (same_values args args) ((Decides-eqb class class).1 refl) (values_themselves args)

pub same_act-Decides : (a b : Act) → Decides (same_act a b) (a ≡ b)
same_act-Decides a b = (acts_equal a b, λ e. ap (same_act a) (sym e) ∙ act_itself a)

-- The entry of an id

-- an entry that is kept stands at its place, and has the id
pub record Stands (history : List Entry) (id : List ℕ) (kept : Kept) : Type 0 where
  pub at : entry_at history kept.place ≡ Some kept.entry
  pub id_is : kept.entry.request.id ≡ id

stands_from : (first : ℕ) (es : List Entry) (id : List ℕ) (kept : Kept) → kept_from first es id ≡ Some kept → (i : ℕ) × (kept.place ≡ first + i) × (slice_get es i ≡ Some kept.entry) × (bytes_eq id kept.entry.request.id ≡ true)
stands_from first [] id kept h = absurd (none-some kept h)
stands_from first (e ∷ es) id kept h = by (bytes_eq id e.request.id) refl h (stands_from (first + 1) es id kept)
  where
    by : (b : Bool) → bytes_eq id e.request.id ≡ b → cond b (Some (record { place = first; entry = e })) (kept_from (first + 1) es id) ≡ Some kept
        → (kept_from (first + 1) es id ≡ Some kept → (i : ℕ) × (kept.place ≡ first + 1 + i) × (slice_get es i ≡ Some kept.entry) × (bytes_eq id kept.entry.request.id ≡ true))
        → (i : ℕ) × (kept.place ≡ first + i) × (slice_get (e ∷ es) i ≡ Some kept.entry) × (bytes_eq id kept.entry.request.id ≡ true)
    by true is h later =
        let same : record { place = first; entry = e } ≡ kept = same_Some (record { place = first; entry = e }) kept h in
        let place : first ≡ kept.place = ap (λ (k : Kept). k.place) same in
        (0, omega (arith, place), ap (λ (k : Kept). Some k.entry) same, ap (λ (k : Kept). bytes_eq id k.entry.request.id) (sym same) ∙ is)
    by false is h later =
        let r = later h in
        let place : kept.place ≡ first + 1 + r.0 = r.1 in
        (suc r.0, omega (arith, place), r.2, r.3)

pub stands : (history : List Entry) (id : List ℕ) (kept : Kept) → kept_of history id ≡ Some kept → Stands history id kept
unfolding kept_of
stands history id kept h =
    let r = stands_from 1 history id kept h in
    let place : kept.place ≡ 1 + r.0 = r.1 in
    let next : kept.place ≡ suc r.0 = omega (arith, place) in
    record { at = ap (entry_at history) next ∙ r.2; id_is = sym ((bytes_eq-Decides id kept.entry.request.id).0 r.3) }

-- an entry that stands somewhere stands there in a longer history too
longer : (es more : List Entry) (i : ℕ) (e : Entry) → slice_get es i ≡ Some e → slice_get (es ++ more) i ≡ Some e
longer [] more i e h = absurd (none-some e h)
longer (x ∷ es) more zero e h = h
longer (x ∷ es) more (suc i) e h = longer es more i e h

pub still_at : (es more : List Entry) (place : ℕ) (e : Entry) → entry_at es place ≡ Some e → entry_at (es ++ more) place ≡ Some e
still_at es more zero e h = absurd (none-some e h)
still_at es more (suc i) e h = longer es more i e h

-- an id without an entry isn't committed
not_from : (first : ℕ) (es : List Entry) (id : List ℕ) → kept_from first es id ≡ None → is_committed es id ≡ false
not_from first [] id h = refl
not_from first (e ∷ es) id h = by (bytes_eq id e.request.id) h (not_from (first + 1) es id)
  where
    by : (b : Bool) → cond b (Some (record { place = first; entry = e })) (kept_from (first + 1) es id) ≡ None → (kept_from (first + 1) es id ≡ None → is_committed es id ≡ false) → (b || is_committed es id) ≡ false
    by true h later = absurd (none-some _ (sym h))
    by false h later = later h

pub not_committed : (history : List Entry) (id : List ℕ) → kept_of history id ≡ None → is_committed history id ≡ false
unfolding kept_of
not_committed history id h = not_from 1 history id h

-- acts that are equal, and acts that aren't
pub acts_same : (a b : Act) → a ≡ b → same_act a b ≡ true
acts_same a b = (same_act-Decides a b).1

pub acts_differ : (a b : Act) → (a ≡ b → ⊥) → same_act a b ≡ false
acts_differ a b other = by (same_act a b) refl
  where
    by : (t : Bool) → same_act a b ≡ t → same_act a b ≡ false
    by true is = absurd (other (acts_equal a b is))
    by false is = is
