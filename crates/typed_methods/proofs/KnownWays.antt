-- What is known, name by name, where ways have met.
use Rattle.std.proofs.Common.{◌≡◌, ℕ, Bool, true, false, cond, Option, Some, None, List, [], ◌∷◌, ◌++◌, if◌then◌else◌, refl, sym, ap, ◌∙◌, subst, true≢false}
use Rattle.std.specs.Prelude.{◌&&◌, ◌==◌, ⊤}
use Rattle.std.proofs.lemmas.Option.{same_Some, none-some}
use Rattle.py_tree.specs.PlainTypes.{PlainTy}
use Rattle.py_tree.specs.FlowEnvironment.{PlainLocal, local_of}
use Rattle.py_tree.specs.Flow.{Known, known_at, settled, joined, meet, way, behind_ways}
use Rattle.program_meaning.proofs.LocalShapes.{Shape, shapes, Grows}
use Rattle.typed_hoisting.specs.KnownLocals.{Seen, is_optional, seen_of, seen, Kept, Under}

abbrev pub seen_by : PlainTy → Known → Option Seen
seen_by ty k = if k.assigned then Some (record { ty = ty; less = is_optional ty && k.not_none }) else None

-- what is known of a name among names with types, of which so much is known
abbrev pub seen_among : List Shape → List Known → ℕ → Option Seen
seen_among [] known x = None
seen_among (s ∷ ss) [] x = None
seen_among (s ∷ ss) (k ∷ known) x = cond (s.0 == x) (seen_by s.1 k) (seen_among ss known x)

pub none_among : (ss : List Shape) (x : ℕ) → seen_among ss [] x ≡ None
none_among [] x = refl
none_among (s ∷ ss) x = refl

-- as it is found among locals
found_first : (b : Bool) (l : PlainLocal) (o : Option PlainLocal) → seen_of (cond b (Some l) o) ≡ cond b (seen_of (Some l)) (seen_of o)
found_first true l o = refl
found_first false l o = refl

none_settled : (locals : List PlainLocal) (x : ℕ) → seen (settled locals []) x ≡ None
unfolding settled local_of
none_settled [] x = refl
none_settled (l ∷ locals) x = by (l.name == x) (none_settled locals x)
  where
    by : (b : Bool) → seen (settled locals []) x ≡ None → seen_of (cond b (Some (record l { assigned = false; not_none = false })) (local_of (settled locals []) x)) ≡ None
    by true e = refl
    by false e = e

pub settled_seen : (locals : List PlainLocal) (known : List Known) (x : ℕ) → seen (settled locals known) x ≡ seen_among (shapes locals) known x
unfolding settled local_of
settled_seen [] known x = refl
settled_seen (l ∷ locals) [] x = none_settled (l ∷ locals) x
settled_seen (l ∷ locals) (k ∷ known) x = by (l.name == x) (settled_seen locals known x)
  where
    here : PlainLocal
    here = record l { assigned = k.assigned; not_none = k.not_none }

    by : (b : Bool) → seen (settled locals known) x ≡ seen_among (shapes locals) known x → seen_of (cond b (Some here) (local_of (settled locals known) x)) ≡ cond b (seen_by l.ty k) (seen_among (shapes locals) known x)
    by true e = refl
    by false e = e

pub here_seen : (locals : List PlainLocal) (x : ℕ) → seen_among (shapes locals) (known_at locals) x ≡ seen locals x
unfolding known_at local_of
here_seen [] x = refl
here_seen (l ∷ locals) x = by (l.name == x) (here_seen locals x)
  where
    by : (b : Bool) → seen_among (shapes locals) (known_at locals) x ≡ seen locals x → cond b (seen_of (Some l)) (seen_among (shapes locals) (known_at locals) x) ≡ seen_of (cond b (Some l) (local_of locals x))
    by true e = refl
    by false e = e

-- Of no more names than there are

abbrev pub IsShort : List Known → List Shape → Type 0
IsShort [] ss = ⊤
IsShort (k ∷ known) [] = ⊥
IsShort (k ∷ known) (s ∷ ss) = IsShort known ss

pub here_short : (locals : List PlainLocal) → IsShort (known_at locals) (shapes locals)
unfolding known_at
here_short [] = tt
here_short (l ∷ locals) = here_short locals

pub short_later : (ss rest : List Shape) (known : List Known) → IsShort known ss → IsShort known (ss ++ rest)
short_later ss rest [] short = tt
short_later [] rest (k ∷ known) short = absurd short
short_later (s ∷ ss) rest (k ∷ known) short = short_later ss rest known short

pub later_seen : (ss rest : List Shape) (known : List Known) (x : ℕ) → IsShort known ss → seen_among (ss ++ rest) known x ≡ seen_among ss known x
later_seen ss rest [] x short = none_among (ss ++ rest) x ∙ sym (none_among ss x)
later_seen [] rest (k ∷ known) x short = absurd short
later_seen (s ∷ ss) rest (k ∷ known) x short = ap (cond (s.0 == x) (seen_by s.1 k)) (later_seen ss rest known x short)

pub joined_short : (ss : List Shape) (a b : List Known) → IsShort a ss → IsShort (joined a b) ss
unfolding joined
joined_short ss [] b short = tt
joined_short ss (k ∷ a) [] short = tt
joined_short [] (k ∷ a) (m ∷ b) short = short
joined_short (s ∷ ss) (k ∷ a) (m ∷ b) short = joined_short ss a b short

pub joined_short_right : (ss : List Shape) (a b : List Known) → IsShort b ss → IsShort (joined a b) ss
unfolding joined
joined_short_right ss [] b short = tt
joined_short_right ss (k ∷ a) [] short = tt
joined_short_right [] (k ∷ a) (m ∷ b) short = short
joined_short_right (s ∷ ss) (k ∷ a) (m ∷ b) short = joined_short_right ss a b short

-- what was known at a point where later locals weren't typed yet
pub known_before : (before after : List PlainLocal) (x : ℕ) → Grows before after → seen (settled after (known_at before)) x ≡ seen before x
known_before before after x g =
    settled_seen after (known_at before) x ∙ ap (λ ss. seen_among ss (known_at before) x) g.is ∙ later_seen (shapes before) g.rest (known_at before) x (here_short before) ∙ here_seen before x

-- Where two ways meet

-- what is known on either way
abbrev pub on_both : Option Seen → Option Seen → Option Seen
on_both None q = None
on_both (Some s) None = None
on_both (Some s) (Some t) = Some (record { ty = s.ty; less = s.less && t.less })

on_none : (o : Option Seen) → on_both o None ≡ None
on_none None = refl
on_none (Some s) = refl

less_on_both : (o a b : Bool) → (o && (a && b)) ≡ ((o && a) && (o && b))
less_on_both true a b = refl
less_on_both false a b = refl

seen_on_both : (ty : PlainTy) (a n b m : Bool) → seen_by ty (record { assigned = a && b; not_none = n && m }) ≡ on_both (seen_by ty (record { assigned = a; not_none = n })) (seen_by ty (record { assigned = b; not_none = m }))
seen_on_both ty true n true m = ap (λ l. Some (record { ty = ty; less = l })) (less_on_both (is_optional ty) n m)
seen_on_both ty true n false m = refl
seen_on_both ty false n b m = refl

pub joined_seen : (ss : List Shape) (a b : List Known) (x : ℕ) → seen_among ss (joined a b) x ≡ on_both (seen_among ss a x) (seen_among ss b x)
unfolding joined
joined_seen [] a b x = refl
joined_seen (s ∷ ss) [] b x = refl
joined_seen (s ∷ ss) (k ∷ a) [] x = sym (on_none (seen_among (s ∷ ss) (k ∷ a) x))
joined_seen (s ∷ ss) (k ∷ a) (m ∷ b) x = by (s.0 == x) (joined_seen ss a b x)
  where
    by : (c : Bool) → seen_among ss (joined a b) x ≡ on_both (seen_among ss a x) (seen_among ss b x)
        → cond c (seen_by s.1 (record { assigned = k.assigned && m.assigned; not_none = k.not_none && m.not_none })) (seen_among ss (joined a b) x) ≡ on_both (cond c (seen_by s.1 k) (seen_among ss a x)) (cond c (seen_by s.1 m) (seen_among ss b x))
    by true e = seen_on_both s.1 k.assigned k.not_none m.assigned m.not_none
    by false e = e

and_left : (a b : Bool) → (a && b) ≡ true → a ≡ true
and_left true b h = refl
and_left false b h = h

and_right : (a b : Bool) → (a && b) ≡ true → b ≡ true
and_right true b h = h
and_right false b h = absurd (true≢false (sym h))

under_left : (o q : Option Seen) → Under (on_both o q) o
under_left None q = tt
under_left (Some s) None = tt
under_left (Some s) (Some t) = (refl, and_left s.less t.less)

pub joined_left : (ss : List Shape) (a b : List Known) (x : ℕ) → Under (seen_among ss (joined a b) x) (seen_among ss a x)
joined_left ss a b x = subst (λ o. Under o (seen_among ss a x)) (sym (joined_seen ss a b x)) (under_left (seen_among ss a x) (seen_among ss b x))

under_right : (ty : PlainTy) (a n b m : Bool) → Under (on_both (seen_by ty (record { assigned = a; not_none = n })) (seen_by ty (record { assigned = b; not_none = m }))) (seen_by ty (record { assigned = b; not_none = m }))
under_right ty true n true m = (refl, and_right (is_optional ty && n) (is_optional ty && m))
under_right ty true n false m = tt
under_right ty false n b m = tt

both_right : (ss : List Shape) (a b : List Known) (x : ℕ) → Under (on_both (seen_among ss a x) (seen_among ss b x)) (seen_among ss b x)
both_right [] a b x = tt
both_right (s ∷ ss) [] b x = tt
both_right (s ∷ ss) (k ∷ a) [] x = subst (λ o. Under o None) (sym (on_none (seen_among (s ∷ ss) (k ∷ a) x))) tt
both_right (s ∷ ss) (k ∷ a) (m ∷ b) x = by (s.0 == x) (both_right ss a b x)
  where
    by : (c : Bool) → Under (on_both (seen_among ss a x) (seen_among ss b x)) (seen_among ss b x)
        → Under (on_both (cond c (seen_by s.1 k) (seen_among ss a x)) (cond c (seen_by s.1 m) (seen_among ss b x))) (cond c (seen_by s.1 m) (seen_among ss b x))
    by true e = under_right s.1 k.assigned k.not_none m.assigned m.not_none
    by false e = e

pub joined_right : (ss : List Shape) (a b : List Known) (x : ℕ) → Under (seen_among ss (joined a b) x) (seen_among ss b x)
joined_right ss a b x = subst (λ o. Under o (seen_among ss b x)) (sym (joined_seen ss a b x)) (both_right ss a b x)

kept_on_both : (o p q r : Option Seen) → Kept o p → Kept q r → Kept (on_both o q) (on_both p r)
kept_on_both None p q r f g = tt
kept_on_both (Some s) p None r f g = tt
kept_on_both (Some s) p (Some t) r f g = ap (λ o. on_both o r) f ∙ ap (on_both (Some s)) g

pub joined_kept : (ss ts : List Shape) (a b d e : List Known) (x : ℕ) → Kept (seen_among ss a x) (seen_among ts d x) → Kept (seen_among ss b x) (seen_among ts e x) → Kept (seen_among ss (joined a b) x) (seen_among ts (joined d e) x)
joined_kept ss ts a b d e x f g =
    subst (λ o. Kept o (seen_among ts (joined d e) x)) (sym (joined_seen ss a b x))
    (subst (Kept (on_both (seen_among ss a x) (seen_among ss b x))) (sym (joined_seen ts d e x)) (kept_on_both (seen_among ss a x) (seen_among ts d x) (seen_among ss b x) (seen_among ts e x) f g))

-- Ways of which more is known: where some have met here, they have met there

abbrev pub KnownThere : List Shape → Option (List Known) → List Shape → Option (List Known) → Type 0
KnownThere ss None ts None = ⊤
KnownThere ss (Some a) ts (Some b) = IsShort a ss × ((x : ℕ) → Kept (seen_among ss a x) (seen_among ts b x))
KnownThere ss _ ts _ = ⊥

module _ (ss ts : List Shape) where
  pub met_there : (a b d e : Option (List Known)) → KnownThere ss a ts d → KnownThere ss b ts e → KnownThere ss (meet a b) ts (meet d e)
  met_there None b None e f g = g
  met_there (Some k) None (Some l) None f g = f
  met_there (Some k) (Some m) (Some l) (Some n) f g = (joined_short ss k m f.0, λ x. joined_kept ss ts k m l n x (f.1 x) (g.1 x))
  met_there None b (Some l) e f g = absurd f
  met_there (Some k) b None e f g = absurd f
  met_there (Some k) (Some m) (Some l) None f g = absurd g
  met_there (Some k) None (Some l) (Some n) f g = absurd g

  pub later_there : (rest : List Shape) (a b : Option (List Known)) → KnownThere ss a ts b → KnownThere (ss ++ rest) a ts b
  later_there rest None None f = f
  later_there rest (Some a) (Some b) f = (short_later ss rest a f.0, λ x. subst (λ o. Kept o (seen_among ts b x)) (sym (later_seen ss rest a x f.0)) (f.1 x))
  later_there rest None (Some b) f = absurd f
  later_there rest (Some a) None f = absurd f

pub way_there : (b : Bool) (here there : List PlainLocal) → ((x : ℕ) → Kept (seen here x) (seen there x)) → KnownThere (shapes here) (way b here) (shapes there) (way b there)
way_there true here there kept = (here_short here, λ x. subst (λ o. Kept o (seen_among (shapes there) (known_at there) x)) (sym (here_seen here x)) (subst (Kept (seen here x)) (sym (here_seen there x)) (kept x)))
way_there false here there kept = tt

pub behind_there : (here there : List PlainLocal) (a b : Option (List Known)) → ((x : ℕ) → Kept (seen here x) (seen there x)) → KnownThere (shapes here) a (shapes there) b → (x : ℕ) → Kept (seen (behind_ways here a) x) (seen (behind_ways there b) x)
behind_there here there None None kept f x = kept x
behind_there here there (Some a) (Some b) kept f x =
    subst (λ o. Kept o (seen (settled there b) x)) (sym (settled_seen here a x)) (subst (Kept (seen_among (shapes here) a x)) (sym (settled_seen there b x)) (f.1 x))
behind_there here there None (Some b) kept f x = absurd f
behind_there here there (Some a) None kept f x = absurd f

-- Where some ways have met, and at least as much is known in an environment as behind them

pub record MetUnder (ss : List Shape) (met : Option (List Known)) (env : List PlainLocal) : Type 0 where
  pub known : List Known
  pub is : met ≡ Some known
  pub short : IsShort known ss
  pub under : (x : ℕ) → Under (seen_among ss known x) (seen env x)

under_on : (o q r : Option Seen) → Under o q → Under q r → Under o r
under_on None q r f g = tt
under_on (Some s) None r f g = absurd f
under_on (Some s) (Some t) None f g = absurd g
under_on (Some s) (Some t) (Some u) f g = (f.0 ∙ g.0, λ h. g.1 (f.1 h))

pub under_then : (o q r : Option Seen) → Under o q → Under q r → Under o r
under_then o q r f g = under_on o q r f g

module _ (ss : List Shape) (env : List PlainLocal) where
  met : (o : Option (List Known)) (known : List Known) → o ≡ Some known → IsShort known ss → ((x : ℕ) → Under (seen_among ss known x) (seen env x)) → MetUnder ss o env
  met o known is short under = record { known = known; is = is; short = short; under = under }

  pub met_left : (a b : Option (List Known)) → MetUnder ss a env → MetUnder ss (meet a b) env
  met_left a b m = by a b m.is
    where
      by : (a b : Option (List Known)) → a ≡ Some m.known → MetUnder ss (meet a b) env
      by None b e = absurd (none-some m.known e)
      by (Some k) None e = met (Some k) m.known e m.short m.under
      by (Some k) (Some l) e =
          let same : m.known ≡ k = sym (same_Some _ _ e) in
          met (Some (joined k l)) (joined k l) refl (joined_short ss k l (subst (λ ks. IsShort ks ss) same m.short))
          (λ x. under_on (seen_among ss (joined k l) x) (seen_among ss k x) (seen env x) (joined_left ss k l x) (subst (λ ks. Under (seen_among ss ks x) (seen env x)) same (m.under x)))

  pub met_right : (a b : Option (List Known)) → MetUnder ss b env → MetUnder ss (meet a b) env
  met_right a b m = by a b m.is
    where
      by : (a b : Option (List Known)) → b ≡ Some m.known → MetUnder ss (meet a b) env
      by None b e = met b m.known e m.short m.under
      by (Some k) None e = absurd (none-some m.known e)
      by (Some k) (Some l) e =
          let same : m.known ≡ l = sym (same_Some _ _ e) in
          met (Some (joined k l)) (joined k l) refl (joined_short_right ss k l (subst (λ ks. IsShort ks ss) same m.short))
          (λ x. under_on (seen_among ss (joined k l) x) (seen_among ss l x) (seen env x) (joined_right ss k l x) (subst (λ ks. Under (seen_among ss ks x) (seen env x)) same (m.under x)))

pub met_grown : (before after env : List PlainLocal) (o : Option (List Known)) → Grows before after → MetUnder (shapes before) o env → MetUnder (shapes after) o env
met_grown before after env o g m =
    subst (λ ss. MetUnder ss o env) (sym g.is)
    (met (shapes before ++ g.rest) env o m.known m.is (short_later (shapes before) g.rest m.known m.short)
    (λ x. subst (λ p. Under p (seen env x)) (sym (later_seen (shapes before) g.rest m.known x m.short)) (m.under x)))

pub met_here : (locals env : List PlainLocal) → ((x : ℕ) → Under (seen locals x) (seen env x)) → MetUnder (shapes locals) (way true locals) env
met_here locals env under = record { known = known_at locals; is = refl; short = here_short locals; under = λ x. subst (λ o. Under o (seen env x)) (sym (here_seen locals x)) (under x) }

pub met_behind : (locals : List PlainLocal) (o : Option (List Known)) (env : List PlainLocal) → MetUnder (shapes locals) o env → (x : ℕ) → Under (seen (behind_ways locals o) x) (seen env x)
met_behind locals o env m x = subst (λ o. Under (seen (behind_ways locals o) x) (seen env x)) (sym m.is) (subst (λ o. Under o (seen env x)) (sym (settled_seen locals m.known x)) (m.under x))

-- Where as much is known on all ways that have met, if any have, as here

abbrev pub MetAbove : List PlainLocal → List Shape → Option (List Known) → Type 0
MetAbove floor ss None = ⊤
MetAbove floor ss (Some known) = IsShort known ss × ((x : ℕ) → Under (seen floor x) (seen_among ss known x))

under_both : (o p q : Option Seen) → Under o p → Under o q → Under o (on_both p q)
under_both None p q f g = tt
under_both (Some s) None q f g = absurd f
under_both (Some s) (Some t) None f g = absurd g
under_both (Some s) (Some t) (Some u) f g = (f.0, λ h. and_both t.less u.less (f.1 h) (g.1 h))
  where
    and_both : (a b : Bool) → a ≡ true → b ≡ true → (a && b) ≡ true
    and_both true b e f = f
    and_both false b e f = absurd (true≢false (sym e))

module _ (floor : List PlainLocal) where
  pub above_both : (ss : List Shape) (a b : Option (List Known)) → MetAbove floor ss a → MetAbove floor ss b → MetAbove floor ss (meet a b)
  above_both ss None b f g = g
  above_both ss (Some k) None f g = f
  above_both ss (Some k) (Some l) f g = (joined_short ss k l f.0, λ x. subst (Under (seen floor x)) (sym (joined_seen ss k l x)) (under_both (seen floor x) (seen_among ss k x) (seen_among ss l x) (f.1 x) (g.1 x)))

  pub above_grown : (before after : List PlainLocal) (o : Option (List Known)) → Grows before after → MetAbove floor (shapes before) o → MetAbove floor (shapes after) o
  above_grown before after None g f = tt
  above_grown before after (Some k) g f =
      subst (λ ss. MetAbove floor ss (Some k)) (sym g.is) (short_later (shapes before) g.rest k f.0, λ x. subst (Under (seen floor x)) (sym (later_seen (shapes before) g.rest k x f.0)) (f.1 x))

  pub above_here : (go : Bool) (locals : List PlainLocal) → ((x : ℕ) → Under (seen floor x) (seen locals x)) → MetAbove floor (shapes locals) (way go locals)
  above_here true locals under = (here_short locals, λ x. subst (Under (seen floor x)) (sym (here_seen locals x)) (under x))
  above_here false locals under = tt

  pub above_behind : (locals : List PlainLocal) (o : Option (List Known)) → ((x : ℕ) → Under (seen floor x) (seen locals x)) → MetAbove floor (shapes locals) o → (x : ℕ) → Under (seen floor x) (seen (behind_ways locals o) x)
  above_behind locals None under f x = under x
  above_behind locals (Some k) under f x = subst (Under (seen floor x)) (sym (settled_seen locals k x)) (f.1 x)
