-- What the entries say of an entity is what its own entry says, the first that is found.
use Rattle.std.proofs.Common.{◌≡◌, ◌∙◌, Bool, true, false, cond, not, ◌&&◌, ◌||◌, List, [], ◌∷◌, map as over, Option, Some, None, refl, ap}
use Rattle.std.specs.Prelude.{is_some, if◌then◌else◌}
use Rattle.std.specs.List.{list_any}
use Rattle.std.specs.Map.{lookup}
use Rattle.std.specs.Ordering.{eq_by_cmp}
use Rattle.std.specs.FinMap as finite
use Rattle.std.specs.FinSet as set
use Rattle.sf_value.specs.Keys.{Key, key_cmp, key_of}
use Rattle.sf_value.specs.declared.value.Value.{Value}
use Rattle.sf_value.specs.declared.value.Ref.{Ref}
use Rattle.sf_value.proofs.Maps.{key_total, ref_eq, keyed, find-keyed}
use Rattle.keyed_state.specs.Contents.{Contents}
use Rattle.keyed_state.specs.Works.{Keys, keys_of}
use Rattle.transaction_buffers.specs.declared.buffers.Touched.{Touched}
use Rattle.transaction_buffers.specs.Touches.{own_fields, with_own, own_in, written_in}

abbrev pub found : Key → List (Ref × Touched) → Option Touched
found q entries = finite.find key_cmp q (keyed entries)

abbrev pub own_found : Option Touched → Option (List Value)
own_found None = None
own_found (Some t) = own_fields t

abbrev pub wrote_found : Option Touched → Bool
wrote_found None = false
wrote_found (Some t) = t.wrote

get-with_own : (s : Contents) (at : Key) (own : Option (List Value)) (q : Key) → finite.get (with_own s at own) q ≡ cond (eq_by_cmp key_cmp q at) own (finite.get s q)
get-with_own s at None q = finite.get-remove key_total s at q
get-with_own s at (Some fields) q = finite.get-insert key_total s at fields q

own_either : (b : Bool) (t : Touched) (later : Option Touched) → cond b (own_fields t) (own_found later) ≡ own_found (cond b (Some t) later)
own_either true t later = refl
own_either false t later = refl

pub get-own_in : (entries : List (Ref × Touched)) (q : Key) → finite.get (own_in entries) q ≡ own_found (found q entries)
get-own_in [] q = finite.get-empty key_cmp q
get-own_in (e ∷ more) q =
    get-with_own (own_in more) (key_of e.0) (own_fields e.1) q
    ∙ ap (cond (eq_by_cmp key_cmp q (key_of e.0)) (own_fields e.1)) (get-own_in more q)
    ∙ own_either (eq_by_cmp key_cmp q (key_of e.0)) e.1 (found q more)

-- what the table answers on an entity
pub own_looked_up : (entries : List (Ref × Touched)) (at : Ref) → finite.get (own_in entries) (key_of at) ≡ own_found (lookup (ref_eq at) entries)
own_looked_up entries at = get-own_in entries (key_of at) ∙ ap own_found (find-keyed at entries)

contains-with : (wrote : Bool) (s : Keys) (at q : Key) → set.contains (if wrote then set.insert s at else set.remove s at) q ≡ cond (eq_by_cmp key_cmp q at) wrote (set.contains s q)
contains-with true s at q = set.contains-insert key_total s at q ∙ or_is (eq_by_cmp key_cmp q at) (set.contains s q)
  where
    or_is : (b c : Bool) → (b || c) ≡ cond b true c
    or_is true c = refl
    or_is false c = refl
contains-with false s at q = set.contains-remove key_total s at q ∙ and_is (eq_by_cmp key_cmp q at) (set.contains s q)
  where
    and_is : (b c : Bool) → (not b && c) ≡ cond b false c
    and_is true c = refl
    and_is false c = refl

wrote_either : (b : Bool) (t : Touched) (later : Option Touched) → cond b t.wrote (wrote_found later) ≡ wrote_found (cond b (Some t) later)
wrote_either true t later = refl
wrote_either false t later = refl

pub contains-written_in : (entries : List (Ref × Touched)) (q : Key) → set.contains (written_in entries) q ≡ wrote_found (found q entries)
contains-written_in [] q = set.contains-empty key_cmp q
contains-written_in (e ∷ more) q =
    contains-with e.1.wrote (written_in more) (key_of e.0) q
    ∙ ap (cond (eq_by_cmp key_cmp q (key_of e.0)) e.1.wrote) (contains-written_in more q)
    ∙ wrote_either (eq_by_cmp key_cmp q (key_of e.0)) e.1 (found q more)

there_or : (b : Bool) (t : Touched) (later : Option Touched) → (b || is_some later) ≡ is_some (cond b (Some t) later)
there_or true t later = refl
there_or false t later = refl

any_found : (entries : List (Ref × Touched)) (q : Key) → list_any (eq_by_cmp key_cmp q) (over key_of (over (λ (e : Ref × Touched). e.0) entries)) ≡ is_some (found q entries)
any_found [] q = refl
any_found (e ∷ more) q = ap (λ b. eq_by_cmp key_cmp q (key_of e.0) || b) (any_found more q) ∙ there_or (eq_by_cmp key_cmp q (key_of e.0)) e.1 (found q more)

pub contains-read : (entries : List (Ref × Touched)) (q : Key) → set.contains (keys_of (over (λ (e : Ref × Touched). e.0) entries)) q ≡ is_some (found q entries)
contains-read entries q = set.contains-from_list key_total (over key_of (over (λ (e : Ref × Touched). e.0) entries)) q ∙ any_found entries q
