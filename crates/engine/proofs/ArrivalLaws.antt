-- What an arrival says, and that a core with one request more fits and is sound as before.
use Rattle.std.proofs.Common.{◌≡◌, ℕ, zero, suc, ◌+◌, ◌<◌, length, drop, get_or, drop-cons, add-one, Bool, true, false, true≢false, cond, ◌||◌, List, [], ◌∷◌, ◌++◌, map as over, Option, None, Some, refl, sym, ap, ◌∙◌, subst, append_assoc}
use Rattle.std.specs.Prelude.{bytes_eq}
use Rattle.std.specs.Bool.{Decides}
use Rattle.std.specs.List.{list_any, slice_get, AllByRecursion, IsDistinct}
use Rattle.std.specs.Option.{option_map}
use Rattle.std.proofs.lemmas.Bool.{or_from, false_from_ne_true}
use Rattle.std.proofs.lemmas.Cmp.{nat_list_eq_equiv}
use Rattle.std.proofs.lemmas.List.{map-append}
use Rattle.std.proofs.lemmas.List.Folds.{list_any-append}
use Rattle.std.proofs.lemmas.Map.Keys.{IsDistinct-push}
use Rattle.std.proofs.lemmas.Option.{same_Some, none-some}
use Rattle.std.proofs.lemmas.Slice.Eq.{bytes_eq-Decides}
use Rattle.py_tree.specs.ClassRules.{PlainTable, tables_of}
use Rattle.sf_value.specs.declared.Entry.{Entry}
use Rattle.sf_value.specs.declared.Request.{Request}
use Rattle.program_meaning.specs.ClassTables.{Source}
use Rattle.program_meaning.specs.Serial.{is_committed}
use Rattle.request_history.specs.Repeats.{same_act, Kept, kept_of, entry_at}
use Rattle.request_history.specs.SoundHistory.{RequestFits}
use Rattle.request_history.proofs.RepeatLaws.{stands, not_committed, same_act-Decides}
use Rattle.engine.specs.declared.arrival.Arrival.{Arrival}
use Rattle.engine.specs.declared.arrival.Arrival.TheVariants as arrival
use Rattle.engine.specs.Cores.{Core, ids_of, PendingFits, CoreFits}
use Rattle.engine.specs.Growth.{GrowsSerially}
use Rattle.engine.proofs.GrowthLaws.{goes_none, grows_same}
use Rattle.engine.specs.Arrivals.{waiting_with, meets, arrival_of, joined, after_arrival, counted, fresh_after, requests_of, Says, ArrivalsSay}

-- Among the requests that wait

-- the request that waits with an id
record IsFound (requests : List Request) (id : List ℕ) (r : Request) : Type 0 where
  place : ℕ
  stands : slice_get requests place ≡ Some r
  id_is : r.id ≡ id

found_waiting : (requests : List Request) (id : List ℕ) (r : Request) → waiting_with requests id ≡ Some r → IsFound requests id r
found_waiting [] id r is = absurd (none-some r is)
found_waiting (x ∷ xs) id r is = by (bytes_eq id x.id) refl is (found_waiting xs id r)
  where
    by : (b : Bool) → bytes_eq id x.id ≡ b → cond b (Some x) (waiting_with xs id) ≡ Some r → (waiting_with xs id ≡ Some r → IsFound xs id r) → IsFound (x ∷ xs) id r
    by true same is later =
        let this : x ≡ r = same_Some x r is in
        record { place = 0; stands = ap Some this; id_is = ap (λ (q : Request). q.id) (sym this) ∙ sym ((bytes_eq-Decides id x.id).0 same) }
    by false other is later = let f = later is in record { place = suc f.place; stands = f.stands; id_is = f.id_is }

none_waiting : (requests : List Request) (id : List ℕ) → waiting_with requests id ≡ None → list_any (bytes_eq id) (over (λ (r : Request). r.id) requests) ≡ false
none_waiting [] id is = refl
none_waiting (x ∷ xs) id is = by (bytes_eq id x.id) is (none_waiting xs id)
  where
    by : (b : Bool) → cond b (Some x) (waiting_with xs id) ≡ None → (waiting_with xs id ≡ None → list_any (bytes_eq id) (over (λ (r : Request). r.id) xs) ≡ false) → (b || list_any (bytes_eq id) (over (λ (r : Request). r.id) xs)) ≡ false
    by true is later = absurd (none-some x (sym is))
    by false is later = later is

-- Among all requests

none_committed : (es : List Entry) (id : List ℕ) → list_any (bytes_eq id) (over (λ (e : Entry). e.request.id) es) ≡ is_committed es id
none_committed [] id = refl
none_committed (e ∷ es) id = ap (λ b. bytes_eq id e.request.id || b) (none_committed es id)

among_committed : (es : List Entry) (more : List Request) (i : ℕ) (e : Entry) → slice_get es i ≡ Some e → slice_get (over (λ (e : Entry). e.request) es ++ more) i ≡ Some e.request
among_committed [] more i e at = absurd (none-some e at)
among_committed (x ∷ es) more zero e at = ap (option_map (λ (e : Entry). e.request)) at
among_committed (x ∷ es) more (suc i) e at = among_committed es more i e at

committed_there : (core : Core) (place : ℕ) (e : Entry) → entry_at core.history place ≡ Some e → (i : ℕ) × (slice_get (requests_of core) i ≡ Some e.request)
committed_there core zero e at = absurd (none-some e at)
committed_there core (suc i) e at = (i, among_committed core.history core.pending i e at)

waiting_there : (es : List Entry) (more : List Request) (i : ℕ) (r : Request) → slice_get more i ≡ Some r → (k : ℕ) × (slice_get (over (λ (e : Entry). e.request) es ++ more) k ≡ Some r)
waiting_there [] more i r at = (i, at)
waiting_there (e ∷ es) more i r at = let later = waiting_there es more i r at in (suc later.0, later.1)

-- What an arrival says

module _ (core : Core) (r : Request) where
  same_request : (other : Request) → other.id ≡ r.id → other.act ≡ r.act → other ≡ r
  same_request other id act = λ i. record { id = id i; act = act i }

  other_request : (other : Request) → Decides false (other.act ≡ r.act) → other ≡ r → ⊥
  other_request other differs same = true≢false (sym (differs.1 (ap (λ (q : Request). q.act) same)))

  committed_says : (kept : Kept) → kept_of core.history r.id ≡ Some kept → (same : Bool) → Decides same (kept.entry.request.act ≡ r.act) → Says core r (cond same (arrival.Again kept.place) arrival.Reused)
  committed_says kept is true same =
      let s = stands core.history r.id kept is in
      record { entry = kept.entry; stands = s.at; same = same_request kept.entry.request s.id_is (same.0 refl) }
  committed_says kept is false differs =
      let s = stands core.history r.id kept is in
      let there = committed_there core kept.place kept.entry s.at in
      record { place = there.0; other = kept.entry.request; stands = there.1; id = s.id_is; differs = other_request kept.entry.request differs }

  waiting_says : (other : Request) → waiting_with core.pending r.id ≡ Some other → (same : Bool) → Decides same (other.act ≡ r.act) → Says core r (cond same arrival.Waiting arrival.Reused)
  waiting_says other is true same =
      let found = found_waiting core.pending r.id other is in
      (found.place, record { stands = found.stands ∙ ap Some (same_request other found.id_is (same.0 refl)) })
  waiting_says other is false differs =
      let found = found_waiting core.pending r.id other is in
      let there = waiting_there core.history core.pending found.place other found.stands in
      record { place = there.0; other = other; stands = there.1; id = found.id_is; differs = other_request other differs }

  new_says : kept_of core.history r.id ≡ None → waiting_with core.pending r.id ≡ None → list_any (bytes_eq r.id) (ids_of core) ≡ false
  new_says not_kept not_waiting =
      list_any-append (bytes_eq r.id) (over (λ (e : Entry). e.request.id) core.history) (over (λ (q : Request). q.id) core.pending)
      ∙ or_from (list_any (bytes_eq r.id) (over (λ (e : Entry). e.request.id) core.history)) (list_any (bytes_eq r.id) (over (λ (q : Request). q.id) core.pending))
      (none_committed core.history r.id ∙ not_committed core.history r.id not_kept) (none_waiting core.pending r.id not_waiting)

  meeting_says : (kept : Option Kept) (waiting : Option Request) → kept_of core.history r.id ≡ kept → waiting_with core.pending r.id ≡ waiting → Says core r (meets kept waiting r.act)
  meeting_says (Some kept) waiting is was = committed_says kept is (same_act kept.entry.request.act r.act) (same_act-Decides kept.entry.request.act r.act)
  meeting_says None (Some other) is was = waiting_says other was (same_act other.act r.act) (same_act-Decides other.act r.act)
  meeting_says None None is was = new_says is was

pub arrivals_say : ArrivalsSay
unfolding arrival_of
arrivals_say core r = meeting_says core r (kept_of core.history r.id) (waiting_with core.pending r.id) refl refl

-- One request more

module _ (tables : List PlainTable) (core : Core) (r : Request) (fits : RequestFits tables r) where
  push_fits : (requests : List Request) → AllByRecursion (RequestFits tables) requests → AllByRecursion (RequestFits tables) (requests ++ r ∷ [])
  push_fits [] all = (fits, tt)
  push_fits (x ∷ xs) all = (all.0, push_fits xs all.1)

  pending_fits : (a : Arrival) → Says core r a → PendingFits tables core → PendingFits tables (joined core r a)
  pending_fits arrival.New new p = record {
    requests = push_fits core.pending p.requests;
    ids =
        subst (IsDistinct bytes_eq)
        (append_assoc (over (λ (e : Entry). e.request.id) core.history) (over (λ (q : Request). q.id) core.pending) (r.id ∷ [])
        ∙ ap (λ ids. over (λ (e : Entry). e.request.id) core.history ++ ids) (sym (map-append (λ (q : Request). q.id) core.pending (r ∷ []))))
        (IsDistinct-push nat_list_eq_equiv (ids_of core) r.id p.ids new);
  }
  pending_fits (arrival.Again place) says p = p
  pending_fits arrival.Waiting says p = p
  pending_fits arrival.Reused says p = p

  core_fits : (a : Arrival) → Says core r a → CoreFits tables core → CoreFits tables (joined core r a)
  core_fits arrival.New says c = record { entries = c.entries; state = c.state; pending = pending_fits arrival.New says c.pending }
  core_fits (arrival.Again place) says c = c
  core_fits arrival.Waiting says c = c
  core_fits arrival.Reused says c = c

  pub arrival_pending_fits : PendingFits tables core → PendingFits tables (joined core r (arrival_of core r))
  arrival_pending_fits = pending_fits (arrival_of core r) (arrivals_say core r)

  pub arrival_fits : CoreFits tables core → CoreFits tables (joined core r (arrival_of core r))
  arrival_fits = core_fits (arrival_of core r) (arrivals_say core r)

module _ (src : Source) (core : Core) (r : Request) (fits : RequestFits (tables_of src.names src.program) r) where
  joined_grows : (a : Arrival) → Says core r a → GrowsSerially src core (joined core r a)
  joined_grows arrival.New says = record {
    added = [];
    goes_on = goes_none src core (joined core r arrival.New) refl refl (pending_fits (tables_of src.names src.program) core r fits arrival.New says);
  }
  joined_grows (arrival.Again place) says = grows_same src core
  joined_grows arrival.Waiting says = grows_same src core
  joined_grows arrival.Reused says = grows_same src core

  pub arrival_grows : GrowsSerially src core (joined core r (arrival_of core r))
  arrival_grows = joined_grows (arrival_of core r) (arrivals_say core r)

-- Looking through those that wait

module _ (requests : List Request) (i : ℕ) (x : Request) (id : List ℕ) (within : i < length requests) (is : x ≡ get_or requests i x) where
  from_here : waiting_with (drop i requests) id ≡ cond (bytes_eq id x.id) (Some x) (waiting_with (drop (i + 1) requests) id)
  from_here =
      let next : drop i requests ≡ x ∷ drop (i + 1) requests = rw add-one (drop-cons requests i x within) ∙ ap (λ y. y ∷ drop (i + 1) requests) (sym is) in
      ap (λ l. waiting_with l id) next

  pub waiting_here : id ≡ x.id → waiting_with (drop i requests) id ≡ Some x
  waiting_here same = from_here ∙ ap (λ b. cond b (Some x) (waiting_with (drop (i + 1) requests) id)) ((bytes_eq-Decides id x.id).1 same)

  pub waiting_later : (id ≡ x.id → ⊥) → waiting_with (drop i requests) id ≡ waiting_with (drop (i + 1) requests) id
  waiting_later other =
      let differs : bytes_eq id x.id ≡ false = false_from_ne_true (bytes_eq id x.id) (λ h. other ((bytes_eq-Decides id x.id).0 h)) in
      from_here ∙ ap (λ b. cond b (Some x) (waiting_with (drop (i + 1) requests) id)) differs

-- The core behind an arrival

module _ (core : Core) (r : Request) where
  pub met : (slice : List Request) (a : Arrival) → slice ≡ core.pending → a ≡ meets (kept_of core.history r.id) (waiting_with slice r.id) r.act → a ≡ arrival_of core r
  unfolding arrival_of
  met slice a same is = is ∙ ap (λ l. meets (kept_of core.history r.id) (waiting_with l r.id) r.act) same

  pub new_core : (pending : List Request) → arrival_of core r ≡ arrival.New → pending ≡ core.pending ++ r ∷ [] → record { history = core.history; state = core.state; pending = pending } ≡ after_arrival core r
  new_core pending is more = (λ i. record { history = core.history; state = core.state; pending = more i }) ∙ ap (joined core r) (sym is)

  pub new_fresh : (fresh : ℕ) → arrival_of core r ≡ arrival.New → fresh + 1 ≡ fresh_after core r fresh
  new_fresh fresh is = ap (counted fresh) (sym is)

  same_core : (a : Arrival) → (a ≡ arrival.New → ⊥) → core ≡ joined core r a
  same_core arrival.New other = absurd (other refl)
  same_core (arrival.Again place) other = refl
  same_core arrival.Waiting other = refl
  same_core arrival.Reused other = refl

  pub old_core : (arrival_of core r ≡ arrival.New → ⊥) → core ≡ after_arrival core r
  old_core other = same_core (arrival_of core r) other

  same_fresh : (fresh : ℕ) (a : Arrival) → (a ≡ arrival.New → ⊥) → fresh ≡ counted fresh a
  same_fresh fresh arrival.New other = absurd (other refl)
  same_fresh fresh (arrival.Again place) other = refl
  same_fresh fresh arrival.Waiting other = refl
  same_fresh fresh arrival.Reused other = refl

  pub old_fresh : (fresh : ℕ) → (arrival_of core r ≡ arrival.New → ⊥) → fresh ≡ fresh_after core r fresh
  old_fresh fresh other = same_fresh fresh (arrival_of core r) other
