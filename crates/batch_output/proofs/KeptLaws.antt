-- Each request that is asked for the first time joins those that wait, and a batch only moves requests.
use Rattle.std.proofs.Common.{◌≡◌, ℕ, zero, suc, ◌<◌, ◌≤◌, ◌^◌, Bool, true, false, cond, not, ◌||◌, Some, List, [], ◌∷◌, ◌++◌, map as over, length, if◌then◌else◌, refl, sym, ap, ◌∙◌, subst, append_assoc, append-nil, arith}
use Rattle.std.specs.Prelude.{bytes_eq}
use Rattle.std.specs.List.{list_any, slice_get}
use Rattle.std.specs.List.Sorted.{IsPermutation}
use Rattle.std.proofs.lemmas.List.{map-append}
use Rattle.std.proofs.lemmas.List.Folds.{list_any-append}
use Rattle.std.proofs.lemmas.List.Sorted.{IsPermutation-refl, IsPermutation-trans, IsPermutation-map, IsPermutation-append_left, IsPermutation-append_right, list_any-IsPermutation}
use Rattle.std.proofs.lemmas.Option.{none-some, same_Some}
use Rattle.std.proofs.lemmas.Slice.Eq.{bytes_eq-Decides}
use Rattle.sf_value.specs.declared.Entry.{Entry}
use Rattle.sf_value.specs.declared.Request.{Request}
use Rattle.program_meaning.specs.ClassTables.{Source}
use Rattle.program_meaning.specs.World.{State}
use Rattle.serial_order.specs.ConflictFree.{Access}
use Rattle.reservations.specs.CommitRules.{Chosen}
use Rattle.request_history.specs.Repeats.{entry_at}
use Rattle.request_json.specs.Actions.{Line, Action, Skip, Refuse, Ask, action_of}
use Rattle.engine.specs.declared.arrival.Arrival.{Arrival}
use Rattle.engine.specs.declared.arrival.Arrival.TheVariants as arrival
use Rattle.engine.specs.Cores.{Core, ids_of}
use Rattle.engine.specs.Arrivals.{arrival_of, joined, requests_of, Says}
use Rattle.engine.specs.Batches.{requests_at, other_places, entry_on, batch_entries, after_batch}
use Rattle.engine.proofs.ArrivalLaws.{arrivals_say}
use Rattle.engine.proofs.PlaceLaws.{requests_once}
use Rattle.batch_output.specs.BatchOutput.{Limits, Standing, begun, waits, taken, is_due, committed, has_no_place, settled, with_line, settled_if, step, after, ended, at_end}
use Rattle.batch_output.specs.SerialBatches.{IsLawfulRule}
use Rattle.batch_output.specs.RequestsKept.{new_request, and_ids, new_requests, all_requests, RequestsKept}
use Rattle.batch_output.proofs.LawfulBatches.{is_split}
use Rattle.batch_output.proofs.SessionLaws.{Holds, open_before, open_at_end, stepped, after_lines, settled_holds, at_most_one_more, by_room, batches_end}

-- Ids of requests

or_first : (a b : Bool) → a ≡ true → (a || b) ≡ true
or_first a b is = ap (λ c. c || b) is

or_second : (a b : Bool) → b ≡ true → (a || b) ≡ true
or_second true b is = refl
or_second false b is = is

found : {T : Type 0} (id_in : T → List ℕ) (xs : List T) (i : ℕ) (x : T) (id : List ℕ) → slice_get xs i ≡ Some x → id_in x ≡ id → list_any (bytes_eq id) (over id_in xs) ≡ true
found id_in [] i x id is same = absurd (none-some x is)
found id_in (y ∷ ys) zero x id is same =
    let this : y ≡ x = same_Some y x is in
    or_first (bytes_eq id (id_in y)) (list_any (bytes_eq id) (over id_in ys)) ((bytes_eq-Decides id (id_in y)).1 (sym same ∙ ap id_in (sym this)))
found id_in (y ∷ ys) (suc i) x id is same = or_second (bytes_eq id (id_in y)) (list_any (bytes_eq id) (over id_in ys)) (found id_in ys i x id is same)

found_at : (es : List Entry) (place : ℕ) (e : Entry) (id : List ℕ) → entry_at es place ≡ Some e → e.request.id ≡ id → list_any (bytes_eq id) (over (λ (e : Entry). e.request.id) es) ≡ true
found_at es zero e id is same = absurd (none-some e is)
found_at es (suc i) e id is same = found (λ (e : Entry). e.request.id) es i e id is same

entry_ids : (es : List Entry) → over (λ (r : Request). r.id) (over (λ (e : Entry). e.request) es) ≡ over (λ (e : Entry). e.request.id) es
entry_ids [] = refl
entry_ids (e ∷ es) = ap (λ l. e.request.id ∷ l) (entry_ids es)

ids_are : (core : Core) → over (λ (r : Request). r.id) (requests_of core) ≡ ids_of core
ids_are core =
    map-append (λ (r : Request). r.id) (over (λ (e : Entry). e.request) core.history) core.pending
    ∙ ap (λ l. l ++ over (λ (r : Request). r.id) core.pending) (entry_ids core.history)

-- One request

module _ (core : Core) (r : Request) where
  abbrev is_used : Bool
  is_used = list_any (bytes_eq r.id) (ids_of core)

  among : (list_any (bytes_eq r.id) (over (λ (e : Entry). e.request.id) core.history) || list_any (bytes_eq r.id) (over (λ (q : Request). q.id) core.pending)) ≡ true → is_used ≡ true
  among is = list_any-append (bytes_eq r.id) (over (λ (e : Entry). e.request.id) core.history) (over (λ (q : Request). q.id) core.pending) ∙ is

  unused : is_used ≡ false → requests_of core ++ r ∷ [] ≡ requests_of core ++ new_request (ids_of core) (Ask r)
  unused is = ap (λ used. requests_of core ++ cond used [] (r ∷ [])) (sym is)

  used : is_used ≡ true → requests_of core ≡ requests_of core ++ new_request (ids_of core) (Ask r)
  used is = sym (append-nil (requests_of core)) ∙ ap (λ used. requests_of core ++ cond used [] (r ∷ [])) (sym is)

  met : (a : Arrival) → Says core r a → requests_of (joined core r a) ≡ requests_of core ++ new_request (ids_of core) (Ask r)
  met arrival.New new = sym (append_assoc (over (λ (e : Entry). e.request) core.history) core.pending (r ∷ [])) ∙ unused new
  met (arrival.Again place) says =
      used (among (or_first (list_any (bytes_eq r.id) (over (λ (e : Entry). e.request.id) core.history)) (list_any (bytes_eq r.id) (over (λ (q : Request). q.id) core.pending))
      (found_at core.history place says.entry r.id says.stands (ap (λ (q : Request). q.id) says.same))))
  met arrival.Waiting says =
      used (among (or_second (list_any (bytes_eq r.id) (over (λ (e : Entry). e.request.id) core.history)) (list_any (bytes_eq r.id) (over (λ (q : Request). q.id) core.pending))
      (found (λ (q : Request). q.id) core.pending says.0 r r.id says.1.stands refl)))
  met arrival.Reused says =
      used (ap (list_any (bytes_eq r.id)) (sym (ids_are core)) ∙ found (λ (q : Request). q.id) (requests_of core) says.place says.other r.id says.stands says.id)

one_line : (core : Core) (a : Action) → requests_of (taken core a) ≡ requests_of core ++ new_request (ids_of core) a
one_line core Skip = sym (append-nil (requests_of core))
one_line core (Refuse cause) = sym (append-nil (requests_of core))
one_line core (Ask r) = met core r (arrival_of core r) (arrivals_say core r)

-- The same ids in another order

module _ (src : Source) where
  same_new : (ids others : List (List ℕ)) → ((id : List ℕ) → list_any (bytes_eq id) ids ≡ list_any (bytes_eq id) others) → (a : Action) → new_request ids a ≡ new_request others a
  same_new ids others same Skip = refl
  same_new ids others same (Refuse cause) = refl
  same_new ids others same (Ask r) = ap (λ used. cond used [] (r ∷ [])) (same r.id)

  same_news : (lines : List Line) (ids others : List (List ℕ)) → ((id : List ℕ) → list_any (bytes_eq id) ids ≡ list_any (bytes_eq id) others) → new_requests src ids lines ≡ new_requests src others lines
  unfolding new_requests
  same_news [] ids others same = refl
  same_news (line ∷ lines) ids others same =
      let first = same_new ids others same (action_of src line) in
      let more : List (List ℕ) = over (λ (r : Request). r.id) (new_request others (action_of src line)) in
      ap (λ rs. rs ++ new_requests src (and_ids ids rs) lines) first
      ∙ ap (λ l. new_request others (action_of src line) ++ l)
      (same_news lines (ids ++ more) (others ++ more) (λ id. list_any-append (bytes_eq id) ids more ∙ ap (λ b. b || list_any (bytes_eq id) more) (same id) ∙ sym (list_any-append (bytes_eq id) others more)))

-- A batch

entry_requests : (src : Source) (s : State) (rs : List Request) → over (λ (e : Entry). e.request) (over (entry_on src s) rs) ≡ rs
entry_requests src s [] = refl
entry_requests src s (r ∷ rs) = ap (λ l. r ∷ l) (entry_requests src s rs)

module _ (src : Source) (rule : List Access → Chosen) (limits : Limits) (lawful : IsLawfulRule rule) where
  abbrev history_requests : Core → List Request
  history_requests core = over (λ (e : Entry). e.request) core.history

  batch_moves : (core : Core) → length core.pending < 2 ^ 32 → IsPermutation (requests_of core) (requests_of (after_batch src core (committed src rule limits core)))
  batch_moves core few =
      let places : List ℕ = committed src rule limits core in
      let others : List ℕ = other_places (length core.pending) places in
      let entries =
      map-append (λ (e : Entry). e.request) core.history (batch_entries src core places)
      ∙ ap (λ l. history_requests core ++ l) (entry_requests src core.state (requests_at core.pending places)) in
      subst (λ l. IsPermutation (requests_of core) l)
      (sym (append_assoc (history_requests core) (requests_at core.pending places) (requests_at core.pending others)) ∙ ap (λ l. l ++ requests_at core.pending others) (sym entries))
      (IsPermutation-append_right (history_requests core) core.pending (requests_at core.pending places ++ requests_at core.pending others)
      (requests_once core.pending places others (is_split src rule limits lawful core few)))

  settled_moves : (s : Standing) → length s.core.pending < 2 ^ 32 → IsPermutation (requests_of s.core) (requests_of (settled src rule limits s).core)
  settled_moves s few = by (has_no_place src rule limits s.core)
    where
      by : (full : Bool) → IsPermutation (requests_of s.core) (requests_of (by_room src rule limits full s).core)
      by true = IsPermutation-refl (requests_of s.core)
      by false = batch_moves s.core few

  -- Lines

  due_moves : (s : Standing) (due : Bool) → length s.core.pending < 2 ^ 32 → IsPermutation (requests_of s.core) (requests_of (settled_if src rule limits due s).core)
  due_moves s true few = settled_moves s few
  due_moves s false few = IsPermutation-refl (requests_of s.core)

  line_moves : (s : Standing) (line : Line) → s.is_full ≡ false → length s.core.pending < 256
      → IsPermutation (requests_of s.core ++ new_request (ids_of s.core) (action_of src line)) (requests_of (step src rule limits s line).core)
  line_moves s line is few =
      let next : Standing = with_line src rule limits s (action_of src line) in
      let more = at_most_one_more s.core (action_of src line) in
      let moves : IsPermutation (requests_of next.core) (requests_of (settled_if src rule limits (is_due src rule limits s.core (action_of src line)) next).core) =
      due_moves next (is_due src rule limits s.core (action_of src line)) (omega arith) in
      subst (λ full. IsPermutation (requests_of s.core ++ new_request (ids_of s.core) (action_of src line)) (requests_of (if full then s else settled_if src rule limits (is_due src rule limits s.core (action_of src line)) next).core)) (sym is)
      (subst (λ l. IsPermutation l (requests_of (settled_if src rule limits (is_due src rule limits s.core (action_of src line)) next).core)) (one_line s.core (action_of src line)) moves)

  module _ (most : limits.batch ≤ 256) where
    lines_move : (lines : List Line) (s : Standing) → Holds src rule limits lawful s → (after src rule limits s lines).is_full ≡ false
        → IsPermutation (all_requests src s.core lines) (requests_of (after src rule limits s lines).core)
    unfolding after new_requests
    lines_move [] s holds goes = subst (λ l. IsPermutation l (requests_of s.core)) (sym (append-nil (requests_of s.core))) (IsPermutation-refl (requests_of s.core))
    lines_move (line ∷ lines) s holds goes =
        let next : Standing = step src rule limits s line in
        let is : s.is_full ≡ false = open_before src rule limits (line ∷ lines) s goes in
        let did = stepped src rule limits lawful most s line holds in
        let new : List Request = new_request (ids_of s.core) (action_of src line) in
        let ids : List (List ℕ) = and_ids (ids_of s.core) new in
        let moves = line_moves s line is (holds.few is) in
        let same : (id : List ℕ) → list_any (bytes_eq id) ids ≡ list_any (bytes_eq id) (ids_of next.core) = λ id.
        ap (λ l. list_any (bytes_eq id) (l ++ over (λ (r : Request). r.id) new)) (sym (ids_are s.core))
        ∙ ap (list_any (bytes_eq id)) (sym (map-append (λ (r : Request). r.id) (requests_of s.core) new))
        ∙ list_any-IsPermutation (bytes_eq id) (over (λ (r : Request). r.id) (requests_of s.core ++ new)) (over (λ (r : Request). r.id) (requests_of next.core)) (IsPermutation-map (λ (r : Request). r.id) (requests_of s.core ++ new) (requests_of next.core) moves)
        ∙ ap (list_any (bytes_eq id)) (ids_are next.core) in
        let later : IsPermutation (all_requests src next.core lines) (requests_of (after src rule limits next lines).core) =
        lines_move lines next (record { sound = did.goes.sound; few = did.few }) goes in
        subst (λ l. IsPermutation l (requests_of (after src rule limits next lines).core))
        (ap (λ l. (requests_of s.core ++ new) ++ l) (sym (same_news src lines ids (ids_of next.core) same)) ∙ append_assoc (requests_of s.core) new (new_requests src ids lines))
        (IsPermutation-trans ((requests_of s.core ++ new) ++ new_requests src (ids_of next.core) lines) (all_requests src next.core lines) (requests_of (after src rule limits next lines).core)
        (IsPermutation-append_left (new_requests src (ids_of next.core) lines) (requests_of s.core ++ new) (requests_of next.core) moves) later)

    -- The end

    last_moves : (s rest : Standing) → Holds src rule limits lawful s → (full waiting : Bool) → s.is_full ≡ full → waits s.core ≡ waiting
        → (Holds src rule limits lawful (settled src rule limits s) → IsPermutation (requests_of (settled src rule limits s).core) (requests_of rest.core))
        → IsPermutation (requests_of s.core) (requests_of (if full || not waiting then s else rest).core)
    last_moves s rest holds true waiting is some later = IsPermutation-refl (requests_of s.core)
    last_moves s rest holds false false is some later = IsPermutation-refl (requests_of s.core)
    last_moves s rest holds false true is some later =
        let few : length s.core.pending < 256 = holds.few is in
        IsPermutation-trans (requests_of s.core) (requests_of (settled src rule limits s).core) (requests_of rest.core) (settled_moves s (omega arith)) (later (settled_holds src rule limits lawful most s holds is some))

    ended_moves : (n : ℕ) (s : Standing) → Holds src rule limits lawful s → IsPermutation (requests_of s.core) (requests_of (ended src rule limits n s).core)
    unfolding ended
    ended_moves zero s holds = IsPermutation-refl (requests_of s.core)
    ended_moves (suc n) s holds = last_moves s (ended src rule limits n (settled src rule limits s)) holds s.is_full (waits s.core) refl refl (ended_moves n (settled src rule limits s))

pub requests_kept : RequestsKept
requests_kept src rule limits core may lines =
    let behind : Standing = after src rule limits (begun core) lines in
    let start : Holds src rule limits may.lawful (begun core) = record { sound = may.sound; few = λ goes. may.few } in
    let done = after_lines src rule limits may.lawful may.batch lines (begun core) start in
    let moves = lines_move src rule limits may.lawful may.batch lines (begun core) start in
    record {
      between = moves;
      ended = λ goes.
          let last : Core = (at_end src rule limits behind).core in
          let none : last.pending ≡ [] = batches_end src rule limits core may lines goes in
          subst (λ l. IsPermutation (all_requests src core lines) l) (ap (λ l. over (λ (e : Entry). e.request) last.history ++ l) none ∙ append-nil (over (λ (e : Entry). e.request) last.history))
          (IsPermutation-trans (all_requests src core lines) (requests_of behind.core) (requests_of last) (moves (open_at_end src rule limits behind goes))
          (ended_moves src rule limits may.lawful may.batch (length behind.core.pending) behind (record { sound = done.goes.sound; few = done.few })));
    }
