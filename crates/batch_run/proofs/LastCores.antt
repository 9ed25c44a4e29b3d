-- The core that a session in batches leaves, wherever it stopped among its steps.
use Rattle.std.proofs.Common.{◌≡◌, ℕ, ◌⊎◌, inl, inr, Bool, true, List, [], ◌∷◌, ◌++◌, Ok, Err, refl, sym, ap, ◌∙◌, subst, append-nil}
use Rattle.std.specs.declared.option.Option.{Option}
use Rattle.std.specs.declared.result.Result.{Result}
use Rattle.sf_outside.specs.Bytes.{AppendsPrefix}
use Rattle.sf_outside.specs.Gains.{joined}
use Rattle.sf_value.specs.declared.Request.{Request}
use Rattle.request_json.specs.Actions.{Action, Skip, Refuse, Ask, action_of}
use Rattle.engine.specs.declared.arrival.Arrival.{Arrival}
use Rattle.engine.specs.declared.arrival.Arrival.TheVariants as arrival
use Rattle.engine.specs.Cores.{Core}
use Rattle.engine.specs.Arrivals as engine
use Rattle.batch_output.specs.BatchOutput.{Standing, taken}
use Rattle.batch_session.specs.Vocabulary.{Step, Answer, RunWaiting, move_of, behind, standing_after, Point, going, moment, Does, StopsAt, StopsWithin, StopsBetween, Comes, Stop, Service, program_of, IsUntaken, IsUnplanned, IsUnanswered, IsUnreplied, whole_text, HasPlace, core_behind}
use Rattle.batch_session.specs.StopVariants as stop
use Rattle.batch_session.proofs.Vocabulary.{prefix_whole, prefix_none, behind_placed, behind_full, standing_over, standing-append}

nothing_written : (a b : Option (List ℕ)) (xs : List ℕ) → b ≡ a → AppendsPrefix a b xs
nothing_written a b xs same = subst (λ c. AppendsPrefix a c xs) (sym same) (prefix_none a xs)

-- A request that arrives commits nothing

joined_history : (core : Core) (r : Request) (a : Arrival) → (engine.joined core r a).history ≡ core.history
joined_history core r arrival.New = refl
joined_history core r (arrival.Again place) = refl
joined_history core r arrival.Waiting = refl
joined_history core r arrival.Reused = refl

taken_history : (core : Core) (action : Action) → (taken core action).history ≡ core.history
taken_history core Skip = refl
taken_history core (Refuse cause) = refl
taken_history core (Ask r) = joined_history core r (engine.arrival_of core r)

module _ (v : Service) (traces : Bool) where
  -- nor does a step before its batch
  pub move_history : (s : Standing) (step : Step) → (move_of v s step).core.history ≡ s.core.history
  move_history s (Answer line) = taken_history s.core (action_of (program_of v) line)
  move_history s RunWaiting = refl

  -- Where it ends

  -- nothing of a step was done; or nothing but a part of what it writes at once; or its batch was committed too, and a part of all was written
  pub record IsStill (p q : Point) : Type 0 where
    pub core : q.core ≡ p.core
    pub held : q.held ≡ p.held

  pub record HasMoved (step : Step) (p q : Point) : Type 0 where
    pub core : q.core ≡ (move_of v (going p) step).core
    pub part : AppendsPrefix p.held q.held (joined (move_of v (going p) step).answer)

  pub record HasRun (step : Step) (p q : Point) : Type 0 where
    pub due : (move_of v (going p) step).is_due ≡ true
    pub place : HasPlace (program_of v) v.rule v.limits (move_of v (going p) step).core
    pub core : q.core ≡ core_behind (program_of v) v.rule v.limits (move_of v (going p) step).core
    pub part : AppendsPrefix p.held q.held (whole_text v (move_of v (going p) step))

  -- the last of these where something couldn't be written
  abbrev pub EndsAt : Result (Unit {0}) Stop → Step → Point → Point → Type 0
  EndsAt r step p q = IsStill p q ⊎ HasMoved step p q ⊎ ((r ≡ Err stop.WriteFault) × HasRun step p q)

  -- behind some first steps, or at the next one
  pub record EndsBehind (steps : List Step) (p q : Point) : Type 0 where
    pub first : List Step
    pub rest : List Step
    pub split : steps ≡ first ++ rest
    pub did : Does v traces first p q

  pub record EndsWithin (r : Result (Unit {0}) Stop) (steps : List Step) (p q : Point) : Type 0 where
    pub first : List Step
    pub step : Step
    pub rest : List Step
    pub split : steps ≡ first ++ step ∷ rest
    pub between : Point
    pub did : Does v traces first p between
    pub at : EndsAt r step between q

  abbrev pub Ends : Result (Unit {0}) Stop → List Step → Point → Point → Type 0
  Ends r steps p q = EndsBehind steps p q ⊎ EndsWithin r steps p q

  -- at a step

  untaken : (r : Result (Unit {0}) Stop) (step : Step) (p q : Point) → IsUntaken (going p) (move_of v (going p) step) (moment p) (moment q) → EndsAt r step p q
  untaken r step p q u = by u.core
    where
      by : (q.core ≡ p.core) ⊎ (q.core ≡ (move_of v (going p) step).core) → EndsAt r step p q
      by (inl core) = inl (record { core = core; held = u.unwritten })
      by (inr core) = inr (inl (record { core = core; part = nothing_written p.held q.held (joined (move_of v (going p) step).answer) u.unwritten }))

  moved : (r : Result (Unit {0}) Stop) (step : Step) (p q : Point) → q.core ≡ (move_of v (going p) step).core → AppendsPrefix p.held q.held (joined (move_of v (going p) step).answer)
      → EndsAt r step p q
  moved r step p q core part = inr (inl (record { core = core; part = part }))

  stops : (why : Stop) (step : Step) (p q : Point) → StopsAt v traces why step p q → EndsAt (Err why) step p q
  stops stop.HistoryFull step p q s = moved (Err stop.HistoryFull) step p q s.0.core (prefix_whole p.held q.held (joined (move_of v (going p) step).answer) s.0.wrote)
  stops stop.NoMemory step p q s = by s.0
    where
      by : IsUntaken (going p) (move_of v (going p) step) (moment p) (moment q) ⊎ IsUnplanned v (move_of v (going p) step) (moment p) (moment q) → EndsAt (Err stop.NoMemory) step p q
      by (inl u) = untaken (Err stop.NoMemory) step p q u
      by (inr u) = moved (Err stop.NoMemory) step p q u.core (prefix_whole p.held q.held (joined (move_of v (going p) step).answer) u.wrote)
  stops stop.DiskFault step p q s = moved (Err stop.DiskFault) step p q s.0.core (prefix_whole p.held q.held (joined (move_of v (going p) step).answer) s.0.wrote)
  stops stop.WriteFault step p q (inl s) = by s.0
    where
      by : IsUnanswered v (move_of v (going p) step) (moment p) (moment q) ⊎ IsUnreplied v (move_of v (going p) step) (moment p) (moment q) → EndsAt (Err stop.WriteFault) step p q
      by (inl u) = moved (Err stop.WriteFault) step p q u.core u.part
      by (inr u) = inr (inr (refl, record { due = u.due; place = u.place; core = u.core; part = u.part }))
  stops stop.WriteFault step p q (inr s) =
      let c = s.committed in
      inr (inr (refl, record { due = c.due; place = c.place; core = c.core; part = prefix_whole p.held q.held (whole_text v (move_of v (going p) step)) c.wrote }))

  within : (why : Stop) (steps : List Step) (p q : Point) → StopsWithin v traces why steps p q → Ends (Err why) steps p q
  within why steps p q s = inr (record {
    first = s.first;
    step = s.step;
    rest = s.rest;
    split = s.split;
    between = s.between;
    did = s.did;
    at = stops why s.step s.between q s.stopped;
  })

  between_steps : (r : Result (Unit {0}) Stop) (steps : List Step) (p q : Point) → StopsBetween v traces steps p q → Ends r steps p q
  between_steps r steps p q s = inl (record { first = s.first; rest = s.rest; split = s.split; did = s.did })

  pub ends : (r : Result (Unit {0}) Stop) (steps : List Step) (p q : Point) → Comes v traces r steps p q → Ends r steps p q
  ends (Ok value) steps p q d = inl (record { first = steps; rest = []; split = sym (append-nil steps); did = d })
  ends (Err stop.HistoryFull) steps p q s = within stop.HistoryFull steps p q s
  ends (Err stop.NoMemory) steps p q (inl s) = within stop.NoMemory steps p q s
  ends (Err stop.NoMemory) steps p q (inr s) = between_steps (Err stop.NoMemory) steps p q s
  ends (Err stop.DiskFault) steps p q (inl s) = within stop.DiskFault steps p q s
  ends (Err stop.DiskFault) steps p q (inr s) = between_steps (Err stop.DiskFault) steps p q s
  ends (Err stop.WriteFault) steps p q s = within stop.WriteFault steps p q s

  -- the core behind a step whose batch has a place
  pub run_core : (step : Step) (p q : Point) → HasRun step p q → q.core ≡ (behind v (going p) step).core
  run_core step p q h = h.core ∙ sym (ap (λ (t : Standing). t.core) (behind_placed v p.core p.lines step h.due h.place))

  -- Where the history is full

  stands_behind : (p : Point) (step : Step) (rest : List Step) → standing_after v (going p) (step ∷ rest) ≡ standing_after v (behind v (going p) step) rest
  unfolding standing_after
  stands_behind p step rest = refl

  -- the session leaves the core that its steps lead to
  pub full_core : (steps : List Step) (p q : Point) → StopsWithin v traces stop.HistoryFull steps p q → (standing_after v (going p) steps).core ≡ q.core
  full_core steps p q s =
      let b = s.between in
      let at = s.stopped.0 in
      let is = behind_full v b.core b.lines s.step at.due at.full in
      let over : (behind v (going b) s.step).is_full ≡ true = ap (λ (t : Standing). t.is_full) is in
      ap (λ l. (standing_after v (going p) l).core) s.split
      ∙ ap (λ (t : Standing). t.core)
      (standing-append v s.first (s.step ∷ s.rest) (going p) ∙ ap (λ t. standing_after v t (s.step ∷ s.rest)) s.did.stands ∙ stands_behind b s.step s.rest
      ∙ standing_over v (behind v (going b) s.step) s.rest over ∙ is)
      ∙ sym at.core
