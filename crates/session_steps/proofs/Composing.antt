-- How a session goes on from what it has come to.
use Rattle.std.proofs.Common.{◌≡◌, suc, inl, inr, Bool, true, false, List, [], ◌∷◌, ◌++◌, length, length-append, Ok, Err, IsErr, refl, sym, ap, ◌∙◌, subst, append_assoc, append-nil}
use Rattle.std.specs.declared.result.Result.{Result}
use Rattle.std.specs.Io.KnownBytes.{Appends}
use Rattle.std.proofs.KnownBytes.{Appends-nil, Appends-trans}
use Rattle.sf_outside.specs.Gains.{joined}
use Rattle.sf_outside.proofs.GainLaws.{joined-nil, joined-append}
use Rattle.operator_graph.specs.Turns.{Outside}
use Rattle.line_answers.specs.Vocabulary.{Core, BatchCounts, Stop}
use Rattle.line_answers.specs.StopVariants.{HistoryFull, NoMemory, DiskFault, WriteFault}
use Rattle.line_answers.specs.Services.{Service}
use Rattle.line_answers.proofs.Vocabulary.{stays_none}
use Rattle.session_steps.specs.declared.tally.Tally.{Tally}
use Rattle.session_steps.specs.Steps.{Step, standing_after, printed, ran_on}
use Rattle.session_steps.specs.Traces.{with_batch, tally_after, trace_line, trace_lines, trace_text}
use Rattle.session_steps.specs.Flushing.{FlushesBatches}
use Rattle.session_steps.specs.Doings.{Point, going, RunBatches, BeginBatches, Does, StopsAt, StopsWithin, StopsBetween, Comes}
use Rattle.session_steps.proofs.FlushLaws.{flushes_none, flushes_then}
use Rattle.session_steps.proofs.StepFacts.{standing-nil, printed-nil, ran-nil, standing-append, printed-append, ran-append}

-- What is counted and traced

pub tally-nil : (t : Tally) → tally_after t [] ≡ t
unfolding tally_after
tally-nil t = refl

pub tally-one : (t : Tally) (counts : BatchCounts) → tally_after t (counts ∷ []) ≡ with_batch t counts
unfolding tally_after
tally-one t counts = refl

pub tally-append : (xs ys : List BatchCounts) (t : Tally) → tally_after t (xs ++ ys) ≡ tally_after (tally_after t xs) ys
unfolding tally_after
tally-append [] ys t = refl
tally-append (x ∷ xs) ys t = tally-append xs ys (with_batch t x)

trace_lines-append : (xs ys : List BatchCounts) (t : Tally) → trace_lines t (xs ++ ys) ≡ trace_lines t xs ++ trace_lines (tally_after t xs) ys
unfolding tally_after trace_lines
trace_lines-append [] ys t = refl
trace_lines-append (x ∷ xs) ys t = ap (λ l. trace_line (with_batch t x).batches x ∷ l) (trace_lines-append xs ys (with_batch t x))

pub trace-nil : (traces : Bool) (t : Tally) → trace_text traces t [] ≡ []
unfolding trace_lines
trace-nil true t = joined-nil
trace-nil false t = refl

pub trace-append : (traces : Bool) (xs ys : List BatchCounts) (t : Tally)
    → trace_text traces t (xs ++ ys) ≡ trace_text traces t xs ++ trace_text traces (tally_after t xs) ys
trace-append true xs ys t = ap joined (trace_lines-append xs ys t) ∙ joined-append (trace_lines t xs) (trace_lines (tally_after t xs) ys)
trace-append false xs ys t = refl

-- Batches, and then more of them

module _ (v : Service) where
  pub Ran-then : (xs ys : List Core) (cs ds : List BatchCounts) (a b c : Outside) → RunBatches v xs cs a b → RunBatches v ys ds b c
      → RunBatches v (xs ++ ys) (cs ++ ds) a c
  Ran-then [] ys [] ds a b c p q = subst (λ o. RunBatches v ys ds o c) p q
  Ran-then [] ys (d ∷ cs) ds a b c p q = absurd p
  Ran-then (x ∷ xs) ys [] ds a b c p q = absurd p
  Ran-then (x ∷ xs) ys (d ∷ cs) ds a b c p q = (p.0, p.1, Ran-then xs ys cs ds p.0 b c p.2 q)

  pub Begin-then : (xs ys : List Core) (cs ds : List BatchCounts) (a b c : Outside) → RunBatches v xs cs a b → BeginBatches v ys ds b c
      → BeginBatches v (xs ++ ys) (cs ++ ds) a c
  Begin-then [] ys [] ds a b c p q = subst (λ o. BeginBatches v ys ds o c) p q
  Begin-then [] ys (d ∷ cs) ds a b c p q = absurd p
  Begin-then (x ∷ xs) ys [] ds a b c p q = absurd p
  Begin-then (x ∷ xs) ys (d ∷ cs) ds a b c p q = (p.0, p.1, Begin-then xs ys cs ds p.0 b c p.2 q)

  -- no batch was begun
  pub Begin-none : (xs : List Core) (a b : Outside) → b ≡ a → BeginBatches v xs [] a b
  Begin-none [] a b same = same
  Begin-none (x ∷ xs) a b same = inl same

-- batches that were run have a count each
pub counts_of_each : (v : Service) (cores : List Core) (counts : List BatchCounts) (a b : Outside) → RunBatches v cores counts a b → length counts ≡ length cores
counts_of_each v [] [] a b ran = refl
counts_of_each v [] (c ∷ counts) a b ran = absurd ran
counts_of_each v (core ∷ cores) [] a b ran = absurd ran
counts_of_each v (core ∷ cores) (c ∷ counts) a b ran = ap (λ n. suc n) (counts_of_each v cores counts ran.0 b ran.2)

module _ (v : Service) (traces : Bool) where
  -- these steps were done, and so much is handed on behind more of them
  pub flushes_behind : (xs ys : List Step) (p q z : Point) (d : Does v traces xs p q) (counts : List BatchCounts)
      → FlushesBatches v ys (going q) (length counts) q.held q.handed z.handed
      → FlushesBatches v (xs ++ ys) (going p) (length (d.counts ++ counts)) p.held p.handed z.handed
  flushes_behind xs ys p q z d counts f =
      subst (λ n. FlushesBatches v (xs ++ ys) (going p) n p.held p.handed z.handed) (sym (length-append d.counts counts))
      (flushes_then v (going p) p.held xs ys (going q) (length d.counts) q.held p.handed q.handed z.handed d.stands d.wrote
      (sym (counts_of_each v (ran_on v (going p) xs) d.counts p.outside q.outside d.ran)) (length counts) d.flushes f)

  -- there was nothing to do
  pub Does-none : (p : Point) → Does v traces [] p p
  Does-none p = record {
    stands = standing-nil v (going p);
    wrote = subst (Appends p.held p.held) (sym (ap joined (printed-nil v (going p)) ∙ joined-nil)) (Appends-nil p.held);
    counts = [];
    ran = subst (λ cores. RunBatches v cores [] p.outside p.outside) (sym (ran-nil v (going p))) refl;
    tally = sym (tally-nil p.tally);
    traced = subst (Appends p.traced p.traced) (sym (trace-nil traces p.tally)) (Appends-nil p.traced);
    flushes = flushes_none v (going p) p.held [] p.handed p.handed (stays_none p.handed);
  }

  -- these steps, and then those
  pub Does-then : (xs ys : List Step) (p q z : Point) → Does v traces xs p q → Does v traces ys q z → Does v traces (xs ++ ys) p z
  Does-then xs ys p q z d e =
      let texts : printed v (going p) (xs ++ ys) ≡ printed v (going p) xs ++ printed v (going q) ys = printed-append v xs ys (going p)
      ∙ ap (λ s. printed v (going p) xs ++ printed v s ys) d.stands in
      let cores : ran_on v (going p) (xs ++ ys) ≡ ran_on v (going p) xs ++ ran_on v (going q) ys = ran-append v xs ys (going p)
      ∙ ap (λ s. ran_on v (going p) xs ++ ran_on v s ys) d.stands in
      let trace : trace_text traces p.tally (d.counts ++ e.counts) ≡ trace_text traces p.tally d.counts ++ trace_text traces q.tally e.counts =
      trace-append traces d.counts e.counts p.tally ∙ ap (λ t. trace_text traces p.tally d.counts ++ trace_text traces t e.counts) (sym d.tally) in
      record {
        stands = standing-append v xs ys (going p) ∙ ap (λ s. standing_after v s ys) d.stands ∙ e.stands;
        wrote =
            subst (Appends p.held z.held) (sym (ap joined texts ∙ joined-append (printed v (going p) xs) (printed v (going q) ys)))
            (Appends-trans p.held q.held z.held (joined (printed v (going p) xs)) (joined (printed v (going q) ys)) d.wrote e.wrote);
        counts = d.counts ++ e.counts;
        ran =
            subst (λ l. RunBatches v l (d.counts ++ e.counts) p.outside z.outside) (sym cores)
            (Ran-then v (ran_on v (going p) xs) (ran_on v (going q) ys) d.counts e.counts p.outside q.outside z.outside d.ran e.ran);
        tally = e.tally ∙ ap (λ t. tally_after t e.counts) d.tally ∙ sym (tally-append d.counts e.counts p.tally);
        traced =
            subst (Appends p.traced z.traced) (sym trace)
            (Appends-trans p.traced q.traced z.traced (trace_text traces p.tally d.counts) (trace_text traces q.tally e.counts) d.traced e.traced);
        flushes = flushes_behind xs ys p q z d e.counts e.flushes;
      }

  -- a stop within those, behind these
  pub Within-after : (stop : Stop) (xs ys : List Step) (p q z : Point) → Does v traces xs p q → StopsWithin v traces stop ys q z
      → StopsWithin v traces stop (xs ++ ys) p z
  Within-after stop xs ys p q z d s = record {
    first = xs ++ s.first;
    step = s.step;
    rest = s.rest;
    split = ap (λ l. xs ++ l) s.split ∙ sym (append_assoc xs s.first (s.step ∷ s.rest));
    between = s.between;
    did = Does-then xs s.first p q s.between d s.did;
    stopped = s.stopped;
  }

  Between-after : (xs ys : List Step) (p q z : Point) → Does v traces xs p q → StopsBetween v traces ys q z → StopsBetween v traces (xs ++ ys) p z
  Between-after xs ys p q z d s = record {
    first = xs ++ s.first;
    rest = s.rest;
    split = ap (λ l. xs ++ l) s.split ∙ sym (append_assoc xs s.first s.rest);
    did = Does-then xs s.first p q z d s.did;
  }

  -- these steps were done, and this is the result of those
  pub Comes-then : {T : Type 0} (r : Result T Stop) (xs ys : List Step) (p q z : Point) → Does v traces xs p q → Comes v traces r ys q z
      → Comes v traces r (xs ++ ys) p z
  Comes-then (Ok value) xs ys p q z d c = Does-then xs ys p q z d c
  Comes-then (Err HistoryFull) xs ys p q z d c = Within-after HistoryFull xs ys p q z d c
  Comes-then (Err NoMemory) xs ys p q z d (inl c) = inl (Within-after NoMemory xs ys p q z d c)
  Comes-then (Err NoMemory) xs ys p q z d (inr c) = inr (Between-after xs ys p q z d c)
  Comes-then (Err DiskFault) xs ys p q z d (inl c) = inl (Within-after DiskFault xs ys p q z d c)
  Comes-then (Err DiskFault) xs ys p q z d (inr c) = inr (Between-after xs ys p q z d c)
  Comes-then (Err WriteFault) xs ys p q z d c = Within-after WriteFault xs ys p q z d c

  Within-more : (stop : Stop) (xs ys : List Step) (p q : Point) → StopsWithin v traces stop xs p q → StopsWithin v traces stop (xs ++ ys) p q
  Within-more stop xs ys p q s = record {
    first = s.first;
    step = s.step;
    rest = s.rest ++ ys;
    split = ap (λ l. l ++ ys) s.split ∙ append_assoc s.first (s.step ∷ s.rest) ys;
    between = s.between;
    did = s.did;
    stopped = s.stopped;
  }

  Between-more : (xs ys : List Step) (p q : Point) → StopsBetween v traces xs p q → StopsBetween v traces (xs ++ ys) p q
  Between-more xs ys p q s = record {
    first = s.first;
    rest = s.rest ++ ys;
    split = ap (λ l. l ++ ys) s.split ∙ append_assoc s.first s.rest ys;
    did = s.did;
  }

  -- a stop at these steps is a stop at them and those
  pub Comes-cut : {T : Type 0} (r : Result T Stop) (xs ys : List Step) (p q : Point) → IsErr r → Comes v traces r xs p q → Comes v traces r (xs ++ ys) p q
  Comes-cut (Ok value) xs ys p q stopped c = cc
  Comes-cut (Err HistoryFull) xs ys p q stopped c = Within-more HistoryFull xs ys p q c
  Comes-cut (Err NoMemory) xs ys p q stopped (inl c) = inl (Within-more NoMemory xs ys p q c)
  Comes-cut (Err NoMemory) xs ys p q stopped (inr c) = inr (Between-more xs ys p q c)
  Comes-cut (Err DiskFault) xs ys p q stopped (inl c) = inl (Within-more DiskFault xs ys p q c)
  Comes-cut (Err DiskFault) xs ys p q stopped (inr c) = inr (Between-more xs ys p q c)
  Comes-cut (Err WriteFault) xs ys p q stopped c = Within-more WriteFault xs ys p q c

  -- a result that hands the stop of another on
  pub Comes-passed : (V : Type 0) {T : Type 0} (stop : Stop) (r : Result T Stop) (steps : List Step) (p q : Point)
      → r ≡ Err stop → Comes v traces {T = V} (Err stop) steps p q → Comes v traces r steps p q
  Comes-passed V HistoryFull r steps p q is c = rw is c
  Comes-passed V NoMemory r steps p q is c = rw is c
  Comes-passed V DiskFault r steps p q is c = rw is c
  Comes-passed V WriteFault r steps p q is c = rw is c

  -- a stop at a step, behind others
  Within-at : (stop : Stop) (first rest : List Step) (step : Step) (p q z : Point) → Does v traces first p q → StopsAt v traces stop step q z
      → StopsWithin v traces stop (first ++ step ∷ rest) p z
  Within-at stop first rest step p q z d s = record { first = first; step = step; rest = rest; split = refl; between = q; did = d; stopped = s }

  pub Comes-at : {T : Type 0} (r : Result T Stop) (stop : Stop) (first rest : List Step) (step : Step) (p q z : Point) → r ≡ Err stop
      → Does v traces first p q → StopsAt v traces stop step q z → Comes v traces r (first ++ step ∷ rest) p z
  Comes-at r HistoryFull first rest step p q z is d s = rw is (Within-at HistoryFull first rest step p q z d s)
  Comes-at r NoMemory first rest step p q z is d s = rw is (inl (Within-at NoMemory first rest step p q z d s))
  Comes-at r DiskFault first rest step p q z is d s = rw is (inl (Within-at DiskFault first rest step p q z d s))
  Comes-at r WriteFault first rest step p q z is d s = rw is (Within-at WriteFault first rest step p q z d s)

  -- before the first step memory was wanted
  pub Comes-between : {T : Type 0} (r : Result T Stop) (steps : List Step) (p q : Point) → r ≡ Err NoMemory → q ≡ p → Comes v traces r steps p q
  Comes-between r steps p q is same = rw is (inr (record { first = []; rest = steps; split = refl; did = subst (Does v traces [] p) (sym same) (Does-none p) }))

  -- behind these steps memory was wanted, or the disk failed
  pub Between-behind : (steps : List Step) (p q : Point) → Does v traces steps p q → StopsBetween v traces steps p q
  Between-behind steps p q d = record { first = steps; rest = []; split = sym (append-nil steps); did = d }

-- the same service does the same
pub Comes-same : {T : Type 0} (v v' : Service) (traces : Bool) (r : Result T Stop) (steps : List Step) (p q : Point) → v' ≡ v
    → Comes v' traces r steps p q → Comes v traces r steps p q
Comes-same v v' traces r steps p q same c = subst (λ x. Comes x traces r steps p q) same c

-- two points are one where all that they tell is the same
pub same_point : (p q : Point) → q.core ≡ p.core → q.lines ≡ p.lines → q.held ≡ p.held → q.handed ≡ p.handed → q.traced ≡ p.traced → q.outside ≡ p.outside → q.tally ≡ p.tally → q ≡ p
same_point p q core lines held handed traced outside tally = λ i. record {
  core = core i;
  lines = lines i;
  held = held i;
  handed = handed i;
  traced = traced i;
  outside = outside i;
  tally = tally i;
}
