-- What a session has come to, wherever it stopped.
use Rattle.std.proofs.Common.{◌≡◌, ℕ, ◌⊎◌, inl, inr, Bool, true, Option, Some, None, List, [], ◌∷◌, ◌++◌, length, length-append, take, Ok, Err, refl, sym, ap, ◌∙◌, subst, append-nil, append_assoc, ◌+◌, arith}
use Rattle.std.specs.declared.result.Result.{Result}
use Rattle.std.specs.Io.KnownBytes.{Appends}
use Rattle.std.proofs.KnownBytes.{Appends-nil, Appends-trans}
use Rattle.sf_outside.specs.Bytes.{AppendsPrefix}
use Rattle.sf_outside.specs.Gains.{joined}
use Rattle.sf_outside.specs.declared.gains.WriteStop.TheVariants as write
use Rattle.sf_outside.proofs.GainLaws.{joined-nil, joined-append, Wrote-more, Wrote-after, Wrote-no_memory}
use Rattle.operator_graph.specs.Turns.{Outside}
use Rattle.batch_output.specs.BatchOutput.{Standing, batch_lines, lines_if}
use Rattle.line_answers.specs.Vocabulary.{Batch, IsToldAlong, Core, BatchCounts, HasPlace, core_behind, Stop}
use Rattle.line_answers.specs.StopVariants.{HistoryFull, NoMemory, DiskFault, WriteFault}
use Rattle.line_answers.specs.Services.{Service, program_of}
use Rattle.line_answers.proofs.Vocabulary.{stays_none}
use Rattle.line_answers.specs.LineAnswers.{Move, IsUntaken, FindsFull, IsUnplanned, IsUnlogged, IsUnanswered, IsUnreplied, batch_on, whole_text}
use Rattle.session_steps.specs.Steps.{Step, move_of, behind, standing_after, printed, ran_on}
use Rattle.session_steps.specs.Flushing.{FlushesBatches}
use Rattle.session_steps.specs.Traces.{tally_after, trace_text}
use Rattle.session_steps.specs.Doings.{Point, going, moment, IsUncounted, RunBatches, BeginBatches, Does, IsUntraced, StopsAt, StopsWithin, Comes}
use Rattle.session_steps.specs.StepLaws.{WroteAs, WholeAs, ToldAs, TracedAs, StandsAs, IsAtNext, AreCounted, EndsAmong, LacksALine, HasBegun, ComesBegin}
use Rattle.session_steps.proofs.PieceLaws.{prefix_whole, prefix_none, prefix_after}
use Rattle.session_steps.proofs.StepFacts.{printed_is, printed_placed, printed_full, behind_full, behind_placed, ran_placed, ran_full, standing_over, all_printed_over, all_ran_over, standing-append, standing-one, printed-append, ran-append, printed-cons, ran-cons}
use Rattle.session_steps.proofs.Composing.{tally-nil, tally-one, tally-append, trace-append, trace-nil, Ran-then, Begin-then, Begin-none, counts_of_each, flushes_behind}
use Rattle.session_steps.proofs.FlushLaws.{flushes_none, flushes_among}

-- a whole run of a batch is a beginning of one
run_begins : (batch : Batch) (parts events : ℕ) (old new : Outside) → IsToldAlong batch parts (Some events) old new → IsToldAlong batch parts None old new
run_begins batch parts events old new t = record { picks = t.picks; picked = t.picked; told_of_them = t.told_of_them; one_each = t.one_each; ended = tt; counted_all = tt }

-- what was written behind a whole text
wrote_after : (r : Result (Unit {0}) Stop) (a b c : Option (List ℕ)) (xs ys : List ℕ) → Appends a b xs → WroteAs r b c ys → WroteAs r a c (xs ++ ys)
wrote_after (Ok value) a b c xs ys first rest = Appends-trans a b c xs ys first rest
wrote_after (Err HistoryFull) a b c xs ys first rest = Appends-trans a b c xs ys first rest
wrote_after (Err NoMemory) a b c xs ys first rest = prefix_after a b c xs ys first rest
wrote_after (Err DiskFault) a b c xs ys first rest = prefix_after a b c xs ys first rest
wrote_after (Err WriteFault) a b c xs ys first rest = prefix_after a b c xs ys first rest

-- and whole lines behind whole ones
whole_after : (r : Result (Unit {0}) Stop) (a b c : Option (List ℕ)) (xs ys : List (List ℕ)) → Appends a b (joined xs) → WholeAs r b c ys
    → WholeAs r a c (xs ++ ys)
whole_after (Ok value) a b c xs ys first rest = tt
whole_after (Err HistoryFull) a b c xs ys first rest = tt
whole_after (Err NoMemory) a b c xs ys first rest = Wrote-after {T = Unit {0}} {U = Unit {0}} tt (Err write.NoMemory) a b c xs ys first rest
whole_after (Err DiskFault) a b c xs ys first rest = Wrote-after {T = Unit {0}} {U = Unit {0}} tt (Err write.NoMemory) a b c xs ys first rest
whole_after (Err WriteFault) a b c xs ys first rest = tt

-- what was told of batches behind others that were run, and what was traced of them
told_after : (v : Service) (r : Result (Unit {0}) Stop) (xs ys : List Core) (cs ds : List BatchCounts) (a b c : Outside) → RunBatches v xs cs a b
    → ToldAs v r ys ds b c → ToldAs v r (xs ++ ys) (cs ++ ds) a c
told_after v (Ok value) xs ys cs ds a b c first rest = Ran-then v xs ys cs ds a b c first rest
told_after v (Err HistoryFull) xs ys cs ds a b c first rest = Ran-then v xs ys cs ds a b c first rest
told_after v (Err NoMemory) xs ys cs ds a b c first rest = Begin-then v xs ys cs ds a b c first rest
told_after v (Err DiskFault) xs ys cs ds a b c first rest = Begin-then v xs ys cs ds a b c first rest
told_after v (Err WriteFault) xs ys cs ds a b c first rest = Begin-then v xs ys cs ds a b c first rest

traced_after : (r : Result (Unit {0}) Stop) (a b c : Option (List ℕ)) (xs ys : List ℕ) → Appends a b xs → TracedAs r b c ys → TracedAs r a c (xs ++ ys)
traced_after (Ok value) a b c xs ys first rest = Appends-trans a b c xs ys first rest
traced_after (Err HistoryFull) a b c xs ys first rest = Appends-trans a b c xs ys first rest
traced_after (Err NoMemory) a b c xs ys first rest = Appends-trans a b c xs ys first rest
traced_after (Err DiskFault) a b c xs ys first rest = Appends-trans a b c xs ys first rest
traced_after (Err WriteFault) a b c xs ys first rest = prefix_after a b c xs ys first rest

-- so many more were counted, and committed
counted_after : (r : Result (Unit {0}) Stop) (before counted ran : ℕ) → AreCounted r counted ran → AreCounted r (before + counted) (before + ran)
counted_after (Ok value) before counted ran same = ap (λ n. before + n) same
counted_after (Err HistoryFull) before counted ran same = ap (λ n. before + n) same
counted_after (Err NoMemory) before counted ran same = ap (λ n. before + n) same
counted_after (Err DiskFault) before counted ran same = ap (λ n. before + n) same
counted_after (Err WriteFault) before counted ran (inl same) = inl (ap (λ n. before + n) same)
counted_after (Err WriteFault) before counted ran (inr less) = inr (omega (arith, less))

-- a part of the first lines is one of them all
part_more : (a b : Option (List ℕ)) (first rest : List (List ℕ)) → AppendsPrefix a b (joined first) → AppendsPrefix a b (joined (first ++ rest))
part_more a b first rest part = Wrote-more {T = Unit {0}} (Err write.WriteFault) a b first rest refl part

-- whole first lines are such of them all
whole_more : (a b : Option (List ℕ)) (first rest : List (List ℕ)) → (k : ℕ) × Appends a b (joined (take k first))
    → (k : ℕ) × Appends a b (joined (take k (first ++ rest)))
whole_more a b first rest whole = Wrote-more {T = Unit {0}} (Err write.NoMemory) a b first rest refl whole

no_line : (a b : Option (List ℕ)) (lines : List (List ℕ)) → b ≡ a → (k : ℕ) × Appends a b (joined (take k lines))
no_line a b lines same = (0, subst (Appends a b) (sym joined-nil) (subst (λ c. Appends a c []) (sym same) (Appends-nil a)))

unchanged : (a b : Option (List ℕ)) (xs : List ℕ) → b ≡ a → AppendsPrefix a b xs
unchanged a b xs same = subst (λ c. AppendsPrefix a c xs) (sym same) (prefix_none a xs)

module _ (v : Service) (traces : Bool) where
  abbrev Begun : Result (Unit {0}) Stop → List Step → Point → Point → Type 0
  Begun r steps p q = HasBegun v traces r steps p q

  -- so many batches ran behind these steps, and so many were counted
  ran_behind : (xs ys : List Step) (p q : Point) → Does v traces xs p q
      → length (ran_on v (going p) (xs ++ ys)) ≡ length (ran_on v (going p) xs) + length (ran_on v (going q) ys)
  ran_behind xs ys p q d =
      let cores : ran_on v (going p) (xs ++ ys) ≡ ran_on v (going p) xs ++ ran_on v (going q) ys = ran-append v xs ys (going p)
      ∙ ap (λ s. ran_on v (going p) xs ++ ran_on v s ys) d.stands in
      ap length cores ∙ length-append (ran_on v (going p) xs) (ran_on v (going q) ys)

  counted_behind : (xs : List Step) (p q : Point) (d : Does v traces xs p q) (counts : List BatchCounts)
      → length (d.counts ++ counts) ≡ length (ran_on v (going p) xs) + length counts
  counted_behind xs p q d counts = length-append d.counts counts
      ∙ ap (λ n. n + length counts) (counts_of_each v (ran_on v (going p) xs) d.counts p.outside q.outside d.ran)

  abbrev ended_after : (r : Result (Unit {0}) Stop) (xs ys : List Step) (p q z : Point) → (d : Does v traces xs p q) → (counts : List BatchCounts)
      → EndsAmong v ys (going q) z.core (AreCounted r (length counts)) → EndsAmong v (xs ++ ys) (going p) z.core (AreCounted r (length (d.counts ++ counts)))
  ended_after r xs ys p q z d counts e =
      let there : standing_after v (going p) (xs ++ e.first) ≡ standing_after v (going q) e.first = standing-append v xs e.first (going p)
      ∙ ap (λ s. standing_after v s e.first) d.stands in
      let ran = ran_behind xs e.first p q d in
      let counted = counted_behind xs p q d counts in
      record {
        first = xs ++ e.first;
        rest = e.rest;
        split = ap (λ l. xs ++ l) e.split ∙ sym (append_assoc xs e.first e.rest);
        core = subst (λ s. (z.core ≡ s.core) ⊎ IsAtNext v s e.rest z.core) (sym there) e.core;
        ran =
            subst (λ n. AreCounted r n (length (ran_on v (going p) (xs ++ e.first)))) (sym counted)
            (subst (AreCounted r (length (ran_on v (going p) xs) + length counts)) (sym ran)
            (counted_after r (length (ran_on v (going p) xs)) (length counts) (length (ran_on v (going q) e.first)) e.ran));
      }

  -- what was traced of the batches behind those of steps that were done
  trace_behind : (xs : List Step) (p q : Point) (d : Does v traces xs p q) (counts : List BatchCounts)
      → trace_text traces p.tally (d.counts ++ counts) ≡ trace_text traces p.tally d.counts ++ trace_text traces q.tally counts
  trace_behind xs p q d counts = trace-append traces d.counts counts p.tally ∙ ap (λ t. trace_text traces p.tally d.counts ++ trace_text traces t counts) (sym d.tally)

  -- the trace of the batches of these steps, of which so many were counted, and of which so many ran
  abbrev Lacks : Point → Point → List BatchCounts → ℕ → Type 0
  Lacks p q counts ran = Appends p.traced q.traced (trace_text traces p.tally counts) ⊎ LacksALine traces (trace_text traces p.tally) counts ran p.traced q.traced

  lacks_after : (xs ys : List Step) (p q z : Point) (d : Does v traces xs p q) (counts : List BatchCounts) → Lacks q z counts (length (ran_on v (going q) ys))
      → Lacks p z (d.counts ++ counts) (length (ran_on v (going p) (xs ++ ys)))
  lacks_after xs ys p q z d counts (inl whole) =
      inl (subst (Appends p.traced z.traced) (sym (trace_behind xs p q d counts))
      (Appends-trans p.traced q.traced z.traced (trace_text traces p.tally d.counts) (trace_text traces q.tally counts) d.traced whole))
  lacks_after xs ys p q z d counts (inr l) =
      let done = trace_text traces p.tally d.counts in
      let texts : trace_text traces p.tally (d.counts ++ l.first) ++ l.more ≡ done ++ (trace_text traces q.tally l.first ++ l.more) =
      ap (λ text. text ++ l.more) (trace_behind xs p q d l.first) ∙ append_assoc done (trace_text traces q.tally l.first) l.more in
      inr (record {
        asked = l.asked;
        all = counted_behind xs p q d counts ∙ ap (λ n. length (ran_on v (going p) xs) + n) l.all ∙ sym (ran_behind xs ys p q d);
        first = d.counts ++ l.first;
        last = l.last;
        split = ap (λ cs. d.counts ++ cs) l.split ∙ sym (append_assoc d.counts l.first (l.last ∷ []));
        more = l.more;
        wrote = subst (Appends p.traced z.traced) (sym texts)
            (Appends-trans p.traced q.traced z.traced done (trace_text traces q.tally l.first ++ l.more) d.traced l.wrote);
      })

  -- the first steps were done, and this was begun of the rest
  begun_after : (r : Result (Unit {0}) Stop) (xs ys : List Step) (p q z : Point) → Does v traces xs p q → Begun r ys q z → Begun r (xs ++ ys) p z
  begun_after r xs ys p q z d h =
      let texts : printed v (going p) (xs ++ ys) ≡ printed v (going p) xs ++ printed v (going q) ys = printed-append v xs ys (going p)
      ∙ ap (λ s. printed v (going p) xs ++ printed v s ys) d.stands in
      let cores : ran_on v (going p) (xs ++ ys) ≡ ran_on v (going p) xs ++ ran_on v (going q) ys = ran-append v xs ys (going p)
      ∙ ap (λ s. ran_on v (going p) xs ++ ran_on v s ys) d.stands in
      let trace = trace_behind xs p q d h.counts in
      record {
        stands = subst (λ s. StandsAs r s (going z)) (sym (standing-append v xs ys (going p) ∙ ap (λ s. standing_after v s ys) d.stands)) h.stands;
        wrote =
            subst (WroteAs r p.held z.held) (sym (ap joined texts ∙ joined-append (printed v (going p) xs) (printed v (going q) ys)))
            (wrote_after r p.held q.held z.held (joined (printed v (going p) xs)) (joined (printed v (going q) ys)) d.wrote h.wrote);
        whole =
            subst (WholeAs r p.held z.held) (sym texts)
            (whole_after r p.held q.held z.held (printed v (going p) xs) (printed v (going q) ys) d.wrote h.whole);
        counts = d.counts ++ h.counts;
        told =
            subst (λ l. ToldAs v r l (d.counts ++ h.counts) p.outside z.outside) (sym cores)
            (told_after v r (ran_on v (going p) xs) (ran_on v (going q) ys) d.counts h.counts p.outside q.outside z.outside d.ran h.told);
        traced =
            subst (TracedAs r p.traced z.traced) (sym trace)
            (traced_after r p.traced q.traced z.traced (trace_text traces p.tally d.counts) (trace_text traces q.tally h.counts) d.traced h.traced);
        tally = h.tally ∙ ap (λ t. tally_after t h.counts) d.tally ∙ sym (tally-append d.counts h.counts p.tally);
        flushes = flushes_behind v traces xs ys p q z d h.counts h.flushes;
        ended = ended_after r xs ys p q z d h.counts h.ended;
        lacks = lacks_after xs h.ended.first p q z d h.counts h.lacks;
      }

  none_traced : (p q : Point) → q.traced ≡ p.traced → Appends p.traced q.traced (trace_text traces p.tally [])
  none_traced p q same = subst (Appends p.traced q.traced) (sym (trace-nil traces p.tally))
      (subst (λ c. Appends p.traced c []) (sym same) (Appends-nil p.traced))

  -- where the disk failed as much was begun as for want of memory
  as_disk : (steps : List Step) (p q : Point) → Begun (Err NoMemory) steps p q → Begun (Err DiskFault) steps p q
  as_disk steps p q h = record {
    stands = tt;
    wrote = h.wrote;
    whole = h.whole;
    counts = h.counts;
    told = h.told;
    traced = h.traced;
    tally = h.tally;
    flushes = h.flushes;
    ended = record { first = h.ended.first; rest = h.ended.rest; split = h.ended.split; core = h.ended.core; ran = h.ended.ran };
    lacks = h.lacks;
  }

  -- no step was done: the core is the same, or has the request of the first one besides
  ended_before : (r : Result (Unit {0}) Stop) → AreCounted r 0 0 → (steps : List Step) (p q : Point) → (q.core ≡ p.core) ⊎ IsAtNext v (going p) steps q.core
      → EndsAmong v steps (going p) q.core (AreCounted r 0)
  unfolding standing_after ran_on
  ended_before r none steps p q core = record { first = []; rest = steps; split = refl; core = core; ran = none }

  -- nothing was begun
  begun_none : (steps : List Step) (p : Point) → Begun (Err NoMemory) steps p p
  begun_none steps p = record {
    stands = tt;
    wrote = prefix_none p.held (joined (printed v (going p) steps));
    whole = no_line p.held p.held (printed v (going p) steps) refl;
    counts = [];
    told = Begin-none v (ran_on v (going p) steps) p.outside p.outside refl;
    traced = none_traced p p refl;
    tally = sym (tally-nil p.tally);
    flushes = flushes_none v (going p) p.held steps p.handed p.handed (stays_none p.handed);
    ended = ended_before (Err NoMemory) refl steps p p (inl refl);
    lacks = inl (none_traced p p refl);
  }

  none_ran : (s : Standing) → ran_on v s [] ≡ []
  unfolding ran_on
  none_ran s = refl

  module _ (step : Step) (rest : List Step) (p q : Point) where
    abbrev move : Move
    move = move_of v (going p) step

    abbrev texts : List (List ℕ)
    texts = printed v (going p) (step ∷ rest)

    abbrev cores : List Core
    cores = ran_on v (going p) (step ∷ rest)

    abbrev later : List (List ℕ)
    later = printed v (behind v (going p) step) rest

    -- What was written

    answer_part : AppendsPrefix p.held q.held (joined move.answer) → AppendsPrefix p.held q.held (joined texts)
    answer_part part =
        let lines = lines_if (program_of v) v.rule v.limits move.is_due move.core in
        let is : texts ≡ (move.answer ++ lines) ++ later = printed-cons v (going p) step rest ∙ ap (λ l. l ++ later) (printed_is v p.core p.lines step) in
        subst (λ l. AppendsPrefix p.held q.held (joined l)) (sym is)
        (part_more p.held q.held (move.answer ++ lines) later (part_more p.held q.held move.answer lines part))

    answer_whole : Appends p.held q.held (joined move.answer) → (k : ℕ) × Appends p.held q.held (joined (take k texts))
    answer_whole whole =
        let lines = lines_if (program_of v) v.rule v.limits move.is_due move.core in
        let is : texts ≡ (move.answer ++ lines) ++ later = printed-cons v (going p) step rest ∙ ap (λ l. l ++ later) (printed_is v p.core p.lines step) in
        subst (λ l. (k : ℕ) × Appends p.held q.held (joined (take k l))) (sym is)
        (whole_more p.held q.held (move.answer ++ lines) later
        (whole_more p.held q.held move.answer lines (Wrote-no_memory {T = Unit {0}} (Err write.NoMemory) p.held q.held move.answer refl whole)))

    whole_part : move.is_due ≡ true → AppendsPrefix p.held q.held (whole_text v move) → AppendsPrefix p.held q.held (joined texts)
    whole_part due part =
        let lines = batch_lines (program_of v) v.rule v.limits move.core in
        let is : texts ≡ (move.answer ++ lines) ++ later = printed-cons v (going p) step rest
        ∙ ap (λ l. l ++ later) (printed_placed v p.core p.lines step due) in
        subst (λ l. AppendsPrefix p.held q.held (joined l)) (sym is) (part_more p.held q.held (move.answer ++ lines) later part)

    -- The batch that was begun

    cores_are : move.is_due ≡ true → HasPlace (program_of v) v.rule v.limits move.core → cores ≡ move.core ∷ ran_on v (behind v (going p) step) rest
    cores_are due place = ran-cons v (going p) step rest ∙ ap (λ l. l ++ ran_on v (behind v (going p) step) rest) (ran_placed v p.core p.lines step due place)

    batch_begun : move.is_due ≡ true → HasPlace (program_of v) v.rule v.limits move.core
        → IsToldAlong (batch_on v.compiled move.core) v.parts None p.outside q.outside → BeginBatches v cores [] p.outside q.outside
    batch_begun due place t = subst (λ l. BeginBatches v l [] p.outside q.outside) (sym (cores_are due place)) (inr t)

    -- it ran
    one_ran : move.is_due ≡ true → HasPlace (program_of v) v.rule v.limits move.core → ran_on v (going p) (step ∷ []) ≡ move.core ∷ []
    one_ran due place =
        ran-cons v (going p) step [] ∙ ap (λ l. l ++ ran_on v (behind v (going p) step) []) (ran_placed v p.core p.lines step due place)
        ∙ ap (λ l. move.core ∷ l) (none_ran (behind v (going p) step))

    -- the batch was committed, and something of it couldn't be written
    abbrev ended_behind : (counted : ℕ) → AreCounted {T = Unit {0}} (Err WriteFault) counted 1 → move.is_due ≡ true → HasPlace (program_of v) v.rule v.limits move.core
        → q.core ≡ core_behind (program_of v) v.rule v.limits move.core → EndsAmong v (step ∷ rest) (going p) q.core (AreCounted {T = Unit {0}} (Err WriteFault) counted)
    ended_behind counted many due place core =
        record {
          first = step ∷ [];
          rest = rest;
          split = refl;
          core = inl (core ∙ sym (ap (λ (s : Standing). s.core) (standing-one v (going p) step ∙ behind_placed v p.core p.lines step due place)));
          ran = subst (λ l. AreCounted {T = Unit {0}} (Err WriteFault) counted (length l)) (sym (one_ran due place)) many;
        }

    -- The stops

    uncounted : IsUncounted p q → q.tally ≡ tally_after p.tally []
    uncounted u = u.tally ∙ sym (tally-nil p.tally)

    unflushed : IsUncounted p q → FlushesBatches v (step ∷ rest) (going p) 0 p.held p.handed q.handed
    unflushed u = flushes_none v (going p) p.held (step ∷ rest) p.handed q.handed u.stays

    untraced : IsUncounted p q → Appends p.traced q.traced (trace_text traces p.tally [])
    untraced u = none_traced p q u.traced

    untraced_part : IsUncounted p q → AppendsPrefix p.traced q.traced (trace_text traces p.tally [])
    untraced_part u = prefix_whole p.traced q.traced (trace_text traces p.tally []) (untraced u)

    stands_behind : standing_after v (going p) (step ∷ rest) ≡ standing_after v (behind v (going p) step) rest
    unfolding standing_after
    stands_behind = refl

    at_full : FindsFull v move (moment p) (moment q) → IsUncounted p q → Begun (Err HistoryFull) (step ∷ rest) p q
    at_full a u =
        let over : (behind v (going p) step).is_full ≡ true = ap (λ (s : Standing). s.is_full) (behind_full v p.core p.lines step a.due a.full) in
        let is : texts ≡ move.answer =
        printed-cons v (going p) step rest ∙ ap (λ l. l ++ later) (printed_full v p.core p.lines step a.due a.full)
        ∙ ap (λ l. move.answer ++ l) (all_printed_over v (behind v (going p) step) rest over) ∙ append-nil move.answer in
        let none : cores ≡ [] =
        ran-cons v (going p) step rest ∙ ap (λ l. l ++ ran_on v (behind v (going p) step) rest) (ran_full v p.core p.lines step a.due a.full)
        ∙ all_ran_over v (behind v (going p) step) rest over in
        record {
          stands = ap (λ (s : Standing). s.is_full) (stands_behind ∙ standing_over v (behind v (going p) step) rest over) ∙ over;
          wrote = subst (λ l. Appends p.held q.held (joined l)) (sym is) a.wrote;
          whole = tt;
          counts = [];
          told = subst (λ l. RunBatches v l [] p.outside q.outside) (sym none) a.untold;
          traced = untraced u;
          tally = uncounted u;
          flushes = unflushed u;
          ended = ended_before (Err HistoryFull) refl (step ∷ rest) p q (inr a.core);
          lacks = inl (untraced u);
        }

    at_untaken : IsUntaken (going p) move (moment p) (moment q) → IsUncounted p q → Begun (Err NoMemory) (step ∷ rest) p q
    at_untaken a u = record {
      stands = tt;
      wrote = unchanged p.held q.held (joined texts) a.unwritten;
      whole = no_line p.held q.held texts a.unwritten;
      counts = [];
      told = Begin-none v cores p.outside q.outside a.untold;
      traced = untraced u;
      tally = uncounted u;
      flushes = unflushed u;
      ended = ended_before (Err NoMemory) refl (step ∷ rest) p q a.core;
      lacks = inl (untraced u);
    }

    at_unplanned : IsUnplanned v move (moment p) (moment q) → IsUncounted p q → Begun (Err NoMemory) (step ∷ rest) p q
    at_unplanned a u = record {
      stands = tt;
      wrote = answer_part (prefix_whole p.held q.held (joined move.answer) a.wrote);
      whole = answer_whole a.wrote;
      counts = [];
      told = batch_begun a.due a.place a.begun;
      traced = untraced u;
      tally = uncounted u;
      flushes = unflushed u;
      ended = ended_before (Err NoMemory) refl (step ∷ rest) p q (inr a.core);
      lacks = inl (untraced u);
    }

    -- all events of its batch are some first ones
    at_unlogged : IsUnlogged v move (moment p) (moment q) → IsUncounted p q → Begun (Err DiskFault) (step ∷ rest) p q
    at_unlogged a u =
        let begun = run_begins (batch_on v.compiled move.core) v.parts a.events p.outside q.outside a.told in
        as_disk (step ∷ rest) p q (at_unplanned (record { due = a.due; place = a.place; core = a.core; wrote = a.wrote; begun = begun }) u)

    at_unanswered : IsUnanswered v move (moment p) (moment q) → IsUncounted p q → Begun (Err WriteFault) (step ∷ rest) p q
    at_unanswered a u = record {
      stands = tt;
      wrote = answer_part a.part;
      whole = tt;
      counts = [];
      told = Begin-none v cores p.outside q.outside a.untold;
      traced = untraced_part u;
      tally = uncounted u;
      flushes = unflushed u;
      ended = ended_before (Err WriteFault) (inl refl) (step ∷ rest) p q (inr a.core);
      lacks = inl (untraced u);
    }

    at_unreplied : IsUnreplied v move (moment p) (moment q) → IsUncounted p q → Begun (Err WriteFault) (step ∷ rest) p q
    at_unreplied a u = record {
      stands = tt;
      wrote = whole_part a.due a.part;
      whole = tt;
      counts = [];
      told = batch_begun a.due a.place (run_begins (batch_on v.compiled move.core) v.parts a.events p.outside q.outside a.told);
      traced = untraced_part u;
      tally = uncounted u;
      flushes = unflushed u;
      ended = ended_behind 0 (inr refl) a.due a.place a.core;
      lacks = inl (untraced u);
    }

    at_untraced : IsUntraced v traces step p q → Begun (Err WriteFault) (step ∷ rest) p q
    at_untraced a =
        let c = a.committed in
        record {
          stands = tt;
          whole = tt;
          wrote = whole_part c.due (prefix_whole p.held q.held (whole_text v move) c.wrote);
          counts = a.counts ∷ [];
          told =
              subst (λ l. BeginBatches v l (a.counts ∷ []) p.outside q.outside) (sym (cores_are c.due c.place))
              (q.outside, c.ran, Begin-none v (ran_on v (behind v (going p) step) rest) q.outside q.outside refl);
          traced = a.part;
          tally = a.tally ∙ sym (tally-one p.tally a.counts);
          flushes = flushes_among v (going p) p.held (step ∷ []) rest 1 p.handed q.handed a.flushes;
          ended = ended_behind 1 (inl refl) c.due c.place c.core;
          lacks = inr (record {
            asked = a.asked;
            all = ap length (sym (one_ran c.due c.place));
            first = [];
            last = a.counts;
            split = refl;
            more = take a.part.0 (trace_text traces p.tally (a.counts ∷ []));
            wrote =
                subst (λ text. Appends p.traced q.traced (text ++ take a.part.0 (trace_text traces p.tally (a.counts ∷ [])))) (sym (trace-nil traces p.tally))
                a.part.1;
          });
        }

    at_stop : (stop : Stop) → StopsAt v traces stop step p q → Begun (Err stop) (step ∷ rest) p q
    at_stop HistoryFull s = at_full s.0 s.1
    at_stop NoMemory s = by s.0
      where
        by : IsUntaken (going p) move (moment p) (moment q) ⊎ IsUnplanned v move (moment p) (moment q) → Begun (Err NoMemory) (step ∷ rest) p q
        by (inl a) = at_untaken a s.1
        by (inr a) = at_unplanned a s.1
    at_stop DiskFault s = at_unlogged s.0 s.1
    at_stop WriteFault (inl s) = by s.0
      where
        by : IsUnanswered v move (moment p) (moment q) ⊎ IsUnreplied v move (moment p) (moment q) → Begun (Err WriteFault) (step ∷ rest) p q
        by (inl a) = at_unanswered a s.1
        by (inr a) = at_unreplied a s.1
    at_stop WriteFault (inr s) = at_untraced s

  within : (stop : Stop) (steps : List Step) (p q : Point) → StopsWithin v traces stop steps p q → Begun (Err stop) steps p q
  within stop steps p q s =
      subst (λ l. Begun (Err stop) l p q) (sym s.split) (begun_after (Err stop) s.first (s.step ∷ s.rest) p s.between q s.did
      (at_stop s.step s.rest s.between q stop s.stopped))

  begins : (r : Result (Unit {0}) Stop) (steps : List Step) (p q : Point) → Comes v traces r steps p q → Begun r steps p q
  begins (Ok value) steps p q d = record {
    stands = d.stands;
    wrote = d.wrote;
    whole = tt;
    counts = d.counts;
    told = d.ran;
    traced = d.traced;
    tally = d.tally;
    flushes = d.flushes;
    ended = record {
      first = steps;
      rest = [];
      split = sym (append-nil steps);
      core = inl (sym (ap (λ (s : Standing). s.core) d.stands));
      ran = counts_of_each v (ran_on v (going p) steps) d.counts p.outside q.outside d.ran;
    };
    lacks = inl d.traced;
  }
  begins (Err HistoryFull) steps p q s = within HistoryFull steps p q s
  begins (Err NoMemory) steps p q (inl s) = within NoMemory steps p q s
  begins (Err NoMemory) steps p q (inr s) = subst (λ l. Begun (Err NoMemory) l p q) (sym s.split)
      (begun_after (Err NoMemory) s.first s.rest p q q s.did (begun_none s.rest q))
  begins (Err DiskFault) steps p q (inl s) = within DiskFault steps p q s
  begins (Err DiskFault) steps p q (inr s) = subst (λ l. Begun (Err DiskFault) l p q) (sym s.split)
      (begun_after (Err DiskFault) s.first s.rest p q q s.did (as_disk s.rest q q (begun_none s.rest q)))
  begins (Err WriteFault) steps p q s = within WriteFault steps p q s

pub comes_begin : ComesBegin
comes_begin = begins
