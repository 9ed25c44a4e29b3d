-- What a session has done stays so where its output is flushed: nothing more is written.
use Rattle.std.proofs.Common.{◌≡◌, ◌⊎◌, ◌++◌, [], ◌∷◌, length, ℕ, inl, inr, Bool, List, Option, Ok, Err, refl, subst}
use Rattle.std.specs.declared.result.Result.{Result}
use Rattle.std.specs.Io.KnownBytes.{Keeps}
use Rattle.std.proofs.KnownBytes.{Appends-kept}
use Rattle.sf_outside.specs.Bytes.{AppendsPrefix}
use Rattle.sf_outside.specs.Gains.{joined}
use Rattle.session_steps.specs.Vocabulary.{BatchCounts, Stop, Service, Moment, Move, whole_text, IsUntaken, IsCommitted, FindsFull, IsUnplanned, IsUnlogged, IsUnanswered, IsUnreplied, StaysHanded}
use Rattle.session_steps.specs.StopVariants.{HistoryFull, NoMemory, DiskFault, WriteFault}
use Rattle.session_steps.specs.Steps.{Step, move_of}
use Rattle.session_steps.specs.Doings.{Point, going, moment, Does, IsUncounted, StopsAt, StopsWithin, StopsBetween, Comes}
use Rattle.session_steps.proofs.FlushLaws.{flushes_since}
use Rattle.session_steps.proofs.Vocabulary.{stays_none, stays_then}

-- the output holds this instead
abbrev moment_with : Moment → Option (List ℕ) → Moment
moment_with p held = record { core = p.core; held = held; outside = p.outside }

abbrev pub point_with : Point → Option (List ℕ) → Option (List ℕ) → Point
point_with p held handed = record { core = p.core; lines = p.lines; held = held; handed = handed; traced = p.traced; outside = p.outside; tally = p.tally }

part_kept : (a b c : Option (List ℕ)) (bytes : List ℕ) → AppendsPrefix a b bytes → Keeps b c → AppendsPrefix a c bytes
part_kept a b c bytes part kept = (part.0, Appends-kept a b c _ part.1 kept)

uncounted_kept : (held handed : Option (List ℕ)) (p q : Point) → StaysHanded q.handed handed → IsUncounted p q → IsUncounted p (point_with q held handed)
uncounted_kept held handed p q more u = record { tally = u.tally; traced = u.traced; stays = stays_then p.handed q.handed handed u.stays more }

-- A move

module _ (v : Service) (m : Move) (held : Option (List ℕ)) (old new : Moment) (kept : Keeps new.held held) where
  committed_kept : (counts : BatchCounts) → IsCommitted v m counts old new → IsCommitted v m counts old (moment_with new held)
  committed_kept counts c = record {
    due = c.due;
    place = c.place;
    ran = record { counted = c.ran.counted; told = c.ran.told };
    core = c.core;
    wrote = Appends-kept old.held new.held held (whole_text v m) c.wrote kept;
  }

  full_kept : FindsFull v m old new → FindsFull v m old (moment_with new held)
  full_kept f = record {
    due = f.due;
    full = f.full;
    core = f.core;
    wrote = Appends-kept old.held new.held held (joined m.answer) f.wrote kept;
    untold = f.untold;
  }

  unplanned_kept : IsUnplanned v m old new → IsUnplanned v m old (moment_with new held)
  unplanned_kept u = record {
    due = u.due;
    place = u.place;
    core = u.core;
    wrote = Appends-kept old.held new.held held (joined m.answer) u.wrote kept;
    begun = u.begun;
  }

  unlogged_kept : IsUnlogged v m old new → IsUnlogged v m old (moment_with new held)
  unlogged_kept u = record {
    due = u.due;
    place = u.place;
    core = u.core;
    wrote = Appends-kept old.held new.held held (joined m.answer) u.wrote kept;
    events = u.events;
    told = u.told;
  }

  fault_kept : IsUnanswered v m old new ⊎ IsUnreplied v m old new → IsUnanswered v m old (moment_with new held) ⊎ IsUnreplied v m old (moment_with new held)
  fault_kept (inl u) = inl (record { core = u.core; part = part_kept old.held new.held held (joined m.answer) u.part kept; untold = u.untold })
  fault_kept (inr u) =
      inr (record {
        due = u.due;
        place = u.place;
        events = u.events;
        told = u.told;
        core = u.core;
        part = part_kept old.held new.held held (whole_text v m) u.part kept;
      })

-- Steps

module _ (v : Service) (traces : Bool) (held handed : Option (List ℕ)) where
  does_kept : (steps : List Step) (p q : Point) → Keeps q.held held → StaysHanded q.handed handed → Does v traces steps p q → Does v traces steps p (point_with q held handed)
  does_kept steps p q kept more d = record {
    stands = d.stands;
    wrote = Appends-kept p.held q.held held _ d.wrote kept;
    counts = d.counts;
    ran = d.ran;
    tally = d.tally;
    traced = d.traced;
    flushes = flushes_since v (going p) p.held steps (length d.counts) p.handed q.handed handed d.flushes more;
  }

  module _ (steps first rest : List Step) (step : Step) (split : steps ≡ first ++ step ∷ rest) (p between q : Point) (did : Does v traces first p between) (kept : Keeps q.held held) (more : StaysHanded q.handed handed) where
    abbrev move : Move
    move = move_of v (going between) step

    at_full : StopsAt v traces HistoryFull step between q → StopsWithin v traces HistoryFull steps p (point_with q held handed)
    at_full s = record {
      first = first;
      step = step;
      rest = rest;
      split = split;
      between = between;
      did = did;
      stopped = (full_kept v move held (moment between) (moment q) kept s.0, uncounted_kept held handed between q more s.1);
    }

    -- where nothing was written, the output may have been found so before the step
    at_memory : IsUntaken (going between) move (moment between) (moment q) ⊎ IsUnplanned v move (moment between) (moment q) → IsUncounted between q
        → StopsWithin v traces NoMemory steps p (point_with q held handed)
    at_memory (inl u) n = record {
      first = first;
      step = step;
      rest = rest;
      split = split;
      between = point_with between held handed;
      did = does_kept first p between (subst (λ h. Keeps h held) u.unwritten kept) (stays_then between.handed q.handed handed n.stays more) did;
      stopped = (inl (record { core = u.core; unwritten = refl; untold = u.untold }), record { tally = n.tally; traced = n.traced; stays = stays_none handed });
    }
    at_memory (inr u) n = record {
      first = first;
      step = step;
      rest = rest;
      split = split;
      between = between;
      did = did;
      stopped = (inr (unplanned_kept v move held (moment between) (moment q) kept u), uncounted_kept held handed between q more n);
    }

    at_disk : StopsAt v traces DiskFault step between q → StopsWithin v traces DiskFault steps p (point_with q held handed)
    at_disk s = record {
      first = first;
      step = step;
      rest = rest;
      split = split;
      between = between;
      did = did;
      stopped = (unlogged_kept v move held (moment between) (moment q) kept s.0, uncounted_kept held handed between q more s.1);
    }

    at_fault : StopsAt v traces WriteFault step between q → StopsWithin v traces WriteFault steps p (point_with q held handed)
    at_fault (inl s) = record {
      first = first;
      step = step;
      rest = rest;
      split = split;
      between = between;
      did = did;
      stopped = inl (fault_kept v move held (moment between) (moment q) kept s.0, uncounted_kept held handed between q more s.1);
    }
    at_fault (inr s) = record {
      first = first;
      step = step;
      rest = rest;
      split = split;
      between = between;
      did = did;
      stopped = inr (record {
        asked = s.asked;
        counts = s.counts;
        committed = committed_kept v move held (moment between) (moment q) kept s.counts s.committed;
        tally = s.tally;
        part = s.part;
        flushes = flushes_since v (going between) between.held (step ∷ []) 1 between.handed q.handed handed s.flushes more;
      });
    }

  between_kept : (steps : List Step) (p q : Point) → Keeps q.held held → StaysHanded q.handed handed → StopsBetween v traces steps p q → StopsBetween v traces steps p (point_with q held handed)
  between_kept steps p q kept more s = record { first = s.first; rest = s.rest; split = s.split; did = does_kept s.first p q kept more s.did }

  -- what it came to
  pub Comes-flushed : {T : Type 0} (r : Result T Stop) (steps : List Step) (p q : Point) → Keeps q.held held → StaysHanded q.handed handed → Comes v traces r steps p q → Comes v traces r steps p (point_with q held handed)
  Comes-flushed (Ok value) steps p q kept more d = does_kept steps p q kept more d
  Comes-flushed (Err HistoryFull) steps p q kept more s = at_full steps s.first s.rest s.step s.split p s.between q s.did kept more s.stopped
  Comes-flushed (Err NoMemory) steps p q kept more (inl s) = inl (at_memory steps s.first s.rest s.step s.split p s.between q s.did kept more s.stopped.0 s.stopped.1)
  Comes-flushed (Err NoMemory) steps p q kept more (inr s) = inr (between_kept steps p q kept more s)
  Comes-flushed (Err DiskFault) steps p q kept more (inl s) = inl (at_disk steps s.first s.rest s.step s.split p s.between q s.did kept more s.stopped)
  Comes-flushed (Err DiskFault) steps p q kept more (inr s) = inr (between_kept steps p q kept more s)
  Comes-flushed (Err WriteFault) steps p q kept more s = at_fault steps s.first s.rest s.step s.split p s.between q s.did kept more s.stopped
