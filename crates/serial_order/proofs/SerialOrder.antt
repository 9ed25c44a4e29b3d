-- Requests that don't conflict are a serial run: what is left of the list still agrees with the first state on what it reads.
use Rattle.std.proofs.Common.{◌≡◌, ◌∙◌, Bool, true, false, true≢false, cond, List, [], ◌∷◌, map as over, refl, sym, ap}
use Rattle.std.specs.List.{AllByRecursion}
use Rattle.std.specs.FinMap as map
use Rattle.std.specs.FinSet as set
use Rattle.std.proofs.lemmas.Bool.{or_left}
use Rattle.sf_value.specs.Keys.{Key}
use Rattle.sf_value.specs.declared.Act.{Act}
use Rattle.sf_value.proofs.Maps.{key_total, key_exact}
use Rattle.program_meaning.specs.ClassTables.{Source}
use Rattle.program_meaning.specs.World.{State}
use Rattle.program_meaning.specs.RequestRun.{run}
use Rattle.program_meaning.specs.Serial.{serial_outcomes, serial_state}
use Rattle.serial_order.specs.Framed.{AgreesOn, IsAlike, IsFramed}
use Rattle.serial_order.specs.ConflictFree.{access_of, LeavesAlone, IsConflictFree, runs_on, record_after, IsSerialOrder, ConflictFreeIsSerial}
use Rattle.serial_order.proofs.FramedRuns.{runs_framed}

module _ (src : Source) (s : State) where
  abbrev framed : IsFramed (run src)
  framed = runs_framed src

  -- each of the requests reads the same of another state
  abbrev AllAgree : State → List Act → Type 0
  AllAgree t asked = AllByRecursion (λ a. AgreesOn (run src s a).reads s t) asked

  -- the record of an entity after a run, by what the same request does from the first state
  record_then : (t : State) (a : Act) → AgreesOn (run src s a).reads s t → (q : Key) → map.get (run src t a).state q ≡ cond (set.contains (run src s a).writes q) (map.get (run src s a).state q) (map.get t q)
  record_then t a agree q = by (set.contains (run src s a).writes q) refl
    where
      alike : IsAlike (run src s a) (run src t a)
      alike = framed.depends s t a agree

      by : (b : Bool) → set.contains (run src s a).writes q ≡ b → map.get (run src t a).state q ≡ cond b (map.get (run src s a).state q) (map.get t q)
      by true h = sym (alike.records.at q h)
      by false h = framed.stays t a q (ap (λ written. set.contains written q) (sym alike.writes) ∙ h)

  -- a run changes nothing that one left alone by it reads
  still_agrees : (t : State) (a b : Act) → AgreesOn (run src s a).reads s t → LeavesAlone (access_of (run src s a)) (access_of (run src s b)) → AgreesOn (run src s b).reads s t → AgreesOn (run src s b).reads s (run src t a).state
  still_agrees t a b agree apart before = record { at = λ q read. before.at q read ∙ sym (record_then t a agree q ∙ by q read (set.contains (run src s a).writes q) refl) }
    where
      by : (q : Key) → set.contains (run src s b).reads q ≡ true → (c : Bool) → set.contains (run src s a).writes q ≡ c → cond c (map.get (run src s a).state q) (map.get t q) ≡ map.get t q
      by q read true h = absurd (true≢false (sym (or_left (set.contains (run src s b).reads q) (set.contains (run src s b).writes q) read) ∙ apart.at q h))
      by q read false h = refl

  all_still_agree : (t : State) (a : Act) (later : List Act) → AgreesOn (run src s a).reads s t → AllByRecursion (LeavesAlone (access_of (run src s a))) (over access_of (runs_on src s later)) → AllAgree t later
      → AllAgree (run src t a).state later
  all_still_agree t a [] agree apart before = tt
  all_still_agree t a (b ∷ later) agree apart before = (still_agrees t a b agree apart.0 before.0, all_still_agree t a later agree apart.1 before.1)

  outcomes_from : (asked : List Act) (t : State) → IsConflictFree (over access_of (runs_on src s asked)) → AllAgree t asked → serial_outcomes src t asked ≡ over (λ ran. ran.outcome) (runs_on src s asked)
  unfolding serial_outcomes IsConflictFree
  outcomes_from [] t free agree = refl
  outcomes_from (a ∷ later) t free agree = λ i.
      sym (framed.depends s t a agree.0).outcome i
      ∷ outcomes_from later (run src t a).state free.1 (all_still_agree t a later agree.0 free.0 agree.1) i

  records_from : (asked : List Act) (t : State) → IsConflictFree (over access_of (runs_on src s asked)) → AllAgree t asked
      → (q : Key) → map.get (serial_state src t asked) q ≡ record_after (map.get t q) q (runs_on src s asked)
  unfolding serial_state IsConflictFree record_after
  records_from [] t free agree q = refl
  records_from (a ∷ later) t free agree q =
      records_from later (run src t a).state free.1 (all_still_agree t a later agree.0 free.0 agree.1) q
      ∙ ap (λ before. record_after before q (runs_on src s later)) (record_then t a agree.0 q)

  agree_itself : (asked : List Act) → AllAgree s asked
  agree_itself [] = tt
  agree_itself (a ∷ later) = (record { at = λ q read. refl }, agree_itself later)

pub conflict_free_serial : ConflictFreeIsSerial
conflict_free_serial src s asked free = record {
  outcomes = outcomes_from src s asked s free (agree_itself src s asked);
  records = records_from src s asked s free (agree_itself src s asked);
}

-- a state that has these records is the one after the serial run
pub state_by_records : (src : Source) (s t : State) (asked : List Act) → IsSerialOrder src s asked → ((q : Key) → map.get t q ≡ record_after (map.get s q) q (runs_on src s asked)) → serial_state src s asked ≡ t
state_by_records src s t asked serial is = map.same_map key_total key_exact (serial_state src s asked) t (λ q. serial.records q ∙ sym (is q))
