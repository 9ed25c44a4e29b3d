-- What a session on generated work came to, from what a session in batches promises.
use Rattle.std.proofs.Common.{◌≡◌, ℕ, arith, ◌≤◌, inl, inr, false, true≢false, Option, None, Some, Ok, Err, List, [], ◌∷◌, ◌++◌, length, refl, sym, ap, ◌∙◌, subst}
use Rattle.std.proofs.Common.{append_assoc, append-nil}
use Rattle.std.specs.declared.result.Result.{Result}
use Rattle.std.specs.Io.KnownBytes.{Consumes, IsAtEnd}
use Rattle.std.proofs.lemmas.Bool.{ltb-true}
use Rattle.std.proofs.lemmas.List.{length-append, map-append}
use Rattle.std.proofs.lemmas.Option.{none-some}
use Rattle.request_json.specs.Actions.{Line, whole_from, rest_from, last_line, whole_lines, all_lines}
use Rattle.input_lines.proofs.CutLaws.{whole-append}
use Rattle.operator_graph.specs.Turns.{Outside}
use Rattle.sf_outside.specs.DiskModel.{DiskFacts}
use Rattle.engine.specs.Cores.{Core, empty_core, IsSoundCore}
use Rattle.batch_output.specs.BatchOutput.{Standing, begun}
use Rattle.batch_output.specs.SerialBatches.{IsLawfulRule}
use Rattle.batch_session.specs.Vocabulary.{Tally, Step, answers, endings, whole_steps, all_steps, standing_after, ran_on, move_of, Point, going, Does, Comes, RunBatches, BeginBatches, StopsWithin, StepsPrint, ComesBegin, Service, program_of, BatchCounts, Stop, StoreSettings}
use Rattle.batch_session.specs.StopVariants as line
use Rattle.batch_session.proofs.Vocabulary.{ran-append}
use Rattle.batch_session.specs.declared.serving.SessionFault.{SessionFault}
use Rattle.batch_session.specs.declared.serving.SessionFault.TheVariants as session
use Rattle.batch_session.specs.Faults.{disk_failed}
use Rattle.batch_session.specs.Served.{View, first_point, point_at, AreWhole, AreAll, Served}
use Rattle.batch_session.proofs.ServeLaws.{EndedAt, ended_at}
use Rattle.generated_run.specs.Generated.{IsNoFault, tally_of, ServesAll, ServesSome, Serves}
use Rattle.generated_run.proofs.WorkLaws.{line_ends}
use Rattle.generated_run.proofs.LineCounts.{few_lines, few_whole_lines}
use Rattle.generated_run.proofs.Places.{places_of, lines_in, lines_in-append, lines_in-answers, lines_in-endings, behind_all, next_move}

-- Known bytes

taken_of : (a b : Option (List ℕ)) (taken input rest : List ℕ) → a ≡ Some input → b ≡ Some rest → Consumes a b taken → input ≡ taken ++ rest
taken_of None b taken input rest p q c = absurd (none-some input p)
taken_of (Some x) None taken input rest p q c = absurd c
taken_of (Some x) (Some y) taken input rest p q c =
    let first : x ≡ input = cc in
    let second : y ≡ rest = cc in
    sym first ∙ c ∙ ap (λ l. taken ++ l) second

at_end : (b : Option (List ℕ)) (rest : List ℕ) → b ≡ Some rest → IsAtEnd b → rest ≡ []
at_end None rest p end = absurd (none-some rest p)
at_end (Some y) rest p end = let same : y ≡ rest = cc in sym same ∙ end

-- the steps of the whole lines of the first bytes are the first steps of all

module _ (v : Service) (core : Core) (taken rest : List ℕ) where
  abbrev later_lines : List Line
  later_lines = whole_from (rest_from [] taken) rest ++ last_line (rest_from [] (taken ++ rest))

  abbrev later_steps : List Step
  later_steps = answers later_lines ++ endings (standing_after v (begun core) (answers (all_lines (taken ++ rest))))

  lines_split : all_lines (taken ++ rest) ≡ whole_lines taken ++ later_lines
  lines_split =
      ap (λ l. l ++ last_line (rest_from [] (taken ++ rest))) (whole-append taken rest [])
      ∙ append_assoc (whole_lines taken) (whole_from (rest_from [] taken) rest) (last_line (rest_from [] (taken ++ rest)))

  steps_split : all_steps v core (taken ++ rest) ≡ whole_steps taken ++ later_steps
  steps_split =
      ap (λ l. answers l ++ endings (standing_after v (begun core) (answers (all_lines (taken ++ rest))))) lines_split
      ∙ ap (λ l. l ++ endings (standing_after v (begun core) (answers (all_lines (taken ++ rest))))) (map-append _ (whole_lines taken) later_lines)
      ∙ append_assoc (whole_steps taken) (answers later_lines) (endings (standing_after v (begun core) (answers (all_lines (taken ++ rest)))))

-- what was begun of some cores was begun of more

begun_more : (v : Service) (cores more : List Core) (counts : List BatchCounts) (old new : Outside) → BeginBatches v cores counts old new
    → BeginBatches v (cores ++ more) counts old new
begun_more v [] [] counts old new b = b
begun_more v [] (core ∷ more) [] old new b = inl b
begun_more v [] (core ∷ more) (c ∷ counts) old new b = absurd b
begun_more v (core ∷ cores) more [] old new b = b
begun_more v (core ∷ cores) more (c ∷ counts) old new b = (b.0, b.1, begun_more v cores more counts b.0 new b.2)

module _ (v : Service) (input : List ℕ) (old new : View) (rest : List ℕ) (empty : old.core ≡ empty_core) (given : old.left ≡ Some input)
    (left : new.left ≡ Some rest) where
  -- the whole input was served

  whole_taken : (taken : List ℕ) → Consumes old.left new.left taken → IsAtEnd new.left → taken ≡ input
  whole_taken taken consumed ended =
      sym (taken_of old.left new.left taken input rest given left consumed ∙ ap (λ l. taken ++ l) (at_end new.left rest left ended) ∙ append-nil taken)

  module _ (settings : Option StoreSettings) (first last : Core) (f g : DiskFacts) where
    abbrev ServedBy : Result Tally SessionFault → Type 0
    ServedBy r = Served v false settings (length input) r old new first last f g

    -- what is known of it by what it came to
    abbrev So : (r : Result Tally SessionFault) → ServedBy r → Result (Unit {0}) SessionFault → Type 0
    So r s e = EndedAt v false settings (length input) r old new first last f g s e

    so : (r : Result Tally SessionFault) (s : ServedBy r) (e : Result (Unit {0}) SessionFault) → s.ended ≡ e → So r s e
    so r s e same = ended_at v false settings (length input) r old new first last f g s e same

    serves_all : StepsPrint → (tally : Tally) → ServedBy (Ok tally) → IsSoundCore (program_of v) new.core → Serves v input (Ok tally) new.core old.outside new.outside
    serves_all prints tally s sound =
        let known = so (Ok tally) s (Ok (tt {0})) s.ends in
        let all : s.taken ≡ input = whole_taken s.taken s.consumed known.of_taken.1 in
        let q : Point = point_at new s.lines s.tally in
        let did : Does v false (all_steps v old.core s.taken) (first_point old) q =
        subst (λ (steps : List Step). Does v false steps (first_point old) q) known.of_taken.2
        (subst (λ (r : Result (Unit {0}) Stop). Comes v false r s.steps (first_point old) q) known.is_stop s.came) in
        let end : Standing = record { core = new.core; lines = s.lines; is_full = false } in
        let Stands : Core → List ℕ → Type 0 = λ core bytes. standing_after v (begun core) (all_steps v core bytes) ≡ end in
        let Ran : Core → List ℕ → Type 0 = λ core bytes. RunBatches v (ran_on v (begun core) (all_steps v core bytes)) did.counts old.outside new.outside in
        let stands : Stands empty_core input = subst (λ core. Stands core input) empty (subst (λ bytes. Stands old.core bytes) all did.stands) in
        let served : ServesAll v input new.core old.outside new.outside = record {
          lines = s.lines;
          stands = sym ((prints v).1 empty_core input).stands ∙ stands;
          none = known.none_waits;
          sound = sound;
          counts = did.counts;
          ran = subst (λ core. Ran core input) empty (subst (λ bytes. Ran old.core bytes) all did.ran);
        } in
        (served, sym s.counted ∙ did.tally)

    -- a part of it was served

    abbrev Begins : Core → List ℕ → Type 0
    Begins core bytes = (counts : List BatchCounts) × BeginBatches v (ran_on v (begun core) (all_steps v core bytes)) counts old.outside new.outside

    module _ (law : ComesBegin) (s : ServedBy (Err session.NoMemory)) where
      known : So (Err session.NoMemory) s (Err session.NoMemory)
      known = so (Err session.NoMemory) s (Err session.NoMemory) s.ends

      begun_of : (counts : List BatchCounts) × BeginBatches v (ran_on v (begun old.core) s.steps) counts old.outside new.outside
      begun_of =
          let q : Point = point_at new s.lines s.tally in
          let h = law v false (Err line.NoMemory) s.steps (first_point old) q (subst (λ (r : Result (Unit {0}) Stop). Comes v false r s.steps (first_point old) q) known.is_stop s.came) in
          (h.counts, h.told)

      begins_all : AreAll v (length input) old.core s.taken new.left s.steps → Begins old.core input
      begins_all a =
          subst (λ bytes. Begins old.core bytes) (whole_taken s.taken s.consumed a.1)
          (begun_of.0, subst (λ steps. BeginBatches v (ran_on v (begun old.core) steps) begun_of.0 old.outside new.outside) a.2 begun_of.1)

      begins_whole : AreWhole v (length input) s.taken s.steps → Begins old.core input
      begins_whole w =
          let later : List Step = later_steps v old.core s.taken rest in
          let front : List Core = ran_on v (begun old.core) (whole_steps s.taken) in
          let next : List Core = ran_on v (standing_after v (begun old.core) (whole_steps s.taken)) later in
          let cores : ran_on v (begun old.core) (all_steps v old.core (s.taken ++ rest)) ≡ front ++ next =
          ap (ran_on v (begun old.core)) (steps_split v old.core s.taken rest) ∙ ran-append v (whole_steps s.taken) later (begun old.core) in
          let more = begun_more v front next begun_of.0 old.outside new.outside
          (subst (λ steps. BeginBatches v (ran_on v (begun old.core) steps) begun_of.0 old.outside new.outside) w.1 begun_of.1) in
          subst (λ bytes. Begins old.core bytes) (sym (taken_of old.left new.left s.taken input rest given left s.consumed))
          (begun_of.0, subst (λ l. BeginBatches v l begun_of.0 old.outside new.outside) (sym cores) more)

      serves_some : ServesSome v input old.outside new.outside
      serves_some =
          let begins : Begins old.core input = elim known.of_taken as (λ x. Begins old.core input) [ inl w ↦ begins_whole w | inr a ↦ begins_all a ] in
          let from_empty : Begins empty_core input = subst (λ core. Begins core input) empty begins in
          record { counts = from_empty.0; begun_on = from_empty.1 }

    -- either, by what it came to

    serves : StepsPrint → ComesBegin → (r : Result Tally SessionFault) → ServedBy r → IsNoFault r → IsSoundCore (program_of v) new.core
        → Serves v input (tally_of r) new.core old.outside new.outside
    serves prints begins (Ok tally) s none sound = serves_all prints tally s sound
    serves prints begins (Err session.ReadFault) s none sound = absurd none
    serves prints begins (Err session.WriteFault) s none sound = absurd none
    serves prints begins (Err session.DiskFault) s none sound = absurd none
    serves prints begins (Err session.InputTooLong) s none sound = absurd none
    serves prints begins (Err session.HistoryFull) s none sound = absurd none
    serves prints begins (Err session.NoMemory) s none sound = serves_some begins s

    -- no input is too long for its own length

    never_over : ServedBy (Err session.InputTooLong) → ⊥
    never_over s =
        let all = taken_of old.left new.left s.taken input rest given left s.consumed in
        omega (arith, ap length all, length-append s.taken rest, (so (Err session.InputTooLong) s (Err session.InputTooLong) s.ends).of_taken.0)

    -- the history never is full

    module _ (lawful : IsLawfulRule v.rule) (room : v.limits.history ≡ 16777216) (few : line_ends input ≤ 100000) where
      never_within : (steps : List Step) (p q : Point) → p.core ≡ empty_core → lines_in steps ≤ 100001 → StopsWithin v false line.HistoryFull steps p q → ⊥
      never_within steps p q none some s =
          let split = ap lines_in s.split ∙ lines_in-append s.first (s.step ∷ s.rest) in
          let split_rest = lines_in-append (s.step ∷ []) s.rest in
          let nothing : places_of p.core ≡ 0 = ap places_of none in
          let behind = behind_all v lawful s.first (going p) (omega arith) in
          let stands : places_of (standing_after v (going p) s.first).core ≡ places_of s.between.core = ap (λ (x : Standing). places_of x.core) s.did.stands in
          let next = next_move v lawful s.step (going s.between) in
          let full = ltb-true v.limits.history (places_of (move_of v (going s.between) s.step).core) s.stopped.0.full in
          omega arith

      few_of_whole : (taken : List ℕ) → Consumes old.left new.left taken → lines_in (whole_steps taken) ≤ 100001
      few_of_whole taken consumed =
          omega (
            arith,
            lines_in-answers (whole_lines taken),
            few_whole_lines taken rest,
            ap line_ends (taken_of old.left new.left taken input rest given left consumed),
          )

      few_of_all : (taken : List ℕ) → Consumes old.left new.left taken → IsAtEnd new.left → lines_in (all_steps v old.core taken) ≤ 100001
      few_of_all taken consumed ended =
          let lines : List Line = all_lines taken in
          omega (
            arith,
            lines_in-append (answers lines) (endings (standing_after v (begun old.core) (answers lines))),
            lines_in-answers lines,
            lines_in-endings (length (standing_after v (begun old.core) (answers lines)).core.pending),
            few_lines taken,
            ap line_ends (whole_taken taken consumed ended),
          )

      never_full : ServedBy (Err session.HistoryFull) → ⊥
      never_full s =
          let q : Point = point_at new s.lines s.tally in
          let known = so (Err session.HistoryFull) s (Err session.HistoryFull) s.ends in
          let few_steps : lines_in s.steps ≤ 100001 = elim known.of_taken as (λ x. lines_in s.steps ≤ 100001) [
            | inl w ↦ subst (λ steps. lines_in steps ≤ 100001) (sym w.1) (few_of_whole s.taken s.consumed)
            | inr a ↦ subst (λ steps. lines_in steps ≤ 100001) (sym a.2) (few_of_all s.taken s.consumed a.1)
          ] in
          never_within s.steps (first_point old) q empty few_steps (subst (λ (r : Result (Unit {0}) Stop). Comes v false r s.steps (first_point old) q) known.is_stop s.came)

      -- so nothing but want of memory stops it

      pub no_fault : (r : Result Tally SessionFault) → ServedBy r → (r ≡ Err session.ReadFault → ⊥) → (r ≡ Err session.WriteFault → ⊥) → disk_failed r ≡ false
          → IsNoFault r
      no_fault (Ok tally) s unread unwritten undisked = tt
      no_fault (Err session.ReadFault) s unread unwritten undisked = unread refl
      no_fault (Err session.WriteFault) s unread unwritten undisked = unwritten refl
      no_fault (Err session.DiskFault) s unread unwritten undisked = true≢false undisked
      no_fault (Err session.InputTooLong) s unread unwritten undisked = never_over s
      no_fault (Err session.HistoryFull) s unread unwritten undisked = never_full s
      no_fault (Err session.NoMemory) s unread unwritten undisked = tt

      pub serves_work : StepsPrint → ComesBegin → (r : Result Tally SessionFault) → ServedBy r → (r ≡ Err session.ReadFault → ⊥)
          → (r ≡ Err session.WriteFault → ⊥) → disk_failed r ≡ false → IsSoundCore (program_of v) new.core
          → Serves v input (tally_of r) new.core old.outside new.outside
      serves_work prints begins r s unread unwritten undisked sound = serves prints begins r s (no_fault r s unread unwritten undisked) sound
