use Rattle.std.proofs.Common.{◌≡◌, ◌∙◌, ◌++◌, true, ap, sym, subst, length, arith}
use Rattle.std.proofs.lemmas.List.{length-map}
use Rattle.program_meaning.specs.Serial.{acts_of, outcomes_of, serial_outcomes, ids_differ}
use Rattle.engine.specs.Batches.{requests_at, other_places, entry_on}
use Rattle.engine.specs.Copying.{entries_at}
use Rattle.engine.specs.EngineViews.{core_of, source_of, tables_of}
use Rattle.engine.proofs.PlaceLaws.{count_once}
use Rattle.engine.proofs.MadeLaws.{made_entries, serial_entries, serial_writes, batch_ids}
use Rattle.engine.proofs.engine.Engine.planned.Goals as goal

pub replies_to-requires : goal.replies_to-requires
replies_to-requires c =
    let made = c.in_ok-entries.ensures ∙ (λ i. entries_at c.args.self.now.pending (c.requires.ran.outcomes i) (c.as_slice.ensures i)) ∙ made_entries (source_of c.args.self.now) (core_of c.args.self.now).state c.args.self.now.pending c.args.ran.committed in
    let entries = ap length c.as_slice-2.ensures ∙ ap length made ∙ length-map (requests_at c.args.self.now.pending c.args.ran.committed) (entry_on (source_of c.args.self.now) (core_of c.args.self.now).state) in
    let count = count_once c.args.self.now.pending c.args.ran.committed (other_places (length c.args.self.now.pending) c.args.ran.committed) c.requires.ran.once in
    let before = c.len.ensures in
    let places = c.requires.places in
    omega arith

pub returns-clause-serial : goal.returns-clause-serial
returns-clause-serial c =
    let made = c.in_ok-entries.ensures ∙ (λ i. entries_at c.args.self.now.pending (c.requires.ran.outcomes i) (c.as_slice.ensures i)) ∙ made_entries (source_of c.args.self.now) (core_of c.args.self.now).state c.args.self.now.pending c.args.ran.committed in
    record {
      outcomes =
          subst (λ es. outcomes_of es ≡ serial_outcomes (source_of c.args.self.now) (core_of c.args.self.now).state (acts_of es)) (sym made)
          (serial_entries (source_of c.args.self.now) (core_of c.args.self.now).state c.args.self.now.pending c.args.ran.works c.args.ran.committed c.requires.ran.serial);
      ids =
          subst (λ es. ids_differ ((core_of c.args.self.now).history ++ es) ≡ true) (sym made)
          (batch_ids (source_of c.args.self.now) (core_of c.args.self.now) c.args.ran.committed (tables_of c.args.self.now) c.requires.ran.once c.requires.fits);
    }

pub returns-clause-made : goal.returns-clause-made
returns-clause-made c =
    let core = core_of c.args.self.now in
    let entries = c.in_ok-entries.ensures ∙ (λ i. entries_at core.pending (c.requires.ran.outcomes i) (c.as_slice.ensures i)) ∙ made_entries (source_of c.args.self.now) core.state core.pending c.args.ran.committed in
    let writes = serial_writes (source_of c.args.self.now) core.state core.pending c.args.ran.works c.args.ran.committed c.requires.ran.serial in
    let carried = c.in_ok-carried.ensures ∙ ap (requests_at core.pending) (c.as_slice-4.ensures ∙ c.requires.ran.carried) in
    record {
      once = c.requires.ran.once;
      entries = entries;
      there = c.requires.ran.places;
      behind = λ i. record { history = core.history ++ entries i; state = writes i; pending = carried i };
    }
