-- A log as it is read, record by record.
use Rattle.std.proofs.Common.{◌≡◌, ℕ, List, [], ◌∷◌, ◌++◌, length, refl, sym, ap, ◌∙◌, subst, IfSome, Err}
use Rattle.std.specs.declared.option.Option.{Option}
use Rattle.sf_bytes.proofs.Lists.{all_push}
use Rattle.sf_bytes.specs.Gates.{ClosedAt}
use Rattle.sf_outside.specs.DiskModel.{Image, of_file}
use Rattle.sf_outside.specs.declared.store_disk.StoreFile.{StoreFile}
use Rattle.sf_outside.proofs.ImageSteps.{if_one, if_both}
use Rattle.sf_value.specs.declared.BatchRecord.{BatchRecord}
use Rattle.request_log.specs.Answers as of_record
use Rattle.request_log.specs.declared.fault.LogFault.{LogFault}
use Rattle.request_log.specs.declared.fault.LogFault.TheVariants.{Failed, Bad, NoMemory}
use Rattle.request_log.specs.LogFile.{gate_behind, IsBatch, RecordAt, LogFrom, IsBadAt}
use Rattle.recovery.specs.declared.opened.Placed.{Placed}
use Rattle.recovery.specs.Answers.{AreLogged, AnswersLog}
use Rattle.recovery.specs.StoreImage.{batches_of, ArePlaced, RecordsTo, EndsAt, BreaksAt}

-- ---- records

-- one record more
pub records_more : (file : List ℕ) (at : ℕ) (batches : List Placed) (middle : ℕ) (placed : Placed) (next : ℕ) → RecordsTo file at batches middle → placed.at ≡ middle → RecordAt file middle placed.batch next
    → RecordsTo file at (batches ++ placed ∷ []) next
records_more file at [] middle placed next so_far here there = (next, here ∙ sym so_far, subst (λ place. RecordAt file place placed.batch next) (sym so_far) there, refl)
records_more file at (first ∷ batches) middle placed next so_far here there = (so_far.0, so_far.1, so_far.2, records_more file so_far.0 batches middle placed next so_far.3 here there)

-- without their places they are a log
pub plain_log : (file : List ℕ) (at : ℕ) (batches : List Placed) (end : ℕ) → RecordsTo file at batches end → ClosedAt file end → LogFrom file at (batches_of batches) end
plain_log file at [] end records closed = (records, subst (ClosedAt file) (sym records) closed)
plain_log file at (placed ∷ batches) end records closed = (records.0, records.2, plain_log file records.0 batches end records.3 closed)

-- and a log has places
pub record PlacedLog (file : List ℕ) (at : ℕ) (batches : List BatchRecord) (end : ℕ) : Type 0 where
  pub placed : List Placed
  pub same : batches_of placed ≡ batches
  pub records : RecordsTo file at placed end
  pub closed : ClosedAt file end

pub placed_log : (file : List ℕ) (at : ℕ) (batches : List BatchRecord) (end : ℕ) → LogFrom file at batches end → PlacedLog file at batches end
placed_log file at [] end log = record { placed = []; same = refl; records = log.0; closed = subst (ClosedAt file) log.0 log.1 }
placed_log file at (batch ∷ batches) end log =
    let rest = placed_log file log.0 batches end log.2 in
    record {
      placed = record { at = at; batch = batch } ∷ rest.placed;
      same = ap (λ others. batch ∷ others) rest.same;
      records = (log.0, refl, log.1, rest.records);
      closed = rest.closed;
    }

-- ---- what is told of them where the disk tells nothing

-- one batch more with its place
placed_more : (at : ℕ) (batches : List Placed) (middle : ℕ) (placed : Placed) (body : List ℕ) → ArePlaced at batches middle → placed.at ≡ middle → IsBatch body placed.batch
    → ArePlaced at (batches ++ placed ∷ []) (gate_behind middle (length body))
placed_more at [] middle placed body so_far here is = (body, here ∙ sym so_far, is, ap (λ place. gate_behind place (length body)) so_far)
placed_more at (first ∷ batches) middle placed body so_far here is = (so_far.0, so_far.1, so_far.2, placed_more (gate_behind at (length so_far.0)) batches middle placed body so_far.3 here is)

-- a batch, a spelling of it, and where the gate behind that is
abbrev pub Spelt : ℕ → BatchRecord → ℕ → Type 0
Spelt at batch next = (body : List ℕ) × IsBatch body batch × (next ≡ gate_behind at (length body))

pub logged_next : (batches : List Placed) (at : ℕ) (batch : BatchRecord) (next : ℕ) (after : List Placed) → after ≡ batches ++ record { at = at; batch = batch } ∷ [] → Spelt at batch next → AreLogged batches at → AreLogged after next
logged_next batches at batch next after more is logged =
    let placed : Placed = record { at = at; batch = batch } in
    let so_far : AreLogged (batches ++ placed ∷ []) (gate_behind at (length is.0)) = record {
      read = all_push _ batches placed logged.read is.1.0;
      places = placed_more 0 batches at placed is.0 logged.places refl is.1;
    } in
    let there : AreLogged after (gate_behind at (length is.0)) = subst (λ bs. AreLogged bs (gate_behind at (length is.0))) (sym more) so_far in
    subst (AreLogged after) (sym is.2) there

-- ---- what a read gives of them

module _ (file : StoreFile) (first now : Option Image) (same : now ≡ first) (batches : List Placed) (at : ℕ) (so_far : IfSome first (λ image. RecordsTo (of_file file image) 0 batches at)) where
  abbrev Read : Image → Type 0
  Read image = RecordsTo (of_file file image) 0 batches at

  pub seen_next : (batch : BatchRecord) (next : ℕ) (after : List Placed) → after ≡ batches ++ record { at = at; batch = batch } ∷ [] → IfSome now (λ image. RecordAt (of_file file image) at batch next)
      → IfSome first (λ image. RecordsTo (of_file file image) 0 after next)
  seen_next batch next after more there =
      let placed : Placed = record { at = at; batch = batch } in
      if_both first Read (λ image. RecordAt (of_file file image) at batch next) (λ image. RecordsTo (of_file file image) 0 after next)
      (λ image records here. subst (λ bs. RecordsTo (of_file file image) 0 bs next) (sym more) (records_more (of_file file image) 0 batches at placed next records refl here))
      so_far (subst (λ seen. IfSome seen (λ image. RecordAt (of_file file image) at batch next)) same there)

  pub seen_end : IfSome now (λ image. ClosedAt (of_file file image) at) → IfSome first (λ image. EndsAt (of_file file image) batches at)
  seen_end closed =
      if_both first Read (λ image. ClosedAt (of_file file image) at) (λ image. EndsAt (of_file file image) batches at)
      (λ image records here. record { records = records; closed = here })
      so_far (subst (λ seen. IfSome seen (λ image. ClosedAt (of_file file image) at)) same closed)

  seen_break : IfSome now (λ image. IsBadAt (of_file file image) at) → IfSome first (λ image. BreaksAt (of_file file image) at)
  seen_break bad =
      if_both first Read (λ image. IsBadAt (of_file file image) at) (λ image. BreaksAt (of_file file image) at)
      (λ image records here. (batches, records, here))
      so_far (subst (λ seen. IfSome seen (λ image. IsBadAt (of_file file image) at)) same bad)

  -- where no record is read the log goes bad
  pub seen_fault : (fault : LogFault) → IfSome now (λ image. of_record.Answers (of_file file image) at (Err fault)) → of_record.IsPlaced at (Err fault) → IfSome first (λ image. AnswersLog (of_file file image) (Err fault))
  seen_fault (Bad place) bad is = subst (λ p. IfSome first (λ image. BreaksAt (of_file file image) p)) (sym is) (seen_break bad)
  seen_fault Failed none is = if_one first Read (λ image. Unit {0}) (λ image records. tt) so_far
  seen_fault NoMemory none is = if_one first Read (λ image. Unit {0}) (λ image records. tt) so_far
