-- What a log says it says alone: at a place there is one record, or a closed gate, or the log is bad there.
use Rattle.std.proofs.Common.{◌≡◌, inl, inr, ℕ, ◌+◌, List, [], ◌∷◌, ◌++◌, length, get_or, drop, refl, sym, ap, ◌∙◌, subst, arith, take-append-drop}
use Rattle.sf_bytes.specs.ByteForms.{number_bytes, batch_bytes}
use Rattle.sf_bytes.specs.Gates.{open_gate, StandsAt, ClosedAt, OpenAt}
use Rattle.sf_bytes.specs.Reading.{batch_at}
use Rattle.sf_bytes.specs.Reads.{NoneBeginsAnother}
use Rattle.sf_bytes.specs.Spelt.{IsReadBatch}
use Rattle.sf_bytes.proofs.Fronts.{stands_apart}
use Rattle.sf_bytes.proofs.RecordLaws.{batch_spells}
use Rattle.sf_bytes.proofs.Stands.{Stands-front, Stands-behind, Closed-length}
use Rattle.sf_value.specs.declared.BatchRecord.{BatchRecord}
use Rattle.request_log.specs.LogFile.{gate_behind, RecordAt, IsBadAt}
use Rattle.request_log.proofs.Logs.{number-length, Record-length}
use Rattle.recovery.specs.declared.opened.Placed.{Placed}
use Rattle.recovery.specs.StoreImage.{RecordsTo, EndsAt, BreaksAt}

-- ---- one place

-- a record's spelling stands behind its length
record_body : (file : List ℕ) (at : ℕ) (batch : BatchRecord) (next : ℕ) (there : RecordAt file at batch next) → StandsAt file (at + 5) there.body
record_body file at batch next there =
    let front = open_gate ∷ number_bytes (length there.body) in
    let place : at + length front ≡ at + 5 = omega (arith, number-length (length there.body)) in
    subst (λ p. StandsAt file p there.body) place (Stands-behind file at front there.body there.stands)

-- and begins what is there
whole : (file : List ℕ) (at : ℕ) (batch : BatchRecord) (next : ℕ) (there : RecordAt file at batch next) → batch_bytes batch ++ drop (length there.body) (drop (at + 5) file) ≡ drop (at + 5) file
whole file at batch next there =
    let rest = drop (at + 5) file in
    let n = length there.body in
    ap (λ bytes. bytes ++ drop n rest) (there.spells.1 ∙ sym (record_body file at batch next there)) ∙ take-append-drop n rest

pub one_record : (file : List ℕ) (at : ℕ) (a b : BatchRecord) (m n : ℕ) → RecordAt file at a m → RecordAt file at b n → (a ≡ b) × (m ≡ n)
one_record file at a b m n first second =
    let rest = drop (at + 5) file in
    let apart : NoneBeginsAnother batch_bytes IsReadBatch = stands_apart batch_at batch_bytes IsReadBatch batch_spells in
    let same : a ≡ b = apart a b (drop (length first.body) rest) (drop (length second.body) rest) first.spells.0 second.spells.0 (whole file at a m first ∙ sym (whole file at b n second)) in
    let bodies : first.body ≡ second.body = sym first.spells.1 ∙ ap batch_bytes same ∙ second.spells.1 in
    (same, first.ends ∙ ap (λ body. gate_behind at (length body)) bodies ∙ sym second.ends)

record_open : (file : List ℕ) (at : ℕ) (batch : BatchRecord) (next : ℕ) → RecordAt file at batch next → OpenAt file at
record_open file at batch next there = Stands-front file at (open_gate ∷ []) (number_bytes (length there.body) ++ there.body) there.stands

not_closed : (file : List ℕ) (at : ℕ) → OpenAt file at → ClosedAt file at → ⊥
not_closed file at is_open closed = closed.1 (ap (λ bytes. get_or bytes 0 0) (sym closed.2 ∙ is_open))

bad_not_closed : (file : List ℕ) (at : ℕ) → IsBadAt file at → ClosedAt file at → ⊥
bad_not_closed file at (inl past) closed = absurd (omega (arith, past, Closed-length file at closed))
bad_not_closed file at (inr bad) closed = not_closed file at bad.0 closed

-- ---- where the records end

abbrev pub NoRecord : List ℕ → ℕ → Type 0
NoRecord file at = (batch : BatchRecord) (next : ℕ) → RecordAt file at batch next → ⊥

none_closed : (file : List ℕ) (at : ℕ) → ClosedAt file at → NoRecord file at
none_closed file at closed batch next there = not_closed file at (record_open file at batch next there) closed

none_bad : (file : List ℕ) (at : ℕ) → IsBadAt file at → NoRecord file at
none_bad file at (inl past) batch next there = absurd (omega (arith, past, there.ends, Record-length file at batch next there))
none_bad file at (inr bad) batch next there = bad.1 batch next there

one_end : (file : List ℕ) (at : ℕ) (xs ys : List Placed) (m n : ℕ) → RecordsTo file at xs m → RecordsTo file at ys n → NoRecord file m → NoRecord file n → (xs ≡ ys) × (m ≡ n)
one_end file at [] [] m n a b ends_a ends_b = (refl, sym a ∙ b)
one_end file at [] (y ∷ ys) m n a b ends_a ends_b = absurd (ends_a y.batch b.0 (subst (λ place. RecordAt file place y.batch b.0) a b.2))
one_end file at (x ∷ xs) [] m n a b ends_a ends_b = absurd (ends_b x.batch a.0 (subst (λ place. RecordAt file place x.batch a.0) b a.2))
one_end file at (x ∷ xs) (y ∷ ys) m n a b ends_a ends_b =
    let same = one_record file at x.batch y.batch a.0 b.0 a.2 b.2 in
    let there : RecordsTo file a.0 ys n = subst (λ next. RecordsTo file next ys n) (sym same.1) b.3 in
    let rest = one_end file a.0 xs ys m n a.3 there ends_a ends_b in
    let place : x.at ≡ y.at = a.1 ∙ sym b.1 in
    ((λ i. record { at = place i; batch = same.0 i } ∷ rest.0 i), rest.1)

-- ---- whole logs

pub one_log : (file : List ℕ) (xs ys : List Placed) (m n : ℕ) → EndsAt file xs m → EndsAt file ys n → (xs ≡ ys) × (m ≡ n)
one_log file xs ys m n a b = one_end file 0 xs ys m n a.records b.records (none_closed file m a.closed) (none_closed file n b.closed)

pub one_break : (file : List ℕ) (m n : ℕ) → BreaksAt file m → BreaksAt file n → m ≡ n
one_break file m n a b = (one_end file 0 a.0 b.0 m n a.1 b.1 (none_bad file m a.2) (none_bad file n b.2)).1

pub log_not_broken : (file : List ℕ) (batches : List Placed) (m n : ℕ) → EndsAt file batches m → BreaksAt file n → ⊥
log_not_broken file batches m n log breaks =
    let same : m ≡ n = (one_end file 0 batches breaks.0 m n log.records breaks.1 (none_closed file m log.closed) (none_bad file n breaks.2)).1 in
    bad_not_closed file n breaks.2 (subst (ClosedAt file) same log.closed)
