-- Records and logs in files that share a front.
use Rattle.std.proofs.Common.{◌≡◌, ℕ, ◌+◌, ◌≤◌, ◌<◌, ◌^◌, List, [], ◌∷◌, ◌++◌, length, take, refl, sym, subst, arith, append-nil, length-append}
use Rattle.sf_bytes.specs.ByteForms.{number_bytes}
use Rattle.sf_bytes.specs.Gates.{open_gate, StandsAt, ClosedAt}
use Rattle.sf_bytes.proofs.Stands.{Stands-length, Stands-same, Stands-front, Stands-behind}
use Rattle.sf_value.specs.declared.BatchRecord.{BatchRecord}
use Rattle.request_log.specs.LogFile.{gate_behind, RecordAt, IsBatch, LogFrom}
use Rattle.request_log.specs.Appends.{record_bytes, StaysClosed, HasRecord}

pub number-length : (n : ℕ) → length (number_bytes n) ≡ 4
unfolding number_bytes
number-length n = refl

-- an open gate, the length and the bytes
abbrev pub gated : List ℕ → List ℕ
gated body = open_gate ∷ number_bytes (length body) ++ body

pub gated-length : (body : List ℕ) → length (gated body) ≡ 5 + length body
gated-length body = omega (arith, number-length (length body), length-append (number_bytes (length body)) body)

-- a record ends within the file
pub Record-length : (file : List ℕ) (at : ℕ) (batch : BatchRecord) (next : ℕ) → RecordAt file at batch next → next ≤ length file
Record-length file at batch next there =
    let long = gated-length there.body in
    omega (arith, there.ends, long, Stands-length file at (gated there.body) there.stands (omega (arith, long)))

-- a log doesn't end before its start
Log-end : (file : List ℕ) (at : ℕ) (batches : List BatchRecord) (end : ℕ) → LogFrom file at batches end → at ≤ end
Log-end file at [] end log = omega (arith, log.0)
Log-end file at (batch ∷ batches) end log = omega (arith, log.1.ends, Log-end file log.0 batches end log.2)

-- a record that ends within the shared front
Record-same : (a b : List ℕ) (end at : ℕ) (batch : BatchRecord) (next : ℕ) → take end b ≡ take end a → next ≤ end → RecordAt a at batch next → RecordAt b at batch next
Record-same a b end at batch next front within there = record {
  body = there.body;
  spells = there.spells;
  short = there.short;
  stands = Stands-same a b end at (gated there.body) front (omega (arith, within, there.ends, gated-length there.body)) there.stands;
  ends = there.ends;
}

-- a log goes on from where the shared front ends
pub Log-goes_on : (a b : List ℕ) (end : ℕ) → take end b ≡ take end a → (at : ℕ) (batches more : List BatchRecord) (last : ℕ) → LogFrom a at batches end → LogFrom b end more last → LogFrom b at (batches ++ more) last
Log-goes_on a b end front at [] more last log rest = subst (λ place. LogFrom b place more last) (sym log.0) rest
Log-goes_on a b end front at (batch ∷ batches) more last log rest = (
  log.0,
  Record-same a b end at batch log.0 front (Log-end a log.0 batches end log.2) log.1,
  Log-goes_on a b end front log.0 batches more last log.2 rest,
)

pub stays_closed : (at : ℕ) (before now : List ℕ) → take at now ≡ take at before → ClosedAt now at → StaysClosed at before now
stays_closed at before now front closed = record {
  front = front;
  closed = closed;
  log = λ batches log. subst (λ bs. LogFrom now 0 bs at) (append-nil batches) (Log-goes_on before now at front 0 batches [] at log (refl, closed));
}

-- a record's bytes are those up to the next gate, and this gate
pub record-parts : (body : List ℕ) → record_bytes body ≡ gated body ++ 0 ∷ []
record-parts body = refl

pub next_closed : (file : List ℕ) (at : ℕ) (body : List ℕ) → StandsAt file at (record_bytes body) → ClosedAt file (gate_behind at (length body))
next_closed file at body stands =
    let parts = subst (StandsAt file at) (record-parts body) stands in
    let behind = Stands-behind file at (gated body) (0 ∷ []) parts in
    (0, (λ same. absurd (omega (arith, same))), subst (λ place. StandsAt file place (0 ∷ [])) (omega (arith, gated-length body)) behind)

-- what stands there is a record of the batch
pub record_stands : (file : List ℕ) (at : ℕ) (body : List ℕ) (batch : BatchRecord) → IsBatch body batch → length body < 2 ^ 32 → StandsAt file at (record_bytes body) → RecordAt file at batch (gate_behind at (length body))
record_stands file at body batch is short stands = record {
  body = body;
  spells = is;
  short = short;
  stands = Stands-front file at (gated body) (0 ∷ []) (subst (StandsAt file at) (record-parts body) stands);
  ends = refl;
}

one_more : (file : List ℕ) (at : ℕ) (body : List ℕ) (batch : BatchRecord) → IsBatch body batch → length body < 2 ^ 32 → StandsAt file at (record_bytes body) → LogFrom file at (batch ∷ []) (gate_behind at (length body))
one_more file at body batch is short stands = (gate_behind at (length body), record_stands file at body batch is short stands, (refl, next_closed file at body stands))

pub has_record : (at : ℕ) (body before now : List ℕ) → length body < 2 ^ 32 → take at now ≡ take at before → StandsAt now at (record_bytes body) → HasRecord at body before now
has_record at body before now short front stands = record {
  front = front;
  stands = stands;
  closed = next_closed now at body stands;
  log = λ batches batch log is. Log-goes_on before now at front 0 batches (batch ∷ []) (gate_behind at (length body)) log (one_more now at body batch is short stands);
}
