-- Which record is behind a gate, from the bytes that were read.
use Rattle.std.proofs.Common.{◌≡◌, inl, inr, ℕ, ◌+◌, ◌-◌, ◌*◌, ◌≤◌, ◌<◌, ◌^◌, List, [], ◌∷◌, length, get_or, take, drop, None, sym, ap, ◌∙◌, subst, arith, IfSome, length-take}
use Rattle.std.specs.declared.option.Option.{Option}
use Rattle.std.specs.Int.{w32, from_be_bytes, to_be_bytes}
use Rattle.std.proofs.lemmas.List.{take_all, take-take}
use Rattle.sf_bytes.specs.ByteForms.{number_bytes, batch_bytes}
use Rattle.sf_bytes.specs.Gates.{open_gate, StandsAt, OpenAt}
use Rattle.sf_bytes.specs.Reading.{batch_at}
use Rattle.sf_bytes.specs.Spelt.{IsReadBatch}
use Rattle.sf_bytes.proofs.Fronts.{stands_apart}
use Rattle.sf_bytes.proofs.Wholes.{part_only}
use Rattle.sf_bytes.proofs.RecordLaws.{batch_spells}
use Rattle.sf_bytes.proofs.Stands.{Stands-front, Stands-behind, Stands-both}
use Rattle.sf_bytes.proofs.Wide.{IsBytes, IsBytes-rest, wide32}
use Rattle.sf_outside.specs.Bytes.{CopiedAll}
use Rattle.sf_outside.specs.DiskModel.{Image, of_file}
use Rattle.sf_outside.specs.declared.store_disk.StoreFile.{StoreFile}
use Rattle.sf_outside.proofs.ImageSteps.{if_one, if_both}
use Rattle.sf_outside.proofs.WrittenBytes.{copied-stands}
use Rattle.sf_value.specs.declared.BatchRecord.{BatchRecord}
use Rattle.request_log.specs.LogFile.{gate_behind, RecordAt, IsBadAt, IsBatch}
use Rattle.request_log.specs.Answers.{SaysFront, SaysBatch}
use Rattle.request_log.specs.declared.reading.Front.TheVariants.{Broken}
use Rattle.request_log.proofs.Logs.{number-length, Record-length}

-- ---- whole batches

pub no_batch : (bytes : List ℕ) → ((batch : BatchRecord) (count : ℕ) → IsReadBatch batch → (count ≤ length bytes) × (take count bytes ≡ batch_bytes batch) → ⊥) → SaysBatch bytes None
no_batch bytes none batch is = none batch (length bytes) is.0 (omega arith, take_all (length bytes) bytes (omega arith) ∙ sym is.1)

pub other_batch : (bytes : List ℕ) (found : BatchRecord) (count : ℕ) → IsReadBatch found → take count bytes ≡ batch_bytes found → count < length bytes → SaysBatch bytes None
other_batch bytes found count is_read front less batch is = part_only batch_bytes IsReadBatch (stands_apart batch_at batch_bytes IsReadBatch batch_spells) bytes found count is_read front less batch is.0 is.1

pub whole_is : (bytes : List ℕ) (found : BatchRecord) (count : ℕ) → IsReadBatch found → take count bytes ≡ batch_bytes found → length bytes ≤ count → IsBatch bytes found
whole_is bytes found count is_read front all = (is_read, sym front ∙ take_all count bytes all)

-- ---- records

-- two numbers with the same bytes
number-same : (m n : ℕ) → m < 2 ^ 32 → n < 2 ^ 32 → number_bytes m ≡ number_bytes n → m ≡ n
unfolding number_bytes
number-same m n short-m short-n same = sym (wide32.again m short-m) ∙ ap (from_be_bytes w32) same ∙ wide32.again n short-n

module _ (file : List ℕ) (at len : ℕ) (short : len < 2 ^ 32) (claims : StandsAt file at (open_gate ∷ number_bytes len)) where
  is_open : OpenAt file at
  is_open = Stands-front file at (open_gate ∷ []) (number_bytes len) claims

  -- a record there has as many bytes as are claimed
  claimed : (batch : BatchRecord) (next : ℕ) (there : RecordAt file at batch next) → length there.body ≡ len
  claimed batch next there =
      let n = length there.body in
      let front : StandsAt file at (open_gate ∷ number_bytes n) = Stands-front file at (open_gate ∷ number_bytes n) there.body there.stands in
      let five : length (open_gate ∷ number_bytes n) ≡ length (open_gate ∷ number_bytes len) = omega (arith, number-length n, number-length len) in
      number-same n len there.short short (ap (drop 1) (sym front ∙ ap (λ k. take k (drop at file)) five ∙ claims))

  -- the file ends before the record does
  pub too_short : length file - at < len + 5 → IsBadAt file at
  too_short less = inr (is_open, λ batch next there. absurd (omega (arith, less, there.ends, Record-length file at batch next there, claimed batch next there)))

  module _ (body : List ℕ) (behind : StandsAt file (at + 5) body) (all : length body ≡ len) where
    -- what is behind is no batch
    pub none_found : SaysBatch body None → IsBadAt file at
    none_found none = inr (
      is_open,
      λ batch next there.
          let n = length there.body in
          let place : at + length (open_gate ∷ number_bytes n) ≡ at + 5 = omega (arith, number-length n) in
          let here : StandsAt file (at + 5) there.body = subst (λ p. StandsAt file p there.body) place (Stands-behind file at (open_gate ∷ number_bytes n) there.body there.stands) in
          let same : n ≡ length body = claimed batch next there ∙ sym all in
          none batch (subst (λ bytes. IsBatch bytes batch) (sym here ∙ ap (λ k. take k (drop (at + 5) file)) same ∙ behind) there.spells),
    )

    -- and here it is one
    pub record_found : (batch : BatchRecord) → IsBatch body batch → RecordAt file at batch (gate_behind at len)
    record_found batch is =
        let n = length body in
        let front : StandsAt file at (open_gate ∷ number_bytes n) = subst (λ k. StandsAt file at (open_gate ∷ number_bytes k)) (sym all) claims in
        let place : at + 5 ≡ at + length (open_gate ∷ number_bytes n) = omega (arith, number-length n) in
        record {
          body = body;
          spells = is;
          short = omega (arith, short, all);
          stands = Stands-both file at (open_gate ∷ number_bytes n) body front (subst (λ p. StandsAt file p body) place behind);
          ends = ap (gate_behind at) (sym all);
        }

-- ---- what was copied

-- five bytes were asked for, and they say that no record is there
broken : (file : List ℕ) (at n : ℕ) (buf : List ℕ) → length buf ≡ 5 → CopiedAll file at n buf → SaysFront (take n buf) Broken → IsBadAt file at
broken file at n buf five copied (inl none) = inl (omega (arith, five, copied.count, ap length none, length-take n buf))
broken file at n buf five copied (inr says) =
    let some : 1 ≤ n = omega (arith, ap length says.0, length-take 1 (take n buf), length-take n buf) in
    let open_there : OpenAt file at = sym (take-take 1 n (drop at file) some) ∙ ap (take 1) (sym copied.bytes) ∙ says.0 in
    inr (open_there, λ batch next there. absurd (omega (arith, five, copied.count, says.1, length-take n buf, there.ends, Record-length file at batch next there)))

pub seen_broken : (file : StoreFile) (seen : Option Image) (at n : ℕ) (buf : List ℕ) → length buf ≡ 5 → IfSome seen (λ now. CopiedAll (of_file file now) at n buf) → SaysFront (take n buf) Broken
    → IfSome seen (λ now. IsBadAt (of_file file now) at)
seen_broken file seen at n buf five copied says =
    if_one seen (λ now. CopiedAll (of_file file now) at n buf) (λ now. IsBadAt (of_file file now) at) (λ now copy. broken (of_file file now) at n buf five copy says) copied

-- ---- what the bytes that a read gives say

-- an open gate and four bytes claim a number
pub claims_front : (bytes : List ℕ) (len : ℕ) → length bytes ≡ 5 → IsBytes bytes → get_or bytes 0 0 ≡ open_gate
    → len ≡ get_or bytes 1 0 * 16777216 + get_or bytes 2 0 * 65536 + get_or bytes 3 0 * 256 + get_or bytes 4 0 → bytes ≡ open_gate ∷ number_bytes len
unfolding number_bytes
claims_front [] len five are_bytes gate is = absurd (omega (arith, five))
claims_front (first ∷ rest) len five are_bytes gate is =
    let back : to_be_bytes w32 (from_be_bytes w32 rest) ≡ rest = wide32.back rest (omega (arith, five)) (IsBytes-rest (first ∷ []) rest are_bytes) in
    let number : to_be_bytes w32 len ≡ rest = ap (to_be_bytes w32) is ∙ back in
    λ i. gate i ∷ sym number i

module _ (file : StoreFile) (seen : Option Image) (at len count : ℕ) (buf : List ℕ) (short : len < 2 ^ 32) (claims : IfSome seen (λ now. StandsAt (of_file file now) at (open_gate ∷ number_bytes len)))
    (copied : IfSome seen (λ now. CopiedAll (of_file file now) (at + 5) count buf)) (long : length buf ≡ len) (all : len ≤ count) where
  abbrev Claims : Image → Type 0
  Claims now = StandsAt (of_file file now) at (open_gate ∷ number_bytes len)

  abbrev Copies : Image → Type 0
  Copies now = CopiedAll (of_file file now) (at + 5) count buf

  stands_there : (now : Image) → Copies now → StandsAt (of_file file now) (at + 5) buf
  stands_there now copy = copied-stands (of_file file now) (at + 5) count buf copy (omega (arith, long, all))

  pub seen_record : (batch : BatchRecord) → IsBatch buf batch → IfSome seen (λ now. RecordAt (of_file file now) at batch (gate_behind at len))
  seen_record batch whole = if_both seen Claims Copies (λ now. RecordAt (of_file file now) at batch (gate_behind at len))
      (λ now claim copy. record_found (of_file file now) at len short claim buf (stands_there now copy) long batch whole) claims copied

  pub seen_bad : SaysBatch buf None → IfSome seen (λ now. IsBadAt (of_file file now) at)
  seen_bad none = if_both seen Claims Copies (λ now. IsBadAt (of_file file now) at)
      (λ now claim copy. none_found (of_file file now) at len short claim buf (stands_there now copy) long none) claims copied
