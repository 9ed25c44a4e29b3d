-- What a read gives after the writes of a record.
use Rattle.std.proofs.Common.{◌≡◌, ℕ, ◌+◌, ◌≤◌, List, [], ◌∷◌, ◌++◌, length, IfSome, ap, ◌∙◌, subst, arith, length-append}
use Rattle.sf_outside.specs.declared.store_disk.StoreFile.{StoreFile}
use Rattle.sf_outside.specs.DiskModel.{DiskFacts, of_file, written, SeenWritten}
use Rattle.sf_outside.proofs.ImageSteps.{seen_then}
use Rattle.sf_outside.proofs.WrittenBytes.{written-then, written-before}
use Rattle.sf_bytes.specs.ByteForms.{number_bytes}
use Rattle.sf_bytes.specs.Gates.{open_gate}
use Rattle.request_log.specs.Appends.{behind_gate, record_bytes}
use Rattle.request_log.proofs.Logs.{number-length}

-- what a read gives reaches past a place
abbrev pub SeenReaches : StoreFile → ℕ → DiskFacts → Type 0
SeenReaches file at facts = IfSome facts.seen (λ now. at ≤ length (of_file file now))

-- the writes of the length, the body and the closed gate
pub seen_behind : (file : StoreFile) (at : ℕ) (body header : List ℕ) (old first second new : DiskFacts) → header ≡ number_bytes (length body) → SeenReaches file (at + 1) old
    → SeenWritten file (at + 1) header old first → SeenWritten file (at + 5) body first second → SeenWritten file (at + 5 + length body) (0 ∷ []) second new → SeenWritten file (at + 1) (behind_gate body) old new
seen_behind file at body header old first second new is reaches a b c =
    let number = number_bytes (length body) in
    let p = at + 1 in
    let Fits = λ (f : List ℕ). p ≤ length f in
    let start = subst (λ bytes. SeenWritten file p bytes old first) is a in
    let two = seen_then file Fits p (at + 5) p number body (number ++ body)
    (λ f within. ap (λ q. written (written f p number) q body) (omega (arith, number-length (length body))) ∙ written-then f p number body) old first second reaches start b in
    seen_then file Fits p (at + 5 + length body) p (number ++ body) (0 ∷ []) (behind_gate body)
    (λ f within. ap (λ q. written (written f p (number ++ body)) q (0 ∷ [])) (omega (arith, number-length (length body), length-append number body)) ∙ written-then f p (number ++ body) (0 ∷ [])) old second new reaches two c

-- and that of the open gate
pub seen_record : (file : StoreFile) (at : ℕ) (body : List ℕ) (old mid new : DiskFacts) → SeenReaches file (at + 1) old
    → SeenWritten file (at + 1) (behind_gate body) old mid → SeenWritten file at (open_gate ∷ []) mid new → SeenWritten file at (record_bytes body) old new
seen_record file at body old mid new reaches behind gate =
    seen_then file (λ f. at + 1 ≤ length f) (at + 1) at at (behind_gate body) (open_gate ∷ []) (record_bytes body) (λ f within. written-before f at open_gate (behind_gate body) within) old mid new reaches behind gate
