-- One call that puts bytes into a file.
use Rattle.std.proofs.Common.{◌≡◌, ℕ, ◌+◌, ◌-◌, ◌^◌, ◌≤◌, ◌<◌, List, [], ◌++◌, length, sym, ap, ◌∙◌, subst, arith, append-nil, length-append, Result, Ok, Err}
use Rattle.std.specs.Result.{OnErr}
use Rattle.sf_outside.specs.declared.store_disk.StoreFile.{StoreFile}
use Rattle.sf_outside.specs.DiskModel.{DiskFacts, LeavesOnly, SeenWritten, SeenTorn}
use Rattle.sf_outside.specs.ImageSteps.{ComesTorn}
use Rattle.sf_outside.proofs.DiskLaws.{IsDurable-written, IsDurable-torn}
use Rattle.snapshot_store.specs.PageSteps.{PageState, Puts, Stops, begins}
use Rattle.snapshot_store.specs.PageLaws.{keeps_start, seen_none}
use Rattle.snapshot_store.proofs.Histories.{torn_moments}

-- what follows where a call failed
pub err_then : {T E : Type 0} (result : Result T E) (P Q : Type 0) → (P → Q) → OnErr result P → OnErr result Q
err_then (Ok x) P Q follows p = tt
err_then (Err e) P Q follows p = follows p

pub err_both : {T E : Type 0} (result : Result T E) (P Q R : Type 0) → (P → Q → R) → OnErr result P → OnErr result Q → OnErr result R
err_both (Ok x) P Q R follows p q = tt
err_both (Err e) P Q R follows p q = follows p q

-- held
pub puts_held : (a b : PageState) (old : DiskFacts) (bytes : List ℕ) → a.at + length bytes ≤ 2 ^ 62 → b ≡ record a { at = a.at + length bytes; held = a.held ++ bytes } → Puts a old b old bytes
puts_held a b old bytes within is =
    let at = ap (λ (s : PageState). s.at) is in
    let long = ap (λ (s : PageState). length s.held) is in
    record {
      file = ap (λ (s : PageState). s.file) is;
      up = omega (arith, at);
      place = λ fits. at;
      past = λ fits. within;
      behind = λ behind. omega (arith, behind, at, long, length-append a.held bytes);
      no_earlier = λ behind. omega (arith, behind, at, long, length-append a.held bytes);
      flows = λ behind fits. record { put = []; parts = sym (ap (λ (s : PageState). s.held) is); seen = seen_none a.file old (begins a) };
      moments = λ behind. keeps_start a.file (begins a) old;
      others = λ other differs durable. durable;
    }

-- counted alone
pub puts_past : (a b : PageState) (old : DiskFacts) (bytes : List ℕ) → b.file ≡ a.file → b.held ≡ a.held → a.at ≤ b.at → 2 ^ 62 < b.at → 2 ^ 62 < a.at + length bytes → Puts a old b old bytes
puts_past a b old bytes file held up past over = record {
  file = file;
  up = up;
  place = λ fits. absurd (omega (arith, fits, over));
  past = λ fits. absurd (omega (arith, fits, past));
  behind = λ behind. omega (arith, behind, up, ap length held);
  no_earlier = λ behind. omega (arith, behind, up, ap length held);
  flows = λ behind fits. absurd (omega (arith, fits, past));
  moments = λ behind. keeps_start a.file (begins a) old;
  others = λ other differs durable. durable;
}

-- written
module _ (a : PageState) (old new : DiskFacts) (put : List ℕ) (moments : LeavesOnly old new (ComesTorn a.file (begins a) (length put) old)) where
  pub puts_written : (b : PageState) (bytes : List ℕ) → b ≡ record a { at = a.at + length bytes; held = [] } → a.at + length bytes ≤ 2 ^ 62 → a.held ++ bytes ≡ put → SeenWritten a.file (begins a) put old new → Puts a old b new bytes
  puts_written b bytes is within whole seen =
      let at = ap (λ (s : PageState). s.at) is in
      let none = ap (λ (s : PageState). length s.held) is in
      record {
        file = ap (λ (s : PageState). s.file) is;
        up = omega (arith, at);
        place = λ fits. at;
        past = λ fits. within;
        behind = λ behind. omega (arith, behind, at, none);
        no_earlier = λ behind. omega (arith, behind, at, none);
        flows = λ behind fits. record { put = put; parts = whole ∙ sym (append-nil put) ∙ ap (λ l. put ++ l) (sym (ap (λ (s : PageState). s.held) is)); seen = seen };
        moments = λ behind. torn_moments a.file (begins a) (length put) old new moments;
        others = λ other differs durable. IsDurable-written a.file other differs (begins a) put old new durable seen moments;
      }

  pub stops_torn : SeenTorn a.file (begins a) (length put) old new → Stops a old new
  stops_torn torn = record {
    moments = λ behind. torn_moments a.file (begins a) (length put) old new moments;
    others = λ other differs durable. IsDurable-torn a.file other differs (begins a) (length put) old new durable torn moments;
  }

-- ---- all of it

-- what was put from a place on, with nothing held before and nothing held then, is written there
pub all_written : (file : StoreFile) (at : ℕ) (b : PageState) (old new : DiskFacts) (bytes : List ℕ) → b.held ≡ [] → b.at ≤ 2 ^ 62 → Puts (record { file = file; at = at; held = [] }) old b new (bytes ++ []) → SeenWritten file at bytes old new
all_written file at b old new bytes empty within puts =
    let flows = puts.flows (omega arith) within in
    let same : flows.put ≡ bytes = sym (append-nil flows.put) ∙ ap (λ l. flows.put ++ l) (sym empty) ∙ sym flows.parts ∙ append-nil bytes in
    let nothing : List ℕ = [] in
    let none : at - length nothing ≡ at = omega arith in
    subst (λ l. SeenWritten file at l old new) same (subst (λ p. SeenWritten file p flows.put old new) none flows.seen)
