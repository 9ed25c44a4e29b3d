-- Bytes that were put, and then more.
use Rattle.std.proofs.Common.{◌≡◌, ℕ, ◌+◌, ◌≤◌, List, [], ◌++◌, length, Some, None, refl, sym, ap, ◌∙◌, subst, arith, IfSome, append-nil, append_assoc, length-append}
use Rattle.std.specs.declared.option.Option.{Option}
use Rattle.sf_outside.specs.declared.store_disk.StoreFile.{StoreFile}
use Rattle.sf_outside.specs.DiskModel.{Image, DiskFacts, Mounts, of_file, with_file, written, LeavesOnly, KnownStep, SeenWritten}
use Rattle.sf_outside.specs.ImageSteps.{ComesBy}
use Rattle.sf_outside.proofs.DiskLaws.{with_file-same, left_now, LeavesOnly-start, LeavesOnly-then, LeavesOnly-weaker}
use Rattle.sf_outside.proofs.ImageSteps.{comes_same, comes_then, comes_weaker, seen_then}
use Rattle.sf_outside.proofs.WrittenBytes.{written-then}
use Rattle.snapshot_store.specs.SlotSteps.{KeepsFront}
use Rattle.snapshot_store.specs.FrontLaws.{front_same, front_part, front_then}
use Rattle.snapshot_store.specs.PageSteps.{PageState, Puts, Stops, CountsStay, CountsRise, begins}

-- ---- runs that keep the front

module _ (file : StoreFile) (from : ℕ) where
  abbrev Front : DiskFacts → Image → Type 0
  Front old image = ComesBy file (KeepsFront from) old image

  pub keeps_start : (old : DiskFacts) → LeavesOnly old old (Front old)
  keeps_start old = LeavesOnly-start old (Front old) (λ image left. comes_same file (KeepsFront from) old image (front_same from) left)

  -- a later run may keep more
  pub keeps_then : (old mid new : DiskFacts) (later : ℕ) → from ≤ later → LeavesOnly old mid (Front old) → LeavesOnly mid new (ComesBy file (KeepsFront later) mid) → LeavesOnly old new (Front old)
  keeps_then old mid new later within so_far more =
      LeavesOnly-then old mid new (Front old) so_far
      (LeavesOnly-weaker mid new (ComesBy file (KeepsFront later) mid) (Front old) more
      (λ image came. comes_then file (KeepsFront from) (KeepsFront from) (KeepsFront from) (front_then from) old mid image (left_now old mid (Front old) so_far)
      (comes_weaker file (KeepsFront later) (KeepsFront from) mid image came (front_part from later (of_file file came.before) (of_file file image) within came.step))))

module _ (file : StoreFile) where
  -- two writes, one behind the other
  pub seen_both : (old mid new : DiskFacts) (p q : ℕ) (x y : List ℕ) → q ≡ p + length x → SeenWritten file p x old mid → SeenWritten file q y mid new → SeenWritten file p (x ++ y) old new
  seen_both old mid new p q x y place first second =
      seen_then file (λ f. Unit {0}) p q p x y (x ++ y) (λ f fits. ap (λ k. written (written f p x) k y) place ∙ written-then f p x y) old mid new (any old.seen) first second
    where
      any : (some : Option Image) → IfSome some (λ now. Unit {0})
      any None = tt
      any (Some now) = tt

  pub seen_none : (old : DiskFacts) (p : ℕ) → SeenWritten file p [] old old
  seen_none old p = none old.seen
    where
      none : (seen : Option Image) → KnownStep (λ before now. now ≡ with_file file (of_file file before) before) seen seen
      none None = tt
      none (Some now) = sym (with_file-same file now)

-- ---- the three laws

pub puts_start : (a : PageState) (old : DiskFacts) → Puts a old a old []
puts_start a old = record {
  file = refl;
  up = omega arith;
  place = λ within. omega arith;
  past = λ within. omega (arith, within);
  behind = λ behind. behind;
  no_earlier = λ behind. omega arith;
  flows = λ behind within. record { put = []; parts = append-nil a.held; seen = seen_none a.file old (begins a) };
  moments = λ behind. keeps_start a.file (begins a) old;
  others = λ other differs durable. durable;
}

module _ (a : PageState) (old : DiskFacts) (b : PageState) (mid : DiskFacts) (x : List ℕ) (first : Puts a old b mid x) where
  pub puts_then : (c : PageState) (new : DiskFacts) (y : List ℕ) → Puts b mid c new y → Puts a old c new (x ++ y)
  puts_then c new y second = record {
    file = second.file ∙ first.file;
    up = omega (arith, first.up, second.up);
    place = λ within.
        let here = first.place (omega (arith, within, length-append x y)) in
        let there = second.place (omega (arith, here, within, length-append x y)) in
        omega (arith, here, there, length-append x y);
    past = λ within.
        let there = second.past within in
        let here = first.past (omega (arith, there)) in
        omega (arith, first.place here, there, length-append x y);
    behind = λ behind. second.behind (first.behind behind);
    no_earlier = λ behind. omega (arith, first.no_earlier behind, second.no_earlier (first.behind behind));
    flows = λ behind within.
        let later = second.past within in
        let early = first.past (omega (arith, later)) in
        let here = first.flows behind (omega (arith, later)) in
        let there = second.flows (first.behind behind) within in
        let lengths : length a.held + length x ≡ length here.put + length b.held = omega (arith, ap length here.parts, length-append a.held x, length-append here.put b.held) in
        let place : begins b ≡ begins a + length here.put = omega (arith, lengths, behind, first.behind behind, first.place early) in
        record {
          put = here.put ++ there.put;
          parts = sym (append_assoc a.held x y) ∙ ap (λ l. l ++ y) here.parts ∙ append_assoc here.put b.held y ∙ ap (λ l. here.put ++ l) there.parts ∙ sym (append_assoc here.put there.put c.held);
          seen = seen_both a.file old mid new (begins a) (begins b) here.put there.put place here.seen (subst (λ file. SeenWritten file (begins b) there.put mid new) first.file there.seen);
        };
    moments = λ behind. keeps_then a.file (begins a) old mid new (begins b) (first.no_earlier behind) (first.moments behind)
        (subst (λ file. LeavesOnly mid new (ComesBy file (KeepsFront (begins b)) mid)) first.file (second.moments (first.behind behind)));
    others = λ other differs durable. second.others other (λ same. differs (same ∙ first.file)) (first.others other differs durable);
  }

  pub puts_stop : (new : DiskFacts) → Stops b mid new → Stops a old new
  puts_stop new second = record {
    moments = λ behind. keeps_then a.file (begins a) old mid new (begins b) (first.no_earlier behind) (first.moments behind)
        (subst (λ file. LeavesOnly mid new (ComesBy file (KeepsFront (begins b)) mid)) first.file (second.moments (first.behind behind)));
    others = λ other differs durable. second.others other (λ same. differs (same ∙ first.file)) (first.others other differs durable);
  }

-- ---- what a disk counts

pub counts_start : (faults : ℕ) (mounts : Mounts) → CountsStay faults mounts faults mounts
counts_start faults mounts = record { later = omega arith; mounts = refl }

pub counts_then : (n : ℕ) (m : Mounts) (n1 : ℕ) (m1 : Mounts) (n2 : ℕ) (m2 : Mounts) → CountsStay n m n1 m1 → CountsStay n1 m1 n2 m2 → CountsStay n m n2 m2
counts_then n m n1 m1 n2 m2 first second = record { later = omega (arith, first.later, second.later); mounts = second.mounts ∙ first.mounts }

pub counts_stop : (n : ℕ) (m : Mounts) (n1 : ℕ) (m1 : Mounts) (n2 : ℕ) (m2 : Mounts) → CountsStay n m n1 m1 → CountsRise n1 m1 n2 m2 → CountsRise n m n2 m2
counts_stop n m n1 m1 n2 m2 first second = record { later = omega (arith, first.later, second.later); rose = omega (arith, first.later, second.rose); mounts = second.mounts ∙ first.mounts }
