-- What a write of a gate makes of a file, whole or torn.
use Rattle.std.proofs.Common.{◌≡◌, ◌⊎◌, inl, inr, ℕ, ◌≤◌, ◌<◌, List, [], ◌∷◌, ◌++◌, length, get_or, take, drop, Some, None, refl, sym, ap, ◌∙◌, subst, arith, take-append-drop, IsSomeAnd, IfSome}
use Rattle.std.specs.declared.option.Option.{Option}
use Rattle.std.proofs.lemmas.Bool.{cases_eq}
use Rattle.sf_bytes.specs.Gates.{open_gate, StandsAt, ClosedAt, OpenAt}
use Rattle.sf_bytes.proofs.Stands.{Stands-byte}
use Rattle.sf_outside.specs.declared.store_disk.StoreFile.{StoreFile}
use Rattle.sf_outside.specs.DiskModel.{Image, DiskFacts, of_file, Torn, LeavesOnly, SeenWritten, Stays, LeavesNoMore, IsDurable}
use Rattle.sf_outside.specs.ImageSteps.{ComesTorn, ComesBy}
use Rattle.sf_outside.proofs.DiskLaws.{left_now, LeavesNoMore-stays, LeavesOnly-no_more, LeavesOnly-then, LeavesOnly-weaker}
use Rattle.sf_outside.proofs.ImageSteps.{comes_torn, comes_torn_at, comes_weaker, comes_earlier, comes_same, written_stands}
use Rattle.sf_outside.proofs.Writes.{Torn-length}
use Rattle.snapshot_store.specs.SlotFile.{IsOpenSlot}
use Rattle.snapshot_store.specs.SlotSteps.{GateChanges, StaysOrCloses, Closes, Opens}

-- ---- one file

pub gate_same : (file : List ℕ) → GateChanges file file
gate_same file = record { behind = refl; no_shorter = omega arith }

pub gate_torn : (before now : List ℕ) → Torn 0 1 before now → GateChanges before now
gate_torn before now torn = record { behind = torn.after; no_shorter = torn.no_shorter }

pub closed_zero : (file : List ℕ) → StandsAt file 0 (0 ∷ []) → ClosedAt file 0
closed_zero file stands = (0, (λ same. absurd (omega (arith, same))), stands)

-- two files with one gate and the same behind it
same_by_gate : (before now : List ℕ) (gate : ℕ) → StandsAt before 0 (gate ∷ []) → StandsAt now 0 (gate ∷ []) → drop 1 now ≡ drop 1 before → now ≡ before
same_by_gate before now gate was is behind =
    sym (take-append-drop 1 now) ∙ ap (λ l. l ++ drop 1 now) (is ∙ sym was) ∙ ap (λ l. take 1 before ++ l) behind ∙ take-append-drop 1 before

-- each gate is open or closed
pub gate_cases : (file : List ℕ) → 1 ≤ length file → OpenAt file 0 ⊎ ClosedAt file 0
gate_cases file some =
    let byte = get_or file 0 0 in
    let here : StandsAt file 0 (byte ∷ []) = Stands-byte file 0 (omega (arith, some)) in
    elim (cases_eq byte open_gate) [
      | inl is ↦ inl (subst (λ b. StandsAt file 0 (b ∷ [])) is here)
      | inr not ↦ inr (byte, not, here)
    ]

-- a slot that a write may close
abbrev pub MayClose : List ℕ → Type 0
MayClose file = (length file < 2) ⊎ IsOpenSlot file

pub torn_closes : (before now : List ℕ) → Torn 0 1 before now → MayClose before → StaysOrCloses before now
torn_closes before now torn (inl alone) = record {
  gate = gate_torn before now torn;
  slot = inr (inl (omega (arith, torn.no_longer, alone)));
}
torn_closes before now torn (inr open_there) =
    let same : length now ≡ length before = Torn-length 0 1 before now torn (omega (arith, open_there.0)) in
    elim (gate_cases now (omega (arith, same, open_there.0))) [
      | inl opened ↦ record { gate = gate_torn before now torn; slot = inl (same_by_gate before now open_gate open_there.1 opened torn.after) }
      | inr closed ↦ record { gate = gate_torn before now torn; slot = inr (inr closed) }
    ]

-- ---- the disk

module _ (file : StoreFile) (old new : DiskFacts) (moments : LeavesOnly old new (ComesTorn file 0 1 old)) where
  -- at each moment
  pub gate_moments : LeavesOnly old new (ComesBy file GateChanges old)
  gate_moments = LeavesOnly-weaker old new (ComesTorn file 0 1 old) (ComesBy file GateChanges old) moments (λ image torn. comes_torn file 0 1 GateChanges old image gate_torn torn)

  module _ (gate : ℕ) (seen : SeenWritten file 0 (gate ∷ []) old new) (durable : IsDurable file new) (image : Image) (left : new.may_leave image) where
    torn : ComesTorn file 0 1 old image
    torn = left_now old new (ComesTorn file 0 1 old) moments image left

    came : ComesBy file GateChanges old image
    came = comes_torn file 0 1 GateChanges old image gate_torn torn

    stands : StandsAt (of_file file image) 0 (gate ∷ [])
    stands = written_stands file 0 (gate ∷ []) old.seen new.seen image (old.told torn.0 torn.1) seen (durable image left)

    -- and once it is safe
    pub gate_closes : gate ≡ 0 → ComesBy file Closes old image
    gate_closes is = comes_weaker file GateChanges Closes old image came (record { gate = came.step; closed = closed_zero (of_file file image) (subst (λ g. StandsAt (of_file file image) 0 (g ∷ [])) is stands) })

    pub gate_opens : gate ≡ open_gate → ComesBy file Opens old image
    gate_opens is = comes_weaker file GateChanges Opens old image came (record { gate = came.step; opened = subst (λ g. StandsAt (of_file file image) 0 (g ∷ [])) is stands })

-- ---- closing

stays_or_closes : (file : List ℕ) → StaysOrCloses file file
stays_or_closes file = record { gate = gate_same file; slot = inl refl }

module _ (file : StoreFile) (old mid : DiskFacts) (fewer : LeavesNoMore old mid) where
  -- nothing was written
  pub quiet_moments : LeavesOnly old mid (ComesBy file StaysOrCloses old)
  quiet_moments = LeavesOnly-weaker old mid old.may_leave (ComesBy file StaysOrCloses old) (LeavesOnly-no_more old mid fewer) (λ image left. comes_same file StaysOrCloses old image stays_or_closes left)

  -- and then more
  pub then_moments : (new : DiskFacts) → LeavesOnly mid new (ComesBy file StaysOrCloses mid) → LeavesOnly old new (ComesBy file StaysOrCloses old)
  then_moments new more =
      LeavesOnly-then old mid new (ComesBy file StaysOrCloses old) quiet_moments
      (LeavesOnly-weaker mid new (ComesBy file StaysOrCloses mid) (ComesBy file StaysOrCloses old) more (λ image came. comes_earlier file StaysOrCloses old mid image fewer came))

  pub then_now : (new : DiskFacts) → ((image : Image) → new.may_leave image → ComesBy file Closes mid image) → (image : Image) → new.may_leave image → ComesBy file Closes old image
  then_now new more image left = comes_earlier file Closes old mid image fewer (more image left)

-- a file that is as it was read
module _ (file : StoreFile) (image : Image) where
  may_close : (seen : Option Image) → IfSome seen (λ now. MayClose (of_file file now)) → IsSomeAnd seen (λ now. of_file file image ≡ of_file file now) → MayClose (of_file file image)
  may_close None may same = absurd same
  may_close (Some now) may same = subst MayClose (sym same) may

  closed_there : (seen : Option Image) → IfSome seen (λ now. ClosedAt (of_file file now) 0) → IsSomeAnd seen (λ now. of_file file image ≡ of_file file now) → ClosedAt (of_file file image) 0
  closed_there None closed same = absurd same
  closed_there (Some now) closed same = subst (λ f. ClosedAt f 0) (sym same) closed

module _ (file : StoreFile) (old mid : DiskFacts) (stays : Stays old mid) (durable : IsDurable file mid) where
  -- the gate is written over a slot that is safe
  pub close_moments : (new : DiskFacts) → IfSome old.seen (λ now. MayClose (of_file file now)) → LeavesOnly mid new (ComesTorn file 0 1 mid) → LeavesOnly old new (ComesBy file StaysOrCloses old)
  close_moments new may more =
      let there = subst (λ seen. IfSome seen (λ now. MayClose (of_file file now))) (sym stays.seen) may in
      let each = λ (image : Image) (torn : ComesTorn file 0 1 mid image).
      comes_torn_at file 0 1 StaysOrCloses mid image torn (λ t. torn_closes (of_file file torn.0) (of_file file image) t (may_close file torn.0 mid.seen there (durable torn.0 torn.1))) in
      then_moments file old mid (LeavesNoMore-stays old mid stays) new (LeavesOnly-weaker mid new (ComesTorn file 0 1 mid) (ComesBy file StaysOrCloses mid) more each)

  -- a closed gate that was read is safe
  pub closed_now : IfSome old.seen (λ now. ClosedAt (of_file file now) 0) → (image : Image) → mid.may_leave image → ComesBy file Closes old image
  closed_now closed image left =
      let there = subst (λ seen. IfSome seen (λ now. ClosedAt (of_file file now) 0)) (sym stays.seen) closed in
      let came = comes_same file GateChanges old image gate_same (stays.images image left) in
      comes_weaker file GateChanges Closes old image came (record { gate = came.step; closed = closed_there file image mid.seen there (durable image left) })
