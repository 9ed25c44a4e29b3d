-- What a crash leaves while a record is put behind a closed gate, and while that gate is opened.
use Rattle.std.proofs.Common.{◌≡◌, inl, inr, ℕ, ◌+◌, ◌≤◌, ◌<◌, ◌^◌, List, [], ◌∷◌, length, get_or, take, min, refl, sym, ap, ◌∙◌, subst, arith, IfSome, length-take}
use Rattle.std.proofs.lemmas.Bool.{cases_eq}
use Rattle.sf_outside.specs.declared.store_disk.StoreFile.{StoreFile}
use Rattle.sf_outside.specs.DiskModel.{Image, DiskFacts, of_file, Torn, TornFile, LeavesOnly, SeenWritten, IsDurable}
use Rattle.sf_outside.proofs.DiskLaws.{with_file-same, TornFile-torn, left_now, LeavesOnly-start, LeavesOnly-then, LeavesOnly-weaker}
use Rattle.sf_outside.proofs.Writes.{Torn-front}
use Rattle.sf_outside.specs.ImageSteps.{ComesTorn, ComesBy}
use Rattle.sf_outside.proofs.ImageSteps.{seen_has, torn_others, written_stands}
use Rattle.sf_bytes.specs.Gates.{open_gate, StandsAt, ClosedAt}
use Rattle.sf_bytes.proofs.Stands.{front-shorter, Stands-same, Stands-byte, Stands-both, Closed-length}
use Rattle.request_log.specs.Appends.{behind_gate, HasRecord, StaysOrHasRecord}
use Rattle.request_log.proofs.Logs.{stays_closed, has_record}

-- two files with the same bytes up to here
abbrev pub SameUpTo : ℕ → List ℕ → List ℕ → Type 0
SameUpTo n before now = take n now ≡ take n before

module _ (file : StoreFile) (at : ℕ) (old : DiskFacts) (closed : (image : Image) → old.may_leave image → ClosedAt (of_file file image) at) where
  -- the gate and all before it are as they were
  abbrev pub Staged : Image → Type 0
  Staged image = ComesBy file (SameUpTo (at + 1)) old image

  before-reaches : (image : Image) (staged : Staged image) → at + 1 ≤ length (of_file file staged.before)
  before-reaches image staged = Closed-length (of_file file staged.before) at (closed staged.before staged.left)

  reaches : (image : Image) → Staged image → at + 1 ≤ length (of_file file image)
  reaches image staged =
      omega (arith, before-reaches image staged, ap length staged.step, length-take (at + 1) (of_file file image), length-take (at + 1) (of_file file staged.before))

  staged_torn : (p n : ℕ) (between image : Image) → at + 1 ≤ p → Staged between → TornFile file p n between image → Staged image
  staged_torn p n between image behind staged torn =
      let f = of_file file between in
      let t = TornFile-torn file p n between image torn in
      record {
        before = staged.before;
        left = staged.left;
        step = front-shorter f (of_file file image) (min p (length f)) (at + 1) t.before (omega (arith, behind, reaches between staged)) ∙ staged.step;
        others = torn_others file p n between image staged.before staged.others torn;
      }

  -- no write yet
  staged_start : LeavesOnly old old Staged
  staged_start = LeavesOnly-start old Staged (λ image left. record { before = image; left = left; step = refl; others = sym (with_file-same file image) })

  -- one write more behind the gate
  pub staged_then : (mid new : DiskFacts) (p n : ℕ) → at + 1 ≤ p → LeavesOnly old mid Staged → LeavesOnly mid new (ComesTorn file p n mid) → LeavesOnly old new Staged
  staged_then mid new p n behind so_far more =
      LeavesOnly-then old mid new Staged so_far
      (LeavesOnly-weaker mid new (ComesTorn file p n mid) Staged more (λ image torn. staged_torn p n torn.0 image behind (left_now old mid Staged so_far torn.0 torn.1) torn.2))

  -- the length was written, whole or not
  pub staged_length : (first : DiskFacts) (n : ℕ) → LeavesOnly old first (ComesTorn file (at + 1) n old) → LeavesOnly old first Staged
  staged_length first n put = staged_then old first (at + 1) n (omega arith) staged_start put

  -- and then the body
  pub staged_body : (first second : DiskFacts) (n m : ℕ) → LeavesOnly old first (ComesTorn file (at + 1) n old) → LeavesOnly first second (ComesTorn file (at + 5) m first) → LeavesOnly old second Staged
  staged_body first second n m put more = staged_then first second (at + 5) m (omega arith) (staged_length first n put) more

  -- what a read gives reaches past the gate
  pub seen_reaches : IfSome old.seen (λ now. at + 1 ≤ length (of_file file now))
  seen_reaches = seen_has (λ now. at + 1 ≤ length (of_file file now)) old (λ image left. Closed-length (of_file file image) at (closed image left))

  module _ (body : List ℕ) where
    abbrev pub Either : Image → Type 0
    Either image = ComesBy file (StaysOrHasRecord at body) old image

    -- the gate is still closed
    pub staged_either : (image : Image) → Staged image → Either image
    staged_either image staged =
        let before = of_file file staged.before in
        let now = of_file file image in
        let was = closed staged.before staged.left in
        let same : take at now ≡ take at before = front-shorter before now (at + 1) at staged.step (omega arith) in
        let here : ClosedAt now at = (was.0, was.1, Stands-same before now (at + 1) at (was.0 ∷ []) staged.step (omega arith) was.2) in
        record { before = staged.before; left = staged.left; step = inl (stays_closed at before now same here); others = staged.others }

    module _ (mid : DiskFacts) (so_far : LeavesOnly old mid Staged) (durable : IsDurable file mid) (seen : SeenWritten file (at + 1) (behind_gate body) old mid) where
      -- all of the record but its gate stands in each image
      stands_behind : (image : Image) → mid.may_leave image → StandsAt (of_file file image) (at + 1) (behind_gate body)
      stands_behind image left =
          let staged = left_now old mid Staged so_far image left in
          written_stands file (at + 1) (behind_gate body) old.seen mid.seen image (old.told staged.before staged.left) seen (durable image left)

      -- and still does where the write of the gate is torn, with any byte as the gate
      module _ (image : Image) (torn : ComesTorn file at 1 mid image) where
        staged : Staged torn.0
        staged = left_now old mid Staged so_far torn.0 torn.1

        abbrev middle : List ℕ
        middle = of_file file torn.0

        t : Torn at 1 middle (of_file file image)
        t = TornFile-torn file at 1 torn.0 image torn.2

        same_front : take at (of_file file image) ≡ take at (of_file file staged.before)
        same_front =
            Torn-front at 1 middle (of_file file image) t (omega (arith, reaches torn.0 staged))
            ∙ front-shorter (of_file file staged.before) middle (at + 1) at staged.step (omega arith)

        behind : StandsAt (of_file file image) (at + 1) (behind_gate body)
        behind = ap (take (length (behind_gate body))) t.after ∙ stands_behind torn.0 torn.1

        from_before : {Step : List ℕ → List ℕ → Type 0} → Step (of_file file staged.before) (of_file file image) → ComesBy file Step old image
        from_before step = record { before = staged.before; left = staged.left; step = step; others = torn_others file at 1 torn.0 image staged.before staged.others torn.2 }

        open_record : length body < 2 ^ 32 → StandsAt (of_file file image) at (open_gate ∷ []) → HasRecord at body (of_file file staged.before) (of_file file image)
        open_record short gate = has_record at body (of_file file staged.before) (of_file file image) short same_front (Stands-both (of_file file image) at (open_gate ∷ []) (behind_gate body) gate behind)

        pub gate_either : length body < 2 ^ 32 → Either image
        gate_either short =
            let now = of_file file image in
            let byte = get_or now at 0 in
            let here : StandsAt now at (byte ∷ []) = Stands-byte now at (omega (arith, reaches torn.0 staged, t.no_shorter)) in
            elim (cases_eq byte open_gate) [
              | inl is ↦ from_before (inr (open_record short (subst (λ b. StandsAt now at (b ∷ [])) is here)))
              | inr not ↦ from_before (inl (stays_closed at (of_file file staged.before) now same_front (byte, not, here)))
            ]

      module _ (new : DiskFacts) (short : length body < 2 ^ 32) (gates : LeavesOnly mid new (ComesTorn file at 1 mid)) where
        -- at each moment
        pub all_either : LeavesOnly old new Either
        all_either =
            LeavesOnly-then old mid new Either (LeavesOnly-weaker old mid Staged Either so_far staged_either)
            (LeavesOnly-weaker mid new (ComesTorn file at 1 mid) Either gates (λ image torn. gate_either image torn short))

        -- and once the gate is safe
        pub all_have : IsDurable file new → SeenWritten file at (open_gate ∷ []) mid new → (image : Image) → new.may_leave image → ComesBy file (HasRecord at body) old image
        all_have safe opened image left =
            let torn = left_now mid new (ComesTorn file at 1 mid) gates image left in
            from_before image torn (open_record image torn short (written_stands file at (open_gate ∷ []) mid.seen new.seen image (mid.told torn.0 torn.1) opened (safe image left)))
