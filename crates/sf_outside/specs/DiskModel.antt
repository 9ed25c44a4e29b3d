-- A disk with the files of a store: what a read gives, what a crash may leave, and what each call does to both.
use Rattle.std.specs.Prelude.{ℕ, ◌≡◌, ◌≢◌, ◌⊎◌, ◌+◌, ◌-◌, ◌≤◌, ◌==◌, List, [], ◌∷◌, ◌++◌, length, take, drop, replicate, min, max, ⊤, None, Some, IfSome, IsSome, IsSomeAnd, if◌then◌else◌}
use Rattle.std.specs.declared.option.Option.{Option}
use Rattle.sf_outside.specs.Causes.{next_count}
use Rattle.sf_outside.specs.declared.store_disk.StoreFile.{StoreFile}
use Rattle.sf_outside.specs.declared.store_disk.StoreFile.TheVariants.{Log0, Log1, Snap0, Snap1, Hist}

-- one thing for each file
pub record PerFile (A : Type 0) : Type 0 where
  pub log0 : A
  pub log1 : A
  pub snap0 : A
  pub snap1 : A
  pub hist : A

-- the bytes of each file
abbrev pub Image : Type 0
Image = PerFile (List ℕ)

abbrev pub of_file : {A : Type 0} → StoreFile → PerFile A → A
of_file Log0 things = things.log0
of_file Log1 things = things.log1
of_file Snap0 things = things.snap0
of_file Snap1 things = things.snap1
of_file Hist things = things.hist

-- another thing for this file, and the same for the others
abbrev pub with_file : {A : Type 0} → StoreFile → A → PerFile A → PerFile A
with_file Log0 x things = record { log0 = x; log1 = things.log1; snap0 = things.snap0; snap1 = things.snap1; hist = things.hist }
with_file Log1 x things = record { log0 = things.log0; log1 = x; snap0 = things.snap0; snap1 = things.snap1; hist = things.hist }
with_file Snap0 x things = record { log0 = things.log0; log1 = things.log1; snap0 = x; snap1 = things.snap1; hist = things.hist }
with_file Snap1 x things = record { log0 = things.log0; log1 = things.log1; snap0 = things.snap0; snap1 = x; hist = things.hist }
with_file Hist x things = record { log0 = things.log0; log1 = things.log1; snap0 = things.snap0; snap1 = things.snap1; hist = x }

-- a file after a whole write: zeros fill what lies between its end and the place, and no bytes change nothing
abbrev pub written : List ℕ → ℕ → List ℕ → List ℕ
written file at [] = file
written file at (byte ∷ bytes) = take at (file ++ replicate (at - length file) 0) ++ (byte ∷ bytes) ++ drop (at + length (byte ∷ bytes)) file

-- where a write of n bytes ends
abbrev pub written_end : ℕ → ℕ → ℕ
written_end at n = if n == 0 then 0 else at + n

-- after a write of n bytes that may not be whole: any bytes in its range and past the old end, any length from the
-- old end to the written end, and the same elsewhere
pub record Torn (at n : ℕ) (old new : List ℕ) : Type 0 where
  pub before : take (min at (length old)) new ≡ take (min at (length old)) old
  pub after : drop (at + n) new ≡ drop (at + n) old
  pub no_shorter : length old ≤ length new
  pub no_longer : length new ≤ max (length old) (written_end at n)

-- this file is torn so, and the others are the same
pub record TornFile (file : StoreFile) (at n : ℕ) (old new : Image) : Type 0 where
  pub bytes : List ℕ
  pub torn : Torn at n (of_file file old) bytes
  pub image : new ≡ with_file file bytes old

-- What is told of a disk. One that tells nothing has no image, so that what is said of each image asks nothing of it.
pub record DiskFacts : Type 1 where
  -- what a read gives, where it is told
  pub seen : Option Image
  -- what a crash now may leave
  pub may_leave : Image → Type 0
  -- this moment, as a number that doesn't fall
  pub moment : ℕ
  -- what a crash at some moment from that one on may have left, during a call or between two
  pub left_since : ℕ → Image → Type 0
  -- images are told only where it is told what a read gives, which is one of them
  pub told : (image : Image) → may_leave image → IsSome seen
  pub reads : IfSome seen may_leave
  -- this moment is one of those since an earlier one, and the only one since itself
  pub counts_now : (since : ℕ) (image : Image) → since ≤ moment → may_leave image → left_since since image
  pub only_now : (image : Image) → left_since moment image → may_leave image

-- what is told of a disk that tells nothing
abbrev pub untold : DiskFacts
untold = record {
  seen = None;
  may_leave = λ image. ⊥;
  moment = 0;
  left_since = λ since image. ⊥;
  told = λ image leaves. absurd leaves;
  reads = tt;
  counts_now = λ since image within leaves. leaves;
  only_now = λ image left. left;
}

-- Time goes on: a crash since a moment may have left what it might have left before, or what it may leave now.
pub record Elapses (old new : DiskFacts) : Type 0 where
  pub later : old.moment ≤ new.moment
  pub nothing_else : (since : ℕ) (image : Image) → since ≤ old.moment → new.left_since since image → old.left_since since image ⊎ new.may_leave image
  pub keeps : (since : ℕ) (image : Image) → since ≤ old.moment → old.left_since since image → new.left_since since image

-- A crash at any moment from an earlier state of the disk on leaves an image that has P.
pub record LeavesOnly (old new : DiskFacts) (P : Image → Type 0) : Type 0 where
  pub later : old.moment ≤ new.moment
  pub each : (image : Image) → new.left_since old.moment image → P image
  -- for a run that began earlier
  pub before : (since : ℕ) (image : Image) → since ≤ old.moment → new.left_since since image → old.left_since since image ⊎ P image

-- a call changed nothing, and a crash leaves nothing that it might not have left before
pub record Stays (old new : DiskFacts) : Type 0 where
  pub seen : new.seen ≡ old.seen
  pub images : (image : Image) → new.may_leave image → old.may_leave image
  pub time : Elapses old new

-- a step from one known image to another
abbrev pub KnownStep : (Image → Image → Type 0) → Option Image → Option Image → Type 0
KnownStep Step None new = ⊤
KnownStep Step (Some old) None = ⊥
KnownStep Step (Some old) (Some new) = Step old new

-- a call leaves no more than before: a read gives one of the images that a crash might have left, and a crash leaves none but those
pub record LeavesNoMore (old new : DiskFacts) : Type 0 where
  pub seen : KnownStep (λ before now. old.may_leave now) old.seen new.seen
  pub images : (image : Image) → new.may_leave image → old.may_leave image
  pub time : Elapses old new

-- what a read gives after a whole write
abbrev pub SeenWritten : StoreFile → ℕ → List ℕ → DiskFacts → DiskFacts → Type 0
SeenWritten file at bytes old new = KnownStep (λ before now. now ≡ with_file file (written (of_file file before) at bytes) before) old.seen new.seen

-- what a read gives after a write that failed
abbrev pub SeenTorn : StoreFile → ℕ → ℕ → DiskFacts → DiskFacts → Type 0
SeenTorn file at n old new = KnownStep (TornFile file at n) old.seen new.seen

-- a crash leaves this file as a read gives it
abbrev pub IsDurable : StoreFile → DiskFacts → Type 0
IsDurable file facts = (image : Image) → facts.may_leave image → IsSomeAnd facts.seen (λ now. of_file file image ≡ of_file file now)

-- a crash leaves what a read gives
abbrev pub IsClean : DiskFacts → Type 0
IsClean facts = (image : Image) → facts.may_leave image → facts.seen ≡ Some image

-- how many mounts succeeded, as far as the count reaches; the name of the last, and the moment when it was done;
-- how many mounts of each name were refused
pub record Mounts : Type 0 where
  pub count : ℕ
  pub name : Option (List ℕ)
  pub moment : ℕ
  pub refused : List ℕ → ℕ

-- one more succeeded
abbrev pub mounted : Mounts → List ℕ → ℕ → Mounts
mounted mounts name moment = record { count = next_count mounts.count; name = Some name; moment = moment; refused = mounts.refused }

-- none more succeeded, and no other name was refused
pub record NotMounted (name : List ℕ) (old new : Mounts) : Type 0 where
  pub count : new.count ≡ old.count
  pub last : new.name ≡ old.name
  pub moment : new.moment ≡ old.moment
  pub later : old.refused name ≤ new.refused name
  pub others : (other : List ℕ) → other ≢ name → new.refused other ≡ old.refused other
