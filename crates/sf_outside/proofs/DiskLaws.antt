-- What holds of every disk: the files of an image, moments that accumulate, and what a sync makes durable.
use Rattle.std.proofs.Common.{◌≡◌, ◌≢◌, inl, inr, ⊎_elim, ℕ, List, length, Some, None, refl, sym, ap, ◌∙◌, subst, arith, IfSome, IsSomeAnd}
use Rattle.std.specs.declared.option.Option.{Option}
use Rattle.sf_outside.specs.declared.store_disk.StoreFile.{StoreFile}
use Rattle.sf_outside.specs.declared.store_disk.StoreFile.TheVariants.{Log0, Log1, Snap0, Snap1, Hist}
use Rattle.sf_outside.specs.DiskModel.{PerFile, Image, DiskFacts, of_file, with_file, written, Torn, TornFile, Elapses, LeavesOnly, Stays, LeavesNoMore, KnownStep, SeenWritten, SeenTorn, IsDurable, IsClean}
use Rattle.sf_outside.specs.ImageSteps.{ComesTorn}

-- the file that was put is there
pub of_file-same : {A : Type 0} (file : StoreFile) (x : A) (things : PerFile A) → of_file file (with_file file x things) ≡ x
of_file-same Log0 x things = refl
of_file-same Log1 x things = refl
of_file-same Snap0 x things = refl
of_file-same Snap1 x things = refl
of_file-same Hist x things = refl

-- and every other is as before
pub of_file-other : {A : Type 0} (file other : StoreFile) (x : A) (things : PerFile A) → other ≢ file → of_file other (with_file file x things) ≡ of_file other things
of_file-other Log0 Log0 x things differs = absurd (differs refl)
of_file-other Log0 Log1 x things differs = refl
of_file-other Log0 Snap0 x things differs = refl
of_file-other Log0 Snap1 x things differs = refl
of_file-other Log0 Hist x things differs = refl
of_file-other Log1 Log0 x things differs = refl
of_file-other Log1 Log1 x things differs = absurd (differs refl)
of_file-other Log1 Snap0 x things differs = refl
of_file-other Log1 Snap1 x things differs = refl
of_file-other Log1 Hist x things differs = refl
of_file-other Snap0 Log0 x things differs = refl
of_file-other Snap0 Log1 x things differs = refl
of_file-other Snap0 Snap0 x things differs = absurd (differs refl)
of_file-other Snap0 Snap1 x things differs = refl
of_file-other Snap0 Hist x things differs = refl
of_file-other Snap1 Log0 x things differs = refl
of_file-other Snap1 Log1 x things differs = refl
of_file-other Snap1 Snap0 x things differs = refl
of_file-other Snap1 Snap1 x things differs = absurd (differs refl)
of_file-other Snap1 Hist x things differs = refl
of_file-other Hist Log0 x things differs = refl
of_file-other Hist Log1 x things differs = refl
of_file-other Hist Snap0 x things differs = refl
of_file-other Hist Snap1 x things differs = refl
of_file-other Hist Hist x things differs = absurd (differs refl)

-- to put what is there changes nothing
pub with_file-same : {A : Type 0} (file : StoreFile) (things : PerFile A) → with_file file (of_file file things) things ≡ things
with_file-same Log0 things = refl
with_file-same Log1 things = refl
with_file-same Snap0 things = refl
with_file-same Snap1 things = refl
with_file-same Hist things = refl

-- the last that was put counts
pub with_file-again : {A : Type 0} (file : StoreFile) (x y : A) (things : PerFile A) → with_file file y (with_file file x things) ≡ with_file file y things
with_file-again Log0 x y things = refl
with_file-again Log1 x y things = refl
with_file-again Snap0 x y things = refl
with_file-again Snap1 x y things = refl
with_file-again Hist x y things = refl

-- what is the same for each file is one
pub same_files : {A : Type 0} (a b : PerFile A) → ((file : StoreFile) → of_file file a ≡ of_file file b) → a ≡ b
same_files a b same =
    ap (λ x. record { log0 = x; log1 = a.log1; snap0 = a.snap0; snap1 = a.snap1; hist = a.hist }) (same Log0)
    ∙ ap (λ x. record { log0 = b.log0; log1 = x; snap0 = a.snap0; snap1 = a.snap1; hist = a.hist }) (same Log1)
    ∙ ap (λ x. record { log0 = b.log0; log1 = b.log1; snap0 = x; snap1 = a.snap1; hist = a.hist }) (same Snap0)
    ∙ ap (λ x. record { log0 = b.log0; log1 = b.log1; snap0 = b.snap0; snap1 = x; hist = a.hist }) (same Snap1)
    ∙ ap (λ x. record { log0 = b.log0; log1 = b.log1; snap0 = b.snap0; snap1 = b.snap1; hist = x }) (same Hist)

-- a torn file is torn in its own bytes
pub TornFile-torn : (file : StoreFile) (at n : ℕ) (old new : Image) → TornFile file at n old new → Torn at n (of_file file old) (of_file file new)
TornFile-torn file at n old new t = subst (Torn at n (of_file file old)) (sym (ap (of_file file) t.image ∙ of_file-same file t.bytes old)) t.torn

-- and every other file is as before
pub TornFile-other : (file other : StoreFile) (at n : ℕ) (old new : Image) → TornFile file at n old new → other ≢ file → of_file other new ≡ of_file other old
TornFile-other file other at n old new t differs = ap (of_file other) t.image ∙ of_file-other file other t.bytes old differs

-- no call yet
pub LeavesOnly-start : (facts : DiskFacts) (P : Image → Type 0) → ((image : Image) → facts.may_leave image → P image) → LeavesOnly facts facts P
LeavesOnly-start facts P here = record {
  later = omega arith;
  each = λ image left. here image (facts.only_now image left);
  before = λ since image le left. inl left;
}

-- one call more, after which a crash leaves what has P
pub LeavesOnly-next : (old between new : DiskFacts) (P : Image → Type 0) → LeavesOnly old between P → Elapses between new → ((image : Image) → new.may_leave image → P image) → LeavesOnly old new P
LeavesOnly-next old between new P so_far time here = record {
  later = omega (arith, so_far.later, time.later);
  each = λ image left. ⊎_elim (so_far.each image) (here image) (time.nothing_else old.moment image so_far.later left);
  before = λ since image le left. ⊎_elim (so_far.before since image le) (λ now. inr (here image now)) (time.nothing_else since image (omega (arith, le, so_far.later)) left);
}

-- a whole run more
pub LeavesOnly-then : (old between new : DiskFacts) (P : Image → Type 0) → LeavesOnly old between P → LeavesOnly between new P → LeavesOnly old new P
LeavesOnly-then old between new P first rest = record {
  later = omega (arith, first.later, rest.later);
  each = λ image left. ⊎_elim (first.each image) (λ has. has) (rest.before old.moment image first.later left);
  before = λ since image le left. ⊎_elim (first.before since image le) (λ has. inr has) (rest.before since image (omega (arith, le, first.later)) left);
}

-- a weaker fact of each image
pub LeavesOnly-weaker : (old new : DiskFacts) (P Q : Image → Type 0) → LeavesOnly old new P → ((image : Image) → P image → Q image) → LeavesOnly old new Q
LeavesOnly-weaker old new P Q leaves weaker = record {
  later = leaves.later;
  each = λ image left. weaker image (leaves.each image left);
  before = λ since image le left. ⊎_elim (λ was. inl was) (λ has. inr (weaker image has)) (leaves.before since image le left);
}

-- each image that a crash left by the end of a run has what all had that it left meanwhile
pub left_now : (old new : DiskFacts) (P : Image → Type 0) → LeavesOnly old new P → (image : Image) → new.may_leave image → P image
left_now old new P leaves image left = leaves.each image (new.counts_now old.moment image leaves.later left)

-- nothing was called
pub Stays-refl : (facts : DiskFacts) → Stays facts facts
Stays-refl facts = record {
  seen = refl;
  images = λ image leaves. leaves;
  time = record { later = omega arith; nothing_else = λ since image le left. inl left; keeps = λ since image le left. left };
}

-- time goes on, and then on
elapses_then : (old between new : DiskFacts) → ((image : Image) → between.may_leave image → old.may_leave image) → Elapses old between → Elapses between new → Elapses old new
elapses_then old between new images first rest = record {
  later = omega (arith, first.later, rest.later);
  nothing_else = λ since image le left. ⊎_elim
      (λ was. ⊎_elim (λ earlier. inl earlier) (λ meanwhile. inl (old.counts_now since image le (images image meanwhile))) (first.nothing_else since image le was))
      (λ last. inr last) (rest.nothing_else since image (omega (arith, le, first.later)) left);
  keeps = λ since image le left. rest.keeps since image (omega (arith, le, first.later)) (first.keeps since image le left);
}

-- calls that change nothing, and more of them
pub Stays-then : (old between new : DiskFacts) → Stays old between → Stays between new → Stays old new
Stays-then old between new first rest = record {
  seen = rest.seen ∙ first.seen;
  images = λ image left. first.images image (rest.images image left);
  time = elapses_then old between new first.images first.time rest.time;
}

-- calls that change nothing leave no more than before
pub LeavesNoMore-stays : (old new : DiskFacts) → Stays old new → LeavesNoMore old new
LeavesNoMore-stays old new stays = record {
  seen = subst (KnownStep (λ before now. old.may_leave now) old.seen) (sym stays.seen) (one_of old.seen old.reads);
  images = stays.images;
  time = stays.time;
}
  where
    one_of : (seen : Option Image) → IfSome seen old.may_leave → KnownStep (λ before now. old.may_leave now) seen seen
    one_of None reads = tt
    one_of (Some now) reads = reads

-- nor do more of those that don't
pub LeavesNoMore-then : (old between new : DiskFacts) → LeavesNoMore old between → LeavesNoMore between new → LeavesNoMore old new
LeavesNoMore-then old between new first rest = record {
  seen = one_of old.seen between.seen new.seen first.seen rest.seen;
  images = λ image left. first.images image (rest.images image left);
  time = elapses_then old between new first.images first.time rest.time;
}
  where
    one_of : (a b c : Option Image) → KnownStep (λ before now. old.may_leave now) a b → KnownStep (λ before now. between.may_leave now) b c → KnownStep (λ before now. old.may_leave now) a c
    one_of None b c one two = tt
    one_of (Some x) None c one two = absurd one
    one_of (Some x) (Some y) None one two = absurd two
    one_of (Some x) (Some y) (Some z) one two = first.images z two

-- an image is one of itself with a file torn
pub TornFile-none : (file : StoreFile) (at n : ℕ) (image : Image) → TornFile file at n image image
TornFile-none file at n image = record {
  bytes = of_file file image;
  torn = record { before = refl; after = refl; no_shorter = omega arith; no_longer = omega arith };
  image = sym (with_file-same file image);
}

-- so a call that changes nothing may stand for a write that failed
pub SeenTorn-stays : (file : StoreFile) (at n : ℕ) (old new : DiskFacts) → Stays old new → SeenTorn file at n old new
SeenTorn-stays file at n old new stays = subst (KnownStep (TornFile file at n) old.seen) (sym stays.seen) (torn_same old.seen)
  where
    torn_same : (seen : Option Image) → KnownStep (TornFile file at n) seen seen
    torn_same None = tt
    torn_same (Some image) = TornFile-none file at n image

-- after calls that leave no more a file is as durable as before
pub IsDurable-no_more : (file : StoreFile) (old new : DiskFacts) → IsDurable file old → LeavesNoMore old new → IsDurable file new
IsDurable-no_more file old new durable fewer image left = as_read old.seen new.seen durable fewer.seen
  where
    as_read : (a b : Option Image) → ((other : Image) → old.may_leave other → IsSomeAnd a (λ now. of_file file other ≡ of_file file now))
        → KnownStep (λ before now. old.may_leave now) a b → IsSomeAnd b (λ now. of_file file image ≡ of_file file now)
    as_read None b each step = absurd (each image (fewer.images image left))
    as_read (Some x) None each step = absurd step
    as_read (Some x) (Some y) each step = each image (fewer.images image left) ∙ sym (each y step)

-- after calls that change nothing a disk is as clean as before
pub IsClean-stays : (old new : DiskFacts) → IsClean old → Stays old new → IsClean new
IsClean-stays old new clean stays image leaves = stays.seen ∙ clean image (stays.images image leaves)

-- a disk is clean where each file is durable
pub IsClean-each : (facts : DiskFacts) → ((file : StoreFile) → IsDurable file facts) → IsClean facts
IsClean-each facts durable image leaves = clean_at facts.seen (λ file. durable file image leaves)
  where
    clean_at : (seen : Option Image) → ((file : StoreFile) → IsSomeAnd seen (λ now. of_file file image ≡ of_file file now)) → seen ≡ Some image
    clean_at None each = absurd (each Log0)
    clean_at (Some now) each = ap Some (sym (same_files image now each))

-- and then each of its files is
pub IsDurable-clean : (file : StoreFile) (facts : DiskFacts) → IsClean facts → IsDurable file facts
IsDurable-clean file facts clean image leaves = subst (λ seen. IsSomeAnd seen (λ now. of_file file image ≡ of_file file now)) (sym (clean image leaves)) refl

-- what a read gives of another file after a write, and so what is durable of it
module _ (file other : StoreFile) (differs : other ≢ file) where
  seen_other : (image : Image) (Step : Image → Image → Type 0) → ((before now : Image) → Step before now → of_file other now ≡ of_file other before) → (old new : Option Image) → KnownStep Step old new
      → IsSomeAnd old (λ now. of_file other image ≡ of_file other now) → IsSomeAnd new (λ now. of_file other image ≡ of_file other now)
  seen_other image Step same None new step was = absurd was
  seen_other image Step same (Some before) None step was = absurd step
  seen_other image Step same (Some before) (Some now) step was = was ∙ sym (same before now step)

  durable_other : (at n : ℕ) (Step : Image → Image → Type 0) → ((before now : Image) → Step before now → of_file other now ≡ of_file other before) → (old new : DiskFacts) → IsDurable other old
      → KnownStep Step old.seen new.seen → LeavesOnly old new (ComesTorn file at n old) → IsDurable other new
  durable_other at n Step same old new durable step moments image leaves =
      let from = left_now old new (ComesTorn file at n old) moments image leaves in
      seen_other image Step same old.seen new.seen step
      (subst (λ bytes. IsSomeAnd old.seen (λ now. bytes ≡ of_file other now)) (sym (TornFile-other file other at n from.0 image from.2 differs)) (durable from.0 from.1))

  pub IsDurable-written : (at : ℕ) (bytes : List ℕ) (old new : DiskFacts) → IsDurable other old → SeenWritten file at bytes old new
      → LeavesOnly old new (ComesTorn file at (length bytes) old) → IsDurable other new
  IsDurable-written at bytes old new durable seen moments =
      durable_other at (length bytes) (λ before now. now ≡ with_file file (written (of_file file before) at bytes) before)
      (λ before now step. ap (of_file other) step ∙ of_file-other file other (written (of_file file before) at bytes) before differs) old new durable seen moments

  pub IsDurable-torn : (at n : ℕ) (old new : DiskFacts) → IsDurable other old → SeenTorn file at n old new → LeavesOnly old new (ComesTorn file at n old) → IsDurable other new
  IsDurable-torn at n old new durable seen moments =
      durable_other at n (TornFile file at n) (λ before now step. TornFile-other file other at n before now step differs) old new durable seen moments

-- a run of calls that leave no more leaves an image from before them
pub LeavesOnly-no_more : (old new : DiskFacts) → LeavesNoMore old new → LeavesOnly old new old.may_leave
LeavesOnly-no_more old new fewer = LeavesOnly-next old old new old.may_leave (LeavesOnly-start old old.may_leave (λ image leaves. leaves)) fewer.time fewer.images

-- so calls that change nothing may stand for a write that isn't whole
pub LeavesOnly-unwritten : (file : StoreFile) (at n : ℕ) (old new : DiskFacts) → Stays old new → LeavesOnly old new (ComesTorn file at n old)
LeavesOnly-unwritten file at n old new stays =
    LeavesOnly-weaker old new old.may_leave (ComesTorn file at n old) (LeavesOnly-no_more old new (LeavesNoMore-stays old new stays)) (λ image left. (image, left, TornFile-none file at n image))

-- and calls that leave no more may follow a run
pub LeavesOnly-and-no_more : (old mid new : DiskFacts) (P : Image → Type 0) → LeavesOnly old mid P → LeavesNoMore mid new → LeavesOnly old new P
LeavesOnly-and-no_more old mid new P moments fewer = LeavesOnly-next old mid new P moments fewer.time (λ image left. left_now old mid P moments image (fewer.images image left))
