-- Images that come by steps, and what a read gives after one write and then another.
use Rattle.std.proofs.Common.{◌≡◌, ◌≢◌, ℕ, List, length, take, drop, Some, None, Result, Ok, Err, OnOk, sym, ap, ◌∙◌, subst, IsSome, IsSomeAnd, IfSome, true≢false}
use Rattle.std.specs.declared.option.Option.{Option}
use Rattle.sf_outside.specs.declared.store_disk.StoreFile.{StoreFile}
use Rattle.sf_outside.specs.DiskModel.{Image, DiskFacts, of_file, with_file, written, Torn, TornFile, LeavesOnly, KnownStep, SeenWritten, Stays, LeavesNoMore, IsDurable}
use Rattle.sf_outside.specs.ImageSteps.{ComesTorn, ComesBy}
use Rattle.sf_outside.proofs.DiskLaws.{of_file-same, of_file-other, with_file-same, with_file-again, TornFile-torn, left_now}
use Rattle.sf_outside.proofs.WrittenBytes.{written-stands}

-- what follows from what holds where a call succeeded
pub on_ok : {T E : Type 0} (result : Result T E) (P Q : Type 0) → (P → Q) → OnOk result P → OnOk result Q
on_ok (Ok x) P Q follows here = follows here
on_ok (Err e) P Q follows here = tt

pub on_ok_both : {T E : Type 0} (result : Result T E) (P Q R : Type 0) → (P → Q → R) → OnOk result P → OnOk result Q → OnOk result R
on_ok_both (Ok x) P Q R follows p q = follows p q
on_ok_both (Err e) P Q R follows p q = tt

-- what follows from a fact of a value, where there is one
pub if_one : {A : Type 0} (some : Option A) (P Q : A → Type 0) → ((x : A) → P x → Q x) → IfSome some P → IfSome some Q
if_one None P Q follows p = tt
if_one (Some x) P Q follows p = follows x p

-- what follows from two facts of a value, where there is one
pub if_both : {A : Type 0} (some : Option A) (P Q R : A → Type 0) → ((x : A) → P x → Q x → R x) → IfSome some P → IfSome some Q → IfSome some R
if_both None P Q R follows p q = tt
if_both (Some x) P Q R follows p q = follows x p q

-- what holds of each image holds of what a read gives
pub seen_has : (P : Image → Type 0) (facts : DiskFacts) → ((image : Image) → facts.may_leave image → P image) → IfSome facts.seen P
seen_has P facts each = has facts.seen facts.reads
  where
    has : (seen : Option Image) → IfSome seen facts.may_leave → IfSome seen P
    has None reads = tt
    has (Some now) reads = each now reads

-- ---- steps of one file

-- a torn file comes from where the file came from
pub torn_others : (file : StoreFile) (at n : ℕ) (between image earlier : Image) → between ≡ with_file file (of_file file between) earlier → TornFile file at n between image → image ≡ with_file file (of_file file image) earlier
torn_others file at n between image earlier came torn =
    let there : torn.bytes ≡ of_file file image = sym (ap (of_file file) torn.image ∙ of_file-same file torn.bytes between) in
    torn.image ∙ ap (with_file file torn.bytes) came ∙ with_file-again file (of_file file between) torn.bytes earlier ∙ ap (λ f. with_file file f earlier) there

-- an image that comes torn comes by a step that its torn write makes
pub comes_torn_at : (file : StoreFile) (at n : ℕ) (Step : List ℕ → List ℕ → Type 0) (old : DiskFacts) (image : Image) (torn : ComesTorn file at n old image)
    → (Torn at n (of_file file torn.0) (of_file file image) → Step (of_file file torn.0) (of_file file image)) → ComesBy file Step old image
comes_torn_at file at n Step old image torn follows = record {
  before = torn.0;
  left = torn.1;
  step = follows (TornFile-torn file at n torn.0 image torn.2);
  others = torn.2.image ∙ ap (λ f. with_file file f torn.0) (sym (ap (of_file file) torn.2.image ∙ of_file-same file torn.2.bytes torn.0));
}

-- and by one that each torn write makes
pub comes_torn : (file : StoreFile) (at n : ℕ) (Step : List ℕ → List ℕ → Type 0) (old : DiskFacts) (image : Image) → ((before now : List ℕ) → Torn at n before now → Step before now) → ComesTorn file at n old image → ComesBy file Step old image
comes_torn file at n Step old image follows torn = comes_torn_at file at n Step old image torn (follows (of_file file torn.0) (of_file file image))

-- and by a weaker step
pub comes_weaker : (file : StoreFile) (Step Weaker : List ℕ → List ℕ → Type 0) (old : DiskFacts) (image : Image) → (came : ComesBy file Step old image) → Weaker (of_file file came.before) (of_file file image) → ComesBy file Weaker old image
comes_weaker file Step Weaker old image came step = record { before = came.before; left = came.left; step = step; others = came.others }

-- an image itself comes by a step that leaves the file
pub comes_same : (file : StoreFile) (Step : List ℕ → List ℕ → Type 0) (old : DiskFacts) (image : Image) → ((bytes : List ℕ) → Step bytes bytes) → old.may_leave image → ComesBy file Step old image
comes_same file Step old image same left = record { before = image; left = left; step = same (of_file file image); others = sym (with_file-same file image) }

-- calls that leave no more may come before
pub comes_earlier : (file : StoreFile) (Step : List ℕ → List ℕ → Type 0) (old mid : DiskFacts) (image : Image) → LeavesNoMore old mid → ComesBy file Step mid image → ComesBy file Step old image
comes_earlier file Step old mid image fewer came = record { before = came.before; left = fewer.images came.before came.left; step = came.step; others = came.others }

-- one step after another
pub comes_then : (file : StoreFile) (First Second Both : List ℕ → List ℕ → Type 0) → ((a b c : List ℕ) → First a b → Second b c → Both a c) → (old mid : DiskFacts) (image : Image)
    → ((between : Image) → mid.may_leave between → ComesBy file First old between) → ComesBy file Second mid image → ComesBy file Both old image
comes_then file First Second Both both old mid image so_far came =
    let from = so_far came.before came.left in
    record {
      before = from.before;
      left = from.left;
      step = both (of_file file from.before) (of_file file came.before) (of_file file image) from.step came.step;
      others = came.others ∙ ap (with_file file (of_file file image)) from.others ∙ with_file-again file (of_file file came.before) (of_file file image) from.before;
    }

-- each other file is the same
pub comes_other : (file other : StoreFile) (Step : List ℕ → List ℕ → Type 0) (old : DiskFacts) (image : Image) (came : ComesBy file Step old image) → other ≢ file → of_file other image ≡ of_file other came.before
comes_other file other Step old image came differs = ap (of_file other) came.others ∙ of_file-other file other (of_file file image) came.before differs

-- ---- what was written

-- what a write makes of an image
abbrev pub Writes : StoreFile → ℕ → List ℕ → Image → Image → Type 0
Writes file at bytes before now = now ≡ with_file file (written (of_file file before) at bytes) before

module _ (file : StoreFile) (Fits : List ℕ → Type 0) (p q r : ℕ) (a b whole : List ℕ) (both : (f : List ℕ) → Fits f → written (written f p a) q b ≡ written f r whole) where
  writes_then : (x y z : Image) → Fits (of_file file x) → Writes file p a x y → Writes file q b y z → Writes file r whole x z
  writes_then x y z fits first second =
      let put = written (of_file file x) p a in
      let there : of_file file y ≡ put = ap (of_file file) first ∙ of_file-same file put x in
      second
      ∙ ap (λ f. with_file file (written f q b) y) there
      ∙ ap (with_file file (written put q b)) first
      ∙ with_file-again file put (written put q b) x
      ∙ ap (λ f. with_file file f x) (both (of_file file x) fits)

  seen_at : (old mid new : Option Image) → IfSome old (λ now. Fits (of_file file now)) → KnownStep (Writes file p a) old mid → KnownStep (Writes file q b) mid new → KnownStep (Writes file r whole) old new
  seen_at None mid new fits first second = tt
  seen_at (Some x) None new fits first second = absurd first
  seen_at (Some x) (Some y) None fits first second = absurd second
  seen_at (Some x) (Some y) (Some z) fits first second = writes_then x y z fits first second

  -- two writes that are one
  pub seen_then : (old mid new : DiskFacts) → IfSome old.seen (λ now. Fits (of_file file now)) → SeenWritten file p a old mid → SeenWritten file q b mid new → SeenWritten file r whole old new
  seen_then old mid new fits first second = seen_at old.seen mid.seen new.seen fits first second

-- in an image that is as a read gives it, the bytes stand that were written
pub written_stands : (file : StoreFile) (at : ℕ) (bytes : List ℕ) (old new : Option Image) (image : Image) → IsSome old → KnownStep (Writes file at bytes) old new
    → IsSomeAnd new (λ now. of_file file image ≡ of_file file now) → take (length bytes) (drop at (of_file file image)) ≡ bytes
written_stands file at bytes None new image told step same = absurd (true≢false (sym told))
written_stands file at bytes (Some x) None image told step same = absurd step
written_stands file at bytes (Some x) (Some y) image told step same =
    let put = written (of_file file x) at bytes in
    subst (λ f. take (length bytes) (drop at f) ≡ bytes) (sym (same ∙ ap (of_file file) step ∙ of_file-same file put x)) (written-stands (of_file file x) at bytes)

-- a file that is safe after a write holds what was written, in each image
pub safe_stands : (file : StoreFile) (at : ℕ) (bytes : List ℕ) (old mid new : DiskFacts) → SeenWritten file at bytes old mid → LeavesOnly old mid (ComesTorn file at (length bytes) old) → Stays mid new → IsDurable file new
    → (image : Image) → new.may_leave image → take (length bytes) (drop at (of_file file image)) ≡ bytes
safe_stands file at bytes old mid new put moments stays durable image left =
    let from = left_now old mid (ComesTorn file at (length bytes) old) moments image (stays.images image left) in
    written_stands file at bytes old.seen new.seen image (old.told from.0 from.1) (subst (KnownStep (Writes file at bytes) old.seen) (sym stays.seen) put) (durable image left)
