-- The notes of a log are played one by one.
use Rattle.std.proofs.Common.{◌≡◌, ℕ, suc, min, inl, inr, ◌+◌, ◌-◌, ◌≤◌, ◌<◌, List, [], ◌∷◌, ◌++◌, length, take, drop, refl, sym, ap, ◌∙◌, subst, arith, length-drop, get_or}
use Rattle.std.proofs.lemmas.List.{take_all}
use Rattle.std.proofs.lemmas.Bool.{cases_lt}
use Rattle.std.proofs.Math.Seq.{take-suc}
use Rattle.sf_outside.specs.declared.call_log.Note.{Note}
use Rattle.sf_outside.specs.CallLog.{call_of, calls_of, noted_bytes}
use Rattle.sf_outside.specs.DiskCalls.{files_after, bytes_now}
use Rattle.sf_outside.specs.DiskFiles.{FilesRoom}
use Rattle.sf_outside.specs.DiskModel.{Image, of_file}
use Rattle.sf_outside.specs.Images.{image_after, now_after, left_after, SameLengths}
use Rattle.sf_outside.specs.Replays.{Played}
use Rattle.sf_outside.proofs.ImageLaws.{bytes_now-next, image_after-next, same_lengths-call}
use Rattle.sf_outside.proofs.LogLaws.{calls_of-next, noted_bytes-more, noted_bytes-take}

-- no note yet
pub played_none : (fill : ℕ) (bytes : List ℕ) (began_now began_left : FilesRoom) → began_left.image ≡ began_now.image → Played fill bytes began_now began_left [] 0 began_now began_left
played_none fill bytes began_now began_left alike = record {
  used = refl;
  now = refl;
  left = ap (λ (image : Image). record began_left { image = image }) alike;
  same = record { each = λ file. ap (λ image. length (of_file file image)) (sym alike) };
}

-- one note more
pub played_next : (fill : ℕ) (bytes : List ℕ) (began_now began_left : FilesRoom) (notes : List Note) (used : ℕ) (now left : FilesRoom) → Played fill bytes began_now began_left notes used now left
    → (next : Note) (given : List ℕ) (more : ℕ) (now_new left_new : FilesRoom) → given ≡ drop used bytes → more ≡ noted_bytes (next ∷ [])
    → now_new ≡ record now { image = now_after (call_of next given) now.image } → left_new ≡ record left { image = left_after fill (call_of next given) now.image left.image }
    → Played fill bytes began_now began_left (notes ++ next ∷ []) (used + more) now_new left_new
played_next fill bytes began_now began_left notes used now left so_far next given more now_new left_new is adds now_is left_is =
    let call = call_of next given in
    let calls = calls_of notes bytes in
    let behind : call_of next (drop (noted_bytes notes) bytes) ≡ call = ap (call_of next) (ap (λ n. drop n bytes) (sym so_far.used) ∙ sym is) in
    let all : calls_of (notes ++ next ∷ []) bytes ≡ calls ++ call ∷ [] = calls_of-next notes next bytes ∙ ap (λ last. calls ++ last ∷ []) behind in
    let now_image : now.image ≡ bytes_now (files_after began_now.image calls) = ap (λ (files : FilesRoom). files.image) so_far.now in
    let left_image : left.image ≡ image_after fill began_now.image calls = ap (λ (files : FilesRoom). files.image) so_far.left in
    record {
      used = omega (arith, so_far.used, adds, noted_bytes-more notes (next ∷ []));
      now = now_is
          ∙ ap (λ (files : FilesRoom). record files { image = now_after call now.image }) so_far.now
          ∙ ap (λ (image : Image). record began_now { image = image }) (ap (now_after call) now_image ∙ sym (bytes_now-next began_now.image calls call) ∙ ap (λ l. bytes_now (files_after began_now.image l)) (sym all));
      left = left_is
          ∙ ap (λ (files : FilesRoom). record files { image = left_after fill call now.image left.image }) so_far.left
          ∙ ap (λ (image : Image). record began_left { image = image })
          ((λ i. left_after fill call (now_image i) (left_image i)) ∙ sym (image_after-next fill began_now.image calls call) ∙ ap (image_after fill began_now.image) (sym all));
      same = subst (λ (files : FilesRoom). SameLengths files.image left_new.image) (sym now_is)
          (subst (λ (files : FilesRoom). SameLengths (now_after call now.image) files.image) (sym left_is) (same_lengths-call fill call now.image left.image so_far.same));
    }

-- the notes up to the next one
pub up_to_next : (notes : List Note) (i : ℕ) (none : Note) → i < length notes → take (i + 1) notes ≡ take i notes ++ get_or notes i none ∷ []
up_to_next notes i none within =
    let next : i + 1 ≡ suc i = omega arith in
    ap (λ n. take n notes) next ∙ take-suc notes i none within

-- the bytes of the next one are there
pub next_has_bytes : (notes : List Note) (n i : ℕ) (none : Note) → i < length (take n notes) → noted_bytes (take i (take n notes)) + noted_bytes (get_or (take n notes) i none ∷ []) ≤ noted_bytes notes
next_has_bytes notes n i none within =
    let first = take n notes in
    let more = ap noted_bytes (up_to_next first i none within) ∙ noted_bytes-more (take i first) (get_or first i none ∷ []) in
    omega (arith, more, noted_bytes-take (i + 1) first, noted_bytes-take n notes)

-- all bytes behind a place
pub all_behind : (bytes : List ℕ) (used : ℕ) → take (length bytes - used) (drop used bytes) ≡ drop used bytes
all_behind bytes used = take_all (length bytes - used) (drop used bytes) (omega (arith, length-drop used bytes))

-- as many as there are
pub as_many : {A : Type 0} (n : ℕ) (xs : List A) → take (min n (length xs)) xs ≡ take n xs
as_many n xs = elim (cases_lt n (length xs)) [
  | inl within ↦ let least : min n (length xs) ≡ n = omega (arith, within) in ap (λ k. take k xs) least
  | inr past ↦ let least : min n (length xs) ≡ length xs = omega (arith, past) in
      ap (λ k. take k xs) least ∙ take_all (length xs) xs (omega arith) ∙ sym (take_all n xs (omega (arith, past)))
]
