-- The calls that a log notes, and one more.
use Rattle.std.proofs.Common.{◌≡◌, ℕ, zero, suc, ◌+◌, ◌≤◌, ◌<◌, get_or, List, [], ◌∷◌, ◌++◌, length, take, drop, refl, sym, ap, ◌∙◌, arith, length-drop, append-nil}
use Rattle.std.proofs.lemmas.List.{drop-drop, take-append-le, drop-append-le, length-take-le}
use Rattle.sf_outside.specs.declared.call_log.Note.{Note}
use Rattle.sf_outside.specs.declared.call_log.Note.TheVariants as note
use Rattle.sf_outside.specs.DiskCalls.{Quiet, Write, Sync, Mount}
use Rattle.sf_outside.specs.LogState.{bytes_written}
use Rattle.sf_outside.specs.CallLog.{call_of, calls_of, note_fits, notes_fit, noted_bytes}

pub length-calls_of : (notes : List Note) (bytes : List ℕ) → length (calls_of notes bytes) ≡ length notes
length-calls_of [] bytes = refl
length-calls_of (note.Quiet ∷ notes) bytes = omega (arith, length-calls_of notes bytes)
length-calls_of (note.Write file at len ∷ notes) bytes = omega (arith, length-calls_of notes (drop len bytes))
length-calls_of (note.Sync file ∷ notes) bytes = omega (arith, length-calls_of notes bytes)
length-calls_of (note.Mount ∷ notes) bytes = omega (arith, length-calls_of notes bytes)

pub bytes_written-calls_of : (notes : List Note) (bytes : List ℕ) → noted_bytes notes ≡ length bytes → bytes_written (calls_of notes bytes) ≡ length bytes
bytes_written-calls_of [] bytes all = all
bytes_written-calls_of (note.Quiet ∷ notes) bytes all = bytes_written-calls_of notes bytes all
bytes_written-calls_of (note.Write file at len ∷ notes) bytes all =
    let rest = bytes_written-calls_of notes (drop len bytes) (omega (arith, all, length-drop len bytes)) in
    omega (arith, all, rest, length-drop len bytes, length-take-le len bytes (omega (arith, all)))
bytes_written-calls_of (note.Sync file ∷ notes) bytes all = bytes_written-calls_of notes bytes all
bytes_written-calls_of (note.Mount ∷ notes) bytes all = bytes_written-calls_of notes bytes all

pub noted_bytes-more : (notes more : List Note) → noted_bytes (notes ++ more) ≡ noted_bytes notes + noted_bytes more
noted_bytes-more [] more = omega arith
noted_bytes-more (note.Quiet ∷ notes) more = noted_bytes-more notes more
noted_bytes-more (note.Write file at len ∷ notes) more = omega (arith, noted_bytes-more notes more)
noted_bytes-more (note.Sync file ∷ notes) more = noted_bytes-more notes more
noted_bytes-more (note.Mount ∷ notes) more = noted_bytes-more notes more

pub calls_of-more : (notes more : List Note) (bytes added : List ℕ) → noted_bytes notes ≡ length bytes → calls_of (notes ++ more) (bytes ++ added) ≡ calls_of notes bytes ++ calls_of more added
calls_of-more [] more [] added all = refl
calls_of-more [] more (b ∷ bytes) added all = absurd (omega (arith, all))
calls_of-more (note.Quiet ∷ notes) more bytes added all = ap (λ calls. Quiet ∷ calls) (calls_of-more notes more bytes added all)
calls_of-more (note.Write file at len ∷ notes) more bytes added all =
    let within : len ≤ length bytes = omega (arith, all) in
    ap (λ l. Write file at l ∷ calls_of (notes ++ more) (drop len (bytes ++ added))) (take-append-le len bytes added within)
    ∙ ap (λ l. Write file at (take len bytes) ∷ calls_of (notes ++ more) l) (drop-append-le len bytes added within)
    ∙ ap (λ calls. Write file at (take len bytes) ∷ calls) (calls_of-more notes more (drop len bytes) added (omega (arith, all, length-drop len bytes)))
calls_of-more (note.Sync file ∷ notes) more bytes added all = ap (λ calls. Sync file ∷ calls) (calls_of-more notes more bytes added all)
calls_of-more (note.Mount ∷ notes) more bytes added all = ap (λ calls. Mount ∷ calls) (calls_of-more notes more bytes added all)

-- one call more that adds no bytes
pub calls_of-noted : (notes more : List Note) (bytes : List ℕ) → noted_bytes notes ≡ length bytes → calls_of (notes ++ more) bytes ≡ calls_of notes bytes ++ calls_of more []
calls_of-noted notes more bytes all = ap (calls_of (notes ++ more)) (sym (append-nil bytes)) ∙ calls_of-more notes more bytes [] all

-- one note more is one call more, with the bytes behind those of the notes before
pub calls_of-next : (notes : List Note) (next : Note) (bytes : List ℕ) → calls_of (notes ++ next ∷ []) bytes ≡ calls_of notes bytes ++ call_of next (drop (noted_bytes notes) bytes) ∷ []
calls_of-next [] note.Quiet bytes = refl
calls_of-next [] (note.Write file at len) bytes = refl
calls_of-next [] (note.Sync file) bytes = refl
calls_of-next [] note.Mount bytes = refl
calls_of-next (note.Quiet ∷ notes) next bytes = ap (λ calls. Quiet ∷ calls) (calls_of-next notes next bytes)
calls_of-next (note.Write file at len ∷ notes) next bytes =
    let rest = drop-drop (noted_bytes notes) len bytes ∙ ap (λ n. drop n bytes) (omega arith) in
    ap (λ calls. Write file at (take len bytes) ∷ calls) (calls_of-next notes next (drop len bytes) ∙ ap (λ left. calls_of notes (drop len bytes) ++ call_of next left ∷ []) rest)
calls_of-next (note.Sync file ∷ notes) next bytes = ap (λ calls. Sync file ∷ calls) (calls_of-next notes next bytes)
calls_of-next (note.Mount ∷ notes) next bytes = ap (λ calls. Mount ∷ calls) (calls_of-next notes next bytes)

-- the first notes are the first calls
pub calls_of-take : (n : ℕ) (notes : List Note) (bytes : List ℕ) → take n (calls_of notes bytes) ≡ calls_of (take n notes) bytes
calls_of-take zero notes bytes = refl
calls_of-take (suc n) [] bytes = refl
calls_of-take (suc n) (note.Quiet ∷ notes) bytes = ap (λ calls. Quiet ∷ calls) (calls_of-take n notes bytes)
calls_of-take (suc n) (note.Write file at len ∷ notes) bytes = ap (λ calls. Write file at (take len bytes) ∷ calls) (calls_of-take n notes (drop len bytes))
calls_of-take (suc n) (note.Sync file ∷ notes) bytes = ap (λ calls. Sync file ∷ calls) (calls_of-take n notes bytes)
calls_of-take (suc n) (note.Mount ∷ notes) bytes = ap (λ calls. Mount ∷ calls) (calls_of-take n notes bytes)

-- and have no more bytes than all
pub noted_bytes-take : (n : ℕ) (notes : List Note) → noted_bytes (take n notes) ≤ noted_bytes notes
noted_bytes-take zero notes = omega arith
noted_bytes-take (suc n) [] = omega arith
noted_bytes-take (suc n) (note.Quiet ∷ notes) = noted_bytes-take n notes
noted_bytes-take (suc n) (note.Write file at len ∷ notes) = omega (arith, noted_bytes-take n notes)
noted_bytes-take (suc n) (note.Sync file ∷ notes) = noted_bytes-take n notes
noted_bytes-take (suc n) (note.Mount ∷ notes) = noted_bytes-take n notes

-- ---- writes that fit

pub notes_fit-more : (room : ℕ) (notes : List Note) (next : Note) → notes_fit room notes → note_fits room next → notes_fit room (notes ++ next ∷ [])
notes_fit-more room [] next all fits = (fits, tt)
notes_fit-more room (first ∷ notes) next all fits = (all.0, notes_fit-more room notes next all.1 fits)

pub notes_fit-at : (room : ℕ) (notes : List Note) (i : ℕ) (none : Note) → notes_fit room notes → i < length notes → note_fits room (get_or notes i none)
notes_fit-at room [] i none all within = absurd (omega (arith, within))
notes_fit-at room (first ∷ notes) zero none all within = all.0
notes_fit-at room (first ∷ notes) (suc i) none all within = notes_fit-at room notes i none all.1 (omega (arith, within))

pub notes_fit-take : (room n : ℕ) (notes : List Note) → notes_fit room notes → notes_fit room (take n notes)
notes_fit-take room zero notes all = tt
notes_fit-take room (suc n) [] all = tt
notes_fit-take room (suc n) (first ∷ notes) all = (all.0, notes_fit-take room n notes all.1)
