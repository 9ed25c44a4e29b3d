-- The log of a disk in memory: what it notes of each call, and the bytes of all writes one after another.
use Rattle.std.specs.Prelude.{ℕ, ⊤, ◌+◌, ◌≤◌, List, [], ◌∷◌, take, drop}
use Rattle.sf_outside.specs.DiskCalls.{DiskCall, Quiet, Write, Sync, Mount}
use Rattle.sf_outside.specs.declared.call_log.Note.{Note}
use Rattle.sf_outside.specs.declared.call_log.Note.TheVariants as note

-- the call that is noted, a write with the first of these bytes
abbrev pub call_of : Note → List ℕ → DiskCall
call_of note.Quiet bytes = Quiet
call_of (note.Write file at len) bytes = Write file at (take len bytes)
call_of (note.Sync file) bytes = Sync file
call_of note.Mount bytes = Mount

-- the calls, each write with its own bytes
abbrev pub calls_of : List Note → List ℕ → List DiskCall
calls_of [] bytes = []
calls_of (note.Quiet ∷ notes) bytes = Quiet ∷ calls_of notes bytes
calls_of (note.Write file at len ∷ notes) bytes = Write file at (take len bytes) ∷ calls_of notes (drop len bytes)
calls_of (note.Sync file ∷ notes) bytes = Sync file ∷ calls_of notes bytes
calls_of (note.Mount ∷ notes) bytes = Mount ∷ calls_of notes bytes

-- a write that is noted ends within this room
abbrev pub note_fits : ℕ → Note → Type 0
note_fits room note.Quiet = ⊤
note_fits room (note.Write file at len) = at + len ≤ room
note_fits room (note.Sync file) = ⊤
note_fits room note.Mount = ⊤

abbrev pub notes_fit : ℕ → List Note → Type 0
notes_fit room [] = ⊤
notes_fit room (first ∷ notes) = note_fits room first × notes_fit room notes

-- how many bytes the noted writes have
abbrev pub noted_bytes : List Note → ℕ
noted_bytes [] = 0
noted_bytes (note.Quiet ∷ notes) = noted_bytes notes
noted_bytes (note.Write file at len ∷ notes) = len + noted_bytes notes
noted_bytes (note.Sync file ∷ notes) = noted_bytes notes
noted_bytes (note.Mount ∷ notes) = noted_bytes notes
