use Rattle.std.proofs.Common.{◌≡◌, ◌+◌, ◌≤◌, ◌<◌, ◌++◌, ◌∷◌, [], length, vec_len, vec_capacity, ap, arith, length-append}
use Rattle.std.proofs.lemmas.Grind.{common_steps}
use Rattle.sf_outside.specs.CallLog.{calls_of}
use Rattle.sf_outside.proofs.LogLaws.{length-calls_of, bytes_written-calls_of, noted_bytes-more, calls_of-more, notes_fit-more}
use Rattle.sf_outside.proofs.call_log.CallLog.note.Goals as goal

pub unwrap-requires : goal.unwrap-requires
unwrap-requires c =
    let calls = rw (← c.self.view_is) at c.requires.calls in
    let room : vec_len c.self.inside.notes < vec_capacity c.self.inside.notes = grind (arith, common_steps, calls, length-calls_of c.self.inside.notes.items c.self.inside.bytes.items, c.self.invariant.1) in
    c.push.ensures.succeeds room

pub unwrap-requires-2 : goal.unwrap-requires-2
unwrap-requires-2 c =
    let free = rw (← c.self.view_is) at c.requires.room in
    let room : vec_len c.self.inside.bytes + length c.args.bytes.now ≤ vec_capacity c.self.inside.bytes =
    grind (arith, common_steps, free, bytes_written-calls_of c.self.inside.notes.items c.self.inside.bytes.items c.self.invariant.0, c.self.invariant.2, c.self.invariant.3) in
    c.extend_from_slice.ensures.succeeds room

pub invariant_of-self : goal.invariant_of-self
invariant_of-self c =
    let notes : c.push.new.self.items ≡ c.self.inside.notes.items ++ c.args.note ∷ [] = grind (arith, common_steps) in
    let bytes : c.extend_from_slice.new.self.items ≡ c.self.inside.bytes.items ++ c.args.bytes.now = grind (arith, common_steps) in
    let free = rw (← c.self.view_is) at c.requires.room in
    let used = bytes_written-calls_of c.self.inside.notes.items c.self.inside.bytes.items c.self.invariant.0 in (
      rw (notes, bytes) (omega (arith, noted_bytes-more c.self.inside.notes.items (c.args.note ∷ []), c.requires.bytes, c.self.invariant.0, length-append c.self.inside.bytes.items c.args.bytes.now)),
      omega (arith, c.self.invariant.1, c.push.ensures.capacity),
      omega (arith, c.self.invariant.2, c.extend_from_slice.ensures.capacity),
      rw bytes (omega (arith, c.self.invariant.3, free, used, length-append c.self.inside.bytes.items c.args.bytes.now)),
      rw notes (notes_fit-more c.self.inside.room c.self.inside.notes.items c.args.note c.self.invariant.4 (rw (← c.self.view_is) at c.requires.place)),
    )

pub returns : goal.returns
returns c =
    let notes : c.push.new.self.items ≡ c.self.inside.notes.items ++ c.args.note ∷ [] = grind (arith, common_steps) in
    let bytes : c.extend_from_slice.new.self.items ≡ c.self.inside.bytes.items ++ c.args.bytes.now = grind (arith, common_steps) in
    let calls : calls_of c.push.new.self.items c.extend_from_slice.new.self.items ≡ calls_of c.self.inside.notes.items c.self.inside.bytes.items ++ calls_of (c.args.note ∷ []) c.args.bytes.now =
    rw (notes, bytes) (calls_of-more c.self.inside.notes.items (c.args.note ∷ []) c.self.inside.bytes.items c.args.bytes.now c.self.invariant.0) in
    rw (← c.self.view_is) (ap (λ calls. record { calls = calls; limit = c.self.inside.limit; room = c.self.inside.room }) calls)
