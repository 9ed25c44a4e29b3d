-- A batch commits, and replies to, at most as many requests as wait, and leaves fewer.
use Rattle.std.proofs.Common.{◌≡◌, ℕ, ◌+◌, ◌≤◌, ◌<◌, List, [], ◌∷◌, ◌++◌, length, Option, None, Some, ap, ◌∙◌, arith}
use Rattle.std.specs.List.{range_with_len, slice_get, cons_option}
use Rattle.std.proofs.lemmas.List.{length-append}
use Rattle.std.proofs.lemmas.List.FromFn.{length-range_with_len}
use Rattle.std.proofs.lemmas.List.Sorted.{length_permutation}
use Rattle.sf_value.specs.declared.Request.{Request}
use Rattle.batch_output.specs.Vocabulary.{Engine, Planned, Core, core_of, source_of, requests_at, other_places, IsSplit, after_batch, IsPlanOf}
use Rattle.batch_output.proofs.Vocabulary.{places_count}
use Rattle.batch_replies.proofs.ReplyLaws.{length-replies_from}

-- each request that waits is committed or waits on
all_places : (core : Core) (committed : List ℕ) → IsSplit core committed → length committed + length (other_places (length core.pending) committed) ≡ length core.pending
all_places core committed split =
    let others = other_places (length core.pending) committed in
    let once = length_permutation (range_with_len 0 (length core.pending)) (committed ++ others) split in
    let parts = length-append committed others in
    let all = length-range_with_len 0 (length core.pending) in
    omega arith

pub few_committed : (core : Core) (committed : List ℕ) → IsSplit core committed → length committed ≤ length core.pending
few_committed core committed split = let all = all_places core committed split in omega arith

one_more : (found : Option Request) (requests : List Request) → length (cons_option found requests) ≤ length requests + 1
one_more None requests = omega arith
one_more (Some r) requests = omega arith

few_at : (requests : List Request) (places : List ℕ) → length (requests_at requests places) ≤ length places
few_at requests [] = omega arith
few_at requests (place ∷ places) =
    let more = one_more (slice_get requests place) (requests_at requests places) in
    let others = few_at requests places in
    omega arith

-- where one is committed fewer wait on
pub fewer_left : (e : Engine) (p : Planned) → IsPlanOf e p → 1 ≤ length p.batch.committed → length (after_batch (source_of e) (core_of e) p.batch.committed).pending < length (core_of e).pending
fewer_left e p plan some =
    let core = core_of e in
    let all = all_places core p.batch.committed plan.made.once in
    let few = few_at core.pending (other_places (length core.pending) p.batch.committed) in
    omega arith

pub few_replies : (e : Engine) (p : Planned) → IsPlanOf e p → length p.replies ≤ length (core_of e).pending
few_replies e p plan =
    let told = ap length plan.told.replies ∙ length-replies_from (length (core_of e).history + 1) p.moves.entries in
    let count = places_count e p plan in
    omega arith
