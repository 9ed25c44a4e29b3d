-- The work of what was buffered, and what a transaction that is over has done.
use Rattle.std.proofs.Common.{◌≡◌, ◌∙◌, Bool, true, false, true≢false, Option, Some, None, List, Result, Ok, Err, refl, sym, ap, subst}
use Rattle.std.specs.Prelude.{IfOk, is_some}
use Rattle.std.specs.declared.alloc.AllocError.{AllocError}
use Rattle.std.specs.Option.{option_or}
use Rattle.std.specs.FinMap as map
use Rattle.std.specs.FinSet as set
use Rattle.sf_value.specs.Keys.{Key, key_cmp}
use Rattle.sf_value.specs.declared.value.Value.{Value}
use Rattle.sf_value.specs.declared.Outcome.TheVariants as outcome
use Rattle.program_meaning.specs.World.{State, World}
use Rattle.keyed_state.specs.declared.Work.{Work}
use Rattle.keyed_state.specs.Works.{keys_of}
use Rattle.block_code.specs.declared.event.EventKind.{EventKind}
use Rattle.block_code.specs.declared.event.EventKind.TheVariants as kind
use Rattle.transaction_buffers.specs.Buffered.{Buffered}
use Rattle.transaction_steps.specs.Transactions.{Transaction}
use Rattle.operator_graph.specs.BufferedWorks.{written, Buffers}
use Rattle.operator_graph.specs.Stepping.{has_failed, kept_writes, IsOfBuffers}
use Rattle.operator_graph.specs.Flights.{IsBuffered}

-- a work that holds the reads alone is of what has failed
pub of_reads : (failed : Bool) (b : Buffered) (r : Result Work AllocError) → failed ≡ true → IfOk r (λ work. keys_of work.reads ≡ b.reads) → IfOk r (λ work. keys_of work.writes ≡ set.empty) → IfOk r (IsOfBuffers failed b)
of_reads failed b (Err e) is reads writes = tt
of_reads failed b (Ok work) is reads writes =
    subst (λ (t : Bool). IsOfBuffers t b work) (sym is) (record { reads = reads; writes = writes; held = λ q there. absurd (true≢false (sym there ∙ set.contains-empty key_cmp q)) })

-- what counts as written is the same in both worlds
same_written : (w : World) (b : Buffered) (k : EventKind) → w.writes ≡ b.writes → written w k ≡ kept_writes (has_failed k) b
same_written w b (kind.Enter to method args) same = same
same_written w b (kind.Make to args) same = same
same_written w b (kind.Resume o) same = same
same_written w b (kind.Done (outcome.Value v)) same = same
same_written w b (kind.Done (outcome.Failed f)) same = refl

-- what counts as written was written
was_written : (failed : Bool) (b : Buffered) (q : Key) → set.contains (kept_writes failed b) q ≡ true → set.contains b.writes q ≡ true
was_written true b q there = absurd (true≢false (sym there ∙ set.contains-empty key_cmp q))
was_written false b q there = there

-- an own record is the one that is seen
pub own_is_seen : (own other : Option (List Value)) → is_some own ≡ true → option_or own other ≡ own
own_is_seen None other none = absurd (true≢false (sym none))
own_is_seen (Some fields) other some = refl

pub work_has_it : (snapshot : State) (t : Transaction) (b : Buffered) (k : EventKind) (work : Work) → t.next.kind ≡ k → IsBuffered snapshot t.world b → IsOfBuffers (has_failed k) b work → Buffers t work
work_has_it snapshot t b k work is own of =
    let same : written t.world t.next.kind ≡ kept_writes (has_failed k) b = ap (written t.world) is ∙ same_written t.world b k own.writes in
    record {
      reads = of.reads ∙ sym own.reads;
      writes = of.writes ∙ sym same;
      records = λ q there.
          let kept : set.contains (kept_writes (has_failed k) b) q ≡ true = ap (λ keys. set.contains keys q) (sym same) ∙ there in
          of.held q kept ∙ sym (own_is_seen (map.get b.own q) (map.get snapshot q) (own.own q (was_written (has_failed k) b q kept))) ∙ sym (own.state q);
    }
