use Rattle.std.proofs.Common.{sym, ◌∙◌, ap, ◌∷◌, [], length, arith}
use Rattle.keyed_state.specs.Contents.{contents_of}
use Rattle.keyed_state.specs.Works.{with_records}
use Rattle.keyed_state.proofs.RecordLaws.{written, last_taken, last_first, count_of_last}
use Rattle.keyed_state.proofs.commit.put_written.Goals as goal

pub put_if_written-requires : goal.put_if_written-requires
put_if_written-requires c =
    let last = last_taken c.loop-work.work.held c.remove-last.new.self c.is_empty.result c.len.result c.remove-last.result c.is_empty.ensures c.loop-work-test.true c.len.ensures c.remove-last.ensures.value c.remove-last.ensures.rest in
    let count = count_of_last c.loop-work.work.writes c.loop-work.work.held c.remove-last.new.self c.remove-last.result last.is in
    let same = ap (λ writes. length (written writes (c.remove-last.result ∷ []))) c.as_slice.ensures in
    let room = c.loop-work.invariant.room in
    omega arith

pub loop-work-preserved : goal.loop-work-preserved
loop-work-preserved c =
    let last = last_taken c.loop-work.work.held c.remove-last.new.self c.is_empty.result c.len.result c.remove-last.result c.is_empty.ensures c.loop-work-test.true c.len.ensures c.remove-last.ensures.value c.remove-last.ensures.rest in
    let count = count_of_last c.loop-work.work.writes c.loop-work.work.held c.remove-last.new.self c.remove-last.result last.is in
    let same = ap (λ writes. length (written writes (c.remove-last.result ∷ []))) c.as_slice.ensures in
    let room = c.loop-work.invariant.room in
    let used = c.loop-work.invariant.used in
    let left = c.put_if_written.ensures.room in
    record {
      contents =
          ap (λ s. with_records s (written c.loop-work.work.writes c.remove-last.new.self))
          (c.put_if_written.ensures.contents ∙ ap (λ writes. with_records (contents_of c.loop-work.records.entries) (written writes (c.remove-last.result ∷ []))) c.as_slice.ensures)
          ∙ sym (last_first c.loop-work.work.writes (contents_of c.loop-work.records.entries) c.loop-work.work.held c.remove-last.new.self c.remove-last.result last.is)
          ∙ c.loop-work.invariant.contents;
      room = omega arith;
      used = omega arith;
    }
