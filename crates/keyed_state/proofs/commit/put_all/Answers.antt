use Rattle.std.proofs.Common.{◌+◌, ◌∙◌, drop}
use Rattle.indexmap.specs.IndexMap.{spare}
use Rattle.keyed_state.specs.Contents.{contents_of}
use Rattle.keyed_state.proofs.PlaceLaws.{room_here, one_done, next_place}
use Rattle.keyed_state.proofs.commit.put_all.Goals as goal

pub put_written-requires : goal.put_written-requires
put_written-requires c =
    room_here c.loop-place.works (drop c.loop-place.place-index c.args.committed.now) (drop (c.loop-place.place-index + 1) c.args.committed.now) _ c.at_mut.result.now
    (next_place c.args.committed.now c.loop-place.place-index c.loop-place-test.true) c.at_mut.ensures.value (spare c.loop-place.records) c.loop-place.invariant.room

pub loop-place-preserved : goal.loop-place-preserved
loop-place-preserved c =
    let done = one_done c.loop-place.works (drop c.loop-place.place-index c.args.committed.now) (drop (c.loop-place.place-index + 1) c.args.committed.now) _ c.at_mut.result.now
    (next_place c.args.committed.now c.loop-place.place-index c.loop-place-test.true) c.at_mut.ensures.value (contents_of c.loop-place.records.entries) (contents_of c.put_written.new.records.entries) c.put_written.new.work
    (spare c.loop-place.records) (spare c.put_written.new.records) c.put_written.ensures.contents c.put_written.ensures.room c.loop-place.invariant.places c.loop-place.invariant.room in
    record { contents = done.contents ∙ c.loop-place.invariant.contents; room = done.room; places = done.places }
