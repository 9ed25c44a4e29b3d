use Rattle.std.specs.Option.{option_copied}
use Rattle.engine.proofs.CopyLaws.{other_more}
use Rattle.engine.proofs.copying.others_of.Goals as goal

pub loop-i-preserved : goal.loop-i-preserved
loop-i-preserved c =
    other_more c.args.requests.now c.args.places.now c.loop-i.i c.contains-skipped.result (option_copied c.get.result) c.loop-i.copies c.push_unless.new.copies c.contains-skipped.ensures.value c.get.ensures.value c.loop-i.invariant
    c.in_ok-push_unless.ensures
