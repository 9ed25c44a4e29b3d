use Rattle.std.proofs.Common.{◌∙◌, ◌≡◌, ◌<◌, length, ap, sym, arith}
use Rattle.std.proofs.lemmas.List.{length-map}
use Rattle.reservations.specs.Accesses.{access_of_work, accesses_of}
use Rattle.reservations.proofs.ChoiceLaws.{access_at_work}
use Rattle.batch_reorder.proofs.Turns.{nothing_yet, one_more}
use Rattle.batch_reorder.proofs.rule2.look_at_all.Goals as goal

pub loop-i-init : goal.loop-i-init
loop-i-init c =
    nothing_yet (accesses_of c.args.works.now) c.nothing_before-earlier.result c.no_places-lists.result
    c.nothing_before-earlier.ensures.readers c.nothing_before-earlier.ensures.writers c.nothing_before-earlier.ensures.committed
    c.no_places-lists.ensures.order c.no_places-lists.ensures.carried

pub loop-i-preserved : goal.loop-i-preserved
loop-i-preserved c =
    let same : length (accesses_of c.args.works.now) ≡ length c.args.works.now = length-map c.args.works.now access_of_work in
    let within : c.loop-i.i < length (accesses_of c.args.works.now) = omega arith in
    one_more (accesses_of c.args.works.now) c.loop-i.i within c.index-works-i.result
    (access_at_work c.args.works.now c.loop-i.i c.index-works-i.result c.loop-i-test.true ∙ ap access_of_work (sym c.index-works-i.is))
    c.loop-i.earlier c.look_at.new.earlier c.loop-i.lists c.look_at.new.lists c.loop-i.invariant c.in_ok-look_at.ensures.placed c.in_ok-look_at.ensures.noted
