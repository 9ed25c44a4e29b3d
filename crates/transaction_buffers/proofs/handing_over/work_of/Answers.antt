use Rattle.std.proofs.Common.{◌≡◌, ◌∙◌, [], refl, sym}
use Rattle.std.specs.Vec.Iter.{into_iter_items}
use Rattle.std.proofs.lemmas.List.{nil_from_length}
use Rattle.transaction_buffers.specs.HandingOver.{written, records_of}
use Rattle.transaction_buffers.proofs.HandedOverLaws.{refs_of, all_done, handed_over}
use Rattle.transaction_buffers.proofs.handing_over.work_of.Goals as goal

pub returns : goal.returns
returns c =
    let entries = c.args.entities.items in
    let left = into_iter_items c.loop-at.at-iterator in
    let is = c.loop-at.invariant in
    let none : left ≡ [] = nil_from_length left (sym is.count ∙ c.in-None.ensures.steps.0) in
    handed_over entries c.loop-at.work c.requires
    (all_done refs_of c.loop-at.work.reads left entries is.reads none refl)
    (all_done written c.loop-at.work.writes left entries is.writes none refl)
    (all_done records_of c.loop-at.work.held left entries is.held none refl)
