use Rattle.std.proofs.Common.{◌≤◌, ap, sym, ◌∙◌, ◌++◌, ◌∷◌, [], map as over, length, arith}
use Rattle.std.specs.Option.{option_map}
use Rattle.std.specs.Map.Iter.{deref_pair}
use Rattle.std.proofs.lemmas.List.{take_all}
use Rattle.keyed_state.specs.Works.{entities_differ}
use Rattle.keyed_state.specs.Listing.{held_of}
use Rattle.keyed_state.proofs.TableLaws.{listed_one_more, listed_once}
use Rattle.keyed_state.proofs.listing.copies_of.Goals as goal

pub loop-i-preserved : goal.loop-i-preserved
loop-i-preserved c =
    listed_one_more c.args.records.now.entries c.loop-i.i (c.unwrap.result.0.now, c.unwrap.result.1.now) c.loop-i.all c.push.new.self
    (sym c.get_index.ensures.entry ∙ ap (option_map deref_pair) c.unwrap.ensures) c.loop-i.invariant (c.in_ok-push.ensures.ok ∙ ap (λ h. c.loop-i.all ++ h ∷ []) c.in_ok-copy_of.ensures)

pub returns-clause-once : goal.returns-clause-once
returns-clause-once c =
    let count = c.len-i-end.ensures.len in
    let test = c.loop-i-test.false in
    let all_taken : length c.args.records.now.entries ≤ c.loop-i.i = omega arith in
    ap entities_differ (c.loop-i.invariant ∙ ap (over held_of) (take_all c.loop-i.i c.args.records.now.entries all_taken)) ∙ listed_once c.args.records.now.entries c.len-i-end.ensures.unique
