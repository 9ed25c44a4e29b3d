use Rattle.std.proofs.Common.{◌≡◌, true, ap, sym, ◌∙◌, ◌++◌, ◌∷◌}
use Rattle.std.specs.Vec.Iter.{into_iter_items}
use Rattle.program_meaning.specs.Serial.{ids_differ}
use Rattle.request_history.proofs.IdLaws.{new_among, not_kept}
use Rattle.request_history.proofs.history.History.commit_all.Goals as goal

pub commit_in_room-requires-clause-id : goal.commit_in_room-requires-clause-id
commit_in_room-requires-clause-id c =
    let before = c.loop-entry.self.entries in
    let entry = c.in-Some.entry in
    let more = into_iter_items c.next.new.self in
    let ids : ids_differ (before ++ entry ∷ more) ≡ true =
    ap ids_differ (ap (λ l. before ++ l) (sym c.in-Some.ensures.steps.0) ∙ c.loop-entry.invariant.entries) ∙ c.requires.ids in
    not_kept before entry.request.id (new_among before entry more ids)
