use Rattle.std.proofs.Common.{◌≡◌, ap, sym, ◌∙◌, Result, Ok, Err, rules}
use Rattle.std.specs.Prelude.{OnOk}
use Rattle.keyed_state.specs.Contents.{contents_of}
use Rattle.keyed_state.proofs.TableLaws.{insert-contents}
use Rattle.keyed_state.proofs.RecordLaws.{one_put}
use Rattle.keyed_state.proofs.commit.put_if_written.Goals as goal

-- what holds of an Ok that was taken apart
of_ok : {A E : Type 0} (r : Result A E) (P : Type 0) (x : A) → r ≡ Ok x → OnOk r P → P
of_ok (Ok y) P x is p = p
of_ok (Err e) P x is p = cc

pub returns-then-was_written-clause-contents : goal.returns-then-was_written-clause-contents
returns-then-was_written-clause-contents c =
    ap contents_of (of_ok c.insert.result _ c.unwrap.result c.unwrap.ensures c.insert.ensures.entries)
    ∙ insert-contents c.args.records.now.entries c.args.held.at c.args.held.fields
    ∙ sym (one_put c.args.writes.now (contents_of c.args.records.now.entries) c.args.held (search rules))
