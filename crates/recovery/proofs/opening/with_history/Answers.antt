use Rattle.std.proofs.Common.{IfSome, sym, subst}
use Rattle.byte_sizes.specs.Spelt.{IsReadSnapshot}
use Rattle.sf_value.specs.declared.Snapshot.{Snapshot}
use Rattle.recovery.specs.Answers.{HaveBytes}
use Rattle.recovery.specs.StoreImage.{KeepsSnapshot}
use Rattle.recovery.proofs.NamedEntries.{seen_broken, seen_snapshot, snapshot_read}
use Rattle.recovery.proofs.opening.with_history.Goals as goal

pub with_log-requires : goal.with_log-requires
with_log-requires g c =
    let seen = (g.D.Disk.facts c.args.disk.now).seen in
    let epoch = c.args.newest.epoch in
    let head = c.args.newest.head in
    let history = c.in-Ok.history in
    let whole = sym c.snapshot_of.ensures in
    let found = subst (λ kept. IfSome seen (λ now. KeepsSnapshot now epoch kept head.bytes)) whole (seen_snapshot seen epoch head c.requires.newest history c.in-Ok.ensures.answer) in
    record {
      newest = subst (λ seen. IfSome seen (λ now. KeepsSnapshot now epoch c.snapshot_of.result head.bytes)) (sym c.read_history.ensures.stays.seen) found;
      epoch = c.requires.epoch;
      read = subst IsReadSnapshot whole (snapshot_read head history c.requires.read c.in-Ok.ensures.entries.0 c.in-Ok.ensures.entries.1);
      bytes = subst (λ (kept : Snapshot). HaveBytes kept.history head.bytes) whole c.in-Ok.ensures.entries.2;
    }

pub returns-in-Err-clause-answer : goal.returns-in-Err-clause-answer
returns-in-Err-clause-answer g c =
    seen_broken (g.D.Disk.facts c.args.disk.now).seen c.args.newest.epoch c.args.newest.head c.requires.newest c.in-Err.fault c.in-Err.ensures.answer
