use Rattle.std.proofs.Common.{◌≡◌, length, ◌+◌, ◌∷◌, [], rules, arith}
use Rattle.sf_bytes.specs.ByteForms.{number_bytes}
use Rattle.sf_outside.specs.DiskModel.{SeenWritten}
use Rattle.request_log.specs.Appends.{behind_gate}
use Rattle.request_log.proofs.Crashes.{staged_length, staged_body, staged_then, seen_reaches}
use Rattle.sf_outside.proofs.ImageSteps.{on_ok}
use Rattle.request_log.proofs.Steps.{seen_behind}
use Rattle.request_log.proofs.appending.put_behind_gate.Goals as goal

pub returns-in_err-write_at-clause-moments : goal.returns-in_err-write_at-clause-moments
returns-in_err-write_at-clause-moments g c =
    staged_length c.args.file c.args.at (g.D.Disk.facts c.args.disk.now) c.requires.closed (g.D.Disk.facts c.write_at.new.self) (length c.to_be_bytes.result) c.write_at.ensures.moments

pub returns-in_err-write_at-2-clause-moments : goal.returns-in_err-write_at-2-clause-moments
returns-in_err-write_at-2-clause-moments g c =
    staged_body c.args.file c.args.at (g.D.Disk.facts c.args.disk.now) c.requires.closed (g.D.Disk.facts c.write_at.new.self) (g.D.Disk.facts c.write_at-2.new.self) (length c.to_be_bytes.result) (length c.args.body.now)
    c.write_at.ensures.moments c.write_at-2.ensures.moments

pub returns-clause-seen : goal.returns-clause-seen
unfolding number_bytes
returns-clause-seen g c =
    let old = g.D.Disk.facts c.args.disk.now in
    let first = g.D.Disk.facts c.write_at.new.self in
    let second = g.D.Disk.facts c.write_at-2.new.self in
    let new = g.D.Disk.facts c.put_synced.new.disk in
    let body = c.args.body.now in
    let header : c.to_be_bytes.result ≡ number_bytes (length body) = search rules in
    on_ok c.put_synced.result (SeenWritten c.args.file (c.args.at + 5 + length body) (0 ∷ []) second new) (SeenWritten c.args.file (c.args.at + 1) (behind_gate body) old new)
    (λ last. seen_behind c.args.file c.args.at body c.to_be_bytes.result old first second new header (seen_reaches c.args.file c.args.at old c.requires.closed) (c.in_ok-write_at.ensures).ok (c.in_ok-write_at-2.ensures).ok last)
    c.put_synced.ensures.seen

pub returns-clause-moments : goal.returns-clause-moments
returns-clause-moments g c =
    let old = g.D.Disk.facts c.args.disk.now in
    let second = g.D.Disk.facts c.write_at-2.new.self in
    let so_far = staged_body c.args.file c.args.at old c.requires.closed (g.D.Disk.facts c.write_at.new.self) second (length c.to_be_bytes.result) (length c.args.body.now)
    c.write_at.ensures.moments c.write_at-2.ensures.moments in
    staged_then c.args.file c.args.at old c.requires.closed second (g.D.Disk.facts c.put_synced.new.disk) (c.args.at + 5 + length c.args.body.now) 1 (omega arith) so_far c.put_synced.ensures.moments
