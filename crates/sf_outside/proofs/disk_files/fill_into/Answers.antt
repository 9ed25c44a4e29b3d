use Rattle.std.proofs.Common.{◌≡◌, ◌+◌, ◌-◌, ◌<◌, ◌≤◌, ℕ, List, length, take, drop, replicate, min, max, ap, ◌∙◌, arith, rules}
use Rattle.std.proofs.lemmas.Grind.{common_steps}
use Rattle.std.proofs.lemmas.Bool.Decides.{nat_tests}
use Rattle.std.proofs.lemmas.List.{places, length-replicate, length-take-le}
use Rattle.sf_outside.specs.DiskModel.{written, written_end}
use Rattle.sf_outside.proofs.FileRooms.{room_written, room_zeros, mid_written}
use Rattle.sf_outside.proofs.disk_files.fill_into.Goals as goal

pub returns-clause-zeros : goal.returns-clause-zeros
returns-clause-zeros c =
    let from = c.min-from.result in
    let end = c.args.at + c.args.n in
    let bytes : List ℕ = replicate (end - from) c.args.fill in
    let some : 0 < c.args.n = grind (arith, common_steps) in
    let early : from ≤ c.args.at = grind (arith, common_steps) in
    let long : length bytes ≡ end - from = length-replicate {A = ℕ} (end - from) c.args.fill in
    let same : c.fill.new.self ≡ bytes = search (rules, places) in
    let is = mid_written c.args.room.now bytes c.fill.new.self from (end - from) (omega (arith, c.requires.fits, early)) long same in
    let most : c.max.result ≡ max c.args.len (from + length bytes) = grind (arith, common_steps, long, early) in
    let fits : from + length bytes ≤ length c.args.room.now = omega (arith, c.requires.fits, long, early) in
    ap (drop c.max.result) is ∙ room_zeros c.args.room.now c.args.len from bytes c.requires.within fits c.requires.zeros c.max.result most

pub returns-clause-filled : goal.returns-clause-filled
returns-clause-filled c =
    let from = c.min-from.result in
    let end = c.args.at + c.args.n in
    let bytes : List ℕ = replicate (end - from) c.args.fill in
    let some : 0 < c.args.n = grind (arith, common_steps) in
    let early : from ≤ c.args.at = grind (arith, common_steps) in
    let long : length bytes ≡ end - from = length-replicate {A = ℕ} (end - from) c.args.fill in
    let same : c.fill.new.self ≡ bytes = search (rules, places) in
    let is = mid_written c.args.room.now bytes c.fill.new.self from (end - from) (omega (arith, c.requires.fits, early)) long same in
    let most : c.max.result ≡ max c.args.len (from + length bytes) = grind (arith, common_steps, long, early) in
    let fits : from + length bytes ≤ length c.args.room.now = omega (arith, c.requires.fits, long, early) in
    let front = take c.args.len c.args.room.now in
    let whole : length front ≡ c.args.len = length-take-le c.args.len c.args.room.now c.requires.within in
    let from_is : from ≡ min c.args.at (length front) = grind (arith, common_steps, whole) in
    let end_is : end ≡ written_end c.args.at c.args.n = grind (arith, nat_tests, some) in
    ap (take c.max.result) is
    ∙ room_written c.args.room.now c.args.len from bytes c.requires.within fits c.requires.zeros c.max.result most (omega (arith, long, some, early))
    ∙ (λ i. written front (from_is i) (replicate (end_is i - from_is i) c.args.fill))
