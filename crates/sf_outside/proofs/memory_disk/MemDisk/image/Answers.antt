use Rattle.std.proofs.Common.{ap, take}
use Rattle.sf_outside.specs.DiskCalls.{Leaves, files_after, facts_after}
use Rattle.sf_outside.specs.DiskFiles.{FilesRoom}
use Rattle.sf_outside.specs.Images.{IsLongest}
use Rattle.sf_outside.proofs.ImageLaws.{begun_has, image_left, image_longest}
use Rattle.sf_outside.proofs.memory_disk.MemDisk.image.Goals as goal

pub returns-clause-left : goal.returns-clause-left
returns-clause-left c =
    let start = c.args.self.now.start in
    let calls = take c.args.moment c.args.self.now.calls in
    begun_has (Leaves (files_after start calls)) c.begun.result 1048576 10000 c.args.fill start c.in_ok-left.left.image calls (image_left c.args.fill start calls)
    (ap (λ (files : FilesRoom). files.image) c.in_ok-left.ensures) c.begun.ensures

pub returns-clause-longest : goal.returns-clause-longest
returns-clause-longest c =
    let start = c.args.self.now.start in
    let calls = take c.args.moment c.args.self.now.calls in
    begun_has (IsLongest (facts_after start calls)) c.begun.result 1048576 10000 c.args.fill start c.in_ok-left.left.image calls (image_longest c.args.fill start calls)
    (ap (λ (files : FilesRoom). files.image) c.in_ok-left.ensures) c.begun.ensures
