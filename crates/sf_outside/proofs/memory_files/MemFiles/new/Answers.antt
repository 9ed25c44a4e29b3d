use Rattle.std.proofs.Common.{◌∙◌, []}
use Rattle.sf_outside.proofs.NamedFiles.{listed-next}
use Rattle.sf_outside.proofs.memory_files.MemFiles.new.Goals as goal

pub loop-place-preserved : goal.loop-place-preserved
loop-place-preserved c =
    c.in_ok-push.ensures.items ∙ listed-next (λ name. name.now) (λ bytes. bytes.now) c.args.names.now c.args.contents.now c.loop-place.place record { ref_ptr = (0, 0); now = [] } record { ref_ptr = (0, 0); now = [] }
    c.loop-place.files.items c.in_ok-new.field-0 c.loop-place-test.true c.requires c.loop-place.invariant c.in_ok-new.ensures
