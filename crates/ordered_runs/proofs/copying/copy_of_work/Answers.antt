use Rattle.sf_list.proofs.CopyLaws.{equal_copies}
use Rattle.ordered_runs.proofs.copying.copy_of_work.Goals as goal

pub returns : goal.returns
returns c = λ i. record {
  held = equal_copies _ _ c.in_ok-try_clone.ensures i;
  reads = equal_copies _ _ c.in_ok-try_clone-2.ensures i;
  writes = equal_copies _ _ c.in_ok-try_clone-3.ensures i;
}
