use Rattle.sf_list.proofs.CopyLaws.{equal_copies}
use Rattle.sf_value.proofs.value.RecordTryClone.try_clone.Goals as goal

pub returns : goal.returns
returns c = λ i. record { fields = equal_copies _ _ c.in_ok-try_clone.ensures i }
