use Rattle.sf_list.proofs.CopyLaws.{equal_copies}
use Rattle.sf_value.proofs.ActTryClone.try_clone.Goals as goal

pub returns-in_ok-try_clone-in-Call-2 : goal.returns-in_ok-try_clone-in-Call-2
returns-in_ok-try_clone-in-Call-2 c = cc (c.in_ok-try_clone-in-Call.ensures, equal_copies _ _ c.in_ok-try_clone-in-Call-2.ensures, c.in-Call.is)

pub returns-in_ok-try_clone-in-New : goal.returns-in_ok-try_clone-in-New
returns-in_ok-try_clone-in-New c = cc (equal_copies _ _ c.in_ok-try_clone-in-New.ensures, c.in-New.is)
