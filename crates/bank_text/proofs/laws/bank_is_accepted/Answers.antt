use Rattle.bank_text.proofs.BankText.{bank_is_accepted, bank_has_no_fault}
use Rattle.bank_text.proofs.laws.bank_is_accepted.Goals as goal

pub returns : goal.returns
returns c = record { accepted = bank_is_accepted; no_fault = bank_has_no_fault }
