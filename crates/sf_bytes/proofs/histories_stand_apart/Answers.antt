use Rattle.sf_bytes.proofs.Histories.{history_is_one, history_is_whole, break_is_one, history_stays, history_grows}
use Rattle.sf_bytes.proofs.histories_stand_apart.Goals as goal

pub returns : goal.returns
returns c = record { one = history_is_one; whole = history_is_whole; one_break = break_is_one; stays = history_stays; grows = history_grows }
