use Rattle.json_texts.proofs.ReadBack.{read_again}
use Rattle.json_texts.proofs.TextBytes.{text_utf8, text_visible}
use Rattle.json_texts.proofs.plain_texts.Goals as goal

pub returns : goal.returns
returns c = record { back = read_again; utf8 = text_utf8; lines = text_visible }
