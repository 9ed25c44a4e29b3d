use Rattle.command_words.proofs.AskLaws.{read_asks, asked_complete}
use Rattle.command_words.proofs.laws.words_are_read_by_grammar.Goals as goal

pub returns : goal.returns
returns c = λ words a. (read_asks words a, asked_complete words a)
