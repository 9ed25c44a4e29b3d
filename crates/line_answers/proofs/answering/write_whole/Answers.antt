use Rattle.line_answers.proofs.answering.write_whole.Goals as goal

pub returns-clause-stays : goal.returns-clause-stays
returns-clause-stays g c = (c.write-wrote.ensures.hands.more, c.write-wrote.ensures.hands.grows)
