-- What is handed on of an output behind a line.
use Rattle.std.proofs.Common.{◌≡◌, ℕ, List, None, true≢false, Ok, Err, sym, subst}
use Rattle.std.specs.declared.option.Option.{Option}
use Rattle.std.specs.declared.result.Result.{Result}
use Rattle.batch_replies.specs.Flushing.{StaysHanded, Flushes}
use Rattle.batch_replies.specs.declared.counting.BatchCounts.{BatchCounts}
use Rattle.batch_replies.specs.declared.stops.Stop.{Stop}
use Rattle.batch_replies.proofs.FlushLaws.{stays_then}
use Rattle.line_answers.specs.Flushing.{FlushesBatch}
use Rattle.line_answers.specs.LineAnswers.{line_result}

-- no batch was answered
pub stopped_line : (stop : Stop) (a b held : Option (List ℕ)) → StaysHanded a b → FlushesBatch (Err stop) a b held
stopped_line stop a b held stays = record { stays = stays; all = tt }

pub undue_line : (a b held : Option (List ℕ)) → StaysHanded a b → FlushesBatch (Ok None) a b held
undue_line a b held stays = record { stays = stays; all = λ some. absurd (true≢false (sym some)) }

-- what the batch came to, behind what was written at once
due_line : (r : Result BatchCounts Stop) (a b held : Option (List ℕ)) → Flushes r a b held → FlushesBatch (line_result r) a b held
due_line (Ok counts) a b held f = record { stays = f.stays; all = λ some. f.all }
due_line (Err stop) a b held f = record { stays = f.stays; all = tt }

pub line_flushes : (r : Result BatchCounts Stop) (l : Result (Option BatchCounts) Stop) (a b c held : Option (List ℕ)) → l ≡ line_result r → StaysHanded a b
    → Flushes r b c held → FlushesBatch l a c held
line_flushes r l a b c held is stays f =
    let due = due_line r b c held f in
    subst (λ x. FlushesBatch x a c held) (sym is) (record { stays = stays_then a b c stays due.stays; all = due.all })
