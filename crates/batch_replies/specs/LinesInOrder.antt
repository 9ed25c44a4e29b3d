-- The lines of replies to requests, one after another.
use Rattle.std.specs.Prelude.{ℕ, List, [], ◌∷◌, Some, None}
use Rattle.std.specs.declared.option.Option.{Option}
use Rattle.sf_value.specs.declared.Reply.{Reply}
use Rattle.sf_value.specs.declared.Request.{Request}
use Rattle.request_json.specs.ReplyLines.{reply_line}

abbrev pub line_for : Request → Reply → List ℕ
line_for request reply = reply_line request.id reply.outcome reply.seq

-- where both are there
abbrev pub line_of : Option Request → Option Reply → Option (List ℕ)
line_of (Some request) (Some reply) = Some (line_for request reply)
line_of None reply = None
line_of (Some request) None = None

-- each request with the reply beside it
abbrev pub reply_lines : List Request → List Reply → List (List ℕ)
reply_lines [] replies = []
reply_lines (request ∷ requests) [] = []
reply_lines (request ∷ requests) (reply ∷ replies) = line_for request reply ∷ reply_lines requests replies
