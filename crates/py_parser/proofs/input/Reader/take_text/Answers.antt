use Rattle.std.proofs.Common.{ap, sym, ◌∙◌}
use Rattle.py_tree.specs.Reading.{sees_str}
use Rattle.py_parser.proofs.Places.{are_of, reading_passes, first-string, string-some}
use Rattle.py_parser.proofs.input.Reader.take_text.Goals as goal

pub literal_text-requires-clause-tokens_of : goal.literal_text-requires-clause-tokens_of
literal_text-requires-clause-tokens_of c = are_of c.self.inside.text.now c.self.inside.tokens.now c.self.inside.lines.now c.self.inside.names c.self.invariant

pub invariant_of-self-2 : goal.invariant_of-self-2
unfolding sees_str
invariant_of-self-2 c =
    let string = sym (first-string c.self.inside.text.now c.self.inside.tokens.now) ∙ ap sees_str c.self.view_is ∙ c.requires in
    reading_passes c.self.inside.text.now c.self.inside.tokens.now c.self.inside.lines.now c.self.inside.names c.numbered.new.names c.self.invariant (string-some c.self.inside.tokens.now string) c.numbered.ensures.grown
