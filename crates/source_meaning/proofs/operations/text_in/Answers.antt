use Rattle.std.proofs.Common.{◌≡◌, ◌∙◌, [], rules}
use Rattle.std.proofs.lemmas.Str.{chars-nil}
use Rattle.program_meaning.specs.Operations.{text_of}
use Rattle.source_meaning.proofs.operations.text_in.Goals as goal

pub returns-in-Int : goal.returns-in-Int
returns-in-Int c = let e : [] ≡ text_of c.args.value.now = search rules in chars-nil ∙ e
