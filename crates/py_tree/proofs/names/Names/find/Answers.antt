use Rattle.std.proofs.Common.{ap, sym, ◌∙◌}
use Rattle.std.specs.Prelude.{bytes_eq, string_bytes}
use Rattle.py_tree.specs.NameTable.{place_of}
use Rattle.py_tree.proofs.NameLaws.{position-map}
use Rattle.py_tree.proofs.names.Names.find.Goals as goal

pub returns-in_err-place-clause-place : goal.returns-in_err-place-clause-place
returns-in_err-place-clause-place c = rw c.from_residual.ensures (c.in_err-place.ensures.index ∙ sym (position-map (bytes_eq c.args.text.now) string_bytes c.self.inside.texts.keys) ∙ ap (λ names. place_of names c.args.text.now) c.self.view_is)

pub returns-clause-place : goal.returns-clause-place
returns-clause-place c = c.in_ok-place.ensures.index ∙ sym (position-map (bytes_eq c.args.text.now) string_bytes c.self.inside.texts.keys) ∙ ap (λ names. place_of names c.args.text.now) c.self.view_is
