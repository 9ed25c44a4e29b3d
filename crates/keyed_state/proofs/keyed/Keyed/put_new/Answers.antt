use Rattle.std.proofs.Common.{◌≡◌, ◌↔◌, ap, ◌∙◌, subst}
use Rattle.std.specs.Prelude.{None, IsTrue}
use Rattle.std.specs.FinMap as finite
use Rattle.sf_value.specs.Keys.{key_of}
use Rattle.keyed_state.specs.Contents.{contents_of}
use Rattle.keyed_state.proofs.TableLaws.{insert-contents, none_there}
use Rattle.keyed_state.proofs.keyed.Keyed.put_new.Goals as goal

pub returns-clause-ok : goal.returns-clause-ok
returns-clause-ok c =
    ap contents_of c.in_ok-before.ensures.entries
    ∙ insert-contents c.self.inside.records.entries c.args.at c.args.held
    ∙ ap (λ s. finite.insert s.contents (key_of c.args.at) c.args.held.fields) c.self.view_is

pub returns-clause-new : goal.returns-clause-new
returns-clause-new c =
    subst (λ s. IsTrue c.is_none.result ↔ (finite.get s.contents (key_of c.args.at) ≡ None)) c.self.view_is
    (none_there c.self.inside.records.entries c.args.at c.in_ok-before.before c.is_none.result c.in_ok-before.ensures.old c.is_none.ensures)
