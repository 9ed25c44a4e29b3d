use Rattle.std.proofs.Common.{◌∙◌, sym, ap, subst}
use Rattle.py_tree.specs.CheckedViews.{checked_program, checked_names}
use Rattle.py_tree.specs.Acceptance.{members_at}
use Rattle.py_tree.specs.ClassIndices.{Keeps}
use Rattle.py_tree.proofs.IndexLaws.{no_fields}
use Rattle.py_tree.proofs.checked.Checked.fields.Goals as goal

pub returns-in-None : goal.returns-in-None
returns-in-None c =
    let me = c.args.self.now in
    let members = members_at (checked_program me) c.args.class in
    sym (no_fields (checked_names me) members (subst (Keeps (checked_names me) members) c.in-None.is c.index.ensures))
