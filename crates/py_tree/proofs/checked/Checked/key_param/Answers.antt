use Rattle.std.proofs.Common.{◌∙◌, sym, ap, subst}
use Rattle.std.specs.Prelude.{option_map}
use Rattle.py_tree.specs.CheckedViews.{checked_program, checked_names}
use Rattle.py_tree.specs.Acceptance.{members_at}
use Rattle.py_tree.specs.ClassIndices.{Keeps}
use Rattle.py_tree.proofs.IndexLaws.{no_key}
use Rattle.py_tree.proofs.checked.Checked.key_param.Goals as goal

pub returns-in_err-index : goal.returns-in_err-index
returns-in_err-index c =
    let me = c.args.self.now in
    let members = members_at (checked_program me) c.args.class in
    c.from_residual.ensures ∙ sym (ap (option_map (λ k. k.param)) (no_key (checked_names me) members (subst (Keeps (checked_names me) members) c.in_err-index.was c.index.ensures)))
