use Rattle.std.proofs.Common.{◌≡◌, Some, None, ◌∙◌, sym, ap, subst}
use Rattle.std.specs.Prelude.{slice_get, option_map, option_and_then}
use Rattle.py_tree.specs.PlainProgram.{plain_method}
use Rattle.py_tree.specs.CheckedViews.{checked_program, checked_names}
use Rattle.py_tree.specs.Acceptance.{members_at}
use Rattle.py_tree.specs.ClassIndices.{IsIndex, Keeps}
use Rattle.py_tree.proofs.IndexLaws.{no_init, init_stands}
use Rattle.py_tree.proofs.checked.Checked.init.Goals as goal

pub returns-in_err-index : goal.returns-in_err-index
returns-in_err-index c =
    let me = c.args.self.now in
    let members = members_at (checked_program me) c.args.class in
    ap (option_map (λ m. plain_method m.now)) c.from_residual.ensures ∙ sym (no_init (checked_names me) members (subst (Keeps (checked_names me) members) c.in_err-index.was c.index.ensures))

pub returns-in_err-index-2 : goal.returns-in_err-index-2
returns-in_err-index-2 c =
    let me = c.args.self.now in
    let members = members_at (checked_program me) c.args.class in
    let is : IsIndex (checked_names me) members c.in_ok-index.index.now = subst (Keeps (checked_names me) members) c.in_ok-index.was c.index.ensures in
    ap (option_map (λ m. plain_method m.now)) c.from_residual-in_err-index-2.ensures ∙ ap (option_and_then (slice_get members)) (sym c.in_err-index-2.was) ∙ init_stands (checked_names me) members c.in_ok-index.index.now is

pub returns : goal.returns
returns c =
    let me = c.args.self.now in
    let members = members_at (checked_program me) c.args.class in
    let is : IsIndex (checked_names me) members c.in_ok-index.index.now = subst (Keeps (checked_names me) members) c.in_ok-index.was c.index.ensures in
    c.member.ensures ∙ ap (option_and_then (slice_get members)) (sym c.in_ok-index-2.was) ∙ init_stands (checked_names me) members c.in_ok-index.index.now is
