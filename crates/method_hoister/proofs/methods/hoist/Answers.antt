use Rattle.std.proofs.Common.{◌≡◌, length, map, ap, ◌∙◌}
use Rattle.py_tree.specs.PlainStatements.{stmts_of}
use Rattle.py_tree.specs.CheckedViews.{checked_program, checked_names}
use Rattle.py_tree.specs.ClassRules.{body_of}
use Rattle.py_tree.specs.Flow.{in_method, sig_at}
use Rattle.call_graph.specs.SuspendingCode.{leaving_in}
use Rattle.block_code.specs.GraphFits.{var_of_param}
use Rattle.hoisting.specs.Stages.{params_of_sig}
use Rattle.hoisting.specs.HoistStatements.{flat_all}
use Rattle.hoisting.proofs.MethodStands.{class_of_method, sig_stands}
use Rattle.method_hoister.specs.StatementViews.{plain_flattened}
use Rattle.method_hoister.proofs.methods.hoist.Goals as goal

pub returns : goal.returns
returns c =
    let p = c.args.program.now in
    let class = c.args.class in
    let method = c.args.method in
    λ m is.
    let stands = sig_stands (checked_names p) (checked_program p) class method m (class_of_method (checked_names p) (checked_program p) class method m is) in
    let params = c.in_ok-params.ensures ∙ ap (λ s. map var_of_param (params_of_sig s)) (ap (λ t. sig_at t class method) c.requires.tables ∙ stands) in
    let body : plain_flattened c.in_ok-body.body ≡ _ =
    c.in_ok-body.ensures
    ∙ (λ j. flat_all (leaving_in p c.args.calls.now class) (in_method (c.requires.tables j) class method) (stmts_of ((c.body_of.ensures ∙ ap body_of is) j)) (record { locals = c.in_ok-locals.ensures m is j; next = (c.count.ensures.count ∙ ap length c.names.ensures) j })) in
    λ j. record { params = params j; body = (body j).code }
