use Rattle.py_tree.specs.PlainStatements.{plain_stmts, stmts_of}
use Rattle.event_step.proofs.ItemLaws.{code_ends}
use Rattle.event_step.proofs.items.run_code.Goals as goal

pub returns : goal.returns
returns c = code_ends c.args.place.now c.args.running.now (stmts_of (plain_stmts c.args.code.now)) c.in_ok-ended.ended (record { held = c.run_here.new.held; wrote = c.run_here.new.wrote; vars = c.run_here.new.vars; steps = c.run_here.new.steps }) c.in_ok-ended.ensures
