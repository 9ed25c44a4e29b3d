-- Code that breaks no rule reads of its locals those that are surely assigned.
use Rattle.std.proofs.Common.{List, []}
use Rattle.py_tree.specs.PlainTypes.{TNil}
use Rattle.py_tree.specs.FlowEnvironment.{PlainLocal}
use Rattle.py_tree.specs.Flow.{Way, env_of}
use Rattle.program_meaning.specs.World.{Ends}
use Rattle.assigned_locals.specs.AssignedLocals.{EndsAgree, go, return, break, continue, fail, ExpressionsReadAssigned, ArgumentsReadAssigned, StatementsReadAssigned}
use Rattle.assigned_locals.proofs.SureNames.{sure, agree_sure, sure_agree}
use Rattle.assigned_locals.proofs.ExpressionsRead.{eval_reads, all_read}
use Rattle.assigned_locals.proofs.StatementsRead as meet
use Rattle.assigned_locals.proofs.StatementsRead.{EndsMeet, acts_meet}

pub expressions : {W : Type 0} → ExpressionsReadAssigned W
expressions c locals wanted e ty h s us vs a w n = eval_reads s c.tables us vs e (env_of c locals) wanted ty h (agree_sure locals us vs a) w n

pub every_argument : {W : Type 0} → ArgumentsReadAssigned W
every_argument c locals args params count h s us vs a w n = all_read s c.tables us vs args (env_of c locals) params TNil TNil count h (agree_sure locals us vs a) [] w n

ends_agree : {W : Type 0} (before : List PlainLocal) (after : Way) (d e : Ends W) → EndsMeet (sure before) after d e → EndsAgree before after.locals d e
ends_agree before after _ _ (meet.go {us = us} {vs = vs} k a) = go (sure_agree after.locals us vs a)
ends_agree before after _ _ meet.return = return
ends_agree before after _ _ (meet.break {us = us} {vs = vs} k m) = break (sure_agree before us vs k)
ends_agree before after _ _ (meet.continue {us = us} {vs = vs} k) = continue (sure_agree before us vs k)
ends_agree before after _ _ (meet.fail {us = us} {vs = vs} k) = fail (sure_agree before us vs k)

pub statements : {W : Type 0} → StatementsReadAssigned W
statements c before after xs h s us vs a w n = ends_agree before.locals after _ _ (acts_meet s xs (sure before.locals) c before after h us vs (agree_sure before.locals us vs a) (agree_sure before.locals us vs a) w n)
