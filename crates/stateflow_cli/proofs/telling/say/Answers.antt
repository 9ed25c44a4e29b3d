use Rattle.stateflow_cli.proofs.telling.say.Goals as goal

pub returns-in-Misused-clause-whole : goal.returns-in-Misused-clause-whole
returns-in-Misused-clause-whole g c = rw c.in-Misused.is c.write.ensures.whole

pub returns-in-Misused-clause-part : goal.returns-in-Misused-clause-part
returns-in-Misused-clause-part g c = rw c.in-Misused.is c.write.ensures.part

pub returns-in-FileFault-clause-whole : goal.returns-in-FileFault-clause-whole
returns-in-FileFault-clause-whole g c = rw c.in-FileFault.is c.write-in-FileFault.ensures.whole

pub returns-in-FileFault-clause-part : goal.returns-in-FileFault-clause-part
returns-in-FileFault-clause-part g c = rw c.in-FileFault.is c.write-in-FileFault.ensures.part
