use Rattle.stateflow_cli.proofs.telling.say_unopened.Goals as goal

pub returns-in-DiskFault-clause-whole : goal.returns-in-DiskFault-clause-whole
returns-in-DiskFault-clause-whole g c = rw c.in-DiskFault.is c.write.ensures.whole

pub returns-in-DiskFault-clause-part : goal.returns-in-DiskFault-clause-part
returns-in-DiskFault-clause-part g c = rw c.in-DiskFault.is c.write.ensures.part

pub returns-in-OtherProgram-clause-whole : goal.returns-in-OtherProgram-clause-whole
returns-in-OtherProgram-clause-whole g c = rw c.in-OtherProgram.is c.write-in-OtherProgram.ensures.whole

pub returns-in-OtherProgram-clause-part : goal.returns-in-OtherProgram-clause-part
returns-in-OtherProgram-clause-part g c = rw c.in-OtherProgram.is c.write-in-OtherProgram.ensures.part

pub returns-in-NoMemory-clause-whole : goal.returns-in-NoMemory-clause-whole
returns-in-NoMemory-clause-whole g c = rw c.in-NoMemory.is c.write-in-NoMemory.ensures.whole

pub returns-in-NoMemory-clause-part : goal.returns-in-NoMemory-clause-part
returns-in-NoMemory-clause-part g c = rw c.in-NoMemory.is c.write-in-NoMemory.ensures.part
