use Rattle.stateflow_cli.proofs.telling.say_stop.Goals as goal

pub returns-in-ReadFault-clause-whole : goal.returns-in-ReadFault-clause-whole
returns-in-ReadFault-clause-whole g c = rw c.in-ReadFault.is c.write.ensures.whole

pub returns-in-ReadFault-clause-part : goal.returns-in-ReadFault-clause-part
returns-in-ReadFault-clause-part g c = rw c.in-ReadFault.is c.write.ensures.part

pub returns-in-WriteFault-clause-whole : goal.returns-in-WriteFault-clause-whole
returns-in-WriteFault-clause-whole g c = rw c.in-WriteFault.is c.write-in-WriteFault.ensures.whole

pub returns-in-WriteFault-clause-part : goal.returns-in-WriteFault-clause-part
returns-in-WriteFault-clause-part g c = rw c.in-WriteFault.is c.write-in-WriteFault.ensures.part

pub returns-in-InputTooLong-clause-whole : goal.returns-in-InputTooLong-clause-whole
returns-in-InputTooLong-clause-whole g c = rw c.in-InputTooLong.is c.write-in-InputTooLong.ensures.whole

pub returns-in-InputTooLong-clause-part : goal.returns-in-InputTooLong-clause-part
returns-in-InputTooLong-clause-part g c = rw c.in-InputTooLong.is c.write-in-InputTooLong.ensures.part

pub returns-in-HistoryFull-clause-whole : goal.returns-in-HistoryFull-clause-whole
returns-in-HistoryFull-clause-whole g c = rw c.in-HistoryFull.is c.write-in-HistoryFull.ensures.whole

pub returns-in-HistoryFull-clause-part : goal.returns-in-HistoryFull-clause-part
returns-in-HistoryFull-clause-part g c = rw c.in-HistoryFull.is c.write-in-HistoryFull.ensures.part

pub returns-in-NoMemory-clause-whole : goal.returns-in-NoMemory-clause-whole
returns-in-NoMemory-clause-whole g c = rw c.in-NoMemory.is c.write-in-NoMemory.ensures.whole

pub returns-in-NoMemory-clause-part : goal.returns-in-NoMemory-clause-part
returns-in-NoMemory-clause-part g c = rw c.in-NoMemory.is c.write-in-NoMemory.ensures.part

pub returns-in-DiskFault-clause-whole : goal.returns-in-DiskFault-clause-whole
returns-in-DiskFault-clause-whole g c = rw c.in-DiskFault.is c.write-in-DiskFault.ensures.whole

pub returns-in-DiskFault-clause-part : goal.returns-in-DiskFault-clause-part
returns-in-DiskFault-clause-part g c = rw c.in-DiskFault.is c.write-in-DiskFault.ensures.part
