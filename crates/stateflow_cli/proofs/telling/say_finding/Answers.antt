use Rattle.stateflow_cli.proofs.telling.say_finding.Goals as goal

pub returns-in-NoStore-clause-whole : goal.returns-in-NoStore-clause-whole
returns-in-NoStore-clause-whole g c = rw c.in-NoStore.is c.write.ensures.whole

pub returns-in-NoStore-clause-part : goal.returns-in-NoStore-clause-part
returns-in-NoStore-clause-part g c = rw c.in-NoStore.is c.write.ensures.part

pub returns-in-TooLong-clause-whole : goal.returns-in-TooLong-clause-whole
returns-in-TooLong-clause-whole g c = rw c.in-TooLong.is c.write-in-TooLong.ensures.whole

pub returns-in-TooLong-clause-part : goal.returns-in-TooLong-clause-part
returns-in-TooLong-clause-part g c = rw c.in-TooLong.is c.write-in-TooLong.ensures.part

pub returns-in-NotSerial-clause-part : goal.returns-in-NotSerial-clause-part
returns-in-NotSerial-clause-part g c = rw c.in-NotSerial.is c.say_number.ensures.part

pub returns-in-BadRun-clause-whole : goal.returns-in-BadRun-clause-whole
returns-in-BadRun-clause-whole g c = rw c.in-BadRun.is c.say_number-in-BadRun.ensures.whole

pub returns-in-BadRun-clause-part : goal.returns-in-BadRun-clause-part
returns-in-BadRun-clause-part g c = rw c.in-BadRun.is c.say_number-in-BadRun.ensures.part
