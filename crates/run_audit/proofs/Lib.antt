mod ReadingLaws
mod JudgingLaws
mod ReplyLaws
mod JudgeSteps
mod AuditLaws
mod FrontsDecide
mod VerdictExamples
