pub mod AnswerLaws
pub mod WantLaws
pub mod KindViews
pub mod KindLaws
pub mod InRow
