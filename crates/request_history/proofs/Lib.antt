pub mod RepeatLaws
pub mod HistoryLaws
pub mod IdLaws
