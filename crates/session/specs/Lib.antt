pub mod OutputText
pub mod Standings
pub mod Stops
pub mod Answering
pub mod Served
pub mod SerialOutput
pub mod AnswersFit
