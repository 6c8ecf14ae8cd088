pub mod AnswerBlocks
pub mod AnswerBytes
pub mod AnswerData
pub mod Answered
pub mod Numbered
pub mod PlacedAnswers
