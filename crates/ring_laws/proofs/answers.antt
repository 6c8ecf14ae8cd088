pub mod TargetAnswers
