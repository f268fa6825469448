pub mod Answers
pub mod FileRuns
pub mod Opens
