pub mod Picks
pub mod Answers
pub mod Verdicts
