pub mod Answers
pub mod Asked
pub mod Reasons
pub mod Wishes
