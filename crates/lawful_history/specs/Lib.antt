pub mod Counting
pub mod Installing
pub mod Lawful
pub mod Sound
