pub mod formers
pub mod Fields
pub mod Kinds
pub mod Names
pub mod Outcome
