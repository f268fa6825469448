pub mod Decided
pub mod Denials
pub mod Pairs
pub mod Lists
pub mod Searching
pub mod State
pub mod Naming
