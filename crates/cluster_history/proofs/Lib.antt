pub mod Seeing
pub mod State
pub mod Sums
pub mod Telling
