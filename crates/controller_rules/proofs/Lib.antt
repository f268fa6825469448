pub mod Allowed
pub mod Resting
