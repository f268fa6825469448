pub mod Fencing
pub mod Extending
pub mod Holding
