pub mod Acts
pub mod Modes
pub mod Claiming
pub mod Laws
