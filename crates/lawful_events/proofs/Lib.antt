pub mod Allowed
pub mod Chains
pub mod Keeping
pub mod Ruled
pub mod Running
pub mod Written
