pub mod Causes
pub mod Chains
pub mod Placing
pub mod Showing
