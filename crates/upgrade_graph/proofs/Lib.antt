mod Lists
mod Chains
mod Keyed
pub mod Sorts
mod Ranked
mod Checked
mod Ordered
mod Nearer
pub mod Placing
pub mod Once
mod Positions
mod Following
