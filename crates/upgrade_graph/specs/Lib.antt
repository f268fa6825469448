pub mod Sorting
pub mod Order
pub mod Ranks
pub mod Tables
pub mod Upgrades
pub mod Placed
pub mod Laws
