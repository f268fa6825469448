pub mod States
pub mod Outcomes
pub mod Acting
pub mod Settling
pub mod Leasing
pub mod Runs
pub mod Laws
