pub mod Answers
pub mod Grants
pub mod Leases
pub mod Order
