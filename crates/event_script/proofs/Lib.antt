pub mod Faults
pub mod Along
pub mod Ranges
pub mod Order
