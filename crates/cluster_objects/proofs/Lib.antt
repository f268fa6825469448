pub mod Ordering
pub mod Stamping
