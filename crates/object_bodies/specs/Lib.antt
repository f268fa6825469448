pub mod Faults
pub mod Fields
pub mod Heads
pub mod Statuses
pub mod Bodies
pub mod Laws
