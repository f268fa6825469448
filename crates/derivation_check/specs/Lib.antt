pub mod Marked
pub mod Scan
pub mod Members
pub mod Faults
pub mod Denials
pub mod Checking
pub mod Laws
