pub mod Held
pub mod Scans
pub mod Searching
pub mod Solving
