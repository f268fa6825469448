pub mod Trails
pub mod Kept
pub mod Rows
pub mod Scans
