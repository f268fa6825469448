pub mod Appends
pub mod Misses
pub mod Puts
pub mod Seen
