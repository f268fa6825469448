pub mod Literals
pub mod Reading
pub mod Keeping
pub mod Counting
pub mod Scanning
