pub mod Versions
pub mod Terms
pub mod Shown
pub mod Conditions
pub mod Faults
pub mod Words
pub mod Reading
