pub mod Adds
pub mod Crashes
pub mod Starts
pub mod Store
