pub mod Marking
pub mod Needed
pub mod Resolving
pub mod Forcing
pub mod Staying
pub mod Results
