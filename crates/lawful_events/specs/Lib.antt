pub mod Asks
pub mod Keeps
pub mod Rules
pub mod Runs
