pub mod Fresh
pub mod InstallNames
pub mod Same
pub mod Writing
pub mod Written
