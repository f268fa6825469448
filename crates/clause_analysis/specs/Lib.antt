pub mod Caused
pub mod Needs
pub mod Analysed
