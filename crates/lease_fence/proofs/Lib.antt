pub mod Ascii
pub mod Granting
pub mod Showing
pub mod Standing
