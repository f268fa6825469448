pub mod Bodies
pub mod Visible
pub mod Forward
pub mod Tips
pub mod Basis
pub mod Sources
pub mod Laws
