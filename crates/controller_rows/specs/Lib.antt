pub mod First
pub mod Upgrade
pub mod Forward
pub mod Manual
pub mod Lost
