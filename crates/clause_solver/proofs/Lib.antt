pub mod Below
pub mod Storing
pub mod Propagating
pub mod Logs
pub mod Modelling
pub mod Turning
pub mod Assuming
