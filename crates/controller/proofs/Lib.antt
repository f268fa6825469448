pub mod Nexting
pub mod Judging
pub mod Trying
pub mod Turning
pub mod Going
