pub mod Beginnings
pub mod Keeping
pub mod Going
pub mod Moving
pub mod Planning
pub mod Putting
