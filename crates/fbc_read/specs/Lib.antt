pub mod Constraints
pub mod Properties
pub mod Blobs
pub mod Catalogs
pub mod Lengths
pub mod Bodies
