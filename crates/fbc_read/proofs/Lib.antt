pub mod Depths
pub mod Nesting
pub mod Forms
pub mod Joining
pub mod Along
pub mod Listing
pub mod OneListing
