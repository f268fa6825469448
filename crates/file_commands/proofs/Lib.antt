pub mod Catalogs
pub mod Found
pub mod Ran
pub mod Unopened
