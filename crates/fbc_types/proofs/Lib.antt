pub mod Lists
pub mod Nested
mod Valid
