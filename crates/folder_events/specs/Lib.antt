pub mod Answers
pub mod Catalogs
pub mod Events
pub mod Laws
