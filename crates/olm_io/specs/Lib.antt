pub mod InMemory
pub mod Outside
pub mod ReadAll
