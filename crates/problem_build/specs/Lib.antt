pub mod Entries
pub mod Numbers
pub mod Asking
pub mod Reaching
pub mod Variables
pub mod Building
pub mod Shown
pub mod Laws
