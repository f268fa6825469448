pub mod Appending
pub mod Histories
pub mod Missing
pub mod Showing
pub mod Taking
pub mod Undoing
