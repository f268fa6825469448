pub mod Lists
pub mod Sorting
pub mod Marking
pub mod Counting
pub mod Keeping
pub mod Answering
pub mod Facts
pub mod Sharing
