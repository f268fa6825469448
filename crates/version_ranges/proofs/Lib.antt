pub mod Numbers
pub mod Pieces
pub mod Written
pub mod Turns
pub mod Loops
pub mod Joined
pub mod Plain
