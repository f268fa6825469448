pub mod Answering
pub mod Broken
pub mod Groups
pub mod Lengths
pub mod OneThing
pub mod Others
pub mod Texts
pub mod Written
