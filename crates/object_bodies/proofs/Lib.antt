pub mod Ascii
pub mod Reading
pub mod Made
pub mod Whole
pub mod Once
