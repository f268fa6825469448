pub mod Ascii
pub mod EachOnce
pub mod Found
pub mod Ordered
pub mod Slots
pub mod Sources
pub mod Strategies
pub mod Valid
