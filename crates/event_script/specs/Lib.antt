pub mod Numbers
pub mod Events
pub mod Ranges
pub mod Running
pub mod Script
pub mod Order
