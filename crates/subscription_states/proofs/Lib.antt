pub mod Firsts
pub mod Absent
pub mod Slots
