pub mod Offers
pub mod Slots
