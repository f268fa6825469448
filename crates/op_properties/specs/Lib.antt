pub mod Offers
pub mod Asked
pub mod Passing
pub mod Laws
