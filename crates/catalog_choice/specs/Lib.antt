pub mod Asking
pub mod Picked
pub mod Deciding
pub mod Laws
