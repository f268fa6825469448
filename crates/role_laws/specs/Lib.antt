pub mod Claims
pub mod Csvs
pub mod Laws
pub mod Moments
pub mod Plans
pub mod Resolutions
pub mod Subscriptions
