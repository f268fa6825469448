pub mod Places
pub mod Images
pub mod Parts
pub mod Moments
pub mod Stages
pub mod Told
pub mod Again
