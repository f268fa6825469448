pub mod Answers
pub mod Laws
pub mod Manifests
pub mod Plans
pub mod Steps
pub mod Subscribing
