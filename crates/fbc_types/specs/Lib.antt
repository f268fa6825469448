pub mod Texts
pub mod Channels
pub mod Rules
pub mod Laws
