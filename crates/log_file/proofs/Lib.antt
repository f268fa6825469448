pub mod Adding
pub mod Beginning
pub mod Causes
pub mod Crashing
pub mod Headed
pub mod Loading
pub mod Reading
pub mod Turning
