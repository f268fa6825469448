pub mod Leading
pub mod Members
pub mod Keys
pub mod Taking
pub mod Apart
