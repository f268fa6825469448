pub mod Members
pub mod Disjoint
