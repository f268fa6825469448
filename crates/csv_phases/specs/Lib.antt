pub mod Csvs
pub mod Conditions
pub mod Edges
pub mod States
pub mod Phases
pub mod Laws
