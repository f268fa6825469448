pub mod Deciding
pub mod Resolving
pub mod Enabled
pub mod PlanEdges
pub mod Lawful
pub mod Laws
