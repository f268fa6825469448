pub mod Crashes
pub mod Folding
pub mod Log
