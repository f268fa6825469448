mod Passing
mod Stepping
