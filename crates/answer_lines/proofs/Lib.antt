mod Bounds
mod Again
