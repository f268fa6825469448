mod Sole
mod Steps
mod Twice
mod Whole
