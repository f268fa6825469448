pub mod Disk
pub mod Kept
pub mod MemDisk
