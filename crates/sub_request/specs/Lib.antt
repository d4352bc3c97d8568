pub mod Fault
pub mod Files
pub mod Flips
