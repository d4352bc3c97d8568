pub mod Fault
pub mod Reception
pub mod Run
