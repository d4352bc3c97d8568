pub mod FrameTime
pub mod Options
pub mod Sending
pub mod Schedule
pub mod Steps
pub mod Laws
pub mod Examples
pub mod Fault
