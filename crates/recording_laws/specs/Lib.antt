pub mod Examples
pub mod Laws
pub mod Losses
pub mod Multiplex
pub mod Pace
pub mod PacedCheck
