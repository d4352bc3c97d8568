pub mod Comparison
pub mod StoredPage
pub mod Listener
pub mod CellOrder
pub mod RepeatedPackets
pub mod UnexpectedCodes
