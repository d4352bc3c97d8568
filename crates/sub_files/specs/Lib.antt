pub mod DistinctFiles
pub mod SizeCheckedFiles
pub mod FileCalls
pub mod MemoryFiles
pub mod Opening
