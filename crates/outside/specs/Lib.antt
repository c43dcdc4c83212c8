pub mod Calls
pub mod Contents
pub mod DiskFiles
pub mod Events
pub mod Faults
pub mod MemoryFiles
pub mod Notes
pub mod WholeFiles
