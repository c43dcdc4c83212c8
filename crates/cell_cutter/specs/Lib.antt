pub mod Cells
pub mod Kinds
pub mod Messages
