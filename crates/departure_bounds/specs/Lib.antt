pub mod Delays
pub mod Bounds
