pub mod Lengths
pub mod Counters
pub mod Steps
