pub mod Copies
pub mod Again
pub mod Pairs
pub mod Longest
pub mod Levels
pub mod ManySlots
