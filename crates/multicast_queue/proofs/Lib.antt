pub mod Rests
pub mod Levels
