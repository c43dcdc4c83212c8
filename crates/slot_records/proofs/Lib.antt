pub mod NextNames
pub mod Ended
pub mod Granted
pub mod Adding
