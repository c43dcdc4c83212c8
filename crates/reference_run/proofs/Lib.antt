pub mod Alike
pub mod Matches
pub mod Ended
pub mod Told
pub mod ToldInputs
mod Delayed
mod Gaps
