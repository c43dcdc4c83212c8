pub mod Places
pub mod Lengths
pub mod Entering
pub mod Leaving
pub mod Gaps
