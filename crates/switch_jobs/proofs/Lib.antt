mod Drained
mod Records
pub mod Members
mod Planning
pub mod Adding
pub mod Disbanded
pub mod Serving
pub mod Leaving
mod Made
pub mod Finishing
