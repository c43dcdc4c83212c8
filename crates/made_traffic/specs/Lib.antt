pub mod Streams
pub mod Patterns
pub mod Sources
