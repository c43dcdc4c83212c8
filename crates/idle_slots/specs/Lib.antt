pub mod Quiet
pub mod Idle
pub mod Skipped
