pub mod Noting
pub mod Telling
pub mod Skipping
