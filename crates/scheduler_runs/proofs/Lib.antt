pub mod Completing
pub mod Promised
