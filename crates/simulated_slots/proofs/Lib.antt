pub mod Tables
pub mod Appends
pub mod TakingIn
pub mod Serving
