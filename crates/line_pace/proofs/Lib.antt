pub mod Rates
pub mod Running
