pub mod Running
pub mod Queueing
pub mod Banking
