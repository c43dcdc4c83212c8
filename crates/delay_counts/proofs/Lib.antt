pub mod Numbers
pub mod Ranges
pub mod Counting
pub mod Shares
