pub mod Keeping
pub mod Granting
pub mod Rounding
