pub mod Rings
pub mod Changes
pub mod Counts
pub mod Asking
pub mod Keeping
