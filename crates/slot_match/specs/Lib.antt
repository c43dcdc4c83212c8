pub mod Rows
pub mod Matches
pub mod Parts
pub mod Keeping
pub mod FieldSteps
pub mod Steps
