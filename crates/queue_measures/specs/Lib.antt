pub mod Sizing
pub mod Lines
pub mod NotingSteps
pub mod Steps
pub mod Sums
