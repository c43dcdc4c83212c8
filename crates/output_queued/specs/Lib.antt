pub mod Ideal
pub mod Switches
pub mod Lines
pub mod NotingSteps
pub mod Following
pub mod QuietSteps
pub mod Steps
pub mod Texts
