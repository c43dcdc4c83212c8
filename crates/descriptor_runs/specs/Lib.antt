pub mod InputSteps
pub mod OutputSteps
pub mod SwitchSteps
pub mod PortSteps
pub mod Outcomes
pub mod FinishingSteps
