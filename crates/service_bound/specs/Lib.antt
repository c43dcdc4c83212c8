pub mod Windows
pub mod Waits
pub mod MeterSteps
pub mod Latest
