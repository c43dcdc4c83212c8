pub mod Delays
pub mod CountSteps
