pub mod ErrorLines
pub mod Endings
pub mod Simulated
pub mod LineSteps
pub mod FaultSteps
