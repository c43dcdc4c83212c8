pub mod Told
pub mod NotingSteps
pub mod UnwantedSteps
