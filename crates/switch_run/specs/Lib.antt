pub mod Switched
pub mod Endings
pub mod Causes
pub mod MakingSteps
