pub mod Cutting
pub mod Filling
pub mod Flows
pub mod BufferSteps
pub mod LendingSteps
