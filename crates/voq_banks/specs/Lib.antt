pub mod CellQueues
pub mod CodeSteps
pub mod RunSteps
pub mod RingSteps
pub mod Queues
pub mod FieldSteps
