pub mod Queues
pub mod FieldSteps
