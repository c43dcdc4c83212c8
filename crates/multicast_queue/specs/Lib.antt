pub mod FanQueues
pub mod FieldSteps
