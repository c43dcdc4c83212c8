pub mod RunLines
pub mod Meeting
pub mod MeetingSteps
pub mod Promises
