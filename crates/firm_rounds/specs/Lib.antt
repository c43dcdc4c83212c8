pub mod Slots
pub mod SlotSteps
pub mod Decisions
pub mod Latest
