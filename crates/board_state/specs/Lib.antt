pub mod Boards
pub mod FieldSteps
pub mod KeepingSteps
pub mod JournalRows
