pub mod Events
pub mod Slots
pub mod Legal
pub mod Answers
pub mod Tests
pub mod Columns
pub mod Parts
