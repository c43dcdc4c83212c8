pub mod ExchangeSteps
pub mod Numbers
pub mod Choices
pub mod Columns
pub mod Rounds
pub mod Slots
