pub mod Jobs
pub mod Slots
pub mod TableSteps
pub mod ArbiterSteps
pub mod ArrivalSteps
pub mod DepartureSteps
