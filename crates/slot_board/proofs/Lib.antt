pub mod OtherTurns
mod ColumnSteps
mod RefusedTries
mod CardTurns
mod PostTurns
mod TakeTurns
mod LeastTries
mod NewSeats
mod Settled
pub mod SeatColumns
pub mod DecidedSlots
pub mod AfterCalls
mod Drawings
