pub mod Picks
pub mod Rounds
pub mod PickSteps
