pub mod RowSteps
pub mod RoundSteps
