pub mod Numbers
pub mod Words
pub mod Parts
pub mod Reading
pub mod WordSteps
pub mod PartsSteps
