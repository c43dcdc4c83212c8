pub mod Numbers
pub mod Options
pub mod Parts
pub mod Reading
pub mod Limits
pub mod LineSteps
pub mod Texts
