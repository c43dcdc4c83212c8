pub mod Captures
pub mod JournalSteps
pub mod ReadinessSteps
pub mod SharingSteps
pub mod EndingSteps
pub mod OneJournal
