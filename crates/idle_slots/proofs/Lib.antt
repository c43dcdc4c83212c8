mod QuietRounds
pub mod QuietSchedulers
mod StillQueues
pub mod IdleRuns
pub mod SkippedSlots
pub mod LaterArrivals
pub mod Gaps
