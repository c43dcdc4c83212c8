pub mod PointersKept
pub mod Passing
pub mod OneDecision
pub mod Computed
pub mod Scheduling
pub mod StarvingSlots
pub mod Starved
pub mod PassedSlots
