pub mod SamePointers
pub mod MaximalSlots
pub mod RoundsKept
pub mod Meanwhile
