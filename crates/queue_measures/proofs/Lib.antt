mod Rooms
mod SameCards
mod Deepest
mod Depths
mod SamePosts
mod SameRuns
pub mod GreatestDepth
mod Sized
pub mod SoFar
pub mod Counting
pub mod Slots
pub mod Gaps
pub mod Report
pub mod Sums
