mod Pigeons
mod Parking
mod Counts
mod Filling
mod Lines
mod Unfilled
mod Loads
mod LoadedTurns
mod Synchronised
pub mod Plans
pub mod PlannedSlots
pub mod NextPlans
pub mod FedRuns
pub mod PlannedRuns
pub mod OneRoundRuns
pub mod Shapes
pub mod Followings
pub mod OneRoundFamily
pub mod Openings
pub mod SecondRounds
pub mod FirmSlots
pub mod MoreShapes
pub mod FirmMoreShapes
pub mod Settled
pub mod FirmTurns
pub mod FirmFamily
pub mod ManySlots
pub mod MoreFollowings
pub mod MoreRoundsFamily
pub mod MoreLevels
pub mod ThreeShapes
pub mod ThreePorts
pub mod MoreOpenings
pub mod FirmMoreFollowings
pub mod FirmLastFollowings
pub mod FirmMoreFamily
pub mod FirmMoreLast
pub mod FirmMoreFew
pub mod Counting
pub mod GrowingTurns
pub mod OneSlot
pub mod Pointers
pub mod Queues
pub mod Runs
pub mod Fed
pub mod Load
pub mod MovedPairs
pub mod Counted
