pub mod Distances
pub mod Sums
pub mod Rank
pub mod FirstRound
pub mod LaterRounds
pub mod Granting
pub mod PointersAfter
pub mod InWindows
pub mod Fresh
pub mod RankFalls
pub mod ServedInTime
pub mod Falling
pub mod OneRoundRank
pub mod OneRound
pub mod OneRoundServed
pub mod LineRateClasses
pub mod OneRoundAtLineRate
pub mod OneRoundServedAtLineRate
pub mod RankAtLineRate
pub mod ServedAtLineRate
pub mod HeadsComplete
pub mod PartsOfSchedules
pub mod Waiting
pub mod AllBelow
pub mod LongestWaits
pub mod WaitsByRounds
pub mod Comparing
pub mod TwoPorts
pub mod LineRateByRounds
pub mod Renumbering
pub mod RenumberedSlots
pub mod Postings
pub mod PostedSlots
pub mod PostedRuns
pub mod RenumberedRuns
pub mod Descents
pub mod OneRoundFamily
pub mod MoreRoundsFamily
pub mod TwoPortsFamily
pub mod Openings
pub mod AnyQueue
mod Greatest
mod Levels
mod Noting
mod Skipping
mod PartsServed
mod News
