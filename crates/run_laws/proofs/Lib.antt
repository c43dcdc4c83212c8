pub mod SameParts
pub mod Base
pub mod Crossed
pub mod RunSchedule
pub mod FirstDone
pub mod BusySlots
pub mod CardWork
pub mod RunWork
pub mod RunEnds
pub mod Limits
pub mod Rooms
pub mod FlowSums
pub mod FirstParts
pub mod PacketCells
pub mod FlowCells
pub mod OfFlows
pub mod Delivered
pub mod Fitting
pub mod Emptied
pub mod Arrivals
pub mod WaitingPackets
pub mod LineRate
pub mod RunWindows
pub mod RunCompletes
pub mod InTime
pub mod Driven
pub mod Finished
pub mod Given
pub mod Counted
pub mod Departing
mod FlowEnds
mod Leaving
mod InOrder
mod LastCells
mod Earlier
mod Earliest
pub mod Copies
