pub mod HistoryLemmas
pub mod SeatLemmas
mod Seen
mod Changed
mod Taking
mod Counting
mod Freeing
mod OneTurn
mod Splitting
mod Ends
mod JoinedNumbers
mod Joining
mod Collecting
