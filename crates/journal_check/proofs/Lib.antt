pub mod NumberReads
pub mod Loops
pub mod Firsts
pub mod SlotLoops
pub mod Spelled
pub mod RowsAgain
pub mod FilesAgain
pub mod ReadFiles
pub mod Goods
pub mod LawfulFiles
pub mod Scheduling
pub mod Bounds
pub mod SlotsLawful
pub mod JournalsLawful
pub mod Judged
pub mod SlotFails
pub mod Checked
pub mod Written
pub mod SlotsAdded
pub mod Flags
pub mod NumbersSpelled
mod RowsSpelled
mod OutputsSpelled
pub mod FilesSpelled
mod FirstFailures
mod Exact
