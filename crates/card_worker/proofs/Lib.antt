mod Accepting
mod Giving
mod Steps
mod Members
pub mod Passes
mod Columns
mod Turns
mod ClosedColumns
pub mod Removing
pub mod Grouping
