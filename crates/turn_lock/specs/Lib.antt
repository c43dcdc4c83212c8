pub mod Histories
pub mod Openings
pub mod Seats
pub mod Views
pub mod Rule
