pub mod Filters
pub mod Listing
pub mod Picking
pub mod Feeding
pub mod Rounding
pub mod Asked
