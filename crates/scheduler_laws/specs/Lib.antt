pub mod Counts
pub mod FedSlots
pub mod FullLoad
pub mod Growth
pub mod Reached
pub mod ReachedByFirm
