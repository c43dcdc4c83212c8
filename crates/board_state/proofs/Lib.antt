pub mod Decoding
pub mod Placing
pub mod Booking
pub mod Deciding
pub mod Keeping
pub mod Starting
pub mod Reading
pub mod Journaling
