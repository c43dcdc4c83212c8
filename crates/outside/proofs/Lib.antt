pub mod Alike
pub mod Counting
pub mod Differing
pub mod Effects
pub mod Finding
pub mod Fronts
pub mod Given
pub mod Putting
pub mod Seeing
pub mod Staying
pub mod Storing
mod Walks
