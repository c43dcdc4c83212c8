pub mod Pieces
pub mod Storing
pub mod Taking
