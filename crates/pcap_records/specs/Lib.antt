pub mod Packets
pub mod Format
pub mod Captures
pub mod Faults
pub mod Records
pub mod Output
pub mod Texts
