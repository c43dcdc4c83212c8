pub mod PortSets
pub mod Rotation
