pub mod Bits
pub mod Circle
pub mod First
pub mod Members
pub mod Picking
pub mod Sets
pub mod Tables
