pub mod Numbers
pub mod Faults
pub mod SlotSteps
pub mod SimulationSteps
pub mod Laws
