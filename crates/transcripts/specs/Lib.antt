pub mod Faults
pub mod Readings
