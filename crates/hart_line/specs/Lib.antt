pub mod Types
pub mod FaultText
pub mod Filling
pub mod script
pub mod world
pub mod line
