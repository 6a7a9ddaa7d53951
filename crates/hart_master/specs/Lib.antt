pub mod Pairing
pub mod Acceptance
pub mod Master
pub mod FrameMaster
pub mod Unique
pub mod FaultNumbers
