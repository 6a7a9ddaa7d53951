pub mod Reason
pub mod FaultText
pub mod Values
pub mod Fields
