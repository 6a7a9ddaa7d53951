-- The HART line: a device and two masters, as the code has them.
pub mod Leg
pub mod Turn
pub mod Room
pub mod Reached
