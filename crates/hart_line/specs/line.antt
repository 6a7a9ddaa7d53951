-- The HART line: a device and two masters, as the code represents them.
pub mod Masters
pub mod Leg
pub mod Line
pub mod Room
