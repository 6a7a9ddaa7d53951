-- Lemmas, in the same modules as the code and the definitions.
pub mod Called
pub mod Kept
pub mod Writes
pub mod dump
pub mod explain
pub mod input
pub mod session
